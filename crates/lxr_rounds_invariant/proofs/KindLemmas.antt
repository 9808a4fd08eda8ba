-- Which kind a pause of a run has: it collects exactly where it is asked to, and else traces begin and end as the plan asks.
use Rattle.std.proofs.Common.{◌≡◌, ℕ, ◌+◌, ◌%◌, ◌<◌, ◌⊎◌, ◌↔◌, refl, sym, ap, subst, ◌∙◌, inl, inr, arith, Bool, true, false, ◌&&◌, ◌||◌, List, [], ◌∷◌, nat_eq}
use Rattle.std.specs.Prelude.{Option, Some, None, nat_le, not, if◌then◌else◌}
use Rattle.std.proofs.lemmas.Bool.{eq-eqb, eqb-true}
use Rattle.std.proofs.lemmas.Bool.Decides.{nat_tests}
use Rattle.lxr_graph.specs.declared.Op.TheVariants as op
use Rattle.lxr_graph.specs.declared.report.Kind.TheVariants as kind
use Rattle.lxr_graph.specs.History.{Item, Call, Pause, Renew}
use Rattle.lxr_model.specs.Belongs.{asks_for_pause, has_asked}
use Rattle.lxr_model.specs.Kinds.{IsRunning, MayStand, MustCollect, NeedsNoTrace, OnlyNewsSincePause, collect_called, ends}
use Rattle.lxr_model.specs.Moments.{Moment, Trace}
use Rattle.lxr_model.specs.Terms.{Terms}
use Rattle.lxr_one_pause.specs.declared.Ask.{Ask}
use Rattle.lxr_one_pause.specs.declared.Ask.TheVariants as ask
use Rattle.lxr_one_pause.specs.declared.Pace.{Pace}
use Rattle.lxr_one_pause.specs.Deciding.{kind_of}
use Rattle.lxr_rounds_invariant.specs.LoopInvariant.{asked_by}

-- ---- where `collect` was called

-- what is behind a test that fails
behind : (a b : Bool) → (a || b) ≡ false → b ≡ false
behind true b e = absurd (cc)
behind false b e = e

-- where nobody has asked for a pause, nobody has called `collect`
pub unasked_uncalled : (h : List Item) → ((t : ℕ) → has_asked t h ≡ false) → collect_called h ≡ false
unasked_uncalled [] unasked = refl
unasked_uncalled (Renew ns ∷ h) unasked = refl
unasked_uncalled (Pause report ∷ h) unasked = refl
unasked_uncalled (Call t op.Collect r ∷ h) unasked =
    let own : nat_eq t t ≡ true = eq-eqb t t refl in
    let asked : ((nat_eq t t && true) || has_asked t h) ≡ true = ap (λ b. (b && true) || has_asked t h) own in
    absurd (let both : true ≡ false = sym asked ∙ unasked t in cc)
unasked_uncalled (Call t o r ∷ h) unasked = unasked_uncalled h (λ u. behind (nat_eq u t && asks_for_pause o) (has_asked u h) (unasked u))

-- ---- where a pause must collect

-- a pause that is asked to collect where all have ended or `collect` was called is asked to where it must
pub asked_right : (terms : Terms) (h : List Item) (ended collected : Bool) → (ended ≡ true → ends h ≡ terms.threads) → (ended ≡ false → ends h < terms.threads) → collect_called h ≡ collected
    → (begins : Bool) → (asked_by (ended || collected) begins ≡ ask.Collect) ↔ MustCollect terms h
asked_right terms h true collected all more is begins = (λ e. inr (all refl), λ must. refl)
asked_right terms h false true all more is begins = (λ e. inl is, λ must. refl)
asked_right terms h false false all more is begins = (λ e. absurd (uncollecting begins e), λ must. absurd (none must))
  where
    uncollecting : (begins : Bool) → asked_by false begins ≡ ask.Collect → ⊥
    uncollecting true e = cc
    uncollecting false e = cc

    none : MustCollect terms h → ⊥
    none (inl called) = let both : true ≡ false = sym called ∙ is in cc
    none (inr ended) = let few = more refl in absurd (omega arith)

-- none must where nobody has called `collect` and not all have ended
pub must_not : (terms : Terms) (h : List Item) → collect_called h ≡ false → ends h < terms.threads → ¬ MustCollect terms h
must_not terms h uncalled more must = let e = (asked_right terms h false false (λ e. absurd (cc)) (λ e. more) uncalled false).1 must in cc

-- ---- the kind

-- one along a trace doesn't collect
never_along : (began : ℕ) (b : Bool) → (if b then kind.End began else kind.Plain) ≡ kind.Collect → ⊥
never_along began true e = cc
never_along began false e = cc

-- a pause collects exactly where it is asked to
pub kind_collects : (asked : Ask) (pace : Pace) (k : ℕ) (o : Option Trace) (traced : Bool) → (kind_of asked pace k o traced ≡ kind.Collect) ↔ (asked ≡ ask.Collect)
kind_collects ask.Collect pace k o traced = (λ e. refl, λ e. refl)
kind_collects ask.Trace pace k None traced = (λ e. absurd (cc), λ e. cc)
kind_collects ask.Trace pace k (Some t) traced = (λ e. absurd (never_along t.began (traced || nat_le (t.began + pace.within) k) e), λ e. cc)
kind_collects ask.Ordinary pace k None traced = (λ e. absurd (apart (not (nat_eq pace.trace 0) && nat_eq (k % pace.trace) 0) e), λ e. cc)
  where
    apart : (b : Bool) → (if b then kind.Begin else kind.Plain) ≡ kind.Collect → ⊥
    apart true e = cc
    apart false e = cc
kind_collects ask.Ordinary pace k (Some t) traced = (λ e. absurd (never_along t.began (traced || nat_le (t.began + pace.within) k) e), λ e. cc)

module _ (terms : Terms) (h : List Item) (m : Moment) (k : ℕ) (pace : Pace) (traced : Bool) (trace : pace.trace ≡ terms.trace) (within : pace.within ≡ terms.within) where
  module _ (must_not : ¬ MustCollect terms h) where
    -- where no trace runs, and whether one begins goes by the number of the pause
    apart : m.trace ≡ None → (free due : Bool) → nat_eq pace.trace 0 ≡ free → nat_eq (k % pace.trace) 0 ≡ due → MayStand terms h m k (if not free && due then kind.Begin else kind.Plain)
    apart none true due is e = (must_not, subst (NeedsNoTrace terms k) (sym none) (inl (sym trace ∙ eqb-true pace.trace 0 is)))
    apart none false true is e = (must_not, none, inr (ap (λ n. k % n) (sym trace) ∙ eqb-true (k % pace.trace) 0 e))
    apart none false false is e = (
      must_not,
      subst (NeedsNoTrace terms k) (sym none)
          (inr (λ multiple. let same : k % pace.trace ≡ 0 = ap (λ n. k % n) trace ∙ multiple in let is : nat_eq (k % pace.trace) 0 ≡ true = eq-eqb (k % pace.trace) 0 same in absurd (let both : true ≡ false = sym is ∙ e in cc))),
    )

    -- where one runs
    along : (t : Trace) → m.trace ≡ Some t → (b : Bool) → (traced || nat_le (t.began + pace.within) k) ≡ b → MayStand terms h m k (if b then kind.End t.began else kind.Plain)
    along t runs true e = (must_not, subst (IsRunning t.began) (sym runs) refl)
    along t runs false e = (
      must_not,
      subst (NeedsNoTrace terms k) (sym runs) (let late : nat_le (t.began + pace.within) k ≡ false = behind traced (nat_le (t.began + pace.within) k) e in let early : k < t.began + pace.within = grind (arith, nat_tests) in omega arith),
    )

    ordinary : (o : Option Trace) → m.trace ≡ o → MayStand terms h m k (kind_of ask.Ordinary pace k o traced)
    ordinary None none = apart none (nat_eq pace.trace 0) (nat_eq (k % pace.trace) 0) refl refl
    ordinary (Some t) runs = along t runs (traced || nat_le (t.began + pace.within) k) refl

    -- where one is asked for, which is free
    traces : terms.trace ≡ 0 → (o : Option Trace) → m.trace ≡ o → MayStand terms h m k (kind_of ask.Trace pace k o traced)
    traces free None none = (must_not, none, inl free)
    traces free (Some t) runs = along t runs (traced || nat_le (t.began + pace.within) k) refl

  -- a pause of the kind that the rules decide may stand, if it is asked to collect exactly where it must, or for a `new` that waits, and to begin
  -- a trace only where the terms leave that free
  pub kind_may_stand : (asked : Ask) → (((asked ≡ ask.Collect) ↔ MustCollect terms h) × (asked ≡ ask.Trace → terms.trace ≡ 0)) ⊎ ((asked ≡ ask.Collect) × OnlyNewsSincePause h) → MayStand terms h m k (kind_of asked pace k m.trace traced)
  kind_may_stand ask.Collect (inl right) = inl (right.0.0 refl)
  kind_may_stand ask.Collect (inr waits) = inr waits.1
  kind_may_stand ask.Trace (inl right) = traces (λ must. let e = right.0.1 must in cc) (right.1 refl) m.trace refl
  kind_may_stand ask.Trace (inr waits) = absurd (let e = waits.0 in cc)
  kind_may_stand ask.Ordinary (inl right) = ordinary (λ must. let e = right.0.1 must in cc) m.trace refl
  kind_may_stand ask.Ordinary (inr waits) = absurd (let e = waits.0 in cc)

-- Whether anything was left to trace at a safepoint can be decided, so a pause has a kind; and where a trace runs, the bits that are gray
-- once counting is done tell it.
use Rattle.std.proofs.Common.{◌≡◌, ◌≢◌, ℕ, zero, suc, ◌+◌, refl, sym, ap, subst, ◌∙◌, inl, inr, ◌⊎◌, arith, Bool, true, false, List, [], ◌∷◌, IsTrue}
use Rattle.std.specs.Prelude.{◌↔◌, ◌||◌, ◌&&◌, not, Option, Some, None, slice_get, nat_eq, nat_le, cond, ◌%◌}
use Rattle.std.specs.Option.{option_map}
use Rattle.std.proofs.lemmas.Bool.Decides.{eqb_tells}
use Rattle.lxr_layout.specs.declared.Name.{Name}
use Rattle.lxr_layout.specs.declared.LogEntry.{LogEntry}
use Rattle.lxr_graph.specs.declared.report.Kind.{Kind}
use Rattle.lxr_graph.specs.declared.report.Kind.TheVariants as kind
use Rattle.lxr_graph.specs.Names.{has, without}
use Rattle.lxr_image.specs.declared.space.Space.{Space}
use Rattle.lxr_image.specs.Tables.{Tables}
use Rattle.lxr_image.specs.Spaces.{tables_of}
use Rattle.lxr_image.specs.Reads.{granule_of}
use Rattle.lxr_model.specs.Moments.{Moment, Trace}
use Rattle.lxr_model.specs.Reachable.{Refers}
use Rattle.lxr_model.proofs.DecideLemmas.{find_referrer}
use Rattle.lxr_model_counting.proofs.DistinctLemmas.{first_has, has_split, later_has, tested}
use Rattle.lxr_graph.proofs.NameSets.{not_both}
use Rattle.lxr_invariant.specs.AbstractState.{AbstractState}
use Rattle.lxr_invariant.specs.Quiescent.{HoldsMoment}
use Rattle.lxr_invariant.specs.Tracing.{IsGray, IsMarked, IsOldValue}
use Rattle.lxr_invariant.proofs.NameLemmas.{in_first, no_member}
use Rattle.lxr_pause_trace_laws.specs.Laws.{NothingIsLeft}
use Rattle.lxr_one_pause.specs.declared.Ask.{Ask}
use Rattle.lxr_one_pause.specs.declared.Ask.TheVariants as ask
use Rattle.lxr_one_pause.specs.declared.Pace.{Pace}
use Rattle.lxr_one_pause.specs.Deciding.{GraysLieInHeap, HasKind, TellsOfMarks, kind_of}
use Rattle.lxr_one_pause.specs.Pausing.{CanPause}
use Rattle.lxr_one_pause.specs.Settling.{SettlesCounts, TellsTheEnd}
use Rattle.lxr_image_search.specs.declared.Wanted.TheVariants.{ToScan}
use Rattle.lxr_image_search.specs.Search.{AvoidsFree}
use Rattle.lxr_image_search.proofs.SearchLemmas.{avoids_by_starts}
use Rattle.lxr_invariant.proofs.UnusedLemmas.{starts_used}

-- ---- what can be decided

Decided : Type 0 → Type 0
Decided P = P ⊎ (P → ⊥)

decide_old : (entries : List LogEntry) (p : ℕ) → IsOldValue entries p ⊎ (IsOldValue entries p → ⊥)
decide_old [] p = inr (λ old. none old.0 old.1 old.2)
  where
    none : (k : ℕ) (e : LogEntry) → slice_get [] k ≡ Some e → ⊥
    none k e is = cc
decide_old (e ∷ es) p = elim (eqb_tells e.old.0 p) [
  | inl here ↦ inl (0, e, refl, here.1)
  | inr other ↦ elim (decide_old es p) [
    | inl old ↦ inl (suc old.0, old.1, old.2, old.3)
    | inr never ↦ inr (λ old. neither e es p other.1 never old.0 old.1 old.2 old.3)
  ]
]
  where
    neither : (e : LogEntry) (es : List LogEntry) (p : ℕ) → e.old.0 ≢ p → (IsOldValue es p → ⊥) → (k : ℕ) (f : LogEntry) → slice_get (e ∷ es) k ≡ Some f → f.old.0 ≡ p → ⊥
    neither e es p other never zero f is at = let same : e ≡ f = cc in other (ap (λ (x : LogEntry). x.old.0) same ∙ at)
    neither e es p other never (suc k) f is at = never (k, f, is, at)

-- something of each name of a list
decide_each : (P : Name → Type 0) → ((n : Name) → P n ⊎ (P n → ⊥)) → (ns : List Name) → ((n : Name) → IsTrue (has ns n) → P n) ⊎ (((n : Name) → IsTrue (has ns n) → P n) → ⊥)
decide_each P decide [] = inl (λ n h. no_member n h)
decide_each P decide (n ∷ ns) = elim (decide n) [
  | inr never ↦ inr (λ each. never (each n (first_has n ns)))
  | inl here ↦ elim (decide_each P decide ns) [
    | inr never ↦ inr (λ each. never (λ q h. each q (later_has n ns q h)))
    | inl rest ↦ inl (λ q h. elim (has_split n ns q h) [ inl same ↦ subst P (sym same) here | inr behind ↦ rest q behind ])
  ]
]

module _ (t : Tables) (m : Moment) (at : Name → ℕ) (entries : List LogEntry) (gone : List Name) where
  abbrev IsLeft : Name → Type 0
  IsLeft n = IsGray t at n ⊎ ((u : Name) × IsTrue (has gone u) × Refers m.last.graph u n) ⊎ IsOldValue entries (at n)

  -- a name is marked, or nothing asks for it
  decide_name : (n : Name) → (IsLeft n → IsMarked t at n) ⊎ ((IsLeft n → IsMarked t at n) → ⊥)
  decide_name n = elim (tested (t.marks (granule_of (at n)))) [
    | inl marked ↦ inl (λ why. marked)
    | inr unmarked ↦ elim (tested (t.grays (granule_of (at n)))) [
      | inl gray ↦ inr (λ f. not_both (t.marks (granule_of (at n))) (f (inl gray)) unmarked)
      | inr white ↦ elim (find_referrer m.last.graph n gone) [
        | inl r ↦ inr (λ f. not_both (t.marks (granule_of (at n))) (f (inr (inl r))) unmarked)
        | inr unreferred ↦ elim (decide_old entries (at n)) [
          | inl old ↦ inr (λ f. not_both (t.marks (granule_of (at n))) (f (inr (inr old))) unmarked)
          | inr never ↦ inl (λ why. elim why [
            | inl gray ↦ not_both (t.grays (granule_of (at n))) gray white
            | inr q ↦ elim q [ inl r ↦ absurd (unreferred r.0 r.1 r.2) | inr old ↦ absurd (never old) ]
          ])
        ]
      ]
    ]
  ]

  decide_left : NothingIsLeft t m at entries gone ⊎ (NothingIsLeft t m at entries gone → ⊥)
  decide_left = decide_each (λ n. IsLeft n → IsMarked t at n) decide_name (without m.unreclaimed gone)

  -- a test that tells it
  pub some_test : (b : Bool) × (IsTrue b ↔ NothingIsLeft t m at entries gone)
  some_test = elim decide_left [
    | inl none ↦ (true, ((λ h. none), (λ h. refl)))
    | inr never ↦ (false, ((λ h. cc), (λ none. absurd (never none))))
  ]

-- ---- the kind of a pause

-- gray bits stand at objects, and these in the heap
pub grays_in_heap : (s : Space) (m : Moment) (at : Name → ℕ) → HoldsMoment s m at → GraysLieInHeap s
grays_in_heap s m at h k gray =
    let r = h.bits.starts.only k (h.bits.grays k gray) in
    let there = h.image.image.stands r.0 (in_first m.unreclaimed m.made r.0 r.1) in
    let fits = there.2.whole.in_heap in
    let here = r.2 in
    omega (arith, fits, here)

-- and outside blocks that are Free
pub grays_used : (s : Space) (m : Moment) (at : Name → ℕ) → HoldsMoment s m at → AvoidsFree (tables_of s) ToScan
grays_used s m at h = avoids_by_starts (tables_of s) ToScan (starts_used s m at h) h.bits.grays h.bits.dones

-- a trace ends where one runs
pub ends_running : (asked : Ask) (pace : Pace) (k : ℕ) (trace : Option Trace) (traced : Bool) (j : ℕ) → kind_of asked pace k trace traced ≡ kind.End j → (t : Trace) × (trace ≡ Some t)
ends_running ask.Collect pace k trace traced j e = absurd (cc)
ends_running ask.Trace pace k None traced j e = absurd (cc)
ends_running ask.Trace pace k (Some t) traced j e = (t, refl)
ends_running ask.Ordinary pace k None traced j e = absurd (never (not (nat_eq pace.trace 0) && nat_eq (k % pace.trace) 0) j e)
  where
    never : (b : Bool) (j : ℕ) → cond b kind.Begin kind.Plain ≡ kind.End j → ⊥
    never true j e = cc
    never false j e = cc
ends_running ask.Ordinary pace k (Some t) traced j e = (t, refl)

-- along one none begins
none_along : (b : Bool) (j : ℕ) → cond b (kind.End j) kind.Plain ≡ kind.Begin → ⊥
none_along true j e = cc
none_along false j e = cc

-- and one begins where none runs
pub begins_apart : (asked : Ask) (pace : Pace) (k : ℕ) (trace : Option Trace) (traced : Bool) → kind_of asked pace k trace traced ≡ kind.Begin → trace ≡ None
begins_apart ask.Collect pace k trace traced e = absurd (cc)
begins_apart ask.Trace pace k None traced e = refl
begins_apart ask.Trace pace k (Some t) traced e = absurd (none_along (traced || nat_le (t.began + pace.within) k) t.began e)
begins_apart ask.Ordinary pace k None traced e = refl
begins_apart ask.Ordinary pace k (Some t) traced e = absurd (none_along (traced || nat_le (t.began + pace.within) k) t.began e)

module _ (s k : Space) (g : AbstractState) (asked : Ask) (pace : Pace) (can : CanPause s g) (at' : Name → ℕ) (gone : List Name) (settles : SettlesCounts s k g at' gone) where
  test : (b : Bool) × (IsTrue b ↔ NothingIsLeft (tables_of s) g.moment g.at s.logged.items gone)
  test = some_test (tables_of s) g.moment g.at s.logged.items gone

  tells : (trace : Option Trace) → TellsTheEnd s k g gone trace → TellsOfMarks (tables_of k) trace test.0
  tells None is = tt
  tells (Some trace) is = ((λ h. is.1 (test.1.0 h)), (λ all. test.1.1 (is.0 all)))

  module _ (is : Kind) (decides : (trace : Option Trace) (traced : Bool) → k.trace ≡ option_map (λ (trace : Trace). trace.began) trace → TellsOfMarks (tables_of k) trace traced
      → is ≡ kind_of asked pace k.report.number trace traced) where
    decided : is ≡ kind_of asked pace (g.moment.number + 1) g.moment.trace test.0
    decided =
        decides g.moment.trace test.0 (ap (λ (x : Space). x.trace) settles.space ∙ can.safepoint.numbers.trace) (tells g.moment.trace settles.tells_the_end)
        ∙ ap (λ n. kind_of asked pace n g.moment.trace test.0) settles.tells.number

    pub has_kind : HasKind (tables_of s) g.moment g.at s.logged.items asked pace is
    has_kind = record { traced = test.0; first_dead = gone; dead = settles.tells.are_dead; told = test.1; kind = decided }

    pub ends_where_running : (j : ℕ) → is ≡ kind.End j → (t : Trace) × (g.moment.trace ≡ Some t)
    ends_where_running j e = ends_running asked pace (g.moment.number + 1) g.moment.trace test.0 j (sym decided ∙ e)

    pub begins_where_none : is ≡ kind.Begin → g.moment.trace ≡ None
    begins_where_none e = begins_apart asked pace (g.moment.number + 1) g.moment.trace test.0 (sym decided ∙ e)

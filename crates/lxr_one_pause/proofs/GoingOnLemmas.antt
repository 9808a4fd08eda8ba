-- A trace goes on through the decrements and increments of a pause: what is promoted is marked where it stands now; what the reclaimed referred
-- to and old values are gray, and nothing promoted is; and where none runs, a reclaimed object loses its bits.
use Rattle.std.proofs.Common.{◌≡◌, ◌≢◌, ℕ, ◌≤◌, refl, sym, ap, subst, ◌∙◌, inl, inr, ◌⊎◌, arith, Bool, List, IsTrue}
use Rattle.std.specs.Prelude.{◌↔◌, Option, Some, None}
use Rattle.std.proofs.lemmas.Bool.{false_from_ne_true}
use Rattle.lxr_layout.specs.declared.Name.{Name}
use Rattle.lxr_graph.specs.declared.report.Kind.TheVariants as kind
use Rattle.lxr_graph.specs.Names.{has, without}
use Rattle.lxr_graph.specs.History.{PauseReport}
use Rattle.lxr_graph.proofs.NameSets.{not_both, union_cases, union_left, union_right, without_parts}
use Rattle.lxr_image.specs.declared.space.Space.{Space}
use Rattle.lxr_image.specs.Tables.{Tables}
use Rattle.lxr_image.specs.Spaces.{tables_of}
use Rattle.lxr_image.specs.Reads.{granule_of}
use Rattle.lxr_model.specs.Moments.{Moment, Trace}
use Rattle.lxr_model.specs.Reachable.{Reachable, Refers}
use Rattle.lxr_model.proofs.ReachableLemmas.{dead_parts, promoted_made}
use Rattle.lxr_invariant.specs.AbstractState.{AbstractState, leaving, members}
use Rattle.lxr_invariant.specs.Quiescent.{HoldsMoment}
use Rattle.lxr_invariant.specs.Raised.{with_promoted}
use Rattle.lxr_invariant.specs.Tracing.{IsGray, IsMarked, IsOldValue}
use Rattle.lxr_invariant.proofs.NameLemmas.{in_first, in_second}
use Rattle.lxr_pause_decrements.specs.Finishing.{Finishes, FinishesGrays, GraysReferents}
use Rattle.lxr_pause_decrements.specs.Wipe.{LosesBits}
use Rattle.lxr_pause_increments.specs.Raising.{Raises, RaisesGrays, RaisesMarks}
use Rattle.lxr_pause_trace_laws.proofs.GranuleLemmas.{is_placed, one_name}
use Rattle.lxr_pause_trace_laws.proofs.OldLemmas.{old_live}
use Rattle.lxr_one_pause.specs.Pausing.{Traces}

module _ (before found raised after : Space) (g : AbstractState) (at' : Name → ℕ) (gone : List Name) (holds : HoldsMoment before g.moment g.at) (finishes : Finishes before found g.moment g.at gone)
    (raises : Raises found raised (leaving g.moment (without g.moment.unreclaimed gone)) g.at at') (logged : found.logged.items ≡ before.logged.items)
    (same_marks : (tables_of after).marks ≡ (tables_of raised).marks) (same_grays : (tables_of after).grays ≡ (tables_of raised).grays) where
  abbrev m : Moment
  m = g.moment

  abbrev at : Name → ℕ
  at = g.at

  abbrev left : List Name
  left = without m.unreclaimed gone

  abbrev promoted : List Name
  promoted = raised.report.promoted.items

  abbrev t : Tables
  t = tables_of before

  abbrev u : Tables
  u = tables_of found

  abbrev v : Tables
  v = tables_of after

  -- ---- objects stand apart

  one : (n o : Name) → IsTrue (has (members m) n) → IsTrue (has (members m) o) → granule_of (at n) ≡ granule_of (at o) → n ≡ o
  one = one_name t before.limits.blocks at m.state.graph (members m) holds.image.image

  was_there : (n : Name) → IsTrue (has left n) → IsTrue (has m.unreclaimed n)
  was_there n k = (without_parts m.unreclaimed gone n k).0

  gone_was : (n : Name) → IsTrue (has gone n) → IsTrue (has m.unreclaimed n)
  gone_was n d = (dead_parts ((finishes.dead n).0 d)).member

  new_made : (n : Name) → IsTrue (has promoted n) → IsTrue (has m.made n)
  new_made n p = promoted_made ((raises.raised.raised.promoted_are n).0 p)

  there : (n : Name) → IsTrue (has (with_promoted (leaving m left) promoted) n) → IsTrue (has (members m) n)
  there n k = elim (union_cases promoted left n k) [ inl p ↦ in_second m.unreclaimed m.made n (new_made n p) | inr h ↦ in_first m.unreclaimed m.made n (was_there n h) ]

  new_apart : (n : Name) → IsTrue (has promoted n) → (o : Name) → IsTrue (has m.unreclaimed o) → granule_of (at o) ≢ granule_of (at n)
  new_apart n p o h e =
      let same = one o n (in_first m.unreclaimed m.made o h) (in_second m.unreclaimed m.made n (new_made n p)) e in
      not_both (has m.unreclaimed n) (subst (λ x. IsTrue (has m.unreclaimed x)) same h) (holds.follows.apart n (new_made n p))

  gone_apart : (n : Name) → IsTrue (has (with_promoted (leaving m left) promoted) n) → (o : Name) → IsTrue (has gone o) → granule_of (at o) ≢ granule_of (at n)
  gone_apart n k o d e = elim (union_cases promoted left n k) [
    | inl p ↦ new_apart n p o (gone_was o d) e
    | inr h ↦
        let same = one o n (in_first m.unreclaimed m.made o (gone_was o d)) (in_first m.unreclaimed m.made n (was_there n h)) e in
        not_both (has gone n) (subst (λ x. IsTrue (has gone x)) same d) (without_parts m.unreclaimed gone n h).1
  ]

  placed : (n : Name) → IsTrue (has (members m) n) → 1 ≤ at n
  placed = is_placed t before.limits.blocks at m.state.graph (members m) holds.image.image

  same_place : (n : Name) (p : ℕ) → IsTrue (has (members m) n) → p ≢ 0 → granule_of (at n) ≡ granule_of p → p ≡ at n
  same_place n p k some e = let low = placed n k in omega (arith, low, some, e)

  -- ---- where objects stand then

  -- what isn't new stands where it did
  unmoved : (n : Name) → IsTrue (has m.unreclaimed n) → at' n ≡ at n
  unmoved n h = raises.copies.others n (false_from_ne_true (has promoted n) (λ p. not_both (has m.unreclaimed n) h (holds.follows.apart n (new_made n p))))

  same_granule : (n : Name) → IsTrue (has m.unreclaimed n) → granule_of (at' n) ≡ granule_of (at n)
  same_granule n h = ap granule_of (unmoved n h)

  one_then : (n o : Name) → IsTrue (has (with_promoted (leaving m left) promoted) n) → IsTrue (has (with_promoted (leaving m left) promoted) o) → granule_of (at' n) ≡ granule_of (at' o) → n ≡ o
  one_then = one_name (tables_of raised) raised.limits.blocks at' m.state.graph (with_promoted (leaving m left) promoted) raises.raised.image

  -- a new object stands at no granule of what was unreclaimed and is left
  new_elsewhere : {P : Type 0} (n o : Name) → IsTrue (has promoted n) → IsTrue (has left o) → granule_of (at' n) ≡ granule_of (at o) → P
  new_elsewhere n o p h e =
      let same : n ≡ o = one_then n o (union_left promoted left n p) (union_right promoted left o h) (e ∙ sym (same_granule o (was_there o h))) in
      not_both (has left o) h (raises.raised.follows.apart o (subst (λ x. IsTrue (has m.made x)) same (new_made n p)))

  -- an old value in the logs is of what was reachable at the last pause
  old_reached : (p : ℕ) → IsOldValue before.logged.items p → p ≢ 0 → (v : Name) × Reachable m.last v × (p ≡ at v)
  old_reached p old some = old_live m at holds.follows before.logged.items p holds.logs old some

  -- ---- a trace that runs

  module _ (trace : Trace) (marks : RaisesMarks (Some trace) u.marks (tables_of raised).marks at' promoted) where
    left_marked : (n : Name) → IsTrue (has left n) → IsMarked v at' n ↔ (IsMarked t at n ⊎ IsTrue (has promoted n))
    left_marked n h =
        let all = union_right promoted left n h in
        let here = same_granule n (was_there n h) in
        let kept : u.marks (granule_of (at n)) ≡ t.marks (granule_of (at n)) = finishes.marks.others (granule_of (at n)) (gone_apart n all) in (
          λ b. elim ((marks (granule_of (at' n))).0 (sym (ap (λ f. f (granule_of (at' n))) same_marks) ∙ b)) [
            | inl was ↦ inl (sym kept ∙ sym (ap u.marks here) ∙ was)
            | inr q ↦ inr (subst (λ x. IsTrue (has promoted x)) (sym (one_then n q.0 all (union_left promoted left q.0 q.1) q.2)) q.1)
          ],
          λ b. ap (λ f. f (granule_of (at' n))) same_marks ∙ (marks (granule_of (at' n))).1 (elim b [
            | inl was ↦ inl (ap u.marks here ∙ kept ∙ was)
            | inr p ↦ inr (n, p, refl)
          ]),
        )

    marked_then : (n : Name) → IsTrue (has (with_promoted (leaving m left) promoted) n) → IsMarked v at' n ↔ (IsMarked t at n ⊎ IsTrue (has promoted n))
    marked_then n k = elim (union_cases promoted left n k) [
      | inl p ↦ ((λ b. inr p), (λ b. ap (λ f. f (granule_of (at' n))) same_marks ∙ (marks (granule_of (at' n))).1 (inr (n, p, refl))))
      | inr h ↦ left_marked n h
    ]

  module _ (trace : Trace) (grays : RaisesGrays (Some trace) u.grays (tables_of raised).grays found.logged.items)
      (referents : GraysReferents t.grays u.grays m at gone) where
    abbrev IsReferent : Name → Type 0
    IsReferent n = (x : Name) × IsTrue (has gone x) × Refers m.last.graph x n

    abbrev IsGrayBefore : Name → Type 0
    IsGrayBefore n = IsGray t at n ⊎ IsReferent n ⊎ IsOldValue before.logged.items (at n)

    raised_gray : (n : Name) → IsGray v at' n → IsGray u at' n ⊎ ((p : ℕ) × IsOldValue before.logged.items p × (p ≢ 0) × (granule_of (at' n) ≡ granule_of p))
    raised_gray n b = elim ((grays (granule_of (at' n))).0 (sym (ap (λ f. f (granule_of (at' n))) same_grays) ∙ b)) [
      | inl was ↦ inl was
      | inr q ↦ inr (q.0, subst (λ es. IsOldValue es q.0) logged q.1, q.2, q.3)
    ]

    -- no promoted object is gray where it stands now
    new_white : {P : Type 0} (n : Name) → IsTrue (has promoted n) → IsGray v at' n → P
    new_white n p b = elim (raised_gray n b) [
      | inl was ↦
          let r = finishes.holds.bits.starts.only (granule_of (at' n)) (finishes.holds.bits.grays (granule_of (at' n)) was) in
          new_elsewhere n r.0 p r.1 (sym r.2)
      | inr q ↦
          let live = old_reached q.0 q.1 q.2 in
          new_elsewhere n live.0 p (finishes.holds.follows.kept live.0 live.1) (q.3 ∙ ap granule_of live.2)
    ]

    -- nor was it where it stood, and nothing from before asks for it
    new_unasked : {P : Type 0} (n : Name) → IsTrue (has promoted n) → IsGrayBefore n → P
    new_unasked n p (inl was) =
        let r = holds.bits.starts.only (granule_of (at n)) (holds.bits.grays (granule_of (at n)) was) in
        absurd (new_apart n p r.0 r.1 r.2)
    new_unasked n p (inr (inl r)) = not_both (has m.unreclaimed n) (holds.follows.closed r.0 n (gone_was r.0 r.1) r.2) (holds.follows.apart n (new_made n p))
    new_unasked n p (inr (inr old)) =
        let low = placed n (in_second m.unreclaimed m.made n (new_made n p)) in
        let live = old_reached (at n) old (λ e. omega (arith, low, e)) in
        absurd (new_apart n p live.0 (holds.follows.kept live.0 live.1) (ap granule_of (sym live.2)))

    left_gray : (n : Name) → IsTrue (has left n) → IsGray v at' n ↔ IsGrayBefore n
    left_gray n h =
        let here = same_granule n (was_there n h) in
        let member = in_first m.unreclaimed m.made n (was_there n h) in (
          λ b. elim (raised_gray n b) [
            | inl was ↦ elim ((referents.left n h).0 (sym (ap u.grays here) ∙ was)) [ inl is ↦ inl is | inr r ↦ inr (inl r) ]
            | inr q ↦ inr (inr (subst (IsOldValue before.logged.items) (same_place n q.0 member q.2 (sym here ∙ q.3)) q.1))
          ],
          λ b. ap (λ f. f (granule_of (at' n))) same_grays ∙ (grays (granule_of (at' n))).1 (elim b [
            | inl was ↦ inl (ap u.grays here ∙ (referents.left n h).1 (inl was))
            | inr q ↦ elim q [
              | inl r ↦ inl (ap u.grays here ∙ (referents.left n h).1 (inr r))
              | inr old ↦ let low = placed n member in inr (at n, subst (λ es. IsOldValue es (at n)) (sym logged) old, (λ e. omega (arith, low, e)), here)
            ]
          ]),
        )

    gray_then : (n : Name) → IsTrue (has (with_promoted (leaving m left) promoted) n) → IsGray v at' n ↔ IsGrayBefore n
    gray_then n k = elim (union_cases promoted left n k) [
      | inl p ↦ ((λ b. new_white n p b), (λ b. new_unasked n p b))
      | inr h ↦ left_gray n h
    ]

  -- ---- whether one runs or not

  module _ (report : PauseReport) (dead : report.dead ≡ gone) (new : report.promoted ≡ promoted) where
    abbrev lost_by : (ℕ → Bool) → (ℕ → Bool) → List Name → Type 0
    lost_by f h ns = LosesBits f h at' ns

    -- what is gone hasn't moved
    lost_there : (f h : ℕ → Bool) → LosesBits f h at gone → LosesBits f h at' gone
    lost_there f h is = record {
      reclaimed = λ n d. ap h (same_granule n (gone_was n d)) ∙ is.reclaimed n d;
      others = λ k nobody. is.others k (λ n d e. nobody n d (same_granule n (gone_was n d) ∙ e));
    }

    pub traces_on : (trace : Option Trace) → FinishesGrays trace t.grays u.grays m at gone → RaisesMarks trace u.marks (tables_of raised).marks at' promoted
        → RaisesGrays trace u.grays (tables_of raised).grays found.logged.items → Traces kind.Plain trace before after g at' report (with_promoted (leaving m left) promoted)
    traces_on None f marks grays = record {
      marks = subst (lost_by t.marks v.marks) (sym dead) (subst (λ f. lost_by t.marks f gone) (sym (same_marks ∙ marks)) (lost_there t.marks u.marks finishes.marks));
      grays = subst (lost_by t.grays v.grays) (sym dead) (subst (λ f. lost_by t.grays f gone) (sym (same_grays ∙ grays)) (lost_there t.grays u.grays f));
    }
    traces_on (Some trace) f marks grays = record {
      marks = subst (λ ns. (n : Name) → IsTrue (has (with_promoted (leaving m left) promoted) n) → IsMarked v at' n ↔ (IsMarked t at n ⊎ IsTrue (has ns n))) (sym new) (marked_then trace marks);
      grays = subst (λ ns. (n : Name) → IsTrue (has (with_promoted (leaving m left) promoted) n)
          → IsGray v at' n ↔ (IsGray t at n ⊎ ((x : Name) × IsTrue (has ns x) × Refers m.last.graph x n) ⊎ IsOldValue before.logged.items (at n))) (sym dead) (gray_then trace grays f);
    }

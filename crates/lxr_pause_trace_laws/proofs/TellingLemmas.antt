-- All that is gray once increments are done was gray, was referred to by what is reclaimed, or was an old value; so it is marked exactly where
-- nothing was left to trace at the safepoint. A promoted object has a mark of its own, and isn't gray. What is left stands where it did.
use Rattle.std.proofs.Common.{◌≡◌, ◌≢◌, ℕ, ◌≤◌, refl, sym, ap, subst, ◌∙◌, inl, inr, ◌⊎◌, arith, List, IsTrue}
use Rattle.std.specs.Prelude.{Some}
use Rattle.std.proofs.lemmas.Bool.{false_from_ne_true}
use Rattle.lxr_layout.specs.declared.Name.{Name}
use Rattle.lxr_graph.specs.Names.{has, without}
use Rattle.lxr_graph.proofs.NameSets.{not_both, union_left, union_right}
use Rattle.lxr_image.specs.declared.space.Space.{Space}
use Rattle.lxr_image.specs.Tables.{Tables}
use Rattle.lxr_image.specs.Spaces.{tables_of}
use Rattle.lxr_image.specs.Reads.{granule_of}
use Rattle.lxr_model.specs.Moments.{Moment, Trace}
use Rattle.lxr_model.specs.Reachable.{Refers}
use Rattle.lxr_model.proofs.ReachableLemmas.{promoted_made}
use Rattle.lxr_invariant.specs.AbstractState.{leaving}
use Rattle.lxr_invariant.specs.Quiescent.{HoldsMoment}
use Rattle.lxr_invariant.specs.Raised.{with_promoted}
use Rattle.lxr_invariant.specs.Tracing.{IsGray, IsMarked, IsOldValue}
use Rattle.lxr_pause_decrements.specs.Finishing.{Finishes, FinishesGrays, GraysReferents}
use Rattle.lxr_pause_increments.specs.Raising.{Raises, RaisesGrays, RaisesMarks}
use Rattle.lxr_pause_trace_laws.specs.Laws.{AllGrayAreMarked, MarksTellTheEnd, NothingIsLeft}
use Rattle.lxr_pause_trace_laws.proofs.FinishingLemmas.{mark_stays}
use Rattle.lxr_pause_trace_laws.proofs.GranuleLemmas.{is_placed, one_name}
use Rattle.lxr_pause_trace_laws.proofs.OldLemmas.{old_live}

module _ (before found raised : Space) (m : Moment) (at at' : Name → ℕ) (gone : List Name) (trace : Trace) (holds : HoldsMoment before m at) (runs : m.trace ≡ Some trace)
    (finishes : Finishes before found m at gone) (raises : Raises found raised (leaving m (without m.unreclaimed gone)) at at') where
  abbrev left : List Name
  left = without m.unreclaimed gone

  abbrev promoted : List Name
  promoted = raised.report.promoted.items

  abbrev all : List Name
  all = with_promoted (leaving m left) promoted

  abbrev t : Tables
  t = tables_of before

  abbrev u : Tables
  u = tables_of raised

  -- ---- bits

  finished : GraysReferents t.grays (tables_of found).grays m at gone
  finished = subst (λ o. FinishesGrays o t.grays (tables_of found).grays m at gone) runs finishes.grays

  marks : RaisesMarks (Some trace) (tables_of found).marks u.marks at' promoted
  marks = subst (λ o. RaisesMarks o (tables_of found).marks u.marks at' promoted) runs raises.marks

  grays : RaisesGrays (Some trace) (tables_of found).grays u.grays before.logged.items
  grays = subst (λ z. RaisesGrays (Some trace) (tables_of found).grays u.grays z.logged.items) finishes.space
      (subst (λ o. RaisesGrays o (tables_of found).grays u.grays found.logged.items) runs raises.grays)

  same_mark : (n : Name) → IsTrue (has left n) → (tables_of found).marks (granule_of (at n)) ≡ t.marks (granule_of (at n))
  same_mark = mark_stays before found m at gone holds finishes

  one : (n o : Name) → IsTrue (has all n) → IsTrue (has all o) → granule_of (at' n) ≡ granule_of (at' o) → n ≡ o
  one = one_name u raised.limits.blocks at' m.state.graph all raises.raised.image

  -- what is left isn't promoted, so it stands where it did
  unpromoted : (n : Name) → IsTrue (has left n) → IsTrue (has promoted n) → ⊥
  unpromoted n k p = not_both (has left n) k (raises.raised.follows.apart n (promoted_made ((raises.raised.raised.promoted_are n).0 p)))

  same_place : (n : Name) → IsTrue (has left n) → at' n ≡ at n
  same_place n k = raises.copies.others n (false_from_ne_true (has promoted n) (unpromoted n k))

  -- and apart from what is promoted, so it is marked where it was
  new_apart : (n o : Name) → IsTrue (has left n) → IsTrue (has promoted o) → granule_of (at n) ≢ granule_of (at' o)
  new_apart n o k p e =
      let same : n ≡ o = one n o (union_right promoted left n k) (union_left promoted left o p) (ap granule_of (same_place n k) ∙ e) in
      unpromoted o (subst (λ x. IsTrue (has left x)) same k) p

  was_marked : (n : Name) → IsTrue (has left n) → IsMarked u at n → IsMarked t at n
  was_marked n k marked = elim ((marks (granule_of (at n))).0 marked) [
    | inl was ↦ sym (same_mark n k) ∙ was
    | inr q ↦ absurd (new_apart n q.0 k q.1 q.2)
  ]

  still_marked : (n : Name) → IsTrue (has left n) → IsMarked t at n → IsMarked u at n
  still_marked n k marked = (marks (granule_of (at n))).1 (inl (same_mark n k ∙ marked))

  -- ---- nothing is left where all that is gray is marked

  abbrev IsLeftToTrace : Name → Type 0
  IsLeftToTrace n = IsGray t at n ⊎ ((x : Name) × IsTrue (has gone x) × Refers m.last.graph x n) ⊎ IsOldValue before.logged.items (at n)

  placed : (n : Name) → IsTrue (has left n) → 1 ≤ at n
  placed n k = subst (λ p. 1 ≤ p) (same_place n k) (is_placed u raised.limits.blocks at' m.state.graph all raises.raised.image n (union_right promoted left n k))

  gray_then : (n : Name) → IsTrue (has left n) → IsLeftToTrace n → IsGray u at n
  gray_then n k (inl is) = (grays (granule_of (at n))).1 (inl ((finished.left n k).1 (inl is)))
  gray_then n k (inr (inl referent)) = (grays (granule_of (at n))).1 (inl ((finished.left n k).1 (inr referent)))
  gray_then n k (inr (inr old)) = let some = placed n k in (grays (granule_of (at n))).1 (inr (at n, old, (λ e. omega (arith, some, e)), refl))

  none_left : AllGrayAreMarked u → NothingIsLeft t m at before.logged.items gone
  none_left marked n k why = was_marked n k (marked (granule_of (at n)) (gray_then n k why))

  -- ---- and the other way

  gray_was : (n : Name) → IsTrue (has left n) → IsTrue ((tables_of found).grays (granule_of (at n))) → IsLeftToTrace n
  gray_was n k is = elim ((finished.left n k).0 is) [ inl was ↦ inl was | inr referent ↦ inr (inl referent) ]

  gray_marked : NothingIsLeft t m at before.logged.items gone → (k : ℕ) → IsTrue ((tables_of found).grays k) → IsTrue (u.marks k)
  gray_marked nothing k is =
      let r = finishes.holds.bits.starts.only k (finishes.holds.bits.grays k is) in
      let here : IsTrue ((tables_of found).grays (granule_of (at r.0))) = ap (tables_of found).grays r.2 ∙ is in
      sym (ap u.marks r.2) ∙ still_marked r.0 r.1 (nothing r.0 r.1 (gray_was r.0 r.1 here))

  -- an old value is of what was reachable at the last pause, which is left
  old_marked : NothingIsLeft t m at before.logged.items gone → (k p : ℕ) → IsOldValue before.logged.items p → p ≢ 0 → k ≡ granule_of p → IsTrue (u.marks k)
  old_marked nothing k p old some here =
      let live = old_live m at holds.follows before.logged.items p holds.logs old some in
      let stays = finishes.holds.follows.kept live.0 live.1 in
      let marked = still_marked live.0 stays (nothing live.0 stays (inr (inr (subst (IsOldValue before.logged.items) live.2 old)))) in
      ap u.marks (here ∙ ap granule_of live.2) ∙ marked

  all_marked : NothingIsLeft t m at before.logged.items gone → AllGrayAreMarked u
  all_marked nothing k is = elim ((grays k).0 is) [ inl was ↦ gray_marked nothing k was | inr q ↦ old_marked nothing k q.0 q.1 q.2 q.3 ]

pub marks_tell : MarksTellTheEnd
marks_tell before found raised m at at' gone trace holds runs finishes raises =
    (none_left before found raised m at at' gone trace holds runs finishes raises, all_marked before found raised m at at' gone trace holds runs finishes raises)

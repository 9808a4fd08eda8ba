-- What is reclaimed by counting hides nothing from a trace: it is dead, so it is no garbage of the trace and isn't stored to, and what it
-- referred to is gray now.
use Rattle.std.proofs.Common.{◌≡◌, ℕ, ◌+◌, ◌*◌, ◌/◌, ◌<◌, ◌≤◌, refl, sym, ap, subst, ◌∙◌, inl, inr, ◌⊎◌, arith, false, List, IsTrue, ◌≢◌}
use Rattle.std.specs.Prelude.{Some}
use Rattle.std.proofs.lemmas.Bool.{false_from_ne_true}
use Rattle.lxr_layout.specs.declared.Name.{Name}
use Rattle.lxr_layout.specs.declared.TheConstants.{GRANULES_IN_BLOCK, REMEMBERED_CURSOR}
use Rattle.lxr_graph.specs.Names.{has, without}
use Rattle.lxr_graph.specs.State.{world_name}
use Rattle.lxr_graph.proofs.NameSets.{in_without, not_both, without_parts}
use Rattle.lxr_image.specs.declared.space.Space.{Space}
use Rattle.lxr_image.specs.Tables.{Tables}
use Rattle.lxr_image.specs.Spaces.{tables_of}
use Rattle.lxr_image.specs.Reads.{granule_of}
use Rattle.lxr_blocks.specs.States.{state_of}
use Rattle.lxr_model.specs.Moments.{Moment, Trace, rememberable}
use Rattle.lxr_model.specs.Reachable.{Refers}
use Rattle.lxr_model.proofs.ReachableLemmas.{dead_apart, dead_parts}
use Rattle.lxr_model_counting.specs.Distinct.{has_field}
use Rattle.lxr_model_counting.specs.Garbage.{IsGarbageOf}
use Rattle.lxr_model_counting.proofs.DistinctLemmas.{tested}
use Rattle.lxr_invariant.specs.AbstractState.{AbstractState, leaving}
use Rattle.lxr_invariant.specs.Quiescent.{HoldsMoment}
use Rattle.lxr_invariant.specs.Standing.{IsUnwritten}
use Rattle.lxr_invariant.specs.Tracing.{IsCovered, IsInSnapshot, IsOldValue, IsRememberedSoFar, IsScanned, IsToBeScanned, MarksStayInside, SnapshotIsCovered, StaysGarbage, TraceHolds, most_remembered}
use Rattle.lxr_invariant.proofs.InsideLemmas.{garbage_not_dead, inside_unless_garbage, referred_inside}
use Rattle.lxr_invariant.proofs.NameLemmas.{in_first}
use Rattle.lxr_invariant.proofs.ScanLemmas.{fewer_later}
use Rattle.lxr_pause_decrements.specs.Finishing.{Finishes, FinishesGrays, GraysReferents}
use Rattle.lxr_pause_trace_laws.specs.Laws.{FinishingKeepsTrace}
use Rattle.lxr_pause_trace_laws.proofs.GranuleLemmas.{one_name, remembered_still}

-- ---- what is gone, and what is left

module _ (before after : Space) (m : Moment) (at : Name → ℕ) (gone : List Name) (holds : HoldsMoment before m at) (finishes : Finishes before after m at gone) where
  pub gone_was : (n : Name) → IsTrue (has gone n) → IsTrue (has m.unreclaimed n)
  gone_was n d = (dead_parts ((finishes.dead n).0 d)).member

  -- what is left stands apart from what is gone, so it keeps its mark
  gone_apart : (n : Name) → IsTrue (has (without m.unreclaimed gone) n) → (o : Name) → IsTrue (has gone o) → granule_of (at o) ≢ granule_of (at n)
  gone_apart n k o d e =
      let there : (x : Name) → IsTrue (has m.unreclaimed x) → IsTrue (has _ x) = in_first m.unreclaimed m.made in
      let parts = without_parts m.unreclaimed gone n k in
      let same : o ≡ n = one_name (tables_of before) before.limits.blocks at m.state.graph _ holds.image.image o n (there o (gone_was o d)) (there n parts.0) e in
      not_both (has gone n) (subst (λ x. IsTrue (has gone x)) same d) parts.1

  pub mark_stays : (n : Name) → IsTrue (has (without m.unreclaimed gone) n) → (tables_of after).marks (granule_of (at n)) ≡ (tables_of before).marks (granule_of (at n))
  mark_stays n k = finishes.marks.others (granule_of (at n)) (gone_apart n k)

-- ---- the trace

module _ (before after : Space) (g : AbstractState) (trace : Trace) (gone : List Name) (holds : HoldsMoment before g.moment g.at) (runs : g.moment.trace ≡ Some trace)
    (is : TraceHolds before.limits (tables_of before) before.logged.items g trace) (finishes : Finishes before after g.moment g.at gone) where
  abbrev m : Moment
  m = g.moment

  abbrev at : Name → ℕ
  at = g.at

  abbrev left : List Name
  left = without m.unreclaimed gone

  abbrev now : Moment
  now = leaving m left

  abbrev t : Tables
  t = tables_of before

  abbrev u : Tables
  u = tables_of after

  was_there : (n : Name) → IsTrue (has left n) → IsTrue (has m.unreclaimed n)
  was_there n k = (without_parts m.unreclaimed gone n k).0

  gone_there : (n : Name) → IsTrue (has gone n) → IsTrue (has m.unreclaimed n)
  gone_there = gone_was before after m at gone holds finishes

  same_mark : (n : Name) → IsTrue (has left n) → u.marks (granule_of (at n)) ≡ t.marks (granule_of (at n))
  same_mark = mark_stays before after m at gone holds finishes

  grays : GraysReferents t.grays u.grays m at gone
  grays = subst (λ o. FinishesGrays o t.grays u.grays m at gone) runs finishes.grays

  -- ---- the snapshot

  covered_left : (n : Name) → IsTrue (has left n) → IsCovered t m at before.logged.items n → IsCovered u now at after.logged.items n
  covered_left n k (inl none) = not_both (has m.unreclaimed n) (was_there n k) none
  covered_left n k (inr (inl (h, gray))) = inr (inl (k, (grays.left n k).1 (inl gray)))
  covered_left n k (inr (inr (inl (h, marked)))) = inr (inr (inl (k, same_mark n k ∙ marked)))
  covered_left n k (inr (inr (inr (h, old)))) = inr (inr (inr (k, subst (λ z. IsOldValue z.logged.items (at n)) (sym finishes.space) old)))

  covered : (n : Name) → IsCovered t m at before.logged.items n → IsCovered u now at after.logged.items n
  covered n c = elim (tested (has left n)) [ inl k ↦ covered_left n k c | inr none ↦ inl none ]

  -- a dead object wasn't stored to, so what it still refers to it referred to at the last pause
  referred_then : (x v : Name) (i : ℕ) → IsTrue (has gone x) → IsToBeScanned t m at x i v → Refers m.last.graph x v
  referred_then x v i d scan =
      let unreached = dead_apart m.last m.unreclaimed m.stuck holds.follows.kept holds.follows.world x ((finishes.dead x).0 d) in
      let unwritten : has_field m.written (x, i) ≡ false = false_from_ne_true (has_field m.written (x, i)) (λ w. unreached (holds.follows.written x i w).1) in
      (i, sym (holds.follows.unwritten x i scan.member unwritten) ∙ scan.holds)

  scanned : (x v : Name) (i : ℕ) → IsToBeScanned t m at x i v → IsCovered u now at after.logged.items v ⊎ IsToBeScanned u now at x i v
  scanned x v i scan = elim (tested (has gone x)) [
    | inl d ↦ elim (tested (has left v)) [
      | inl k ↦ inl (inr (inl (k, (grays.left v k).1 (inr (x, d, referred_then x v i d scan)))))
      | inr none ↦ inl (inl none)
    ]
    | inr stays ↦
        let k : IsTrue (has left x) = in_without m.unreclaimed gone x scan.member (λ d. not_both (has gone x) d stays) in
        inr (record { member = k; unmarked = same_mark x k ∙ scan.unmarked; undone = finishes.undecremented.none_done (granule_of (at x)); holds = scan.holds })
  ]

  snapshot_covered : SnapshotIsCovered u now at after.logged.items trace
  snapshot_covered = record {
    world = covered world_name is.covered.world;
    registers = λ n h. covered n (is.covered.registers n h);
    references = λ x v i r e. elim (is.covered.references x v i r e) [ inl c ↦ inl (covered v c) | inr scan ↦ scanned x v i scan ];
  }

  -- ---- what stays inside

  garbage_stays : (n : Name) → IsGarbageOf trace n → StaysGarbage u now at trace n
  garbage_stays n q =
      let stays = is.inside.garbage n q in
      record {
        member = in_without m.unreclaimed gone n stays.member (λ d. garbage_not_dead t m at trace is.inside holds.follows n q ((finishes.dead n).0 d));
        dropped = stays.dropped;
        undone = finishes.undecremented.none_done (granule_of (at n));
        references = stays.references;
        referred = stays.referred;
      }

  -- what is dead is inside, and so is what it referred to
  referent_inside : (x n : Name) → IsTrue (has gone x) → Refers m.last.graph x n → IsTrue (has left n) → IsInSnapshot m trace n
  referent_inside x n d f k =
      let inside = inside_unless_garbage t m at trace is.inside is.snapshot is.reachable x (gone_there x d) (λ q. garbage_not_dead t m at trace is.inside holds.follows x q ((finishes.dead x).0 d)) in
      referred_inside t m at trace is.inside is.snapshot is.reachable x n (gone_there x d) inside f (was_there n k)

  stay_inside : MarksStayInside u now at trace
  stay_inside = record {
    marks = λ n k marked. is.inside.marks n (was_there n k) (sym (same_mark n k) ∙ marked);
    grays = λ n k gray. elim ((grays.left n k).0 gray) [ inl q ↦ is.inside.grays n (was_there n k) q | inr q ↦ referent_inside q.0 n q.1 q.2 k ];
    dones = λ n k done. not_both (u.dones (granule_of (at n))) done (finishes.undecremented.none_done (granule_of (at n)));
    members = λ n k. elim (is.inside.members n (was_there n k)) [ inl old ↦ inl old | inr q ↦ inr (q.0, same_mark n k ∙ q.1) ];
    referred = λ x n k. is.inside.referred x n (was_there x k);
    garbage = garbage_stays;
  }

  -- ---- what is remembered

  was_unlogged : (w : ℕ) → IsTrue (u.unlogged w) → IsTrue (t.unlogged w)
  was_unlogged w bit =
      let r : IsUnwritten now at left w = (finishes.holds.bits.unlogged w).0 bit in
      (holds.bits.unlogged w).1 (r.0, r.1, record { member = was_there r.0 r.2.member; index = r.2.index; unwritten = r.2.unwritten; word = r.2.word })

  was_scanned : (n : Name) → IsTrue (has left n) → IsScanned u at trace n → IsScanned t at trace n
  was_scanned n k (inl marked) = inl (sym (same_mark n k) ∙ marked)
  was_scanned n k (inr young) = inr young

  cursor : u.cursors REMEMBERED_CURSOR ≡ t.cursors REMEMBERED_CURSOR
  cursor = finishes.keeps.cursors REMEMBERED_CURSOR (λ e. cc) (λ e. cc)

  remembered : IsRememberedSoFar before.limits u now at trace is.snapshot
  remembered = record {
    fields = λ n v i k scan e bit chosen.
        elim (is.remembered.fields n v i (was_there n k) (was_scanned n k scan) e (was_unlogged _ bit) (sym (ap (λ f. state_of (f (granule_of (at v) / GRANULES_IN_BLOCK))) finishes.states) ∙ chosen)) [
          | inl r ↦ inl (remembered_still before.limits t u at n i finishes.keeps.remembered finishes.keeps.reuse cursor r)
          | inr over ↦ inr (subst (λ z. before.limits.remember < z) (sym cursor) over)
        ];
    entries = λ k drawn within.
        let r = is.remembered.entries k (subst (λ z. k < z) cursor drawn) within in
        (r.0, r.1, r.2, record { is = ap (λ f. f k) finishes.keeps.remembered ∙ r.3.is; entry = r.3.entry; in_heap = r.3.in_heap });
    bound =
        let bound = is.remembered.bound in
        let same = cursor in
        let fewer = fewer_later t u m now at at is.snapshot (λ n k unmarked. (was_there n k, sym (same_mark n k) ∙ unmarked, refl)) in
        omega (arith, bound, same, fewer);
  }

  holds_on : TraceHolds after.limits u after.logged.items (record g { moment = now }) trace
  holds_on = record {
    snapshot = is.snapshot;
    reachable = is.reachable;
    covered = snapshot_covered;
    inside = stay_inside;
    handled = λ x n k done f. not_both (u.dones (granule_of (at x))) done (finishes.undecremented.none_done (granule_of (at x)));
    remembered = subst (λ z. IsRememberedSoFar z.limits u now at trace is.snapshot) (sym finishes.space) remembered;
    few = subst (λ z. rememberable trace is.snapshot ≤ most_remembered z.limits * (now.number + 1)) (sym finishes.space) is.few;
  }

pub finishing_keeps : FinishingKeepsTrace
finishing_keeps before after g trace gone holds runs is finishes = holds_on before after g trace gone holds runs is finishes

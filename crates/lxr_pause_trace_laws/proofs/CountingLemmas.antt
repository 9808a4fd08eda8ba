-- Increments, the queue and deferred roots keep a trace. What is promoted is marked where it stands now; it was made since the last pause,
-- so it is younger than the trace and refers to no garbage. What an old value was of is gray; it was reachable at the last pause, so it is no
-- garbage. All that was unreclaimed stands where it did, since only what is promoted moves.
use Rattle.std.proofs.Common.{◌≡◌, ◌≢◌, ℕ, ◌+◌, ◌*◌, ◌/◌, ◌<◌, ◌≤◌, refl, sym, ap, subst, ◌∙◌, inl, inr, ◌⊎◌, arith, true, false, List, [], IsTrue, length}
use Rattle.std.specs.Prelude.{Bool, Some, is_some, map, slice_get}
use Rattle.std.proofs.lemmas.Bool.{false_from_ne_true}
use Rattle.std.proofs.lemmas.List.{length-map}
use Rattle.std.proofs.lemmas.List.Sorted.{length_permutation}
use Rattle.std.proofs.lemmas.Option.{slice_get_within}
use Rattle.lxr_layout.specs.declared.Name.{Name}
use Rattle.lxr_layout.specs.declared.TheConstants.{GRANULES_IN_BLOCK, REMEMBERED_CURSOR, WORDS_IN_BLOCK}
use Rattle.lxr_graph.specs.Names.{has}
use Rattle.lxr_graph.specs.State.{object_at, refs_of, world_name}
use Rattle.lxr_graph.proofs.NameSets.{not_both, union_cases, union_left, union_right}
use Rattle.lxr_image.specs.declared.space.Space.{Space}
use Rattle.lxr_image.specs.Tables.{Tables}
use Rattle.lxr_image.specs.Spaces.{tables_of}
use Rattle.lxr_image.specs.Reads.{granule_of}
use Rattle.lxr_blocks.specs.States.{is_fixed, state_in, state_of}
use Rattle.lxr_model.specs.Moments.{Moment, Trace, rememberable}
use Rattle.lxr_model.specs.Reachable.{Refers}
use Rattle.lxr_model.specs.References.{reference_slots}
use Rattle.lxr_model.proofs.ReachableLemmas.{promoted_made}
use Rattle.lxr_model_counting.specs.Distinct.{has_field}
use Rattle.lxr_model_counting.specs.Garbage.{IsGarbageOf}
use Rattle.lxr_model_counting.proofs.DistinctLemmas.{tested}
use Rattle.lxr_model_counting.proofs.FollowingLemmas.{live_reachable, none_from_no_object}
use Rattle.lxr_invariant.specs.AbstractState.{AbstractState}
use Rattle.lxr_invariant.specs.Quiescent.{HoldsMoment}
use Rattle.lxr_invariant.specs.Raised.{with_promoted}
use Rattle.lxr_invariant.specs.Standing.{entry_of, word_of_field}
use Rattle.lxr_invariant.specs.Tracing.{HasOverflowed, IsCovered, IsGray, IsInChosen, IsInSnapshot, IsMarked, IsOldValue, IsRemembered, IsRememberedSoFar, IsScanned, IsToBeScanned, IsYounger, MarksStayInside, SnapshotIsCovered, StaysGarbage, TraceHolds, most_remembered}
use Rattle.lxr_invariant.proofs.InsideLemmas.{inside_unless_garbage}
use Rattle.lxr_invariant.proofs.ScanLemmas.{fewer_later, slots}
use Rattle.lxr_invariant.proofs.MostLemmas.{part_more}
use Rattle.lxr_pause_increments.specs.Raising.{Raises, RaisesGrays, RaisesMarks}
use Rattle.lxr_pause_queue.specs.Queueing.{Queues}
use Rattle.lxr_pause_trace_laws.specs.Laws.{CountingKeepsTrace, KeepsObjectsOf, settled_next, with_slots}
use Rattle.lxr_pause_trace_laws.proofs.GranuleLemmas.{is_placed, one_name, remembered_still}
use Rattle.lxr_pause_trace_laws.proofs.OldLemmas.{old_live}
use Rattle.lxr_pause_trace_laws.proofs.PackingLemmas.{references_fit}

module _ (found raised queued : Space) (g : AbstractState) (at' : Name → ℕ) (trace : Trace) (holds : HoldsMoment found g.moment g.at)
    (runs : g.moment.trace ≡ Some trace) (older : KeepsObjectsOf trace g.moment)
    (is : TraceHolds found.limits (tables_of found) found.logged.items g trace) (raises : Raises found raised g.moment g.at at')
    (queues : Queues raised queued g.moment at' raised.report.promoted.items raised.report.stuck.items) where
  abbrev m : Moment
  m = g.moment

  abbrev at : Name → ℕ
  at = g.at

  abbrev promoted : List Name
  promoted = raised.report.promoted.items

  abbrev all : List Name
  all = with_promoted m promoted

  abbrev now : Moment
  now = settled_next m promoted raised.report.stuck.items

  abbrev goes_on : Trace
  goes_on = with_slots m promoted trace

  abbrev t : Tables
  t = tables_of found

  abbrev u : Tables
  u = tables_of queued

  -- ---- what is promoted

  made_new : (n : Name) → IsTrue (has promoted n) → IsTrue (has m.made n)
  made_new n p = promoted_made ((raises.raised.raised.promoted_are n).0 p)

  new_apart : (n : Name) → IsTrue (has m.unreclaimed n) → IsTrue (has promoted n) → ⊥
  new_apart n h p = not_both (has m.unreclaimed n) h (holds.follows.apart n (made_new n p))

  -- what was unreclaimed stands where it did
  same_place : (n : Name) → IsTrue (has m.unreclaimed n) → at' n ≡ at n
  same_place n h = raises.copies.others n (false_from_ne_true (has promoted n) (new_apart n h))

  -- so a bit of its granule is that of the place where it stood
  same_bit : (f : ℕ → Bool) (n : Name) → IsTrue (has m.unreclaimed n) → f (granule_of (at' n)) ≡ f (granule_of (at n))
  same_bit f n h = ap (λ p. f (granule_of p)) (same_place n h)

  younger : (n : Name) → IsTrue (has promoted n) → IsYounger m trace n
  younger n p =
      let young = holds.follows.young n (made_new n p) in
      let none : is_some (object_at m.last.graph n) ≡ false = ap is_some young.0 in
      (none_from_no_object (object_at trace.state.graph n) (λ was. not_both (is_some (object_at m.last.graph n)) (older n was) none), young.1)

  -- members of the space at one granule are one
  one : (n o : Name) → IsTrue (has all n) → IsTrue (has all o) → granule_of (at' n) ≡ granule_of (at' o) → n ≡ o
  one = one_name (tables_of raised) raised.limits.blocks at' m.state.graph all raises.raised.image

  -- ---- bits

  same_marks : u.marks ≡ (tables_of raised).marks
  same_marks = ap (λ z. z.marks) queues.tables

  same_grays : u.grays ≡ (tables_of raised).grays
  same_grays = ap (λ z. z.grays) queues.tables

  marks : RaisesMarks (Some trace) t.marks (tables_of raised).marks at' promoted
  marks = subst (λ o. RaisesMarks o t.marks (tables_of raised).marks at' promoted) runs raises.marks

  grays : RaisesGrays (Some trace) t.grays (tables_of raised).grays found.logged.items
  grays = subst (λ o. RaisesGrays o t.grays (tables_of raised).grays found.logged.items) runs raises.grays

  was_marked : (n : Name) → IsTrue (has m.unreclaimed n) → IsMarked u at' n → IsMarked t at n
  was_marked n h k = elim ((marks (granule_of (at' n))).0 (sym (ap (λ f. f (granule_of (at' n))) same_marks) ∙ k)) [
    | inl was ↦ sym (same_bit t.marks n h) ∙ was
    | inr q ↦
        let same = one n q.0 (union_right promoted m.unreclaimed n h) (union_left promoted m.unreclaimed q.0 q.1) q.2 in
        absurd (new_apart n h (subst (λ x. IsTrue (has promoted x)) (sym same) q.1))
  ]

  stays_marked : (n : Name) → IsTrue (has m.unreclaimed n) → IsMarked t at n → IsMarked u at' n
  stays_marked n h k = ap (λ f. f (granule_of (at' n))) same_marks ∙ (marks (granule_of (at' n))).1 (inl (same_bit t.marks n h ∙ k))

  new_marked : (n : Name) → IsTrue (has promoted n) → IsMarked u at' n
  new_marked n p = ap (λ f. f (granule_of (at' n))) same_marks ∙ (marks (granule_of (at' n))).1 (inr (n, p, refl))

  stays_gray : (n : Name) → IsTrue (has m.unreclaimed n) → IsGray t at n → IsGray u at' n
  stays_gray n h k = ap (λ f. f (granule_of (at' n))) same_grays ∙ (grays (granule_of (at' n))).1 (inl (same_bit t.grays n h ∙ k))

  placed : (n : Name) → IsTrue (has all n) → 1 ≤ at' n
  placed = is_placed (tables_of raised) raised.limits.blocks at' m.state.graph all raises.raised.image

  old_gray : (n : Name) → IsTrue (has m.unreclaimed n) → IsOldValue found.logged.items (at n) → IsGray u at' n
  old_gray n h old =
      let some = placed n (union_right promoted m.unreclaimed n h) in
      let old_now = subst (IsOldValue found.logged.items) (sym (same_place n h)) old in
      ap (λ f. f (granule_of (at' n))) same_grays ∙ (grays (granule_of (at' n))).1 (inr (at' n, old_now, (λ e. omega (arith, some, e)), refl))

  -- ---- the snapshot

  covered_old : (n : Name) → IsTrue (has m.unreclaimed n) → IsCovered t m at found.logged.items n → IsCovered u now at' [] n
  covered_old n h (inl none) = not_both (has m.unreclaimed n) h none
  covered_old n h (inr (inl (k, gray))) = inr (inl (union_right promoted m.unreclaimed n h, stays_gray n h gray))
  covered_old n h (inr (inr (inl (k, marked)))) = inr (inr (inl (union_right promoted m.unreclaimed n h, stays_marked n h marked)))
  covered_old n h (inr (inr (inr (k, old)))) = inr (inl (union_right promoted m.unreclaimed n h, old_gray n h old))

  covered : (n : Name) → IsCovered t m at found.logged.items n → IsCovered u now at' [] n
  covered n c = elim (tested (has all n)) [
    | inr none ↦ inl none
    | inl k ↦ elim (union_cases promoted m.unreclaimed n k) [
      | inl p ↦ inr (inr (inl (k, new_marked n p)))
      | inr h ↦ covered_old n h c
    ]
  ]

  still_scanned : (x v : Name) (i : ℕ) → IsToBeScanned t m at x i v → IsToBeScanned u now at' x i v
  still_scanned x v i scan = record {
    member = union_right promoted m.unreclaimed x scan.member;
    unmarked = false_from_ne_true (u.marks (granule_of (at' x))) (λ k. not_both (t.marks (granule_of (at x))) (was_marked x scan.member k) scan.unmarked);
    undone = queues.undecremented.none_done (granule_of (at' x));
    holds = scan.holds;
  }

  snapshot_covered : SnapshotIsCovered u now at' [] goes_on
  snapshot_covered = record {
    world = covered world_name is.covered.world;
    registers = λ n h. covered n (is.covered.registers n h);
    references = λ x v i r e. elim (is.covered.references x v i r e) [ inl c ↦ inl (covered v c) | inr scan ↦ inr (still_scanned x v i scan) ];
  }

  -- ---- what stays inside

  was_garbage : (n : Name) → IsGarbageOf goes_on n → IsGarbageOf trace n
  was_garbage n q = record { member = q.member; unreachable = q.unreachable }

  -- an old value was of what was reachable at the last pause, which is no garbage
  old_inside : (n : Name) (p : ℕ) → IsTrue (has all n) → IsOldValue found.logged.items p → p ≢ 0 → granule_of (at' n) ≡ granule_of p → IsInSnapshot m trace n
  old_inside n p k old some e =
      let live = old_live m at holds.follows found.logged.items p holds.logs old some in
      let h = holds.follows.kept live.0 live.1 in
      let same : n ≡ live.0 = one n live.0 k (union_right promoted m.unreclaimed live.0 h) (e ∙ ap granule_of (live.2 ∙ sym (same_place live.0 h))) in
      subst (IsInSnapshot m trace) (sym same)
      (inside_unless_garbage t m at trace is.inside is.snapshot is.reachable live.0 h (λ q. (is.inside.garbage live.0 q).dropped (inl live.1)))

  gray_inside : (n : Name) → IsTrue (has all n) → IsGray u at' n → IsInSnapshot m trace n
  gray_inside n k gray = elim ((grays (granule_of (at' n))).0 (sym (ap (λ f. f (granule_of (at' n))) same_grays) ∙ gray)) [
    | inl was ↦ elim (union_cases promoted m.unreclaimed n k) [ inl p ↦ inr (younger n p) | inr h ↦ is.inside.grays n h (sym (same_bit t.grays n h) ∙ was) ]
    | inr q ↦ old_inside n q.0 k q.1 q.2 q.3
  ]

  garbage_stays : (n : Name) → IsGarbageOf goes_on n → StaysGarbage u now at' goes_on n
  garbage_stays n q =
      let stays = is.inside.garbage n (was_garbage n q) in
      record {
        member = union_right promoted m.unreclaimed n stays.member;
        dropped = λ live. elim live [ inl r ↦ stays.dropped (live_reachable m holds.follows n r) | inr k ↦ cc ];
        undone = queues.undecremented.none_done (granule_of (at' n));
        references = stays.references;
        referred = λ unstuck.
            let r = stays.referred (false_from_ne_true (has m.stuck n) (λ k. not_both (has now.stuck n) (union_right raised.report.stuck.items m.stuck n k) unstuck)) in
            (r.0, record { member = r.1.member; unreachable = r.1.unreachable }, r.2);
      }

  -- neither what was unreclaimed nor what is promoted refers to garbage
  unreferred : (x n : Name) → IsTrue (has all x) → IsInSnapshot m trace x → IsGarbageOf trace n → ¬ Refers m.state.graph x n
  unreferred x n k inside q f = elim (union_cases promoted m.unreclaimed x k) [
    | inl p ↦ (is.inside.garbage n q).dropped (holds.follows.referred x n (inr (made_new x p)) f)
    | inr h ↦ (is.inside.referred x n h inside q).1 f
  ]

  stay_inside : MarksStayInside u now at' goes_on
  stay_inside = record {
    marks = λ n k marked. elim (union_cases promoted m.unreclaimed n k) [ inl p ↦ inr (younger n p) | inr h ↦ is.inside.marks n h (was_marked n h marked) ];
    grays = gray_inside;
    dones = λ n k done. not_both (u.dones (granule_of (at' n))) done (queues.undecremented.none_done (granule_of (at' n)));
    members = λ n k. elim (union_cases promoted m.unreclaimed n k) [
      | inl p ↦ inr (younger n p, new_marked n p)
      | inr h ↦ elim (is.inside.members n h) [ inl old ↦ inl old | inr q ↦ inr (q.0, stays_marked n h q.1) ]
    ];
    referred = λ x n k inside q. (unreferred x n k inside (was_garbage n q), unreferred x n k inside (was_garbage n q));
    garbage = garbage_stays;
  }

  -- ---- what is remembered

  cursor : u.cursors REMEMBERED_CURSOR ≡ (tables_of raised).cursors REMEMBERED_CURSOR
  cursor = queues.keeps.cursors REMEMBERED_CURSOR (λ e. cc) (λ e. cc)

  limits : queued.limits ≡ found.limits
  limits = ap (λ z. z.limits) queues.space ∙ ap (λ z. z.limits) raises.space

  -- a block that is Chosen was so
  chosen_raised : (v : Name) → IsInChosen u at' v → IsInChosen (tables_of raised) at' v
  chosen_raised v chosen = sym (ap (λ z. state_in z (granule_of (at' v) / GRANULES_IN_BLOCK)) queues.tables) ∙ chosen

  chosen_found : (v : Name) → IsTrue (has m.unreclaimed v) → IsInChosen (tables_of raised) at' v → IsInChosen t at v
  chosen_found v h chosen =
      let b : ℕ = granule_of (at' v) / GRANULES_IN_BLOCK in
      elim (raises.states b) [
        | inl same ↦ ap (λ p. state_in t (granule_of p / GRANULES_IN_BLOCK)) (sym (same_place v h)) ∙ ap state_of (sym same) ∙ chosen
        | inr other ↦ absurd (let fixed : is_fixed (state_in (tables_of raised) b) ≡ true = ap is_fixed chosen in let loose = other.1 in cc)
      ]

  -- what is remembered once increments are done stays so
  still_remembered : (n : Name) (i : ℕ) → IsRemembered found.limits (tables_of raised) at' n i ⊎ HasOverflowed found.limits (tables_of raised)
      → IsRemembered found.limits u at' n i ⊎ HasOverflowed found.limits u
  still_remembered n i (inl there) = inl (remembered_still found.limits (tables_of raised) u at' n i queues.keeps.remembered queues.keeps.reuse cursor there)
  still_remembered n i (inr full) = inr (subst (λ c. found.limits.remember < c) (sym cursor) full)

  was_scanned : (n : Name) → IsTrue (has m.unreclaimed n) → IsScanned u at' goes_on n → IsScanned t at trace n
  was_scanned n h (inl marked) = inl (was_marked n h marked)
  was_scanned n h (inr young) = inr young

  -- a reference of what was unreclaimed that wasn't stored to holds what it held, and was remembered where that was to be
  was_remembered : (n v : Name) (i : ℕ) → IsTrue (has m.unreclaimed n) → has_field m.written (n, i) ≡ false → IsScanned u at' goes_on n → slice_get (refs_of (object_at m.state.graph n)) i ≡ Some (Some v)
      → IsInChosen (tables_of raised) at' v → IsRemembered found.limits t at n i ⊎ HasOverflowed found.limits t
  was_remembered n v i h unwritten scan e chosen =
      let member = holds.follows.closed n v h (i, sym (holds.follows.unwritten n i h unwritten) ∙ e) in
      let bit = (holds.bits.unlogged (word_of_field at n i)).1
      (n, i, record { member = h; index = slice_get_within (refs_of (object_at m.state.graph n)) i (Some v) e; unwritten = unwritten; word = refl }) in
      is.remembered.fields n v i h (was_scanned n h scan) e bit (chosen_found v member chosen)

  -- so each reference of what is scanned is remembered where that is to be
  fields : (n v : Name) (i : ℕ) → IsTrue (has all n) → IsScanned u at' goes_on n → slice_get (refs_of (object_at m.state.graph n)) i ≡ Some (Some v) → IsInChosen (tables_of raised) at' v
      → IsRemembered found.limits (tables_of raised) at' n i ⊎ HasOverflowed found.limits (tables_of raised)
  fields n v i k scan e chosen = elim (union_cases promoted m.unreclaimed n k) [
    | inl p ↦ raises.remembers.fields n v i (inl p) e chosen
    | inr h ↦ elim (tested (has_field m.written (n, i))) [
      | inl w ↦ raises.remembers.fields n v i (inr w) e chosen
      | inr unwritten ↦ elim (was_remembered n v i h unwritten scan e chosen) [
        | inl there ↦ inl (raises.remembers.kept n i (Some v) h e there)
        | inr full ↦ inr (raises.remembers.full full)
      ]
    ]
  ]

  -- a trace that goes on may remember more
  more : rememberable goes_on is.snapshot ≡ rememberable trace is.snapshot + reference_slots m.state.graph promoted + length m.written
  more = omega arith

  -- an object has as many references as it had at the last pause
  as_many : (n : Name) → IsTrue (has m.unreclaimed n) → slots now.last.graph n ≡ slots m.last.graph n
  as_many n h =
      let shape = holds.follows.objects n h in
      ap (λ z. length (refs_of z)) shape.3 ∙ shape.4.refs ∙ sym (ap (λ z. length (refs_of z)) shape.2)

  -- what is promoted is marked, so what is still to be scanned was so
  was_unscanned : (n : Name) → IsTrue (has all n) → u.marks (granule_of (at' n)) ≡ false → IsTrue (has m.unreclaimed n) × (t.marks (granule_of (at n)) ≡ false) × (slots now.last.graph n ≡ slots m.last.graph n)
  was_unscanned n k unmarked = elim (union_cases promoted m.unreclaimed n k) [
    | inl p ↦ not_both (u.marks (granule_of (at' n))) (new_marked n p) unmarked
    | inr h ↦ (h, false_from_ne_true (t.marks (granule_of (at n))) (λ was. not_both (u.marks (granule_of (at' n))) (stays_marked n h was) unmarked), as_many n h)
  ]

  remembered : IsRememberedSoFar found.limits u now at' goes_on is.snapshot
  remembered = record {
    fields = λ n v i k scan e bit chosen. still_remembered n i (fields n v i k scan e (chosen_raised v chosen));
    entries = λ k drawn within.
        let r = raises.remembers.entries is.remembered.entries k (subst (λ z. k < z) cursor drawn) within in
        (r.0, r.1, r.2, record { is = ap (λ f. f k) queues.keeps.remembered ∙ r.3.is; entry = r.3.entry; in_heap = r.3.in_heap });
    bound =
        let bound = is.remembered.bound in
        let same = cursor in
        let drawn = raises.bound in
        let fewer = fewer_later t u m now at at' is.snapshot was_unscanned in
        omega (arith, bound, same, drawn, fewer, more);
  }

  -- no more references are promoted than the heap has words, nor stored to than the logs have room for
  few_promoted : reference_slots m.state.graph promoted ≤ WORDS_IN_BLOCK * raised.limits.blocks
  few_promoted =
      let fit = references_fit (tables_of raised) raised.limits.blocks at' m.state.graph all raises.raised.image promoted raises.raised.raised.promoted_once (λ x p. union_left promoted m.unreclaimed x p) in
      omega (arith, fit)

  few_written : length m.written ≤ found.limits.threads * found.limits.log
  few_written =
      let same = length_permutation (map (entry_of m at) m.written) found.logged.items holds.logs in
      let mapped = length-map m.written (entry_of m at) in
      let few = holds.few_logs in
      omega (arith, same, mapped, few)

  few : rememberable goes_on is.snapshot ≤ most_remembered found.limits * (now.number + 1)
  few =
      let p = few_promoted in
      let w = few_written in
      let same : raised.limits.blocks ≡ found.limits.blocks = ap (λ z. z.limits.blocks) raises.space in
      let adds : reference_slots m.state.graph promoted + length m.written ≤ most_remembered found.limits = omega (arith, p, w, same) in
      let next = part_more (most_remembered found.limits) (rememberable trace is.snapshot) (reference_slots m.state.graph promoted + length m.written) m.number is.few adds in
      omega (arith, more, next)

  holds_on : TraceHolds queued.limits u [] (record g { moment = now; at = at' }) goes_on
  holds_on = record {
    snapshot = is.snapshot;
    reachable = is.reachable;
    covered = snapshot_covered;
    inside = stay_inside;
    handled = λ x n k done f. not_both (u.dones (granule_of (at' x))) done (queues.undecremented.none_done (granule_of (at' x)));
    remembered = subst (λ l. IsRememberedSoFar l u now at' goes_on is.snapshot) (sym limits) remembered;
    few = subst (λ l. rememberable goes_on is.snapshot ≤ most_remembered l * (now.number + 1)) (sym limits) few;
  }

pub counting_keeps : CountingKeepsTrace
counting_keeps found raised queued g at' trace holds runs older is raises queues = holds_on found raised queued g at' trace holds runs older is raises queues

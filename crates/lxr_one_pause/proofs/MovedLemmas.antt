-- A pause that ends a trace has moved what it leaves in Chosen blocks. What it promotes stands in none of them, so what it moves stood still
-- until then; and where a promoted object stood that was copied, none lies any more, so the word of its place stays.
use Rattle.std.proofs.Common.{◌≡◌, ◌≢◌, ℕ, ◌+◌, ◌*◌, ◌/◌, ◌%◌, ◌^◌, ◌<◌, ◌≤◌, refl, sym, ap, subst, ◌∙◌, inl, inr, arith, false, List, [], ◌++◌, IsTrue, length}
use Rattle.std.specs.Prelude.{◌↔◌, Option, Some, None}
use Rattle.std.proofs.lemmas.Bool.{false_from_ne_true}
use Rattle.std.proofs.lemmas.Bool.Decides.{eqb_tells, leb_tells}
use Rattle.lxr_layout.specs.declared.Name.{Name}
use Rattle.lxr_layout.specs.declared.runs.Run.{Run}
use Rattle.lxr_layout.specs.declared.TheConstants.{DECREMENT_COUNT, DECREMENT_CURSOR, GRANULES_IN_BLOCK, GRANULES_IN_LINE, LINES_IN_BLOCK, REMEMBERED_CURSOR, TRACING_WORD}
use Rattle.lxr_layout.specs.Objects.{line_count, moved_word}
use Rattle.lxr_layout.specs.Places.{first_word}
use Rattle.lxr_graph.specs.declared.report.Kind.TheVariants as kind
use Rattle.lxr_graph.specs.declared.report.Report.{Report}
use Rattle.lxr_graph.specs.Names.{IsSetOf, has, without}
use Rattle.lxr_graph.specs.State.{Graph, Object, object_at, shape_of}
use Rattle.lxr_graph.specs.History.{PauseReport, report_of}
use Rattle.lxr_graph.proofs.NameSets.{not_both, union_cases, without_parts}
use Rattle.lxr_image.specs.declared.space.Space.{Space}
use Rattle.lxr_image.specs.declared.space.Tally.{Tally}
use Rattle.lxr_image.specs.Tables.{Tables, changed}
use Rattle.lxr_image.specs.Spaces.{tables_of}
use Rattle.lxr_image.specs.Reads.{granule_of}
use Rattle.lxr_image.specs.Image.{IsImage}
use Rattle.lxr_image.proofs.TableLaws.{reuse_fits}
use Rattle.lxr_blocks.specs.declared.states.BlockState.TheVariants.{Chosen}
use Rattle.lxr_blocks.specs.Lines.{is_free}
use Rattle.lxr_blocks.specs.Placing.{IsRest}
use Rattle.lxr_blocks.specs.States.{IsOpenRun, KeepsState, state_in}
use Rattle.lxr_model.specs.Moments.{Moment, Trace, going_on}
use Rattle.lxr_model.specs.Reachable.{Reachable}
use Rattle.lxr_model.proofs.ReachableLemmas.{dead_parts, promoted_made}
use Rattle.lxr_model_counting.proofs.DistinctLemmas.{tested}
use Rattle.lxr_invariant.specs.AbstractState.{AbstractState, members}
use Rattle.lxr_invariant.specs.Copied.{CopiesLieApart, HasCopy, HasWord, StayForWantOfLines}
use Rattle.lxr_invariant.specs.Lines.{HasBlocks, NoneChosen, FreeAreUnused}
use Rattle.lxr_invariant.specs.Quiescent.{HoldsMoment}
use Rattle.lxr_invariant.specs.Tracing.{HasOverflowed, IsInChosen, IsToBeMarked, IsUnmarked}
use Rattle.lxr_invariant.specs.Tracing as to_mark
use Rattle.lxr_invariant.proofs.BlockLemmas.{keeps_state_still, none_kept}
use Rattle.lxr_invariant.proofs.CopiedLemmas.{free_alike}
use Rattle.lxr_invariant.proofs.EntryLemmas.{changed_other}
use Rattle.lxr_invariant.proofs.FrameLemmas.{chosen_still, image_still, unchosen_still}
use Rattle.lxr_invariant.proofs.NameLemmas.{in_either, in_first, in_second, no_member}
use Rattle.lxr_evac_blocks.specs.Releasing.{with_releases}
use Rattle.lxr_evac_moving.specs.Evacuation.{EvacuatesChosen, IsToMove, evacuated_of}
use Rattle.lxr_model_counting.specs.Garbage.{IsGarbageOf}
use Rattle.lxr_pause_trace_laws.specs.Laws.{FindsGarbage}
use Rattle.lxr_sweep_unmarked.specs.Sweeping.{swept_moment}
use Rattle.lxr_one_pause.specs.Settling.{Settles, SettlesCounts}
use Rattle.lxr_one_pause.specs.Steps.{with_evacuated}
use Rattle.lxr_one_pause.specs.Tracing.{CanEnd, Ends, drained}
use Rattle.lxr_one_pause.specs.Pausing.{CanPause, DrawsByKind, IsLetGo, KeepsThroughPause, SameRemembered, Traces, WasLeftToMark}
use Rattle.lxr_one_pause.proofs.DrawingLemmas.{into_chosen}
use Rattle.lxr_one_pause.specs.Relocating.{Evacuates, IsEvacuee, IsSnapshotOf, Relocates, rememberable_by}
use Rattle.lxr_one_pause.proofs.BlocksLemmas.{blocks_set, chosen_alike, chosen_before, chosen_then, none_released, released_blocks, was_so, released_free}
use Rattle.lxr_one_pause.proofs.BuildingLemmas.{AreParts, KeepsThroughTracing, kept_alive, leads, now, report, settles, stay_then, with_kind}
use Rattle.lxr_one_pause.proofs.EvacuatingLemmas.{copy_from, copy_to, covers_at, field_word_of, first_granule_of, first_word_of, free_off, granule_of_word, one_of_two, word_at}
use Rattle.lxr_invariant.proofs.ToldLemmas.{holds_told}
use Rattle.lxr_one_pause.proofs.FrameLemmas.{IsReworded, holds_then, rest_then, undecremented_then}
use Rattle.lxr_one_pause.proofs.KindLemmas.{going_same, lists_on}
use Rattle.lxr_one_pause.proofs.RelocatingLemmas.{counted_by, refuted}
use Rattle.lxr_one_pause.proofs.RememberedLemmas.{overflowed_still, same_both, same_kept, same_told}
use Rattle.lxr_one_pause.proofs.SweepingLemmas.{cleared_is, cleared_keeps, ends_tracing, gone_then, marked_cleared, member_left, sweep_parts, swept_of}
use Rattle.lxr_one_pause.proofs.TracingLemmas.{KeepsButMarks, can_trace, end_remembered, end_traced, keeps_finished}
use Rattle.lxr_pause_trace.specs.Tracing.{CanTrace}
use Rattle.lxr_pause_trace.proofs.NamedLemmas.{to_be_kept}
use Rattle.lxr_pause_trace_laws.proofs.GranuleLemmas.{one_name}
use Rattle.lxr_invariant.proofs.UnusedLemmas.{unused_by_lines}

-- a snapshot of a trace is that of the trace that goes on
snapshot_on : (m : Moment) (r : PauseReport) (trace : Option Trace) (running : Trace) (snapshot : List Name) → going_on m r trace ≡ Some running → IsSnapshotOf trace snapshot → IsSetOf snapshot (Reachable running.state)
snapshot_on m r None running snapshot runs is = absurd is
snapshot_on m r (Some trace) running snapshot runs is = subst (λ (t : Trace). IsSetOf snapshot (Reachable t.state)) (some_same _ running runs) (record { in_order = is.in_order; members = is.members })
  where
    some_same : (a b : Trace) → Some a ≡ Some b → a ≡ b
    some_same a b e = cc

-- where a trace goes on, what is unmarked then was so, and isn't promoted
unmarked_before : (s k : Space) (g : AbstractState) (at' : Name → ℕ) (r : PauseReport) (left : List Name) (m : Moment) (trace : Option Trace) (running : Trace) (n : Name) → going_on m r trace ≡ Some running → Traces kind.Plain trace s k g at' r left
    → IsTrue (has left n) → IsUnmarked (tables_of k) at' n → IsUnmarked (tables_of s) g.at n × (has r.promoted n ≡ false)
unmarked_before s k g at' r left m None running n e traces h unmarked = absurd (cc)
unmarked_before s k g at' r left m (Some trace) running n e traces h unmarked = (
  false_from_ne_true ((tables_of s).marks (granule_of (g.at n))) (λ marked. not_both ((tables_of k).marks (granule_of (at' n))) ((traces.marks n h).1 (inl marked)) unmarked),
  false_from_ne_true (has r.promoted n) (λ p. not_both ((tables_of k).marks (granule_of (at' n))) ((traces.marks n h).1 (inr p)) unmarked),
)

-- what is to be marked is unmarked
to_be_unmarked : (t : Tables) (m : Moment) (at : Name → ℕ) (n : Name) → IsToBeMarked t m at n → IsUnmarked t at n
to_be_unmarked t m at n (to_mark.gray _ member unmarked gray) = unmarked
to_be_unmarked t m at n (to_mark.referred u _ is refers unmarked) = unmarked

module _ (s k : Space) (g : AbstractState) (can : CanPause s g) (at' : Name → ℕ) (gone : List Name) (counts : SettlesCounts s k g at' gone) (x : Space) (j : ℕ)
    (may : CanEnd (with_kind s k g can at' gone counts (kind.End j)) (now s k g can at' gone counts (kind.End j)))
    (ends : Ends (with_kind s k g can at' gone counts (kind.End j)) x (now s k g can at' gone counts (kind.End j))) where
  abbrev m : Moment
  m = g.moment

  abbrev graph : Graph
  graph = m.state.graph

  abbrev promoted : List Name
  promoted = k.report.promoted.items

  abbrev members_then : List Name
  members_then = (now s k g can at' gone counts (kind.End j)).moment.unreclaimed

  abbrev left : Moment
  left = drained (now s k g can at' gone counts (kind.End j)) ends.gone

  abbrev last : Moment
  last = swept_moment left ends.swept ends.third

  abbrev lead : Moment
  lead = leads s k g can at' gone counts (kind.End j) ends.gone ends.third ends.swept

  abbrev end_report : Report
  end_report = report s k g can at' gone counts (kind.End j) ends.gone ends.third ends.swept

  abbrev to : Name → ℕ
  to = ends.at'

  abbrev t0 : Tables
  t0 = tables_of s

  abbrev tk : Tables
  tk = tables_of k

  abbrev tc : Tables
  tc = tables_of ends.cleared

  abbrev te : Tables
  te = tables_of ends.evacuated

  abbrev tx : Tables
  tx = tables_of x

  moves : EvacuatesChosen ends.cleared ends.evacuated last at' to ends.moved ends.kept
  moves = ends.evacuates

  keeps : KeepsButMarks ends.found ends.traced
  keeps = keeps_finished ends.found ends.traced left at' ends.traces

  kept_tables : KeepsThroughTracing tk tc
  kept_tables = cleared_keeps s k g can at' gone counts (kind.End j) ends.found ends.traced ends.cleared ends.gone ends.swept ends.third ends.finishes keeps ends.traces.holds ends.sweeps

  -- ---- the space

  abbrev tallied : Space
  tallied = with_evacuated ends.evacuated (evacuated_of ends.moved ends.kept)

  ended_then : x ≡ record tallied { words = x.words; trace = None }
  ended_then = ends.sets.space ∙ ap (λ (y : Space). record y { words = x.words; trace = None }) ends.releases.rest

  ended_from : x ≡ record k {
    words = x.words;
    registers = record k.registers { items = ends.evacuated.registers.items };
    deferred = record k.deferred { items = ends.evacuated.deferred.items };
    report = end_report;
    rest_next = ends.evacuated.rest_next;
    rest_end = ends.evacuated.rest_end;
    tally = tallied.tally;
    trace = None;
  }
  ended_from =
      ended_then
      ∙ ap (λ (y : Space). record y { words = x.words; tally = tallied.tally; trace = None }) moves.space
      ∙ ap (λ (y : Space). record y {
        words = x.words;
        registers = record y.registers { items = ends.evacuated.registers.items };
        deferred = record y.deferred { items = ends.evacuated.deferred.items };
        rest_next = ends.evacuated.rest_next;
        rest_end = ends.evacuated.rest_end;
        tally = tallied.tally;
        trace = None;
      }) (cleared_is s k g can at' gone counts (kind.End j) ends.found ends.traced ends.cleared ends.gone ends.swept ends.third ends.finishes keeps ends.traces.holds ends.sweeps)

  ended_is : x ≡ record k {
    words = x.words;
    registers = record k.registers { items = x.registers.items };
    deferred = record k.deferred { items = x.deferred.items };
    report = end_report;
    rest_next = x.rest_next;
    rest_end = x.rest_end;
    tally = x.tally;
    trace = x.trace;
  }
  ended_is = ended_from ∙ (λ i. record k {
    words = x.words;
    registers = record k.registers { items = sym (ap (λ (y : Space). y.registers.items) ended_from) i };
    deferred = record k.deferred { items = sym (ap (λ (y : Space). y.deferred.items) ended_from) i };
    report = end_report;
    rest_next = sym (ap (λ (y : Space). y.rest_next) ended_from) i;
    rest_end = sym (ap (λ (y : Space). y.rest_end) ended_from) i;
    tally = sym (ap (λ (y : Space). y.tally) ended_from) i;
    trace = sym (ap (λ (y : Space). y.trace) ended_from) i;
  })

  pub end_kind : x.report.kind ≡ kind.End j
  end_kind = ap (λ (y : Space). y.report.kind) ended_from

  limits_cleared : ends.cleared.limits ≡ s.limits
  limits_cleared =
      ap (λ (y : Space). y.limits) (cleared_is s k g can at' gone counts (kind.End j) ends.found ends.traced ends.cleared ends.gone ends.swept ends.third ends.finishes keeps ends.traces.holds ends.sweeps)
      ∙ ap (λ (y : Space). y.limits) counts.space

  limits_evacuated : ends.evacuated.limits ≡ s.limits
  limits_evacuated = ap (λ (y : Space). y.limits) moves.space ∙ limits_cleared

  limits_ended : x.limits ≡ s.limits
  limits_ended = ap (λ (y : Space). y.limits) ended_from ∙ ap (λ (y : Space). y.limits) counts.space

  -- ---- its tables

  tables_ended : tx ≡ record (with_releases te ends.evacuated.limits.blocks) { cursors = changed te.cursors TRACING_WORD 0 }
  tables_ended = ends.sets.tables ∙ ap (λ (t : Tables). record t { cursors = changed t.cursors TRACING_WORD 0 }) ends.releases.tables

  lists_moved : KeepsThroughPause tc tx
  lists_moved = record {
    runs = ap (λ (t : Tables). t.runs) tables_ended ∙ ap (λ (t : Tables). t.runs) moves.tables;
    frees = ap (λ (t : Tables). t.frees) tables_ended ∙ ap (λ (t : Tables). t.frees) moves.tables;
    cursors = λ i a b c d. ap (λ (t : Tables). t.cursors i) tables_ended ∙ changed_other te.cursors TRACING_WORD 0 i d ∙ ap (λ (t : Tables). t.cursors i) moves.tables;
  }

  set_moved : SameRemembered tc tx
  set_moved = record {
    entries = ap (λ (t : Tables). t.remembered) tables_ended ∙ ap (λ (t : Tables). t.remembered) moves.tables;
    cursor = ap (λ (t : Tables). t.cursors REMEMBERED_CURSOR) tables_ended ∙ changed_other te.cursors TRACING_WORD 0 REMEMBERED_CURSOR (λ e. cc) ∙ ap (λ (t : Tables). t.cursors REMEMBERED_CURSOR) moves.tables;
  }

  same_states : tc.states ≡ tk.states
  same_states = ends.sweeps.states ∙ ap (λ (t : Tables). t.states) ends.traces.tables ∙ ends.finishes.states

  state_kept : (b : ℕ) → KeepsState t0 tc b
  state_kept b = keeps_state_still t0 tk t0 tc b refl same_states (counts.states b)

  none_was_out : (line : ℕ) → tc.outs line ≡ false
  none_was_out line = ap (λ f. f line) kept_tables.outs ∙ counts.none_out line

  -- ---- names and places

  known : (n : Name) → IsTrue (has last.unreclaimed n) → IsTrue (has members_then n)
  known n h = (without_parts members_then ends.gone n
      (member_left s k g can at' gone counts (kind.End j) ends.found ends.traced ends.cleared ends.gone ends.swept ends.third ends.finishes keeps ends.traces.holds ends.sweeps n h)).0

  new_made : (n : Name) → IsTrue (has promoted n) → IsTrue (has m.made n)
  new_made n p = promoted_made ((counts.tells.raised.promoted_are n).0 p)

  was_member : (n : Name) → IsTrue (has members_then n) → IsTrue (has (members m) n)
  was_member n h = elim (union_cases promoted (without m.unreclaimed gone) n h) [
    | inl p ↦ in_second m.unreclaimed m.made n (new_made n p)
    | inr stays ↦ in_first m.unreclaimed m.made n (without_parts m.unreclaimed gone n stays).0
  ]

  -- what is promoted stands in no Chosen block
  new_outside : (n : Name) → IsTrue (has promoted n) → IsInChosen tc at' n → ⊥
  new_outside n p chosen = counts.unchosen n p (chosen_alike tk tc (granule_of (at' n) / GRANULES_IN_BLOCK) same_states chosen)

  old_one : (n : Name) → IsInChosen tc at' n → has promoted n ≡ false
  old_one n chosen = false_from_ne_true (has promoted n) (λ p. new_outside n p chosen)

  -- so what is to be moved stood still until then
  stood_still : (n : Name) → IsInChosen tc at' n → at' n ≡ g.at n
  stood_still n chosen = counts.copies.others n (old_one n chosen)

  moved_is : (n : Name) → IsTrue (has ends.moved n) → IsToMove ends.cleared last at' n
  moved_is n h = ((moves.moved_are.members n).0 h).0

  moved_stood : (n : Name) → IsTrue (has ends.moved n) → at' n ≡ g.at n
  moved_stood n h = stood_still n (moved_is n h).chosen

  new_unmoved : (n : Name) → IsTrue (has promoted n) → to n ≡ at' n
  new_unmoved n p = moves.others n (false_from_ne_true (has ends.moved n) (λ h. new_outside n p (moved_is n h).chosen))

  -- what is to be moved is an evacuee of the pause
  evacuee_then : (n : Name) → IsToMove ends.cleared last at' n → IsEvacuee s x g lead.unreclaimed n
  evacuee_then n is = record {
    ends = (j, end_kind);
    stays = is.member;
    chosen = subst (λ p. state_in t0 (granule_of p / GRANULES_IN_BLOCK) ≡ Chosen) (stood_still n is.chosen) (chosen_before t0 tc (granule_of (at' n) / GRANULES_IN_BLOCK) (state_kept _) is.chosen);
  }

  evacuee_stood : (n : Name) → IsEvacuee s x g lead.unreclaimed n → at' n ≡ g.at n
  evacuee_stood n is = counts.copies.others n (false_from_ne_true (has promoted n) (λ p. can.safepoint.holds.unchosen n (new_made n p) is.chosen))

  evacuee_back : (n : Name) → IsEvacuee s x g lead.unreclaimed n → IsToMove ends.cleared last at' n
  evacuee_back n is = record {
    member = is.stays;
    chosen = subst (λ p. state_in tc (granule_of p / GRANULES_IN_BLOCK) ≡ Chosen) (sym (evacuee_stood n is)) (chosen_then t0 tc (granule_of (g.at n) / GRANULES_IN_BLOCK) (state_kept _) is.chosen);
  }

  -- ---- what was moved and kept

  overflowed_before : HasOverflowed x.limits tx → HasOverflowed ends.cleared.limits tc
  overflowed_before over = subst (λ l. HasOverflowed l tc) (limits_ended ∙ sym limits_cleared) (overflowed_still x.limits tx tc (record { entries = sym set_moved.entries; cursor = sym set_moved.cursor }) over)

  overflowed_then : HasOverflowed ends.cleared.limits tc → HasOverflowed x.limits tx
  overflowed_then over = subst (λ l. HasOverflowed l tx) (limits_cleared ∙ sym limits_ended) (overflowed_still ends.cleared.limits tc tx set_moved over)

  -- free lines in a row then were so right after the evacuation
  run_before : (q : Run) → IsOpenRun (record tx { states = t0.states }) s.limits.blocks q → IsOpenRun te ends.evacuated.limits.blocks q
  run_before q run = record {
    run = record {
      block = subst (λ l. q.block < l.blocks) (sym limits_evacuated) run.run.block;
      within = run.run.within;
      free = λ i low high. free_alike te (record tx { states = t0.states }) (LINES_IN_BLOCK * q.block + i) (ap (λ (t : Tables). t.outs) tables_ended) (ap (λ (t : Tables). t.counts) tables_ended) (run.run.free i low high);
    };
    outside = λ e. run.outside (chosen_before t0 tc q.block (state_kept q.block) (chosen_before tc te q.block (moves.states q.block) e));
  }

  pub evacuates : Evacuates s x g to lead.unreclaimed ends.moved ends.kept
  evacuates = record {
    moved_are = record {
      in_order = moves.moved_are.in_order;
      members = λ n. (
        λ h. let a = (moves.moved_are.members n).0 h in (evacuee_then n a.0, λ e. a.1 (e ∙ sym (stood_still n a.0.chosen))),
        λ a. (moves.moved_are.members n).1 (evacuee_back n a.0, λ e. a.1 (e ∙ evacuee_stood n a.0)),
      );
    };
    kept_are = record {
      in_order = moves.kept_are.in_order;
      members = λ n. (
        λ h. let a = (moves.kept_are.members n).0 h in (evacuee_then n a.0, a.1 ∙ stood_still n a.0.chosen),
        λ a. (moves.kept_are.members n).1 (evacuee_back n a.0, a.1 ∙ sym (evacuee_stood n a.0)),
      );
    };
    few = subst (λ l. length ends.moved + length ends.kept ≤ GRANULES_IN_BLOCK * l.blocks) limits_cleared moves.few;
    away = λ n h c. moves.away n h (chosen_then tc te (granule_of (to n) / GRANULES_IN_BLOCK) (moves.states _) (chosen_then t0 tc (granule_of (to n) / GRANULES_IN_BLOCK) (state_kept _) c));
    wanting = λ n o h object. elim (moves.wanting n o h object) [
      | inl over ↦ inl (overflowed_then over)
      | inr full ↦ inr (λ q run. elim (leb_tells (line_count (shape_of o)) q.lines) [ inl fits ↦ absurd (full.lines q (run_before q run) fits.1) | inr short ↦ short.1 ])
    ];
    all_kept = λ over. moves.all_kept (overflowed_before over);
    overflows = λ snapshot end over is.
        let marked = end_remembered (with_kind s k g can at' gone counts (kind.End j)) (now s k g can at' gone counts (kind.End j)) may ends.found ends.gone ends.finishes ends.traced ends.traces in
        let same : ends.cleared.limits ≡ ends.found.limits = ap (λ (y : Space). y.limits) ends.sweeps.space ∙ ap (λ (y : Space). y.limits) ends.traces.space in
        let kept_set : SameRemembered (tables_of ends.traced) tc = same_kept (tables_of ends.traced) tc ends.sweeps.keeps in
        let there : HasOverflowed ends.found.limits (tables_of ends.traced) = overflowed_still ends.found.limits tc (tables_of ends.traced) (record { entries = sym kept_set.entries; cursor = sym kept_set.cursor })
        (subst (λ l. HasOverflowed l tc) same (overflowed_before over)) in
        subst (λ o. x.limits.remember < rememberable_by o snapshot)
        (sym (going_same m (report_of x.report) (report_of k.report) (ap (λ (y : Space). y.report.promoted.items) ended_from) m.trace ∙ may.runs))
        (subst (λ l. l.remember < rememberable_by (Some may.trace) snapshot) (sym (limits_ended ∙ sym limits_cleared ∙ same)) (marked.overflows snapshot (snapshot_on m (report_of k.report) m.trace may.trace snapshot may.runs is) there));
  }

  -- ---- where copied objects stood

  -- no object that is kept has a word there
  old_place_free : (n h : Name) → IsTrue (has promoted n) → at' n ≢ g.at n → IsTrue (has members_then h) → ¬ HasWord graph at' h (first_word (g.at n))
  old_place_free n h p copied there word =
      let covers = granule_of_word graph at' h (g.at n) word in
      let made = new_made n p in
      let member = in_second m.unreclaimed m.made n made in
      let own = can.safepoint.holds.image.image.stands n member in
      let here = first_granule_of graph g.at n own.0 own.1 in
      elim (eqb_tells (at' h) (g.at h)) [
        | inl still ↦
            let same : h ≡ n = one_of_two t0 s.limits.blocks g.at graph (members m) can.safepoint.holds.image.image h n word.object own.0 (granule_of (g.at n)) (was_member h there) member
            (covers_at graph at' g.at h word.object (granule_of (g.at n)) still.1 covers) here in
            copied (subst (λ z. at' z ≡ g.at z) same still.1)
        | inr moved ↦ elim (tested (has promoted h)) [
          | inr old ↦ moved.1 (counts.copies.others h old)
          | inl new ↦ elim (counts.apart h word.object (granule_of (g.at n)) new moved.1 covers) [
            | inl free ↦ not_both (t0.outs (granule_of (g.at n) / GRANULES_IN_LINE)) (can.safepoint.holds.lines n own.0 (granule_of (g.at n)) made here) free.0
            | inr rest ↦
                let low = rest.0 in
                let high = rest.1 in
                elim (can.safepoint.holds.rest.apart n own.0 (granule_of (g.at n)) member here) [ inl below ↦ omega (arith, low, high, below) | inr above ↦ omega (arith, low, high, above) ]
          ]
        ]
      ]

  object_then : (n : Name) → IsTrue (has members_then n) → (o : Object) × (object_at graph n ≡ Some o)
  object_then n h = let there = counts.holds.image.image.stands n (in_first members_then [] n h) in (there.0, there.1)

  -- the word of its new place stays there
  word_stays : (n : Name) → IsTrue (has promoted n) → at' n ≢ g.at n → ((u : Name) → IsTrue (has ends.moved u) → ¬ HasWord graph to u (first_word (g.at n))) → te.heap (first_word (g.at n)) ≡ tc.heap (first_word (g.at n))
  word_stays n p copied apart = moves.heap (first_word (g.at n))
      (λ u h. (
        λ e. let o = object_then u (known u (moved_is u h).member) in
            old_place_free n u p copied (known u (moved_is u h).member) (subst (HasWord graph at' u) (sym e) (first_word_of graph at' u o.0 o.1)),
        apart u h,
      ))
      (λ r. let word : HasWord graph to r.holder (first_word (g.at n)) = subst (HasWord graph to r.holder) (sym r.word) (field_word_of graph to r.holder r.held r.index r.holds) in
      elim (tested (has ends.moved r.holder)) [
        | inl h ↦ apart r.holder h word
        | inr stays ↦ old_place_free n r.holder p copied (known r.holder r.member) (word_at graph to at' r.holder (first_word (g.at n)) (moves.others r.holder stays) word)
      ])

  heap_ended : (w : ℕ) → tx.heap w ≡ te.heap w
  heap_ended w = ap (λ (t : Tables). t.heap w) tables_ended

  heap_cleared : (w : ℕ) → tc.heap w ≡ tk.heap w
  heap_cleared w = ap (λ f. f w) kept_tables.heap

  pub relocates : Relocates s x g to lead.unreclaimed promoted ends.moved
  relocates = record {
    others = λ n new none. moves.others n none ∙ counts.copies.others n new;
    left_behind = λ n p moved apart.
        let copied : at' n ≢ g.at n = λ e. moved (new_unmoved n p ∙ e) in
        heap_ended (first_word (g.at n)) ∙ word_stays n p copied apart ∙ heap_cleared (first_word (g.at n)) ∙ counts.copies.left_behind n p copied ∙ ap moved_word (sym (new_unmoved n p));
    moved_from = λ n h. heap_ended (first_word (g.at n)) ∙ ap (λ q. te.heap (first_word q)) (sym (moved_stood n h)) ∙ moves.left_behind n h;
    heap = λ w old new elsewhere written unreferred.
        heap_ended w
        ∙ moves.heap w (λ n h. ((λ e. (elsewhere n h).0 (e ∙ ap first_word (moved_stood n h))), (elsewhere n h).1))
        (λ r. unreferred (record { holder = r.holder; held = r.held; index = r.index; member = r.member; holds = r.holds; one = r.one; word = r.word }))
        ∙ heap_cleared w
        ∙ counts.copies.heap w (λ n p copied. old n p (λ e. copied (sym (new_unmoved n p) ∙ e))) (λ n p word. new n p (word_at graph at' to n w (sym (new_unmoved n p)) word)) written;
    counted = λ line copied received copy move.
        counted_by (t0.reuse line) (tk.reuse line) (tx.reuse line) copied received (reuse_fits s.limits s.words line)
        (λ h. let c = copy.0 h in counts.copies.counted line (copy_to graph g.at to at' promoted line new_unmoved c.0) c.1)
        (λ none. counts.copies.uncounted line (λ c. refuted copied copy none (copy_to graph g.at at' to promoted line (λ n p. sym (new_unmoved n p)) c.0, c.1)))
        (λ h. ap (λ (t : Tables). t.reuse line) tables_ended
        ∙ moves.counted line (copy_from graph g.at at' to ends.moved line (λ n h. sym (moved_stood n h)) (move.0 h)) (none_was_out line)
        ∙ ap (λ f. (f line + 1) % 2 ^ 32) kept_tables.reuse)
        (λ none. ap (λ (t : Tables). t.reuse line) tables_ended
        ∙ moves.uncounted line (λ c. refuted received move none (copy_from graph at' g.at to ends.moved line moved_stood c.0))
        ∙ ap (λ f. f line) kept_tables.reuse);
  }

  -- ---- lines

  pub outs_ended : (line : ℕ) → IsTrue (tx.outs line) ↔ HasCopy graph g.at to ends.moved line
  outs_ended line = (
    λ out. elim ((moves.outs line).0 (sym (ap (λ (t : Tables). t.outs line) tables_ended) ∙ out)) [
      | inl was ↦ not_both (tc.outs line) was (none_was_out line)
      | inr copy ↦ copy_from graph at' g.at to ends.moved line moved_stood copy
    ],
    λ copy. ap (λ (t : Tables). t.outs line) tables_ended ∙ (moves.outs line).1 (inr (copy_from graph g.at at' to ends.moved line (λ n h. sym (moved_stood n h)) copy)),
  )

  -- where nothing was moved, no line is out, so nothing is left of one
  rest_ended : ends.moved ≡ [] → x.rest_next ≡ x.rest_end
  rest_ended none = ap (λ (y : Space). y.rest_next) ended_from ∙ empty moves.holds.rest.rest ∙ sym (ap (λ (y : Space). y.rest_end) ended_from)
    where
      empty : IsRest ends.evacuated → ends.evacuated.rest_next ≡ ends.evacuated.rest_end
      empty (inl same) = same
      empty (inr is) = elim ((moves.outs (ends.evacuated.rest_next / GRANULES_IN_LINE)).0 is.out) [
        | inl was ↦ not_both (tc.outs (ends.evacuated.rest_next / GRANULES_IN_LINE)) was (none_was_out (ends.evacuated.rest_next / GRANULES_IN_LINE))
        | inr copy ↦ no_member copy.name (subst (λ ns. IsTrue (has ns copy.name)) none copy.promoted_is)
      ]

  module _ (names : AreParts s k g can at' gone counts (kind.End j) ends.gone ends.third ends.swept) where
    -- what was reclaimed wasn't moved
    reclaimed_unmoved : (n : Name) → IsTrue (has (end_report.dead.items ++ end_report.swept.items) n) → to n ≡ at' n
    reclaimed_unmoved n gone_is = moves.others n (false_from_ne_true (has ends.moved n) (λ h.
        let stays = (moved_is n h).member in
        let kept_there = known n stays in
        let undead = (without_parts members_then ends.gone n
        (member_left s k g can at' gone counts (kind.End j) ends.found ends.traced ends.cleared ends.gone ends.swept ends.third ends.finishes keeps ends.traces.holds ends.sweeps n stays)).1 in
        let never = λ (d : IsTrue (has (ends.swept ++ ends.third) n)).
        (gone_then s k g can at' gone counts (kind.End j) ends.found ends.traced ends.cleared ends.gone ends.swept ends.third ends.finishes keeps ends.traces.holds ends.sweeps n d).1 stays in
        elim (in_either end_report.dead.items end_report.swept.items n gone_is) [
          | inr w ↦ never (in_first ends.swept ends.third n w)
          | inl d ↦ elim (in_either gone (ends.gone ++ ends.third) n d) [
            | inl first ↦ not_both (has gone n) first (kept_alive s k g can at' gone counts (kind.End j) ends.gone ends.third ends.swept names n kept_there)
            | inr later ↦ elim (in_either ends.gone ends.third n later) [
              | inl second ↦ not_both (has ends.gone n) second undead
              | inr third ↦ never (in_second ends.swept ends.third n third)
            ]
          ]
        ]))

    image_left : IsImage tc ends.cleared.limits.blocks at' graph last.unreclaimed
    image_left = image_still tc tc ends.cleared.limits.blocks at' graph (members last) last.unreclaimed refl (λ n h. in_first last.unreclaimed [] n h) ends.sweeps.holds.image.image

    -- a line that is free then, outside the blocks that were Chosen, was so before anything was moved
    line_was_free : (line : ℕ) → ¬ (state_in t0 (line / LINES_IN_BLOCK) ≡ Chosen) → IsTrue (is_free (record tx { outs = t0.outs }) line) → IsTrue (is_free (record tc { outs = t0.outs }) line)
    line_was_free line off free =
        free_off tc te ends.cleared.limits.blocks graph at' to last.unreclaimed ends.moved image_left ends.sweeps.holds.marks moves.holds.marks moves.undecremented.positive moves.others (λ b. state_in t0 b ≡ Chosen)
        (λ n member h. chosen_before t0 tc (granule_of (at' n) / GRANULES_IN_BLOCK) (state_kept _) (moved_is n h).chosen) t0.outs line off
        (free_alike (record te { outs = t0.outs }) (record tx { outs = t0.outs }) line refl (ap (λ (t : Tables). t.counts) tables_ended) free)

    pub stay_ended : StayForWantOfLines t0 tx s.limits.blocks m g.at to promoted (IsLetGo g to (report_of end_report))
    stay_ended n o q p stays object run apart =
        stay_then s k g can at' gone counts (kind.End j) ends.gone ends.third ends.swept names tc ends.sweeps.holds.marks ends.sweeps.undecremented.positive n o q p (sym (new_unmoved n p) ∙ stays) object
        (record {
          run = record {
            block = run.run.block;
            within = run.run.within;
            free = λ i low high.
                let within = run.run.within in
                let block : (LINES_IN_BLOCK * q.block + i) / LINES_IN_BLOCK ≡ q.block = omega (arith, within, high) in
                line_was_free (LINES_IN_BLOCK * q.block + i) (λ e. run.outside (subst (λ b. state_in t0 b ≡ Chosen) block e)) (run.run.free i low high);
          };
          outside = run.outside;
        })
        (λ line low high (r, a, granule, gone_is, alive, covers, at_line). apart line low high (r, a, granule, gone_is, alive, covers_at graph at' to r a granule (sym (reclaimed_unmoved r gone_is)) covers, at_line))

  -- ---- the moment

  tallied_holds : HoldsMoment tallied last to
  tallied_holds = holds_told ends.evacuated last to ends.evacuated.report tallied.tally ends.evacuated.pauses
      (record {
        promoted = moves.holds.room.report.promoted;
        dead = moves.holds.room.report.dead;
        stuck = moves.holds.room.report.stuck;
        swept = moves.holds.room.report.swept;
        told = moves.holds.room.report.told;
      }) moves.holds

  is_reworded : IsReworded tallied x None
  is_reworded = record {
    same = ended_then;
    agree = record {
      states = (with_releases te ends.evacuated.limits.blocks).states;
      cursors = changed te.cursors TRACING_WORD 0;
      tables = tables_ended;
      drawn = changed_other te.cursors TRACING_WORD 0 DECREMENT_CURSOR (λ e. cc);
      waiting = changed_other te.cursors TRACING_WORD 0 DECREMENT_COUNT (λ e. cc);
    };
  }

  chosen_was : (b : ℕ) → state_in tx b ≡ Chosen → state_in te b ≡ Chosen
  chosen_was b e = was_so te ends.evacuated.limits.blocks b (sym (ap (λ (t : Tables). state_in t b) tables_ended) ∙ e)

  end_holds : HoldsMoment x lead to
  end_holds = holds_then tallied x None is_reworded last None to refl (rest_then tallied x None is_reworded chosen_was tallied_holds.rest.rest)
      (subst (λ t. HasBlocks t ends.evacuated.limits None) (sym tables_ended)
      (blocks_set (with_releases te ends.evacuated.limits.blocks) ends.evacuated.limits 0 last.trace None refl (none_released te ends.evacuated.limits.blocks)
      (released_blocks te ends.evacuated.limits last.trace moves.holds.blocks)))
      (subst (λ t. FreeAreUnused t to last.unreclaimed) (sym tables_ended)
      (unused_by_lines te (record (with_releases te ends.evacuated.limits.blocks) { cursors = changed te.cursors TRACING_WORD 0 }) to last.unreclaimed refl (released_free te ends.evacuated.limits.blocks)
      moves.undecremented.positive moves.holds.unused))
      tallied_holds

  -- where no block was Chosen, nothing was remembered
  end_remembered_there : NoneChosen t0 s.limits.blocks → SameRemembered t0 tx
  end_remembered_there none =
      let same : ends.found.limits.blocks ≡ s.limits.blocks = ap (λ (y : Space). y.limits.blocks) ends.finishes.space ∙ ap (λ (y : Space). y.limits.blocks) counts.space in
      let idle : NoneChosen (tables_of ends.found) ends.found.limits.blocks =
      chosen_still tk (tables_of ends.found) ends.found.limits.blocks ends.finishes.states ∙ subst (NoneChosen tk) (sym same) (none_kept t0 tk s.limits.blocks counts.states none) in
      same_both t0 tk tx (counts.remembered none)
      (same_both tk (tables_of ends.found) tx (same_kept tk (tables_of ends.found) ends.finishes.keeps)
      (same_both (tables_of ends.found) (tables_of ends.traced) tx (same_told (tables_of ends.found) (tables_of ends.traced) (ends.traces.remembers.idle idle))
      (same_both (tables_of ends.traced) tc tx (same_kept (tables_of ends.traced) tc ends.sweeps.keeps) set_moved)))

  -- ---- the numbers of the remembered set that it draws

  can_trace_found : CanTrace ends.found left at'
  can_trace_found = can_trace (with_kind s k g can at' gone counts (kind.End j)) (now s k g can at' gone counts (kind.End j)) may.drains ends.found ends.gone ends.finishes

  -- what stays stands apart from the second dead
  stands_apart : (n : Name) → IsTrue (has members_then n) → has ends.gone n ≡ false → (o : Name) → IsTrue (has ends.gone o) → granule_of (at' o) ≢ granule_of (at' n)
  stands_apart n member stays o d e =
      let there : (q : Name) → IsTrue (has members_then q) → IsTrue (has (members (now s k g can at' gone counts (kind.End j)).moment) q) = in_first members_then [] in
      let same = one_name tk k.limits.blocks at' graph (members (now s k g can at' gone counts (kind.End j)).moment) counts.holds.image.image o n (there o (dead_parts ((ends.finishes.dead o).0 d)).member) (there n member) e in
      not_both (has ends.gone n) (subst (λ q. IsTrue (has ends.gone q)) same d) stays

  was_left : (n : Name) → IsToBeMarked (tables_of ends.found) left at' n → WasLeftToMark s g (record { first_dead = gone; second_dead = ends.gone; third_dead = ends.third }) (report_of end_report) n
  was_left n is =
      let member = to_be_kept ends.found left at' can_trace_found n is in
      let kept = without_parts members_then ends.gone n member in
      let here : IsUnmarked tk at' n = sym (ends.finishes.marks.others (granule_of (at' n)) (stands_apart n kept.0 kept.1)) ∙ to_be_unmarked (tables_of ends.found) left at' n is in
      let before = unmarked_before s k g at' (report_of k.report) members_then m m.trace may.trace n may.runs counts.traces kept.0 here in
      let old : IsTrue (has m.unreclaimed n) × (has gone n ≡ false) = elim (union_cases promoted (without m.unreclaimed gone) n kept.0) [
        | inl p ↦ absurd (not_both (has promoted n) p before.1)
        | inr stays ↦ without_parts m.unreclaimed gone n stays
      ] in
      record {
        member = old.0;
        unmarked = before.0;
        first = old.1;
        second = kept.1;
        unswept = false_from_ne_true (has ends.swept n) (λ w. not_both ((tables_of ends.traced).marks (granule_of (at' n))) ((ends.traces.marks n member).1 (inr is)) ((ends.sweeps.swept_are n).0 w).1);
      }

  traced_states : (tables_of ends.traced).states ≡ tk.states
  traced_states = ap (λ (t : Tables). t.states) ends.traces.tables ∙ ends.finishes.states

  end_draws : DrawsByKind (kind.End j) s g (record { first_dead = gone; second_dead = ends.gone; third_dead = ends.third }) (report_of end_report) (t0.cursors REMEMBERED_CURSOR) (tx.cursors REMEMBERED_CURSOR)
  end_draws = (
    tk.cursors REMEMBERED_CURSOR,
    record { entered = counts.draws.entered; are = counts.draws.are; drawn = counts.draws.drawn },
    record {
      entered = ends.traces.entered.entered;
      are = into_chosen ends.found.limits s g (tables_of ends.traced) left at' promoted _ _ ((tables_of ends.found).cursors REMEMBERED_CURSOR) ends.traces.entered.entered refl
          (λ b. keeps_state_still t0 tk t0 (tables_of ends.traced) b refl traced_states (counts.states b)) (unchosen_still tk (tables_of ends.traced) at' promoted traced_states counts.unchosen) counts.copies.others
          (λ n i is. was_left n is) ends.traces.entered.are;
      drawn =
          let first = (same_kept tk (tables_of ends.found) ends.finishes.keeps).cursor in
          let entered = ends.traces.entered.drawn in
          let swept = (same_kept (tables_of ends.traced) tc ends.sweeps.keeps).cursor in
          let last = set_moved.cursor in
          omega (arith, first, entered, swept, last);
    },
  )

  -- ---- what it was to sweep

  ended_found : FindsGarbage ends.traced left at' (IsGarbageOf may.trace) × ((n : Name) → IsGarbageOf may.trace n → IsTrue (has left.unreclaimed n))
  ended_found = end_traced (with_kind s k g can at' gone counts (kind.End j)) (now s k g can at' gone counts (kind.End j)) may ends.found ends.gone ends.finishes ends.traced ends.traces

  swept_garbage : (n : Name) → IsTrue (has ends.swept n) ↔ IsGarbageOf may.trace n
  swept_garbage n = (
    λ h. let a = (ends.sweeps.swept_are n).0 h in (ended_found.0.garbage n a.0).0 a.1,
    λ q. let h = ended_found.1 n q in (ends.sweeps.swept_are n).1 (h, (ended_found.0.garbage n h).1 q),
  )

  end_parts : AreParts s k g can at' gone counts (kind.End j) ends.gone ends.third ends.swept
  end_parts = sweep_parts s k g can at' gone counts (kind.End j) ends.found ends.traced ends.cleared ends.gone ends.swept ends.third ends.finishes keeps ends.traces.holds ends.sweeps
      (swept_of g.moment k.report g.moment.trace may.trace ends.swept may.runs swept_garbage) refl

  -- ---- all put together

  same_tally : ends.evacuated.tally ≡ s.tally
  same_tally =
      ap (λ (y : Space). y.tally) moves.space
      ∙ ap (λ (y : Space). y.tally) (cleared_is s k g can at' gone counts (kind.End j) ends.found ends.traced ends.cleared ends.gone ends.swept ends.third ends.finishes keeps ends.traces.holds ends.sweeps)
      ∙ ap (λ (y : Space). y.tally) counts.space

  apart_ended : CopiesLieApart s g to promoted
  apart_ended n o granule p copied covers = counts.apart n o granule p (λ e. copied (new_unmoved n p ∙ e)) (covers_at graph to at' n o granule (new_unmoved n p) covers)

  pub end_settles : Settles s x g to (record { first_dead = gone; second_dead = ends.gone; third_dead = ends.third }) ends.moved ends.kept
  end_settles = settles s k g can at' gone counts (kind.End j) ends.gone ends.third ends.swept end_parts x to ends.moved ends.kept (record {
    space = ended_is;
    holds = end_holds;
    undecremented = undecremented_then tallied x None is_reworded last None to moves.undecremented;
    evacuates = evacuates;
    relocates = relocates;
    apart = apart_ended;
    stay = stay_ended end_parts;
    traced = tt;
    trace = ap (λ (y : Space). y.trace) ended_from;
    queues = tt;
    drained = ap (λ (t : Tables). t.cursors DECREMENT_COUNT) tables_ended ∙ changed_other te.cursors TRACING_WORD 0 DECREMENT_COUNT (λ e. cc) ∙ ap (λ (t : Tables). t.cursors DECREMENT_COUNT) moves.tables ∙ ends.sweeps.empty;
    outs = outs_ended;
    no_rest = rest_ended;
    lists = lists_on tk tc tx kept_tables.lists lists_moved;
    remembered = end_remembered_there;
    draws = end_draws;
    chosen = subst (λ t. NoneChosen t s.limits.blocks) (sym tables_ended) (subst (λ l. NoneChosen (with_releases te ends.evacuated.limits.blocks) l.blocks) limits_evacuated (none_released te ends.evacuated.limits.blocks));
    traces = ends_tracing x lead to end_holds (λ n h. ap (λ (t : Tables). t.marks (granule_of (to n))) tables_ended ∙ (moves.marks n h).1
        (marked_cleared s k g can at' gone counts (kind.End j) ends.found ends.traced ends.cleared ends.gone ends.swept ends.third ends.finishes keeps ends.traces.holds ends.sweeps n h));
    tally = ap (λ (y : Space). y.tally) ended_from ∙ ap (λ (t : Tally). record t { moved = t.moved + length ends.moved; kept = t.kept + length ends.kept }) same_tally;
  })

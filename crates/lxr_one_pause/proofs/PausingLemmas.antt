-- Once counting and tracing are done, blocks are swept, names are in order, counts are told where the pause drained, and the pause is counted:
-- a pause was made, whatever its kind.
use Rattle.std.proofs.Common.{◌≡◌, ◌≢◌, ℕ, ◌+◌, ◌*◌, ◌/◌, ◌≤◌, refl, sym, ap, subst, ◌∙◌, inl, inr, arith, Bool, true, false, cond, List, [], IsTrue}
use Rattle.std.specs.Prelude.{◌↔◌, Some, None, map, not, ◌&&◌}
use Rattle.std.specs.Option.{option_map}
use Rattle.std.proofs.lemmas.List.{append-nil}
use Rattle.lxr_pause_queue.specs.OldValues.{first_entries, old_values}
use Rattle.lxr_layout.specs.declared.TheConstants.{DECREMENT_COUNT, GRANULES_IN_BLOCK, LINES_IN_BLOCK, REMEMBERED_CURSOR}
use Rattle.lxr_layout.specs.declared.Name.{Name}
use Rattle.lxr_graph.specs.declared.report.Count.{Count}
use Rattle.lxr_graph.specs.declared.report.Kind.{Kind}
use Rattle.lxr_graph.specs.declared.report.Kind.TheVariants as kind
use Rattle.lxr_graph.specs.declared.report.Report.{Report}
use Rattle.lxr_graph.specs.Names.{has, union}
use Rattle.lxr_graph.specs.History.{PauseReport, report_of}
use Rattle.lxr_graph.proofs.NameSets.{has-without, without_parts}
use Rattle.lxr_image.specs.declared.space.Space.{Space}
use Rattle.lxr_image.specs.declared.space.Tally.{Tally}
use Rattle.lxr_image.specs.Tables.{Tables}
use Rattle.lxr_image.specs.Spaces.{Turns, tables_of}
use Rattle.lxr_image.specs.Reads.{granule_of}
use Rattle.lxr_image.specs.Image.{granules_of}
use Rattle.lxr_image.proofs.TableLaws.{no_state_past}
use Rattle.lxr_blocks.specs.declared.states.BlockState.TheVariants.{Chosen}
use Rattle.lxr_blocks.specs.Lines.{is_free}
use Rattle.lxr_blocks.specs.States.{state_in}
use Rattle.lxr_model.specs.Moments.{Moment, Trace, after_pause, stuck_after, unreclaimed_after}
use Rattle.lxr_model.specs.References.{references}
use Rattle.lxr_model.specs.Reports.{AreCounts, PauseParts, count_entry, is_draining}
use Rattle.lxr_model_counting.specs.Following.{FollowsPause}
use Rattle.lxr_blocks.specs.Swept.{with_states_by_lines}
use Rattle.lxr_invariant.specs.AbstractState.{AbstractState, paused}
use Rattle.lxr_invariant.specs.Copied.{HasCopy}
use Rattle.lxr_invariant.specs.Counting.{IsUndecremented}
use Rattle.lxr_invariant.specs.Lines.{HasBlocks, HasStates, NoneChosen, FreeAreUnused}
use Rattle.lxr_invariant.specs.Tracing.{IsTracedBy}
use Rattle.lxr_invariant.specs.Quiescent.{HasNumbers, HoldsMoment, IsQuiescent}
use Rattle.lxr_invariant.proofs.BlockLemmas.{none_counted}
use Rattle.lxr_invariant.proofs.CopiedLemmas.{apart_still, stay_still}
use Rattle.lxr_invariant.proofs.NameLemmas.{in_either, in_first, in_second}
use Rattle.lxr_invariant.proofs.PlaceLemmas.{same_object}
use Rattle.lxr_one_pause.specs.declared.Ask.{Ask}
use Rattle.lxr_one_pause.specs.declared.Pace.{Pace}
use Rattle.lxr_one_pause.specs.Deciding.{HasKind}
use Rattle.lxr_one_pause.specs.Steps.{CanCountWhere, CountsWhere, with_names_in_order, with_pause_counted}
use Rattle.lxr_one_pause.specs.Settling.{Settles, remaining_by, settled_by}
use Rattle.lxr_one_pause.specs.Pausing.{CanPause, DrawsByKind, IsDrained, IsLetGo, KeepsThroughPause, LeavesRemembered, Pauses, QueuesOldValues, SameRemembered, Traces}
use Rattle.lxr_one_pause.proofs.DrawingLemmas.{draws_told}
use Rattle.lxr_one_pause.specs.Relocating.{ChoosesBlocks, Evacuates, Relocates}
use Rattle.lxr_one_pause.proofs.ReportLemmas.{entries_same, goes_on, moment_then, parts_in_order, reports, reports_with, stuck_then, stuck_told, told, unreclaimed_then}
use Rattle.lxr_one_pause.proofs.OrderLemmas.{has_in_order}
use Rattle.lxr_one_pause.proofs.BlocksLemmas.{chooses_swept}
use Rattle.lxr_invariant.proofs.ToldLemmas.{holds_told, with_report_and_tally}
use Rattle.lxr_one_pause.proofs.FrameLemmas.{AgreesApartFromBlocks, holds_renumbered, holds_reworded, ordered_room, renumbered, rest_reworded, undecremented_renumbered, undecremented_reworded}
use Rattle.lxr_one_pause.proofs.RelocatingLemmas.{evacuates_still, relocates_still}
use Rattle.lxr_one_pause.proofs.RememberedLemmas.{same_both}
use Rattle.lxr_one_pause.proofs.TracedLemmas.{traced_still, traces_still}
use Rattle.lxr_one_pause.proofs.SweepLemmas.{lines_kept, swept_blocks, swept_past, swept_states, was_chosen, swept_free}
use Rattle.lxr_invariant.proofs.UnusedLemmas.{unused_by_lines}

-- a remembered set that stays is left as a pause of its kind leaves it
leaves_swept : (k : Kind) (t u v : Tables) (blocks : ℕ) → SameRemembered u v → LeavesRemembered k t u blocks → LeavesRemembered k t v blocks
leaves_swept kind.Plain t u v blocks same is = λ none. same_both t u v (is none) same
leaves_swept kind.Begin t u v blocks same is = same.cursor ∙ is
leaves_swept (kind.End j) t u v blocks same is = λ none. same_both t u v (is none) same
leaves_swept kind.Collect t u v blocks same is = λ none. same_both t u v (is none) same

-- so is a list of decrements
pub queues_swept : (k : Kind) (s x y : Space) → y.registers ≡ x.registers → (tables_of y).decs ≡ (tables_of x).decs → (tables_of y).cursors DECREMENT_COUNT ≡ (tables_of x).cursors DECREMENT_COUNT → QueuesOldValues k s x → QueuesOldValues k s y
queues_swept kind.Plain s x y registers decs count is = (λ i. first_entries (decs i) (count i)) ∙ is ∙ ap (λ z. old_values (record s { registers = z })) (sym registers)
queues_swept kind.Begin s x y registers decs count is = tt
queues_swept (kind.End j) s x y registers decs count is = tt
queues_swept kind.Collect s x y registers decs count is = tt

-- ---- the end of a pause

module _ (s x : Space) (g : AbstractState) (asked : Ask) (pace : Pace) (can : CanPause s g) (at' : Name → ℕ) (parts : PauseParts) (moved kept : List Name) (settles : Settles s x g at' parts moved kept)
    (is_kind : HasKind (tables_of s) g.moment g.at s.logged.items asked pace x.report.kind)
    (words : List ℕ) (tables : tables_of (record x { words = words }) ≡ with_states_by_lines (tables_of x) x.limits.blocks) where
  abbrev m : Moment
  m = g.moment

  abbrev r : Report
  r = x.report

  abbrev pub leads : Moment
  leads = settled_by m parts r

  abbrev t : Tables
  t = tables_of x

  follows : FollowsPause m
  follows = can.safepoint.holds.follows

  abbrev swept : Space
  swept = record x { words = words }

  -- the space once blocks are swept and names are in order
  abbrev pub in_order : Space
  in_order = record swept { report = with_names_in_order r }

  agree : AgreesApartFromBlocks t (tables_of swept)
  agree = record { states = (with_states_by_lines t x.limits.blocks).states; cursors = t.cursors; tables = tables; drawn = refl; waiting = refl }

  holds_swept : HoldsMoment swept leads at'
  holds_swept = holds_reworded x words x.trace leads leads.number leads.stuck leads.trace at' agree (λ n. refl) refl
      (rest_reworded x words x.trace agree (λ b e. was_chosen t x.limits.blocks b (subst (λ z. state_in z b ≡ Chosen) tables e)) settles.holds.rest.rest)
      (subst (λ z. HasBlocks z x.limits leads.trace) (sym tables) (swept_blocks t x.limits leads.trace settles.holds.blocks))
      (subst (λ z. FreeAreUnused z at' leads.unreclaimed) (sym tables)
      (unused_by_lines t (with_states_by_lines t x.limits.blocks) at' leads.unreclaimed refl (swept_free t x.limits.blocks) settles.undecremented.positive settles.holds.unused)) settles.holds

  swept_undecremented : IsUndecremented (tables_of swept) leads at'
  swept_undecremented = undecremented_reworded x words x.trace leads leads.number leads.stuck leads.trace at' agree (λ n. refl) settles.undecremented

  -- where the pause drained, unreclaimed objects may be counted
  pub can_count : (b : Bool) → IsDrained x b → CanCountWhere b in_order leads at'
  can_count false drained = tt
  can_count true drained = record {
    holds = holds_told swept leads at' (with_names_in_order r) swept.tally swept.pauses (ordered_room r (GRANULES_IN_BLOCK * x.limits.blocks) settles.holds.room.report) holds_swept;
    settled = record { same = refl; none_made = refl; none_written = refl };
    undecremented = swept_undecremented;
    empty = ap (λ z. z.cursors DECREMENT_COUNT) tables ∙ drained;
  }

  -- ---- the counts

  -- the counts that a report must have
  abbrev right : Bool → List Count
  right false = []
  right true = map (count_entry m.state (unreclaimed_after m (told r [])) (union (told r []).stuck m.stuck)) (unreclaimed_after m (told r []))

  right_are : (b : Bool) → AreCounts m (told r (right b)) b
  right_are false = refl
  right_are true = refl

  left_then : unreclaimed_after m (told r []) ≡ leads.unreclaimed
  left_then = unreclaimed_then m r parts (right (is_draining r.kind)) follows settles.tells (right_are (is_draining r.kind))

  -- what is left isn't swept, so it is stuck where it was or became so
  same_stuck : (n : Name) → IsTrue (has leads.unreclaimed n) → has leads.stuck n ≡ has (union (told r []).stuck m.stuck) n
  same_stuck n k =
      let unswept : has r.swept.items n ≡ false = (without_parts _ r.swept.items n (without_parts (remaining_by m parts r) parts.third_dead n k).0).1 in
      has-without (union r.stuck.items m.stuck) r.swept.items n
      ∙ ap (λ b. has (union r.stuck.items m.stuck) n && not b) unswept
      ∙ and_true (has (union r.stuck.items m.stuck) n)
      ∙ sym (stuck_told m r parts [] follows settles.tells n)
    where
      and_true : (b : Bool) → (b && true) ≡ b
      and_true true = refl
      and_true false = refl

  -- the counts of unreclaimed objects are those that the report must have
  pub right_counts : map (count_entry m.state leads.unreclaimed leads.stuck) leads.unreclaimed ≡ map (count_entry m.state (unreclaimed_after m (told r [])) (union (told r []).stuck m.stuck)) (unreclaimed_after m (told r []))
  right_counts =
      entries_same (count_entry m.state leads.unreclaimed leads.stuck) (count_entry m.state leads.unreclaimed (union (told r []).stuck m.stuck)) leads.unreclaimed
      (λ n k. ap (λ b. record { name = n; count = cond b None (Some (references m.state leads.unreclaimed n)) }) (same_stuck n k))
      ∙ ap (λ us. map (count_entry m.state us (union (told r []).stuck m.stuck)) us) (sym left_then)

  module _ (counts : List Count) (counted : (b : Bool) → b ≡ is_draining r.kind → AreCounts m (told r counts) b) where
    afresh : AreCounts m (told r counts) (is_draining r.kind)
    afresh = counted (is_draining r.kind) refl

    abbrev said : PauseReport
    said = told r counts

    abbrev report : Report
    report = record (with_names_in_order r) { counts = record r.counts { items = counts } }

    -- the space at the end of the pause
    abbrev pub at_end : Space
    at_end = with_report_and_tally swept report (record x.tally { pauses = x.tally.pauses + 1 }) (x.pauses + 1)

    abbrev then : Moment
    then = renumbered leads leads.number (stuck_after m said) leads.trace

    moment_is : after_pause m said ≡ then
    moment_is = moment_then m r parts counts follows settles.tells afresh

    stuck_is : (n : Name) → has (stuck_after m said) n ≡ has leads.stuck n
    stuck_is = stuck_then m r parts counts follows settles.tells afresh

    holds_then : HoldsMoment at_end then at'
    holds_then =
        holds_told swept then at' report at_end.tally at_end.pauses
        (record { promoted = settles.holds.room.report.promoted; dead = settles.holds.room.report.dead; stuck = settles.holds.room.report.stuck; swept = settles.holds.room.report.swept; told = settles.holds.room.report.told })
        (holds_renumbered swept leads leads.number (stuck_after m said) leads.trace at' stuck_is refl holds_swept.blocks holds_swept)

    holds : HoldsMoment at_end (after_pause m said) at'
    holds = subst (λ z. HoldsMoment at_end z at') (sym moment_is) holds_then

    undecremented : IsUndecremented (tables_of at_end) (after_pause m said) at'
    undecremented = subst (λ z. IsUndecremented (tables_of at_end) z at') (sym moment_is)
        (undecremented_renumbered leads leads.number (stuck_after m said) leads.trace stuck_is (tables_of at_end) at' swept_undecremented)

    numbers : HasNumbers at_end (paused g at' said)
    numbers = record {
      pauses = ap (λ (y : Space). y.pauses + 1) settles.space ∙ ap (λ k. k + 1) can.safepoint.numbers.pauses ∙ sym settles.tells.number;
      trace = settles.trace ∙ sym (ap (λ (z : Moment). option_map (λ (trace : Trace). trace.began) z.trace) moment_is);
      report = refl;
    }

    traced_then : IsTracedBy x.limits (tables_of at_end) at_end.logged.items (record { moment = then; at = at'; reported = said }) then.trace
    traced_then =
        subst (λ es. IsTracedBy x.limits (tables_of at_end) es (record { moment = then; at = at'; reported = said }) then.trace) (sym settles.no_logs)
        (subst (λ z. IsTracedBy x.limits z [] (record { moment = then; at = at'; reported = said }) then.trace) (sym tables)
        (traced_still x.limits t (with_states_by_lines t x.limits.blocks).states t.cursors [] (record { moment = leads; at = at'; reported = g.reported }) leads.number (stuck_after m said) leads.trace said
        stuck_is (omega arith) refl (was_chosen t x.limits.blocks) leads.trace settles.traced))

    traced : IsTracedBy x.limits (tables_of at_end) at_end.logged.items (paused g at' said) (after_pause m said).trace
    traced = subst (λ z. IsTracedBy x.limits (tables_of at_end) at_end.logged.items (record { moment = z; at = at'; reported = said }) z.trace) (sym moment_is) traced_then

    left_is : (after_pause m said).unreclaimed ≡ leads.unreclaimed
    left_is = ap (λ (z : Moment). z.unreclaimed) moment_is

    same_blocks : x.limits.blocks ≡ s.limits.blocks
    same_blocks = ap (λ (y : Space). y.limits.blocks) settles.space

    -- ---- lines that are out, and blocks

    outs : (line : ℕ) → IsTrue ((tables_of at_end).outs line) ↔ HasCopy m.state.graph g.at at' moved line
    outs line = ((λ out. (settles.outs line).0 (sym (ap (λ z. z.outs line) tables) ∙ out)), (λ copy. ap (λ z. z.outs line) tables ∙ (settles.outs line).1 copy))

    chosen : ChoosesBlocks r.kind (tables_of s) (tables_of at_end) s.limits
    chosen = subst (λ z. ChoosesBlocks r.kind (tables_of s) z s.limits) (sym tables)
        (subst (λ n. ChoosesBlocks r.kind (tables_of s) (with_states_by_lines t n) s.limits) (sym same_blocks) (chooses_swept r.kind (tables_of s) t s.limits settles.chosen))

    moved_stays : (n : Name) → IsTrue (has moved n) → IsTrue (has leads.unreclaimed n)
    moved_stays n h = ((settles.evacuates.moved_are.members n).0 h).0.stays

    -- a line that is out has a moved object, and once a trace has ended, no block is Chosen
    out_outside : (line : ℕ) → IsTrue ((tables_of at_end).outs line) → state_in (tables_of at_end) (line / LINES_IN_BLOCK) ≢ Chosen
    out_outside line out =
        let copy = (outs line).0 out in
        let ends = ((settles.evacuates.moved_are.members copy.name).0 copy.promoted_is).0.ends in
        let none : NoneChosen (tables_of at_end) s.limits.blocks = subst (λ k. ChoosesBlocks k (tables_of s) (tables_of at_end) s.limits) ends.1 chosen in
        let there = settles.holds.image.image.stands copy.name (in_first leads.unreclaimed [] copy.name (moved_stays copy.name copy.promoted_is)) in
        let same = same_object m.state.graph copy.name there.0 copy.object there.1 copy.covers.object in
        let fits : granule_of (at' copy.name) + granules_of copy.object ≤ GRANULES_IN_BLOCK * s.limits.blocks =
        subst (λ n. granule_of (at' copy.name) + granules_of copy.object ≤ GRANULES_IN_BLOCK * n) same_blocks
        (subst (λ o. granule_of (at' copy.name) + granules_of o ≤ GRANULES_IN_BLOCK * x.limits.blocks) same there.2.whole.in_heap) in
        let behind = copy.covers.behind in
        let here = copy.line_is in
        none_counted (tables_of at_end) s.limits.blocks (line / LINES_IN_BLOCK) none (omega (arith, fits, behind, here))

    between : IsQuiescent at_end (paused g at' said)
    between = record {
      safepoint = record { holds = holds; numbers = numbers; traced = traced };
      unwritten = refl;
      undecremented = undecremented;
      lines = λ n o k member. lines_kept (tables_of at_end) m.state.graph at' (after_pause m said).unreclaimed holds.marks undecremented.positive n o k
          (subst (λ ns. IsTrue (has ns n)) (append-nil (after_pause m said).unreclaimed) member);
      outs = record {
        taken = λ line out.
            let copy = (outs line).0 out in
            let member : IsTrue (has (after_pause m said).unreclaimed copy.name) = subst (λ ns. IsTrue (has ns copy.name)) (sym left_is) (moved_stays copy.name copy.promoted_is) in
            (copy.name, copy.object, copy.granule, in_first (after_pause m said).unreclaimed [] copy.name member, copy.covers, copy.line_is);
        outside = out_outside;
      };
      states = subst (λ z. HasStates z x.limits.blocks) (sym tables) (swept_states t x.limits.blocks);
    }

    -- past the last block no state is told
    past : (b : ℕ) → s.limits.blocks ≤ b → t.states b ≡ (tables_of s).states b
    past b high =
        no_state_past x.limits x.words b settles.holds.space.size (subst (λ n. n ≤ b) (sym same_blocks) high)
        ∙ sym (no_state_past s.limits s.words b can.safepoint.holds.space.size high)

    are_past : (b : ℕ) → s.limits.blocks ≤ b → (with_states_by_lines t x.limits.blocks).states b ≡ t.states b
    are_past b high = swept_past t x.limits.blocks b (subst (λ n. n ≤ b) (sym same_blocks) high)

    keeps : KeepsThroughPause (tables_of s) (tables_of at_end)
    keeps = record {
      runs = ap (λ z. z.runs) tables ∙ settles.keeps.runs;
      frees = ap (λ z. z.frees) tables ∙ settles.keeps.frees;
      cursors = λ k a b c d. ap (λ z. z.cursors k) tables ∙ settles.keeps.cursors k a b c d;
    }

    -- where nothing waits, nothing does after the sweep of lines
    drained_by : (b : Bool) → IsDrained x b → IsDrained at_end b
    drained_by false is = tt
    drained_by true none = ap (λ z. z.cursors DECREMENT_COUNT) tables ∙ none

    -- ---- lines, whatever the states of blocks and the order of names

    line_was_free : (line : ℕ) → ¬ IsLetGo g at' said line → IsTrue (is_free (record (tables_of at_end) { outs = (tables_of s).outs }) line) → IsTrue (is_free (record t { outs = (tables_of s).outs }) line)
    line_was_free line kept free = subst (λ z. IsTrue (is_free (record z { outs = (tables_of s).outs }) line)) tables free

    -- what is reclaimed is so in whatever order its names are told
    let_go_told : (line : ℕ) → IsLetGo g at' (report_of r) line → IsLetGo g at' said line
    let_go_told line (n, o, k, gone, alive, covers, is) = (
      n,
      o,
      k,
      elim (in_either r.dead.items r.swept.items n gone) [
        | inl d ↦ in_first said.dead said.swept n (has_in_order r.dead.items n ∙ d)
        | inr w ↦ in_second said.dead said.swept n (has_in_order r.swept.items n ∙ w)
      ],
      alive,
      covers,
      is,
    )

    pub pauses_at_end : Pauses s at_end g at' asked pace
    pauses_at_end = record {
      kind = is_kind;
      reports = reports m r parts counts follows settles.tells afresh;
      between = between;
      moved = moved;
      kept = kept;
      evacuates = subst (λ ns. Evacuates s at_end g at' ns moved kept) (sym left_is)
          (evacuates_still s x at_end g at' leads.unreclaimed (with_states_by_lines t x.limits.blocks).states tables moved kept refl refl (goes_on m r parts counts follows settles.tells m.trace) settles.evacuates);
      tally = ap (λ (t : Tally). record t { pauses = t.pauses + 1 }) settles.tally;
      relocates = subst (λ ns. Relocates s at_end g at' ns said.promoted moved) (sym left_is)
          (relocates_still s x at_end g at' leads.unreclaimed (with_states_by_lines t x.limits.blocks).states tables r.promoted.items said.promoted moved (has_in_order r.promoted.items) settles.relocates);
      apart = apart_still s g at' r.promoted.items said.promoted (has_in_order r.promoted.items) settles.apart;
      stay = stay_still (tables_of s) t (tables_of s) (tables_of at_end) s.limits.blocks m g.at at' r.promoted.items said.promoted (IsLetGo g at' (report_of r)) (IsLetGo g at' said) (has_in_order r.promoted.items)
          refl line_was_free let_go_told settles.stay;
      keeps = keeps;
      remembered = leaves_swept r.kind (tables_of s) t (tables_of at_end) s.limits.blocks (record { entries = ap (λ z. z.remembered) tables; cursor = ap (λ z. z.cursors REMEMBERED_CURSOR) tables }) settles.remembered;
      draws = (
        parts_in_order parts,
        reports_with m r parts counts follows settles.tells afresh,
        subst (DrawsByKind r.kind s g (parts_in_order parts) said ((tables_of s).cursors REMEMBERED_CURSOR)) (sym (ap (λ z. z.cursors REMEMBERED_CURSOR) tables))
            (draws_told s g parts (parts_in_order parts) (report_of r) said (has_in_order r.promoted.items) (has_in_order r.swept.items) (has_in_order parts.first_dead) (has_in_order parts.second_dead) r.kind ((tables_of s).cursors REMEMBERED_CURSOR)
            (t.cursors REMEMBERED_CURSOR) settles.draws),
      );
      queues = queues_swept r.kind s x at_end refl (ap (λ z. z.decs) tables) (ap (λ z. z.cursors DECREMENT_COUNT) tables) settles.queues;
      drained = drained_by (is_draining r.kind) settles.drained;
      outs = outs;
      no_rest = settles.no_rest;
      chosen = chosen;
      beyond = λ b high. ap (λ z. z.states b) tables ∙ are_past b high ∙ past b high;
      traces = subst (λ ns. Traces r.kind m.trace s at_end g at' said ns) (sym left_is)
          (traces_still s x at_end g at' (report_of r) said leads.unreclaimed (ap (λ z. z.marks) tables) (ap (λ z. z.grays) tables) (has_in_order r.promoted.items) (has_in_order r.dead.items) r.kind m.trace settles.traces);
      space = ap (λ (y : Space). record y {
        words = words;
        registers = record y.registers { items = x.registers.items };
        deferred = x.deferred;
        logged = x.logged;
        report = report;
        rest_next = x.rest_next;
        rest_end = x.rest_end;
        pauses = y.pauses + 1;
        tally = at_end.tally;
        trace = x.trace;
      }) settles.space;
    }

-- ---- a pause was made, however its space came about

module _ (s x swept : Space) (report : Report) (g : AbstractState) (asked : Ask) (pace : Pace) (can : CanPause s g) (at' : Name → ℕ) (parts : PauseParts) (moved kept : List Name) (settles : Settles s x g at' parts moved kept) (k : Kind) (same_kind : x.report.kind ≡ k)
    (is_kind : HasKind (tables_of s) g.moment g.at s.logged.items asked pace k) (turns : Turns x swept (with_states_by_lines (tables_of x) x.limits.blocks))
    (orders : report ≡ with_names_in_order swept.report) where
  own_kind : HasKind (tables_of s) g.moment g.at s.logged.items asked pace x.report.kind
  own_kind = subst (HasKind (tables_of s) g.moment g.at s.logged.items asked pace) (sym same_kind) is_kind

  swept_tables : tables_of (record x { words = swept.words }) ≡ with_states_by_lines (tables_of x) x.limits.blocks
  swept_tables = subst (λ y. tables_of y ≡ with_states_by_lines (tables_of x) x.limits.blocks) turns.rest turns.tables

  -- the space with its names in order
  abbrev sorted : Space
  sorted = record swept { report = report }

  sorted_is : sorted ≡ in_order s x g asked pace can at' parts moved kept settles own_kind swept.words swept_tables
  sorted_is = ap (λ r. record swept { report = r }) orders ∙ ap (λ (y : Space). record y { report = with_names_in_order y.report }) turns.rest

  abbrev pub leads_to : Moment
  leads_to = settled_by g.moment parts x.report

  pub can_count_sorted : CanCountWhere (is_draining k) sorted leads_to at'
  can_count_sorted = subst (λ y. CanCountWhere (is_draining k) y leads_to at') (sym sorted_is)
      (can_count s x g asked pace can at' parts moved kept settles own_kind swept.words swept_tables (is_draining k) (subst (λ q. IsDrained x (is_draining q)) same_kind settles.drained))

  module _ (z counted : Space) (counts : CountsWhere (is_draining k) sorted z leads_to) (ends : counted ≡ with_pause_counted z) where
    told_by : (b : Bool) → CountsWhere b sorted z leads_to → AreCounts g.moment (told x.report z.report.counts.items) b
    told_by false same =
        ap (λ (y : Space). y.report.counts.items) same
        ∙ ap (λ (y : Space). y.report.counts.items) sorted_is
        ∙ settles.tells.counts
    told_by true is = is.counts ∙ right_counts s x g asked pace can at' parts moved kept settles own_kind swept.words swept_tables

    counted_is : (b : Bool) → CountsWhere b sorted z leads_to → z ≡ record sorted { report = record sorted.report { counts = record sorted.report.counts { items = z.report.counts.items } } }
    counted_is false same = same ∙ ap (λ (y : Space). record sorted { report = record sorted.report { counts = record sorted.report.counts { items = y.report.counts.items } } }) (sym same)
    counted_is true is = is.space

    afresh_by : (b : Bool) → b ≡ is_draining x.report.kind → AreCounts g.moment (told x.report z.report.counts.items) b
    afresh_by b e = told_by b (subst (λ c. CountsWhere c sorted z leads_to) (sym (e ∙ ap is_draining same_kind)) counts)

    ends_at : counted ≡ at_end s x g asked pace can at' parts moved kept settles own_kind swept.words swept_tables z.report.counts.items afresh_by
    ends_at =
        ends
        ∙ ap with_pause_counted (counted_is (is_draining k) counts)
        ∙ ap (λ (y : Space). with_pause_counted (record y { report = record y.report { counts = record y.report.counts { items = z.report.counts.items } } })) sorted_is

    -- and nothing is told yet
    pub nothing_told : counted.report.told.items ≡ []
    nothing_told = ap (λ (y : Space). y.report.told.items) ends_at ∙ settles.tells.told

    pub pauses : Pauses s counted g at' asked pace
    pauses = subst (λ y. Pauses s y g at' asked pace) (sym ends_at)
        (pauses_at_end s x g asked pace can at' parts moved kept settles own_kind swept.words swept_tables z.report.counts.items afresh_by)

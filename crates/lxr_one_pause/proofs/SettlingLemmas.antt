-- Each step of counting finds what it asks for, and once roots are deferred, counting is done: a trace that runs goes on.
use Rattle.std.proofs.Common.{◌≡◌, ℕ, ◌+◌, ◌*◌, ◌^◌, ◌≤◌, refl, sym, ap, subst, ◌∙◌, arith, List, [], ◌++◌, IsTrue, length}
use Rattle.std.specs.Prelude.{◌↔◌, Option, Some, None}
use Rattle.lxr_pause_queue.specs.OldValues.{decrement_list, dropped_values, first_entries, logged_values, old_values, without_nil}
use Rattle.lxr_layout.specs.declared.TheConstants.{GRANULES_IN_BLOCK, REMEMBERED_CURSOR}
use Rattle.lxr_layout.specs.declared.limits.Limits.{Limits}
use Rattle.lxr_layout.specs.declared.Name.{Name}
use Rattle.lxr_graph.specs.declared.report.Kind.TheVariants as kind
use Rattle.lxr_graph.specs.Names.{has, without}
use Rattle.lxr_graph.specs.History.{PauseReport, report_of}
use Rattle.lxr_graph.proofs.NameSets.{in_without}
use Rattle.lxr_image.specs.declared.space.Space.{Space}
use Rattle.lxr_image.specs.Tables.{Tables}
use Rattle.lxr_image.specs.Spaces.{tables_of}
use Rattle.lxr_blocks.specs.Lines.{is_free}
use Rattle.lxr_model.specs.Dead.{Dead}
use Rattle.lxr_model.specs.Moments.{Moment, Trace, going_on}
use Rattle.lxr_invariant.specs.AbstractState.{AbstractState, leaving}
use Rattle.lxr_invariant.specs.Counting.{IsUndecremented}
use Rattle.lxr_invariant.specs.Copied.{CopiesPromoted, StayForWantOfLines, standing}
use Rattle.lxr_invariant.specs.Keeping.{KeepsLists, KeepsListsAndCounters}
use Rattle.lxr_invariant.specs.Lines.{HasBlocks, NoneChosen}
use Rattle.lxr_invariant.specs.Quiescent.{HoldsMoment}
use Rattle.lxr_invariant.specs.Raised.{IsRaised, settled}
use Rattle.lxr_invariant.specs.Tracing.{IsTracedBy, TraceHolds}
use Rattle.lxr_invariant.proofs.EntryLemmas.{passing_few}
use Rattle.lxr_invariant.proofs.BlockLemmas.{keeps_state_still}
use Rattle.lxr_invariant.proofs.CopiedLemmas.{copies_still, free_alike, stay_still}
use Rattle.lxr_invariant.proofs.FrameLemmas.{chosen_still, unchosen_still}
use Rattle.lxr_invariant.proofs.KeepingLemmas.{keeps_both, keeps_same}
use Rattle.lxr_invariant.proofs.LandingLemmas.{copies_apart}
use Rattle.lxr_remset.specs.Remembering.{with_remembered_of}
use Rattle.lxr_pause_decrements.specs.Finishing.{CanFinish, Finishes, FinishesGrays, HandledAreTraced}
use Rattle.lxr_pause_increments.specs.Raising.{CanRaise, Raises, RaisesGrays, RaisesMarks}
use Rattle.lxr_pause_queue.specs.Queueing.{Queues, with_roots_deferred}
use Rattle.lxr_pause_trace_laws.specs.Laws.{AllGrayAreMarked, NothingIsLeft, at_moment}
use Rattle.lxr_pause_trace_laws.proofs.CountingLemmas.{counting_keeps}
use Rattle.lxr_pause_trace_laws.proofs.FinishingLemmas.{finishing_keeps}
use Rattle.lxr_pause_trace_laws.proofs.TellingLemmas.{marks_tell}
use Rattle.lxr_one_pause.specs.Steps.{begun, with_report_begun}
use Rattle.lxr_one_pause.specs.Settling.{SettlesCounts, TellsCounts, TellsTheEnd, counted}
use Rattle.lxr_one_pause.specs.Pausing.{CanPause, DrawsFor, IsToRaise, KeepsObjects, SameRemembered, Traces}
use Rattle.lxr_one_pause.proofs.DrawingLemmas.{into_chosen}
use Rattle.lxr_invariant.proofs.ToldLemmas.{holds_told}
use Rattle.lxr_one_pause.proofs.FrameLemmas.{begun_room, holds_renumbered, undecremented_renumbered}
use Rattle.lxr_one_pause.proofs.GoingOnLemmas.{traces_on}
use Rattle.lxr_one_pause.proofs.RememberedLemmas.{can_remember, keeps_remembered, remember_still, same_both, same_kept, same_told}
use Rattle.lxr_one_pause.proofs.TracedLemmas.{trace_still}

-- a space with what counting changes taken from another
abbrev settled_as : Space → Space → Space
settled_as x y = record x {
  words = y.words;
  registers = record x.registers { items = y.registers.items };
  deferred = y.deferred;
  logged = y.logged;
  report = y.report;
  rest_next = y.rest_next;
  rest_end = y.rest_end;
}

-- what was handled while a trace runs made gray what it referred to
handled_by : (s : Space) (g : AbstractState) (trace : Option Trace) → IsTracedBy s.limits (tables_of s) s.logged.items g trace → HandledAreTraced (tables_of s) g.moment g.at trace
handled_by s g None is = tt
handled_by s g (Some trace) is = is.handled

-- pauses can be counted
pub few_paused : (s : Space) (g : AbstractState) → CanPause s g → g.moment.number + 1 ≤ 2 ^ 32
few_paused s g can =
    let few = can.counted.0 in
    let same = can.safepoint.numbers.pauses in
    omega (arith, few, same)

-- blocks stay as they are asked for where a trace goes on
blocks_on : (t : Tables) (l : Limits) (m : Moment) (r : PauseReport) (trace : Option Trace) → HasBlocks t l trace → HasBlocks t l (going_on m r trace)
blocks_on t l m r None is = is
blocks_on t l m r (Some trace) is = record { world = is.world; others = is.others; few = is.few; chosen = tt; tracing = is.tracing }

module _ (s began : Space) (g : AbstractState) (can : CanPause s g) (begins : began ≡ with_report_begun s) where
  abbrev m : Moment
  m = g.moment

  -- once the report has begun, decrements may be finished
  pub can_finish : CanFinish began g.moment g.at
  can_finish = subst (λ x. CanFinish x g.moment g.at) (sym begins) (record {
    holds = holds_told s g.moment g.at (begun s.report (s.pauses + 1)) s.tally s.pauses (begun_room s.report (s.pauses + 1) (GRANULES_IN_BLOCK * s.limits.blocks) can.safepoint.holds.room.report) can.safepoint.holds;
    handled = handled_by s g g.moment.trace can.safepoint.traced;
    room = (let e = can.safepoint.holds.room.report.dead in let few = passing_few (tables_of s).starts (GRANULES_IN_BLOCK * s.limits.blocks) in omega (arith, e, few));
  })

  module _ (finished : Space) (finishes : (m : Moment) (at : Name → ℕ) → CanFinish began m at → (gone : List Name) × Finishes began finished m at gone) where
    -- the names that are gone, and the moment without them
    abbrev pub gone : List Name
    gone = (finishes g.moment g.at can_finish).0

    abbrev pub left : Moment
    left = leaving g.moment (without g.moment.unreclaimed gone)

    finish : Finishes began finished g.moment g.at gone
    finish = (finishes g.moment g.at can_finish).1

    -- once they are, counts may be raised
    pub can_raise : CanRaise finished left g.at
    can_raise = record {
      holds = finish.holds;
      undecremented = finish.undecremented;
      empty = finish.empty;
      none_promoted = ap (λ (x : Space). x.report.promoted.items) finish.space ∙ ap (λ (x : Space). x.report.promoted.items) begins;
      none_stuck = ap (λ (x : Space). x.report.stuck.items) finish.space ∙ ap (λ (x : Space). x.report.stuck.items) begins;
      remembers = remember_still (tables_of s) (tables_of finished) m.trace
          (finish.keeps.cursors REMEMBERED_CURSOR (λ e. cc) (λ e. cc) ∙ ap (λ (x : Space). (tables_of x).cursors REMEMBERED_CURSOR) begins)
          (can_remember s.limits (tables_of s) s.logged.items g m.trace can.safepoint.holds.space.limits (few_paused s g can) can.safepoint.traced);
    }

    module _ (raised : Space) (raises : (m : Moment) (at : Name → ℕ) → CanRaise finished m at → (at' : Name → ℕ) × Raises finished raised m at at') where
      -- where objects stand then
      abbrev pub at' : Name → ℕ
      at' = (raises left g.at can_raise).0

      raise : Raises finished raised left g.at at'
      raise = (raises left g.at can_raise).1

      -- then decrements may be queued
      pub is_raised : IsRaised raised left at' raised.report.promoted.items raised.report.stuck.items
      is_raised = raise.raised

      gone_are : raised.report.dead.items ≡ gone
      gone_are =
          ap (λ (x : Space). x.report.dead.items) raise.space
          ∙ ap (λ (x : Space). x.report.dead.items) finish.space
          ∙ ap (λ (x : Space). x.report.dead.items ++ gone) begins

      tells_raised : TellsCounts raised.report g.moment gone
      tells_raised = record {
        number = ap (λ (x : Space). x.report.number) raise.space ∙ ap (λ (x : Space). x.report.number) finish.space ∙ ap (λ (x : Space). x.report.number) begins ∙ ap (λ k. k + 1) can.safepoint.numbers.pauses;
        dead = gone_are;
        are_dead = finish.dead;
        once = finish.once;
        raised = raise.raised.raised;
        swept = ap (λ (x : Space). x.report.swept.items) raise.space ∙ ap (λ (x : Space). x.report.swept.items) finish.space ∙ ap (λ (x : Space). x.report.swept.items) begins;
        counts = ap (λ (x : Space). x.report.counts.items) raise.space ∙ ap (λ (x : Space). x.report.counts.items) finish.space ∙ ap (λ (x : Space). x.report.counts.items) begins;
        told = ap (λ (x : Space). x.report.told.items) raise.space ∙ ap (λ (x : Space). x.report.told.items) finish.space ∙ ap (λ (x : Space). x.report.told.items) begins;
      }

      few_gone : length raised.report.dead.items ≤ GRANULES_IN_BLOCK * raised.limits.blocks
      few_gone =
          let e = ap (λ (ns : List Name). length ns) gone_are in
          let fewer = finish.fewer in
          let few = passing_few (tables_of began).starts (GRANULES_IN_BLOCK * began.limits.blocks) in
          let same = ap (λ (x : Space). x.limits.blocks) raise.space ∙ ap (λ (x : Space). x.limits.blocks) finish.space in
          omega (arith, e, fewer, few, same)

      module _ (queued : Space) (queues : (m : Moment) (at : Name → ℕ) (promoted stuck : List Name) → IsRaised raised m at promoted stuck → Queues raised queued m at promoted stuck) where
        queue : Queues raised queued left at' raised.report.promoted.items raised.report.stuck.items
        queue = queues left at' raised.report.promoted.items raised.report.stuck.items is_raised

        -- there are as many registers as deferred ones, of which a thread may name as many
        pub registers_as_many : length queued.registers.items ≡ length queued.deferred.items
        registers_as_many =
            let now = ap (λ (x : Space). length x.registers.items) queue.space in
            let last = ap (λ (x : Space). length x.deferred.items) queue.space in
            let many = is_raised.as_many in
            omega (arith, now, last, many)

        pub registers_width : queued.registers.width ≡ queued.deferred.width
        registers_width = queue.holds.room.registers ∙ sym queue.holds.room.deferred

        -- the moment once counting is done
        abbrev done : Moment
        done = counted m gone raised.report

        holds_done : HoldsMoment (with_roots_deferred queued) done at'
        holds_done =
            holds_renumbered (with_roots_deferred queued) (settled left raised.report.promoted.items raised.report.stuck.items) done.number done.stuck done.trace at' (λ n. refl) refl
            (blocks_on (tables_of queued) queued.limits m (report_of raised.report) m.trace queue.holds.blocks) queue.holds

        undecremented_done : IsUndecremented (tables_of queued) done at'
        undecremented_done = undecremented_renumbered (settled left raised.report.promoted.items raised.report.stuck.items) done.number done.stuck done.trace (λ n. refl) (tables_of queued) at' queue.undecremented

        -- a trace that runs goes on
        traced_done : (trace : Option Trace) → g.moment.trace ≡ trace → KeepsObjects m trace → IsTracedBy s.limits (tables_of s) s.logged.items g trace
            → IsTracedBy queued.limits (tables_of queued) [] (at_moment (standing g at') done) (going_on m (report_of raised.report) trace)
        traced_done None runs objects is = tt
        traced_done (Some trace) runs objects is =
            let first : TraceHolds began.limits (tables_of began) began.logged.items g trace = subst (λ x. TraceHolds x.limits (tables_of x) x.logged.items g trace) (sym begins) is in
            let second = finishing_keeps began finished g trace gone can_finish.holds runs first finish in
            let third = counting_keeps finished raised queued (at_moment g left) at' trace finish.holds runs objects.0 second raise queue in
            trace_still queued.limits (tables_of queued) (tables_of queued).states (tables_of queued).cursors [] _ done.number done.stuck done.trace g.reported (λ n. refl) (omega arith) refl (λ b c. c) _ third

        -- what is gray then tells whether anything was left to trace
        tells_done : (trace : Option Trace) → g.moment.trace ≡ trace → TellsTheEnd s queued g gone trace
        tells_done None runs = tt
        tells_done (Some trace) runs =
            let tells = marks_tell began finished raised m g.at at' gone trace can_finish.holds runs finish raise in
            let same : (tables_of queued).grays ≡ (tables_of raised).grays = ap (λ t. t.grays) queue.tables in
            let still : (tables_of queued).marks ≡ (tables_of raised).marks = ap (λ t. t.marks) queue.tables in
            subst (λ x. AllGrayAreMarked (tables_of queued) ↔ NothingIsLeft (tables_of x) m g.at x.logged.items gone) begins
            ((λ all. tells.0 (λ k h. sym (ap (λ f. f k) still) ∙ all k (ap (λ f. f k) same ∙ h))), (λ none k h. ap (λ f. f k) still ∙ tells.1 none k (sym (ap (λ f. f k) same) ∙ h)))

        traces_done : (trace : Option Trace) → g.moment.trace ≡ trace → Traces kind.Plain trace s queued g at' (report_of raised.report) done.unreclaimed
        traces_done trace runs = back trace
            (traces_on began finished raised queued g at' gone can_finish.holds finish raise (ap (λ (x : Space). x.logged.items) finish.space) (ap (λ t. t.marks) queue.tables) (ap (λ t. t.grays) queue.tables)
            (report_of raised.report) gone_are refl trace
            (subst (λ o. FinishesGrays o (tables_of began).grays (tables_of finished).grays m g.at gone) runs finish.grays)
            (subst (λ o. RaisesMarks o (tables_of finished).marks (tables_of raised).marks at' raised.report.promoted.items) runs raise.marks)
            (subst (λ o. RaisesGrays o (tables_of finished).grays (tables_of raised).grays finished.logged.items) runs raise.grays))
          where
            back : (trace : Option Trace) → Traces kind.Plain trace began queued g at' (report_of raised.report) done.unreclaimed → Traces kind.Plain trace s queued g at' (report_of raised.report) done.unreclaimed
            back None is =
                let a = subst (λ x. Traces kind.Plain None x queued g at' (report_of raised.report) done.unreclaimed) begins is in
                record { marks = record { reclaimed = a.marks.reclaimed; others = a.marks.others }; grays = record { reclaimed = a.grays.reclaimed; others = a.grays.others } }
            back (Some trace) is =
                let a = subst (λ x. Traces kind.Plain (Some trace) x queued g at' (report_of raised.report) done.unreclaimed) begins is in
                record { marks = a.marks; grays = a.grays }

        module _ (deferred : Space) (defers : deferred ≡ with_roots_deferred queued) where
          same_report : deferred.report ≡ raised.report
          same_report = ap (λ (x : Space). x.report) defers ∙ ap (λ (x : Space). x.report) queue.space

          -- what comes before increments and behind them keeps lists and counters, and increments keep lists
          kept_before : KeepsListsAndCounters (tables_of s) (tables_of finished)
          kept_before = keeps_both (tables_of s) (tables_of began) (tables_of finished) (keeps_same (tables_of s) (tables_of began) (ap tables_of begins)) finish.keeps

          kept : KeepsLists (with_remembered_of (tables_of s) (tables_of queued)) (tables_of queued)
          kept = keeps_remembered (tables_of s) (tables_of finished) (tables_of raised) (tables_of queued) kept_before raise.keeps queue.keeps

          same_states : (tables_of finished).states ≡ (tables_of s).states
          same_states = finish.states ∙ ap (λ (x : Space). (tables_of x).states) begins

          same_outs : (tables_of finished).outs ≡ (tables_of s).outs
          same_outs = finish.outs ∙ ap (λ (x : Space). (tables_of x).outs) begins

          queued_states : (tables_of queued).states ≡ (tables_of raised).states
          queued_states = ap (λ (t : Tables). t.states) queue.tables

          same_blocks : finished.limits.blocks ≡ s.limits.blocks
          same_blocks = ap (λ (x : Space). x.limits.blocks) finish.space ∙ ap (λ (x : Space). x.limits.blocks) begins

          -- where no block is Chosen, nothing is remembered
          remembered : NoneChosen (tables_of s) s.limits.blocks → SameRemembered (tables_of s) (tables_of queued)
          remembered none =
              let there : NoneChosen (tables_of finished) finished.limits.blocks =
              chosen_still (tables_of s) (tables_of finished) finished.limits.blocks same_states ∙ subst (λ n. NoneChosen (tables_of s) n) (sym same_blocks) none in
              same_both (tables_of s) (tables_of finished) (tables_of queued) (same_kept (tables_of s) (tables_of finished) kept_before)
              (same_both (tables_of finished) (tables_of raised) (tables_of queued) (same_told (tables_of finished) (tables_of raised) (raise.remembers.idle there)) (same_kept (tables_of raised) (tables_of queued) queue.keeps))

          -- the old values that were queued are those of the space as the pause began, with registers as they are now
          queued_values : decrement_list (tables_of queued) ≡ old_values (record s { registers = queued.registers })
          queued_values =
              let none = raise.raised.decrements.1 in
              let logs : raised.logged.items ≡ s.logged.items = ap (λ (x : Space). x.logged.items) raise.space ∙ ap (λ (x : Space). x.logged.items) finish.space ∙ ap (λ (x : Space). x.logged.items) begins in
              let held : raised.deferred.items ≡ s.deferred.items = ap (λ (x : Space). x.deferred.items) raise.space ∙ ap (λ (x : Space). x.deferred.items) finish.space ∙ ap (λ (x : Space). x.deferred.items) begins in
              let registers : raised.registers.items ≡ queued.registers.items = sym (ap (λ (x : Space). x.registers.items) queue.space) in
              queue.decrements
              ∙ ap (λ n. first_entries (tables_of raised).decs n ++ old_values raised) none
              ∙ (λ i. without_nil (logged_values (logs i)) ++ without_nil (dropped_values (held i) (registers i)))

          -- one number was drawn for each reference that increments entered
          drawn : DrawsFor s g (IsToRaise g (report_of raised.report)) ((tables_of s).cursors REMEMBERED_CURSOR) ((tables_of queued).cursors REMEMBERED_CURSOR)
          drawn = record {
            entered = raise.entered.entered;
            are = into_chosen finished.limits s g (tables_of raised) left at' raised.report.promoted.items _ (IsToRaise g (report_of raised.report)) ((tables_of finished).cursors REMEMBERED_CURSOR) raise.entered.entered refl
                (λ b. keeps_state_still (tables_of finished) (tables_of raised) (tables_of s) (tables_of raised) b (sym same_states) refl (raise.states b)) raise.unchosen raise.copies.others (λ n i one. one) raise.entered.are;
            drawn =
                let before = kept_before.cursors REMEMBERED_CURSOR (λ e. cc) (λ e. cc) in
                let after = queue.keeps.cursors REMEMBERED_CURSOR (λ e. cc) (λ e. cc) in
                let entered = raise.entered.drawn in
                omega (arith, before, after, entered);
          }

          copied : CopiesPromoted (tables_of s) (tables_of queued) m g.at at' raised.report.promoted.items
          copied =
              copies_still (tables_of finished) (tables_of raised) (tables_of s) (tables_of queued) m (without m.unreclaimed gone) g.at at' raised.report.promoted.items raised.report.promoted.items
              (sym kept_before.heap) (sym kept_before.reuse) (sym same_outs) queue.keeps.heap queue.keeps.reuse (λ n. refl) raise.copies

          same_rest : (finished.rest_next ≡ s.rest_next) × (finished.rest_end ≡ s.rest_end)
          same_rest = (
            ap (λ (x : Space). x.rest_next) finish.space ∙ ap (λ (x : Space). x.rest_next) begins,
            ap (λ (x : Space). x.rest_end) finish.space ∙ ap (λ (x : Space). x.rest_end) begins,
          )

          lives_on : (n : Name) → IsTrue (has m.unreclaimed n) → ¬ Dead m.last m.unreclaimed m.stuck n → IsTrue (has left.unreclaimed n)
          lives_on n member alive = in_without m.unreclaimed gone n member (λ d. alive ((finish.dead n).0 d))

          -- a line that is free was so right after the increments
          was_free : (line : ℕ) → IsTrue (is_free (record (tables_of queued) { outs = (tables_of s).outs }) line) → IsTrue (is_free (record (tables_of raised) { outs = (tables_of finished).outs }) line)
          was_free line = free_alike (record (tables_of raised) { outs = (tables_of finished).outs }) (record (tables_of queued) { outs = (tables_of s).outs }) line (sym same_outs)
              (ap (λ (t : Tables). t.counts) queue.tables)

          stays : StayForWantOfLines (tables_of s) (tables_of queued) s.limits.blocks m g.at at' raised.report.promoted.items (λ line. ⊥)
          stays =
              stay_still (tables_of finished) (tables_of raised) (tables_of s) (tables_of queued) s.limits.blocks m g.at at' raised.report.promoted.items raised.report.promoted.items (λ line. ⊥) (λ line. ⊥) (λ n. refl)
              (sym same_states) (λ line kept_line free. was_free line free) (λ line never. never)
              (subst (λ n. StayForWantOfLines (tables_of finished) (tables_of raised) n m g.at at' raised.report.promoted.items (λ line. ⊥)) same_blocks raise.stay)

          -- what was settled, with the report as it was after the increments
          settled_there : SettlesCounts s (record (with_roots_deferred queued) { report = raised.report }) g at' gone
          settled_there = record {
            tells = tells_raised;
            holds = subst (λ r. HoldsMoment (record (with_roots_deferred queued) { report = r }) done at') (ap (λ (x : Space). x.report) queue.space) holds_done;
            undecremented = undecremented_done;
            copies = copied;
            apart = copies_apart s finished g left.unreclaimed at' raised.report.promoted.items finish.holds finish.undecremented lives_on same_outs same_rest.0 same_rest.1 raise.onto;
            unchosen = unchosen_still (tables_of raised) (tables_of queued) at' raised.report.promoted.items queued_states raise.unchosen;
            stay = stays;
            traced = traced_done g.moment.trace refl can.objects can.safepoint.traced;
            tells_the_end = end_told g.moment.trace (tells_done g.moment.trace refl);
            queues = queued_values;
            few_dead = subst (λ l. length raised.report.dead.items ≤ GRANULES_IN_BLOCK * l.blocks) (sym (ap (λ (x : Space). x.limits) queue.space)) few_gone;
            no_logs = ap (λ (x : Space). x.logged.items) queue.space;
            none_out = queue.none_out;
            no_rest =
                (ap (λ (x : Space). x.rest_next) queue.space ∙ ap (λ (x : Space). x.rest_next) raise.space)
                ∙ sym (ap (λ (x : Space). x.rest_end) queue.space ∙ ap (λ (x : Space). x.rest_end) raise.space);
            keeps = kept;
            remembered = remembered;
            draws = drawn;
            states = λ b. keeps_state_still (tables_of finished) (tables_of raised) (tables_of s) (tables_of queued) b (sym same_states) queued_states (raise.states b);
            traces = traces_there g.moment.trace (traces_done g.moment.trace refl);
            space =
                ap (λ x. settled_as x there) queue.space
                ∙ ap (λ x. settled_as x there) raise.space
                ∙ ap (λ x. settled_as x there) finish.space
                ∙ ap (λ x. settled_as x there) begins;
          }
            where
              there : Space
              there = record (with_roots_deferred queued) { report = raised.report }

              end_told : (trace : Option Trace) → TellsTheEnd s queued g gone trace → TellsTheEnd s there g gone trace
              end_told None is = tt
              end_told (Some trace) is = is

              traces_there : (trace : Option Trace) → Traces kind.Plain trace s queued g at' (report_of raised.report) done.unreclaimed → Traces kind.Plain trace s there g at' (report_of raised.report) done.unreclaimed
              traces_there None a = record { marks = record { reclaimed = a.marks.reclaimed; others = a.marks.others }; grays = record { reclaimed = a.grays.reclaimed; others = a.grays.others } }
              traces_there (Some trace) a = record { marks = a.marks; grays = a.grays }

          pub settles : SettlesCounts s deferred g at' gone
          settles = subst (λ x. SettlesCounts s x g at' gone) (sym (defers ∙ ap (λ r. record (with_roots_deferred queued) { report = r }) (ap (λ (x : Space). x.report) queue.space))) settled_there

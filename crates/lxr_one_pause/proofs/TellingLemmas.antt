-- After a pause, what is left may be told: where the pause drained, that is what it reported, and with it told a pause was made all the same.
use Rattle.std.proofs.Common.{◌≡◌, ℕ, refl, sym, ap, subst, ◌∙◌, Bool, true, false, cond, List, map, IsTrue}
use Rattle.std.specs.Prelude.{Some, None, not, ◌&&◌}
use Rattle.lxr_layout.specs.declared.Name.{Name}
use Rattle.lxr_graph.specs.declared.report.Count.{Count}
use Rattle.lxr_graph.specs.declared.report.Report.{Report}
use Rattle.lxr_graph.specs.History.{HasToldCounts, PauseReport, report_of}
use Rattle.lxr_graph.specs.Names.{has, union, without}
use Rattle.lxr_graph.proofs.NameSets.{has-without}
use Rattle.lxr_image.specs.declared.space.Space.{Space}
use Rattle.lxr_image.specs.Spaces.{tables_of}
use Rattle.lxr_model.specs.Moments.{Moment, stuck_after, unreclaimed_after}
use Rattle.lxr_model.specs.References.{references}
use Rattle.lxr_model.specs.Reports.{AreCounts, count_entry, is_draining}
use Rattle.lxr_model.proofs.DrainLemmas.{left_parts}
use Rattle.lxr_invariant.specs.AbstractState.{AbstractState, paused}
use Rattle.lxr_invariant.specs.Quiescent.{IsAtSafepoint, IsQuiescent}
use Rattle.lxr_invariant.proofs.ToldLemmas.{holds_told}
use Rattle.lxr_pause_queue.specs.Counting.{CanCount, ListsCounts}
use Rattle.lxr_pause_queue.specs.Entries.{with_told}
use Rattle.lxr_one_pause.specs.declared.Ask.{Ask}
use Rattle.lxr_one_pause.specs.declared.Pace.{Pace}
use Rattle.lxr_one_pause.specs.Pausing.{IsDrained, Pauses}
use Rattle.lxr_one_pause.specs.Telling.{with_retold}
use Rattle.lxr_one_pause.proofs.PausingLemmas.{queues_swept}
use Rattle.lxr_one_pause.proofs.RelocatingLemmas.{evacuates_still, relocates_still}
use Rattle.lxr_one_pause.proofs.ReportLemmas.{entries_same}
use Rattle.lxr_one_pause.proofs.TracedLemmas.{traces_still}

-- ---- any pause, and any safepoint

-- what a pause leaves is neither dead nor swept, so it is stuck behind it where it was or became so
same_stuck : (m : Moment) (r : PauseReport) (n : Name) → IsTrue (has (unreclaimed_after m r) n) → has (stuck_after m r) n ≡ has (union r.stuck m.stuck) n
same_stuck m r n left =
    let at = left_parts m r n left in
    has-without (without (union r.stuck m.stuck) r.dead) r.swept n
    ∙ ap (λ b. b && not (has r.swept n)) (has-without (union r.stuck m.stuck) r.dead n)
    ∙ (λ i. (has (union r.stuck m.stuck) n && not (at.1 i)) && not (at.2 i))
    ∙ neither (has (union r.stuck m.stuck) n)
  where
    neither : (b : Bool) → ((b && not false) && not false) ≡ b
    neither true = refl
    neither false = refl

-- so the counts that it reports where it drains are those of the moment behind it
pub counts_reported : (m : Moment) (r : PauseReport) → AreCounts m r true → r.counts ≡ map (count_entry m.state (unreclaimed_after m r) (stuck_after m r)) (unreclaimed_after m r)
counts_reported m r are =
    are
    ∙ entries_same (count_entry m.state (unreclaimed_after m r) (union r.stuck m.stuck)) (count_entry m.state (unreclaimed_after m r) (stuck_after m r)) (unreclaimed_after m r)
    (λ n left. ap (λ b. record { name = n; count = cond b None (Some (references m.state (unreclaimed_after m r) n)) }) (sym (same_stuck m r n left)))

-- whatever is told, a safepoint is one of the same state
pub safepoint_retold : (s : Space) (g : AbstractState) (by : Report) → IsAtSafepoint s g → IsAtSafepoint (with_retold s by) g
safepoint_retold s g by is =
    let behind : Space = with_retold s by in
    let room = is.holds.room.report in
    record {
      holds = holds_told s g.moment g.at behind.report s.tally s.pauses (record { promoted = room.promoted; dead = room.dead; stuck = room.stuck; swept = room.swept; told = room.told }) is.holds;
      numbers = record { pauses = is.numbers.pauses; trace = is.numbers.trace; report = is.numbers.report };
      traced = is.traced;
    }

-- and a space between epochs is so
pub quiescent_retold : (s : Space) (g : AbstractState) (by : Report) → IsQuiescent s g → IsQuiescent (with_retold s by) g
quiescent_retold s g by is = record {
  safepoint = safepoint_retold s g by is.safepoint;
  unwritten = is.unwritten;
  undecremented = is.undecremented;
  lines = is.lines;
  outs = is.outs;
  states = is.states;
}

-- counts alone may be told
pub safepoint_told : (s : Space) (g : AbstractState) (told : List Count) → IsAtSafepoint s g → IsAtSafepoint (with_told s told) g
safepoint_told s g told is = safepoint_retold s g (with_told s told).report is

pub quiescent_told : (s : Space) (g : AbstractState) (told : List Count) → IsQuiescent s g → IsQuiescent (with_told s told) g
quiescent_told s g told is = quiescent_retold s g (with_told s told).report is

module _ (before after : Space) (g : AbstractState) (at' : Name → ℕ) (ask : Ask) (pace : Pace) (is : Pauses before after g at' ask pace) where
  abbrev r : PauseReport
  r = report_of after.report

  -- the moment after the pause
  abbrev then : Moment
  then = (paused g at' r).moment

  -- ---- what is told

  -- where the pause drained, what is left may be counted
  pub can_count_behind : is_draining after.report.kind ≡ true → CanCount after then at'
  can_count_behind drains = record {
    holds = is.between.safepoint.holds;
    settled = record { same = refl; none_made = refl; none_written = refl };
    undecremented = is.between.undecremented;
    empty = subst (IsDrained after) drains is.drained;
  }

  -- what is told are the counts that it reported
  pub told_behind : is_draining after.report.kind ≡ true → (told : Space) → ListsCounts after told then at' → HasToldCounts told.report
  told_behind drains told tells = tells.counts (can_count_behind drains) ∙ sym (counts_reported g.moment r (subst (AreCounts g.moment r) drains is.reports.1.counts)) ∙ sym (ap (λ (z : Space). z.report.counts.items) tells.space)

  -- ---- the pause, whatever is told after it

  module _ (by : Report) where
    abbrev behind : Space
    behind = with_retold after by

    still_drained : (b : Bool) → IsDrained after b → IsDrained behind b
    still_drained false none = tt
    still_drained true none = none

    pub pauses_retold : Pauses before behind g at' ask pace
    pauses_retold = record {
      kind = is.kind;
      reports = is.reports;
      between = quiescent_retold after (paused g at' r) by is.between;
      moved = is.moved;
      kept = is.kept;
      evacuates = evacuates_still before after behind g at' then.unreclaimed (tables_of after).states refl is.moved is.kept refl refl refl is.evacuates;
      tally = is.tally;
      relocates = relocates_still before after behind g at' then.unreclaimed (tables_of after).states refl r.promoted r.promoted is.moved (λ n. refl) is.relocates;
      apart = is.apart;
      stay = is.stay;
      keeps = is.keeps;
      remembered = is.remembered;
      draws = is.draws;
      queues = queues_swept after.report.kind before after behind refl refl refl is.queues;
      drained = still_drained (is_draining after.report.kind) is.drained;
      outs = is.outs;
      no_rest = is.no_rest;
      chosen = is.chosen;
      beyond = is.beyond;
      traces = traces_still before after behind g at' r r then.unreclaimed refl refl (λ n. refl) (λ n. refl) after.report.kind g.moment.trace is.traces;
      space = ap (λ (y : Space). with_retold y by) is.space;
    }

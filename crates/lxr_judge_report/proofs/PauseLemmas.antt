-- A pause with its report moves a position on, and the opening is where positions begin.
use Rattle.std.proofs.Common.{◌≡◌, ℕ, refl, sym, ap, subst, ◌∙◌, List, [], ◌∷◌, length}
use Rattle.std.specs.Prelude.{Option, Some, None, Result, Ok, Err, IfOk}
use Rattle.std.specs.Option.{option_map}
use Rattle.lxr_layout.specs.declared.Name.{Name}
use Rattle.lxr_graph.specs.declared.report.Kind.{Kind}
use Rattle.lxr_graph.specs.declared.report.Kind.TheVariants as kind
use Rattle.lxr_graph.specs.Names.{has, without, union, AreInOrder}
use Rattle.lxr_graph.specs.State.{State, opening, world_name}
use Rattle.lxr_graph.specs.History.{PauseReport}
use Rattle.lxr_graph.proofs.NameSets.{in_order-one, in_order-union, in_order-without}
use Rattle.lxr_model.specs.Moments.{Trace, Moment, opening_moment, left_by, unreclaimed_after, stuck_after, going_on, trace_after}
use Rattle.lxr_model.specs.Reports.{IsReport}
use Rattle.lxr_model_counting.proofs.DistinctLemmas.{union_same, without_same}
use Rattle.lxr_model_counting.proofs.FollowingLemmas.{opening_follows}
use Rattle.lxr_model_counting.proofs.GarbageLemmas.{pause_keeps_garbage, sweeps_are_sound}
use Rattle.lxr_model_counting.proofs.PauseLemmas.{restarts}
use Rattle.lxr_model_decide.specs.Sets.{reachable_names}
use Rattle.lxr_model_decide.proofs.PartLemmas.{reports_right}
use Rattle.lxr_judge_report.specs.LastPauses.{Past, Running, running_of, TellsState}
use Rattle.lxr_judge_report.specs.Positions.{Present, IsAt, MovesByPause}
use Rattle.lxr_judge_report.specs.Stages.{IsLastAfter, trace_with}
use Rattle.lxr_judge_report.proofs.SetLemmas.{alone}

-- what a pause leaves hangs on which names join, and not on their order
pub left_joined : (report : PauseReport) (set joined names left : List Name) → ((n : Name) → has set n ≡ has joined n)
    → (AreInOrder names → left ≡ left_by report (union set names)) → AreInOrder names → left ≡ left_by report (union joined names)
left_joined report set joined names left same was order = was order ∙ ap (left_by report) (union_same set joined names order same)

-- and so it does on which names die and are swept
pub left_over : (report : PauseReport) (dead swept names left : List Name) → ((n : Name) → has dead n ≡ has report.dead n) → ((n : Name) → has swept n ≡ has report.swept n)
    → left ≡ without (without names dead) swept → left ≡ left_by report names
left_over report dead swept names left dies goes was =
    was ∙ ap (λ ns. without ns swept) (without_same names dead report.dead dies) ∙ without_same (without names report.dead) swept report.swept goes

-- the trace that runs behind a pause
trace_paused : (m : Moment) (report : PauseReport) (k : Kind) → AreInOrder (unreclaimed_after m report)
    → trace_with (option_map running_of m.trace) m.state k report.number (unreclaimed_after m report) ≡ option_map running_of (trace_after m report k)
trace_paused m report kind.Plain order = goes_on m.trace
  where
    goes_on : (trace : Option Trace) → option_map running_of trace ≡ option_map running_of (going_on m report trace)
    goes_on None = refl
    goes_on (Some trace) = refl
trace_paused m report kind.Begin order =
    let us = unreclaimed_after m report in
    let run : List Name → Option Running = λ swept. Some (record { began = report.number; swept = swept }) in
    ap run (sym (alone (without us (reachable_names m.state)) (in_order-without us (reachable_names m.state) order)))
trace_paused m report (kind.End j) order = refl
trace_paused m report kind.Collect order = refl

-- what a pause with a report did to what a position keeps
pub record Paused (old new : Present) (report : PauseReport) : Type 0 where
  pub state : new.state ≡ old.state
  pub last : IsLastAfter old report new.last
  pub made : new.made ≡ []
  pub written : new.written ≡ []

pub paused_moves : (old new : Present) (report : PauseReport) → Paused old new report → MovesByPause old new report
paused_moves old new report paused m at can exact =
    let after = paused.last in
    let reports : IsReport m report = subst (IsReport m) (sym exact) (reports_right m report.kind can) in
    let us : new.last.unreclaimed ≡ unreclaimed_after m report =
    after.unreclaimed (subst AreInOrder (sym at.last.unreclaimed) at.lives.unreclaimed) ∙ ap (λ ns. left_by report (union report.promoted ns)) at.last.unreclaimed in
    let stuck : new.last.stuck ≡ stuck_after m report =
    after.stuck (subst AreInOrder (sym at.last.stuck) at.stuck) ∙ ap (λ ns. left_by report (union report.stuck ns)) at.last.stuck in
    let order : AreInOrder (unreclaimed_after m report) =
    in_order-without (without (union report.promoted m.unreclaimed) report.dead) report.swept
    (in_order-without (union report.promoted m.unreclaimed) report.dead (in_order-union report.promoted m.unreclaimed at.lives.unreclaimed)) in
    let trace : new.last.trace ≡ option_map running_of (trace_after m report report.kind) =
    after.trace
    ∙ (λ i. trace_with (at.last.trace i) (at.state i) report.kind report.number (us i))
    ∙ trace_paused m report report.kind order in
    record {
      lives = restarts m reports.0 report at.lives reports.1 (sweeps_are_sound m reports.0 report at.lives at.traces reports.1);
      traces = pause_keeps_garbage m report at.lives at.traces reports;
      stuck =
          in_order-without (without (union report.stuck m.stuck) report.dead) report.swept
          (in_order-without (union report.stuck m.stuck) report.dead (in_order-union report.stuck m.stuck at.stuck));
      state = paused.state ∙ at.state;
      last = record {
        number = after.number;
        unreclaimed = us;
        stuck = stuck;
        trace = trace;
        state = subst (TellsState new.last) at.state after.tells;
      };
      made = λ n. ap (λ ns. has ns n) paused.made;
      made_once = ap (λ (ns : List Name). length ns) paused.made;
      written = paused.written;
    }

-- what is kept at the opening
pub record Opened (new : Present) (threads : ℕ) : Type 0 where
  pub state : new.state ≡ opening threads
  pub number : new.last.number ≡ 0
  pub unreclaimed : new.last.unreclaimed ≡ world_name ∷ []
  pub stuck : new.last.stuck ≡ world_name ∷ []
  pub trace : new.last.trace ≡ None
  pub tells : TellsState new.last new.state
  pub made : new.made ≡ []
  pub written : new.written ≡ []

pub opened_is_at : (new : Present) (threads : ℕ) → Opened new threads → IsAt new (opening_moment threads)
opened_is_at new threads opened = record {
  lives = opening_follows threads;
  traces = tt;
  stuck = in_order-one world_name;
  state = opened.state;
  last = record {
    number = opened.number;
    unreclaimed = opened.unreclaimed;
    stuck = opened.stuck;
    trace = opened.trace;
    state = subst (TellsState new.last) opened.state opened.tells;
  };
  made = λ n. ap (λ ns. has ns n) opened.made;
  made_once = ap (λ (ns : List Name). length ns) opened.made;
  written = opened.written;
}

-- what was made of a pause's parts is what is to be kept of it
pub last_made : {E : Type 0} (r : Result Past E) (p : Present) (report : PauseReport) (s : State) (us stuck : List Name) (trace : Option Running) → p.state ≡ s
    → IfOk r (λ past. past.number ≡ report.number) → IfOk r (λ past. past.unreclaimed ≡ us) → IfOk r (λ past. past.stuck ≡ stuck) → IfOk r (λ past. past.trace ≡ trace)
    → IfOk r (λ past. TellsState past s)
    → (AreInOrder p.last.unreclaimed → us ≡ left_by report (union report.promoted p.last.unreclaimed)) → (AreInOrder p.last.stuck → stuck ≡ left_by report (union report.stuck p.last.stuck))
    → trace ≡ trace_with p.last.trace p.state report.kind report.number us → IfOk r (IsLastAfter p report)
last_made (Ok past) p report s us stuck trace state number us_are stuck_are trace_is tells us_left stuck_left trace_left = record {
  number = number;
  unreclaimed = λ order. us_are ∙ us_left order;
  stuck = λ order. stuck_are ∙ stuck_left order;
  trace = trace_is ∙ trace_left ∙ ap (λ ns. trace_with p.last.trace p.state report.kind report.number ns) (sym us_are);
  tells = subst (TellsState past) (sym state) tells;
}
last_made (Err e) p report s us stuck trace state number us_are stuck_are trace_is tells us_left stuck_left trace_left = tt

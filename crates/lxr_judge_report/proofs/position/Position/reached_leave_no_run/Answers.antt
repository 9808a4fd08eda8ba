-- The reachable are a set in order, so there is one list of them.
use Rattle.std.proofs.Common.{sym, subst, IsTrue, ◌↔◌}
use Rattle.lxr_model.specs.Full.{LeaveNoRun}
use Rattle.lxr_judge_report.specs.contracts.position.Position.{the_view}
use Rattle.lxr_judge_report.specs.Positions.{Present, IsAt}
use Rattle.lxr_judge_report.proofs.RunLemmas.{reached_told}
use Rattle.lxr_judge_report.proofs.position.Position.reached_leave_no_run.Goals as goal

pub returns : goal.returns
returns c = λ m at.
    let p : Present = the_view c.self.inside in
    let here : IsAt p m = subst (λ q. IsAt q m) (sym c.self.view_is) at in
    reached_told p c.in_ok-all.all c.in_ok-others.others c.args.blocks c.args.lines c.leave_no_run.result
    c.in_ok-all.ensures
    c.in_ok-others.ensures
    (subst (λ ns. IsTrue c.leave_no_run.result ↔ LeaveNoRun p.state.graph ns c.args.blocks c.args.lines) c.names.ensures.names c.leave_no_run.ensures)
    m here

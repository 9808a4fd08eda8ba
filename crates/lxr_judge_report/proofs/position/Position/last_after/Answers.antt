-- Each part of what is to be kept is told from what the position keeps, and the names of the report are read in any order.
use Rattle.std.proofs.Common.{ap, sym, subst, ◌∙◌}
use Rattle.lxr_graph.specs.Names.{AreInOrder, union}
use Rattle.lxr_graph.specs.History.{report_of}
use Rattle.lxr_graph.proofs.NameLemmas.{same_members}
use Rattle.lxr_model.specs.Moments.{left_by}
use Rattle.lxr_judge_report.specs.Positions.{Present}
use Rattle.lxr_judge_report.proofs.PauseLemmas.{last_made, left_joined}
use Rattle.lxr_judge_report.proofs.position.Position.last_after.Goals as goal

pub returns : goal.returns
returns c =
    let p = c.args.self.now in
    let report = report_of c.args.report.now in
    let us_was = c.unreclaimed.ensures ∙ ap (λ (p : Present). p.last.unreclaimed) c.self.view_is in
    let stuck_was = c.stuck.ensures ∙ ap (λ (p : Present). p.last.stuck) c.self.view_is in
    last_made c.new.result p report c.self.inside.graph c.in_ok-unreclaimed.unreclaimed c.in_ok-stuck.stuck c.in_ok-trace.trace
    (sym (ap (λ (p : Present). p.state) c.self.view_is))
    c.new.ensures.number c.new.ensures.unreclaimed c.new.ensures.stuck c.new.ensures.trace c.new.ensures.state
    (left_joined report c.found.result.now report.promoted p.last.unreclaimed c.in_ok-unreclaimed.unreclaimed
    (same_members report.promoted c.found.result.now c.found.ensures)
    (λ order. c.in_ok-unreclaimed.ensures (subst AreInOrder (sym us_was) order) ∙ ap (λ ns. left_by report (union c.found.result.now ns)) us_was))
    (left_joined report c.found-2.result.now report.stuck p.last.stuck c.in_ok-stuck.stuck
    (same_members report.stuck c.found-2.result.now c.found-2.ensures)
    (λ order. c.in_ok-stuck.ensures (subst AreInOrder (sym stuck_was) order) ∙ ap (λ ns. left_by report (union c.found-2.result.now ns)) stuck_was))
    c.in_ok-trace.ensures

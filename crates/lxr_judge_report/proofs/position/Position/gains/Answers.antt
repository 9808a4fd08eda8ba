-- What becomes stuck is told from what is kept.
use Rattle.std.proofs.Common.{ap, subst, sym, ◌∙◌}
use Rattle.lxr_graph.specs.Names.{AreInOrder, union}
use Rattle.lxr_judge_report.specs.Positions.{Present}
use Rattle.lxr_judge_report.proofs.ReportLemmas.{gains_are}
use Rattle.lxr_judge_report.proofs.position.Position.gains.Goals as goal

pub returns : goal.returns
returns c = λ m at.
    let parts = c.in_ok-parts.parts in
    let stuck_was = c.stuck.ensures ∙ ap (λ (p : Present). p.last.stuck) c.self.view_is in
    gains_are c.args.self.now m at parts.promoted parts.kept c.in_ok-newly_stuck.newly_stuck c.in_ok-stuck.stuck
    (c.in_ok-parts.ensures m at)
    c.in_ok-newly_stuck.ensures
    (λ order. c.in_ok-stuck.ensures (subst AreInOrder (sym stuck_was) order) ∙ ap (λ ns. union c.in_ok-newly_stuck.newly_stuck ns) stuck_was)

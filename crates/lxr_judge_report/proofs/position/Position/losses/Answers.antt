-- What is lost is told from what the position keeps and the gains.
use Rattle.std.proofs.Common.{ap, ◌∙◌}
use Rattle.lxr_model.specs.Reports.{is_draining}
use Rattle.lxr_judge_report.specs.Positions.{Present}
use Rattle.lxr_judge_report.specs.Stages.{drained_of}
use Rattle.lxr_judge_report.proofs.ReportLemmas.{losses_are}
use Rattle.lxr_judge_report.proofs.position.Position.losses.Goals as goal

pub returns : goal.returns
returns c = λ m at kept stuck.
    let gains = c.args.gains.now in
    let later = c.in_ok-later.later in
    losses_are c.args.self.now m at c.args.kind gains.kept gains.stuck c.in_ok-second.second later.swept later.third c.in_ok-dead.dead kept stuck
    (c.in_ok-second.ensures ∙ ap (λ (p : Present). drained_of p.state (is_draining c.args.kind) gains.kept gains.stuck) c.self.view_is)
    c.in_ok-later.ensures.swept
    c.in_ok-later.ensures.third
    c.in_ok-dead.ensures

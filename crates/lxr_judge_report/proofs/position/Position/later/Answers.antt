-- What is left behind the second dead is swept, and dies.
use Rattle.std.proofs.Common.{ap, ◌∙◌}
use Rattle.lxr_graph.specs.Names.{without}
use Rattle.lxr_model.specs.Reports.{is_draining}
use Rattle.lxr_judge_report.specs.Stages.{drained_of, swept_now}
use Rattle.lxr_judge_report.proofs.position.Position.later.Goals as goal

pub returns-clause-swept : goal.returns-clause-swept
returns-clause-swept c = c.in_ok-swept.ensures ∙ ap (λ ns. swept_now c.args.self.now ns c.args.kind) c.in_ok-left.ensures

pub returns-clause-third : goal.returns-clause-third
returns-clause-third c =
    c.in_ok-third.ensures
    ∙ (λ i. drained_of (c.self.view_is i).state (is_draining c.args.kind) (without (c.in_ok-left.ensures i) c.in_ok-swept.swept) c.args.gains.now.stuck)

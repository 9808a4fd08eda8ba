-- The dead are a set in order, so there is one list of them.
use Rattle.std.proofs.Common.{◌≡◌, ap, sym, ◌∙◌, arith, true}
use Rattle.lxr_graph.proofs.NameSets.{one_set}
use Rattle.lxr_model.specs.Reports.{is_draining}
use Rattle.lxr_model_decide.proofs.SetLemmas.{dead_right}
use Rattle.lxr_judge_report.specs.Stages.{drained_of}
use Rattle.lxr_judge_report.proofs.reporting.drained.Goals as goal

pub returns : goal.returns
returns c =
    let drains : is_draining c.args.kind ≡ true = grind (arith, c.is_draining.ensures, c.if-not-is_draining.false) in
    one_set c.in_ok-deaths.ensures.names (dead_right c.args.graph.now c.args.names.now c.args.stuck.now)
    ∙ ap (λ b. drained_of c.args.graph.now b c.args.names.now c.args.stuck.now) (sym drains)

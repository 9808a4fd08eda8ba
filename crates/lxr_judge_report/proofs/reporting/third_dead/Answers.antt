-- What is left by the swept may die.
use Rattle.std.proofs.Common.{◌≡◌, ap, ◌∙◌, List}
use Rattle.std.proofs.lemmas.Result.{IfOk-weaker}
use Rattle.lxr_layout.specs.declared.Name.{Name}
use Rattle.lxr_graph.specs.Names.{without}
use Rattle.lxr_model.specs.Reports.{is_draining}
use Rattle.lxr_judge_report.specs.Stages.{drained_of}
use Rattle.lxr_judge_report.proofs.reporting.third_dead.Goals as goal

pub returns : goal.returns
returns c =
    let drained : List Name → List Name = λ ns. drained_of c.args.graph.now (is_draining c.args.kind) ns c.args.stuck.now in
    IfOk-weaker c.drained.result
    (λ set. set ≡ drained c.in_ok-remaining.remaining)
    (λ set. set ≡ drained (without c.args.left.now c.args.swept.now))
    (λ set was. was ∙ ap drained c.in_ok-remaining.ensures)
    c.drained.ensures

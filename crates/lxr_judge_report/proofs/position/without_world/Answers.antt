use Rattle.std.proofs.Common.{◌≡◌, [], ◌∷◌, ap, ◌∙◌}
use Rattle.std.proofs.lemmas.Result.{IfOk-weaker}
use Rattle.lxr_graph.specs.Names.{without}
use Rattle.lxr_graph.specs.State.{world_name}
use Rattle.lxr_judge_report.proofs.position.without_world.Goals as goal

pub returns : goal.returns
returns c =
    IfOk-weaker c.without.result
    (λ others. others ≡ without c.args.all.now c.in_ok-world.world)
    (λ others. others ≡ without c.args.all.now (world_name ∷ []))
    (λ others was. was ∙ ap (λ ns. without c.args.all.now ns) c.in_ok-world.ensures)
    c.without.ensures

use Rattle.std.proofs.Common.{◌≡◌, [], ◌∷◌, ◌∙◌}
use Rattle.std.proofs.lemmas.Result.{IfOk-weaker}
use Rattle.lxr_graph.specs.State.{world_name}
use Rattle.lxr_judge_report.proofs.position.opening_pause.Goals as goal

pub returns-clause-unreclaimed : goal.returns-clause-unreclaimed
returns-clause-unreclaimed c =
    IfOk-weaker c.new.result
    (λ past. past.unreclaimed ≡ c.in_ok-unreclaimed.unreclaimed)
    (λ past. past.unreclaimed ≡ world_name ∷ [])
    (λ past was. was ∙ c.in_ok-unreclaimed.ensures)
    c.new.ensures.unreclaimed

pub returns-clause-stuck : goal.returns-clause-stuck
returns-clause-stuck c =
    IfOk-weaker c.new.result
    (λ past. past.stuck ≡ c.in_ok-stuck.stuck)
    (λ past. past.stuck ≡ world_name ∷ [])
    (λ past was. was ∙ c.in_ok-stuck.ensures)
    c.new.ensures.stuck

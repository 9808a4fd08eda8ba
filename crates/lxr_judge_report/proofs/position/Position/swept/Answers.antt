-- The reachable are a set in order, so there is one list of them.
use Rattle.std.proofs.Common.{◌≡◌, ap, sym, ◌∙◌}
use Rattle.std.proofs.lemmas.Result.{IfOk-weaker}
use Rattle.lxr_graph.specs.Names.{without}
use Rattle.lxr_graph.proofs.NameSets.{one_set}
use Rattle.lxr_model_decide.specs.Sets.{reachable_names}
use Rattle.lxr_model_decide.proofs.SetLemmas.{reachable_right}
use Rattle.lxr_judge_report.specs.Positions.{Present}
use Rattle.lxr_judge_report.specs.Stages.{swept_now}
use Rattle.lxr_judge_report.proofs.position.Position.swept.Goals as goal

pub returns-in_ok-reachable-in-Collect : goal.returns-in_ok-reachable-in-Collect
returns-in_ok-reachable-in-Collect c =
    IfOk-weaker c.without-in-Collect.result
    (λ set. set ≡ without c.args.left.now c.in_ok-reachable-in-Collect.field-0)
    (λ set. set ≡ swept_now c.args.self.now c.args.left.now c.args.kind)
    (λ set was.
    was
    ∙ ap (λ ns. without c.args.left.now ns) (one_set c.in_ok-reachable-in-Collect.ensures (reachable_right c.self.inside.graph))
    ∙ ap (λ (p : Present). without c.args.left.now (reachable_names p.state)) c.self.view_is
    ∙ ap (λ k. swept_now c.args.self.now c.args.left.now k) (sym c.in-Collect.is))
    c.without-in-Collect.ensures

use Rattle.std.proofs.Common.{◌≡◌, ap, ◌∙◌}
use Rattle.std.proofs.lemmas.Result.{IfOk-weaker}
use Rattle.lxr_graph.specs.Names.{without}
use Rattle.lxr_judge_sets.proofs.name_set.NameSet.without_both.Goals as goal

pub returns : goal.returns
returns c =
    let second = c.args.second.now in
    IfOk-weaker c.without-2.result
    (λ left. left ≡ without c.in_ok-some.some second)
    (λ left. left ≡ without (without c.args.self.now c.args.first.now) second)
    (λ left was. was ∙ ap (λ ns. without ns second) c.in_ok-some.ensures)
    c.without-2.ensures

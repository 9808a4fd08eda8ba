-- What joins the unreclaimed names stands in their order.
use Rattle.std.proofs.Common.{◌≡◌, ap, subst, sym, ◌∙◌}
use Rattle.std.proofs.lemmas.Result.{IfOk-weaker}
use Rattle.lxr_graph.specs.Names.{AreInOrder, union, without}
use Rattle.lxr_judge_report.specs.Positions.{Present}
use Rattle.lxr_judge_report.proofs.position.Position.remaining.Goals as goal

pub returns : goal.returns
returns c =
    let promoted = c.args.gains.now.promoted in
    let losses = c.args.losses.now in
    let all = c.in_ok-all.all in
    let us = c.args.self.now.last.unreclaimed in
    let us_was = c.unreclaimed.ensures ∙ ap (λ (p : Present). p.last.unreclaimed) c.self.view_is in
    IfOk-weaker c.without_both.result
    (λ left. left ≡ without (without all losses.dead) losses.swept)
    (λ left. AreInOrder us → left ≡ without (without (union promoted us) losses.dead) losses.swept)
    (λ left was order.
    was
    ∙ ap (λ ns. without (without ns losses.dead) losses.swept)
    (c.in_ok-all.ensures (subst AreInOrder (sym us_was) order) ∙ ap (λ ns. union promoted ns) us_was))
    c.without_both.ensures

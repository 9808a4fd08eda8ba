-- The first dead are those that the position keeps.
use Rattle.std.proofs.Common.{◌≡◌, ap, subst, sym, ◌∙◌}
use Rattle.std.proofs.lemmas.Result.{IfOk-weaker}
use Rattle.lxr_graph.specs.Names.{AreInOrder, union}
use Rattle.lxr_graph.proofs.NameSets.{in_order-union}
use Rattle.lxr_judge_report.specs.Positions.{Present}
use Rattle.lxr_judge_report.proofs.position.Position.all_dead.Goals as goal

pub returns : goal.returns
returns c =
    let second = c.args.second.now in
    let third = c.args.third.now in
    let later = c.in_ok-later.later in
    let first = c.dead.ensures ∙ ap (λ (p : Present). p.last.dead) c.self.view_is in
    IfOk-weaker c.union-2.result
    (λ dead. AreInOrder later → dead ≡ union c.dead.result.now later)
    (λ dead. AreInOrder third → dead ≡ union c.args.self.now.last.dead (union second third))
    (λ dead was order.
    was (subst AreInOrder (sym (c.in_ok-later.ensures order)) (in_order-union second third order))
    ∙ (λ i. union (first i) (c.in_ok-later.ensures order i)))
    c.union-2.ensures

use Rattle.std.proofs.Common.{◌∙◌, ap}
use Rattle.std.specs.Prelude.{◌||◌}
use Rattle.lxr_graph.specs.Names.{has}
use Rattle.lxr_judge_sets.proofs.NameSetLemmas.{has-all_joined, union_is}
use Rattle.lxr_judge_sets.proofs.name_set.NameSet.union.Goals as goal

pub returns : goal.returns
returns c = λ ordered.
    union_is c.args.self.now c.args.other.now c.in_order.result ordered c.in_order.ensures.order
    (λ q.
    let theirs = ap (λ ns. has ns q) (c.deref.ensures.value ∙ c.other.view_is) in
    let ours = ap (λ ns. has ns q) (c.deref-2.ensures.value ∙ c.self.view_is) in
    c.in_order.ensures.members q ∙ ap (λ ns. has ns q) c.in_ok-insert_all.ensures ∙ has-all_joined c.in_ok-both.both c.deref-2.result.now q
    ∙ ap (λ b. b || has c.deref-2.result.now q) (c.in_ok-both.ensures.members q ∙ theirs) ∙ ap (λ b. has c.args.other.now q || b) ours)

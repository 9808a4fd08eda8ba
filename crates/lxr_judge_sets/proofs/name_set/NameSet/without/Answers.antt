use Rattle.std.proofs.Common.{◌≡◌, ◌∙◌, ap, subst, sym}
use Rattle.std.proofs.lemmas.Result.{IfOk-weaker}
use Rattle.lxr_graph.specs.Distinct.{IsDistinct}
use Rattle.lxr_graph.specs.Names.{without}
use Rattle.lxr_judge_sets.proofs.NameSetLemmas.{distinct-without}
use Rattle.lxr_judge_sets.proofs.name_set.NameSet.without.Goals as goal

pub returns : goal.returns
returns c =
    let left : c.deref-2.result.now ≡ without c.args.self.now c.args.out.now =
    c.deref-2.ensures.value ∙ c.in_ok-left.ensures ∙ ap (λ ns. without ns c.args.out.now) (c.deref.ensures.value ∙ c.self.view_is) in
    let once : IsDistinct c.deref-2.result.now =
    subst IsDistinct (sym left) (distinct-without c.args.self.now c.args.out.now (subst IsDistinct c.self.view_is c.self.invariant.once)) in
    IfOk-weaker c.of.result (λ set. IsDistinct c.deref-2.result.now → set ≡ c.deref-2.result.now)
    (λ set. set ≡ without c.args.self.now c.args.out.now)
    (λ set is. is once ∙ left) c.of.ensures.once

use Rattle.std.proofs.Common.{◌∙◌, ap, subst, sym}
use Rattle.lxr_graph.specs.Names.{has}
use Rattle.lxr_judge_sets.specs.NameSets.{IsMarked}
use Rattle.lxr_judge_sets.proofs.NameSetLemmas.{marked-in_order}
use Rattle.lxr_judge_sets.proofs.name_set.NameSet.in_order.Goals as goal

pub invariant_of-result : goal.invariant_of-result
invariant_of-result c =
    subst (IsMarked c.self.inside.marks) (sym c.into_vec.ensures)
    (marked-in_order c.self.inside.marks c.self.inside.names.items c.sort_names.new.names.items c.self.invariant c.sort_names.ensures.sorted
    (λ n. c.sort_names.ensures.members n ∙ ap (λ ns. has ns n) c.from_vec-names.ensures))

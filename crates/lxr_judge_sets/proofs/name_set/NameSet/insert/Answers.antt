use Rattle.std.proofs.Common.{rules, ◌≡◌, ◌∙◌, [], ◌∷◌, ◌++◌, subst, sym}
use Rattle.lxr_judge_sets.specs.NameSets.{IsMarked}
use Rattle.lxr_judge_sets.proofs.NameSetLemmas.{marked-push}
use Rattle.lxr_judge_sets.proofs.name_set.NameSet.insert.Goals as goal

pub invariant_of-self-2 : goal.invariant_of-self-2
invariant_of-self-2 c =
    let now : c.push_reserved.new.self.items ≡ c.self.inside.names.items ++ c.args.name ∷ [] = search rules in
    subst (IsMarked c.set.new.self) (sym now)
    (marked-push c.self.inside.marks c.set.new.self c.self.inside.names.items c.args.name c.self.invariant
    (sym (c.self.invariant.members c.args.name) ∙ sym c.at.ensures ∙ c.if-at.false) c.in_ok-set.ensures.ok)

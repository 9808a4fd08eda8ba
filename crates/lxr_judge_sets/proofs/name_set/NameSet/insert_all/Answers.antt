use Rattle.std.proofs.Common.{◌<◌, ◌∙◌, ap, arith, get_or, length, sym, take}
use Rattle.std.proofs.lemmas.List.{take_more}
use Rattle.lxr_layout.specs.declared.Name.{Name}
use Rattle.lxr_judge_sets.specs.NameSets.{all_joined, joined}
use Rattle.lxr_judge_sets.proofs.NameSetLemmas.{all_joined-push}
use Rattle.lxr_judge_sets.proofs.name_set.NameSet.insert_all.Goals as goal

pub loop-name-preserved : goal.loop-name-preserved
loop-name-preserved c =
    let none : Name = record { thread = 0; serial = 0 } in
    let at = c.loop-name.name-index in
    let within : at < length c.args.names.now = omega (arith, c.loop-name-test.true) in
    c.in_ok-insert.ensures.ok ∙ ap (λ ns. joined ns (get_or c.args.names.now at none)) c.loop-name.invariant
    ∙ sym (ap (all_joined c.args.self.now) (take_more c.args.names.now at none within)
    ∙ all_joined-push c.args.self.now (take at c.args.names.now) (get_or c.args.names.now at none))

use Rattle.std.proofs.Common.{◌<◌, [], arith, length, subst, sym}
use Rattle.std.proofs.lemmas.List.{take_more}
use Rattle.lxr_layout.specs.declared.Name.{Name}
use Rattle.std.proofs.Common.{take}
use Rattle.lxr_judge_sets.specs.Dying.{IsDying}
use Rattle.lxr_judge_sets.proofs.dying.Dying.let_all_go.Goals as goal

pub loop-name-preserved : goal.loop-name-preserved
loop-name-preserved c = λ s us stuck is.
    let at = c.loop-name.name-index in
    let names = c.args.names.now in
    let none : Name = record { thread = 0; serial = 0 } in
    let within : at < length names = omega (arith, c.loop-name-test.true) in
    subst (λ seen. IsDying s us stuck seen 0 [] c.let_go.new.self) (sym (take_more names at none within))
    (c.in_ok-let_go.ensures s us stuck (take at names) 0 [] (c.loop-name.invariant s us stuck is))

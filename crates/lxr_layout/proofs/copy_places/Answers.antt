use Rattle.std.proofs.Common.{arith}
use Rattle.lxr_layout.proofs.NilLemmas.{one_written}
use Rattle.lxr_layout.proofs.copy_places.Goals as goal

pub returns-then-count-eq1 : goal.returns-then-count-eq1
returns-then-count-eq1 c =
    let one = c.if-count-eq1.true in
    let many = c.requires in
    one_written c.args.to.now c.args.from.now (omega (arith, one)) (omega (arith, one, many))

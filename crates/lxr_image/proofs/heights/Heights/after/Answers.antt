use Rattle.std.proofs.Common.{ap, arith, length}
use Rattle.lxr_image.proofs.heights.Heights.after.Goals as goal

pub index-requires : goal.index-requires
index-requires c =
    let many = c.self.invariant.0.many in
    let within = c.requires.block in
    let view = ap length c.self.view_is in
    omega (arith, many, within, view)

use Rattle.std.proofs.lemmas.Nat.Bits.{ones_shl}
use Rattle.lxr_blocks.proofs.clearing.bits_from.Goals as goal

pub returns-then-first-lt64 : goal.returns-then-first-lt64
returns-then-first-lt64 c = ones_shl 64 c.args.first c.requires

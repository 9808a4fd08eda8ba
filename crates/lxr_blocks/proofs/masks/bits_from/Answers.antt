use Rattle.std.proofs.lemmas.Nat.Bits.{ones_shl}
use Rattle.lxr_blocks.proofs.masks.bits_from.Goals as goal

pub returns-then-first-lt-LINES_IN_BLOCK : goal.returns-then-first-lt-LINES_IN_BLOCK
returns-then-first-lt-LINES_IN_BLOCK c = ones_shl 128 c.args.first c.requires

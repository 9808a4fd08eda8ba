use Rattle.std.proofs.Common.{arith}
use Rattle.lxr_image.specs.Spaces.{tables_of}
use Rattle.lxr_blocks.proofs.InTurnLemmas.{used_by_lines}
use Rattle.lxr_blocks.proofs.in_turn.next_maybe_free.Goals as goal

pub returns-clause-used : goal.returns-clause-used
returns-clause-used c b from below =
    let least = c.min.ensures in
    used_by_lines (tables_of c.args.space.now) b (c.requires.known b from (omega (arith, least, below))) (c.next_long.ensures.passed b from (omega (arith, least, below)))

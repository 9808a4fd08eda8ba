use Rattle.std.proofs.Common.{arith}
use Rattle.lxr_image.specs.Spaces.{tables_of}
use Rattle.lxr_blocks.proofs.InTurnLemmas.{frees_list_none, full_list_none}
use Rattle.lxr_blocks.proofs.in_turn.without_runs.Goals.{then-known-block, else-known-block}
use Rattle.lxr_blocks.proofs.in_turn.without_runs.Goals as goal

pub returns-clause-none : goal.returns-clause-none
returns-clause-none c b from below =
    let least = c.min.ensures in
    elim c.if-known-block.branch [
      | then-known-block w ↦
          let end = w.end-is in
          full_list_none (tables_of c.args.space.now) c.args.block c.next_long-known.result c.next_long-known.ensures.passed b from (omega (arith, least, below, end))
      | else-known-block w ↦
          let end = w.end-is in
          frees_list_none (tables_of c.args.space.now) c.args.block w.end_of_free-end.result w.end_of_free-end.ensures.free b from (omega (arith, least, below, end))
    ]

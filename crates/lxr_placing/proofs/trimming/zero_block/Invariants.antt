use Rattle.lxr_image.specs.Spaces.{IsSpace, Turns, tables_of}
use Rattle.lxr_blocks.proofs.HandingLemmas.{zeroed}
use Rattle.lxr_placing.proofs.trimming.zero_block.Given as goal

abbrev pub invariant-loop-at : goal.invariant-loop-at
invariant-loop-at l = record { space : IsSpace l.space; turns : Turns l.fn.space l.space (zeroed (tables_of l.fn.space) l.first l.at) }

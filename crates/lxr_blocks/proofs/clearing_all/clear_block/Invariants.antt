use Rattle.lxr_image.specs.Spaces.{IsSpace, Turns, tables_of}
use Rattle.lxr_blocks.specs.ClearingAll.{with_clear}
use Rattle.lxr_blocks.proofs.ClearingAllLemmas.{in_words}
use Rattle.lxr_blocks.proofs.clearing_all.clear_block.Given as goal

abbrev pub invariant-loop-at : goal.invariant-loop-at
invariant-loop-at l = record {
  space : IsSpace l.space;
  turns : Turns l.fn.space l.space (with_clear (tables_of l.fn.space) l.bits (in_words l.bits l.block l.at));
}

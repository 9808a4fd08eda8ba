use Rattle.std.proofs.Common.{◌-◌, ◌≤◌}
use Rattle.lxr_image.specs.Spaces.{IsSpace, Turns, tables_of}
use Rattle.lxr_blocks.specs.ClearingAll.{with_clear}
use Rattle.lxr_blocks.specs.declared.clearing_all.Bits.TheVariants.{Outs}
use Rattle.lxr_blocks.proofs.ClearingAllLemmas.{in_first}
use Rattle.lxr_blocks.proofs.clearing_all.clear_outs.Given as goal

abbrev pub invariant-loop-block : goal.invariant-loop-block
invariant-loop-block l = record {
  space : IsSpace l.space;
  turns : Turns l.initial.space l.space (with_clear (tables_of l.initial.space) Outs (in_first Outs l.block));
  within : l.block ≤ l.initial.space.limits.blocks;
}

abbrev pub decreases-loop-block : goal.decreases-loop-block
decreases-loop-block l = l.initial.space.limits.blocks - l.block

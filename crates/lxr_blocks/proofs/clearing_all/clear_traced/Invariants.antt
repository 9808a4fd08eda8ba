use Rattle.std.proofs.Common.{◌-◌, ◌≤◌}
use Rattle.lxr_image.specs.Spaces.{IsSpace, Turns, tables_of}
use Rattle.lxr_blocks.specs.ClearingAll.{with_clear}
use Rattle.lxr_blocks.specs.declared.clearing_all.Bits.TheVariants.{Traced}
use Rattle.lxr_blocks.proofs.ClearingAllLemmas.{in_first}
use Rattle.lxr_blocks.proofs.clearing_all.clear_traced.Given as goal

abbrev pub invariant-loop-block : goal.invariant-loop-block
invariant-loop-block l = record {
  space : IsSpace l.space;
  turns : Turns l.fn.space l.space (with_clear (tables_of l.fn.space) Traced (in_first Traced l.from));
  within : l.from ≤ l.fn.space.limits.blocks;
}

abbrev pub decreases-loop-block : goal.decreases-loop-block
decreases-loop-block l = l.fn.space.limits.blocks - l.from

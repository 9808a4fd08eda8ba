use Rattle.std.proofs.Common.{◌≡◌, ◌-◌}
use Rattle.lxr_image.specs.Spaces.{IsSpace, Turns, tables_of}
use Rattle.lxr_invariant.specs.Counting.{passing}
use Rattle.lxr_evac_blocks.specs.Choosing.{may_choose, with_choices}
use Rattle.lxr_evac_blocks.proofs.choosing.choose_first.Given as goal

abbrev pub invariant-loop-block : goal.invariant-loop-block
invariant-loop-block l = record {
  space : IsSpace l.space;
  turns : Turns l.initial.space l.space (with_choices l.initial.space.limits (tables_of l.initial.space) l.block);
  left : l.left ≡ l.initial.space.limits.evacuate - passing (may_choose (tables_of l.initial.space)) l.block;
}

use Rattle.std.proofs.Common.{◌≡◌, ◌+◌, ◌-◌, ◌≤◌}
use Rattle.lxr_image.specs.Spaces.{IsSpace, Turns, tables_of}
use Rattle.lxr_blocks.specs.Listing.{numbers_from, with_frees}
use Rattle.lxr_blocks.proofs.listing.list_between.Given as goal

abbrev pub invariant-loop-block : goal.invariant-loop-block
invariant-loop-block l = record {
  space : IsSpace l.space;
  reached : l.from ≤ l.block;
  turns : Turns l.initial.space l.space (with_frees (tables_of l.initial.space) l.first (numbers_from l.from (l.block - l.from)));
  count : l.at ≡ l.first + (l.block - l.from);
}

use Rattle.std.proofs.Common.{◌≡◌, ◌≤◌}
use Rattle.lxr_image.specs.Spaces.{tables_of}
use Rattle.lxr_c_many.specs.Recording.{unlogged_bits}
use Rattle.lxr_c_many.proofs.log.count_to_record.Given as goal

abbrev pub invariant-loop-i : goal.invariant-loop-i
invariant-loop-i l = record {
  found : l.found ≡ unlogged_bits (tables_of l.space).unlogged l.place.0 l.first l.i;
  few : l.found ≤ l.i;
}

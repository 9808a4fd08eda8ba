use Rattle.std.proofs.Common.{◌≡◌, map, Some, vec_capacity}
use Rattle.lxr_stand.proofs.keeper.list.Given as goal

abbrev pub invariant-loop-slot : goal.invariant-loop-slot
invariant-loop-slot g l = record {
  listed : map Some l.values.items ≡ l.yielded;
  room : vec_capacity l.values ≡ vec_capacity l.fn.values;
}

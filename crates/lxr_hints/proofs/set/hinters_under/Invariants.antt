use Rattle.std.proofs.Common.{◌≡◌, map, replicate, vec_capacity}
use Rattle.lxr_hints.specs.Joined.{pushes_of}
use Rattle.lxr_hints.proofs.Ways.{AreJoinedBelow}
use Rattle.lxr_hints.proofs.set.hinters_under.Given as goal

abbrev pub invariant-loop : goal.invariant-loop
invariant-loop g l = record {
  fresh : map pushes_of l.set.items ≡ replicate l.counter 0;
  room : vec_capacity l.set ≡ l.count;
}

abbrev pub invariant-loop-number : goal.invariant-loop-number
invariant-loop-number g l = record {
  fresh : map pushes_of l.set.items ≡ replicate l.count 0;
  joined : AreJoinedBelow l.number l.set.items;
}

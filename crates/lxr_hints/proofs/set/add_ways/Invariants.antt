use Rattle.std.proofs.Common.{◌≡◌, ◌++◌, All, map, take}
use Rattle.lxr_hints.specs.Joined.{own_deque}
use Rattle.lxr_hints.specs.Sharing.{IsWay, way_deque}
use Rattle.lxr_hints.proofs.set.add_ways.Given as goal

abbrev pub invariant-loop-other : goal.invariant-loop-other
invariant-loop-other g l = record {
  ways : All IsWay l.ways.items;
  others : map way_deque l.ways.items ≡ map way_deque l.initial.ways.items ++ map own_deque (take l.other-index l.others);
}

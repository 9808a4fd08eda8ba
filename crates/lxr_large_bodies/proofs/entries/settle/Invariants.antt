use Rattle.std.proofs.Common.{◌≡◌, drop, map}
use Rattle.lxr_large_bodies.specs.Entries.{AreSorted, settled_where}
use Rattle.lxr_large_bodies.proofs.entries.settle.Given as goal

abbrev pub invariant-loop-name : goal.invariant-loop-name
invariant-loop-name l = record {
  sorted : AreSorted l.entries;
  settled : map (settled_where (drop l.name-index l.names) l.settled) l.entries ≡ map (settled_where l.names l.settled) l.fn.entries;
}

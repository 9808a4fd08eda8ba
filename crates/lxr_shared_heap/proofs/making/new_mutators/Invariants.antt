use Rattle.std.proofs.Common.{◌≡◌, ◌+◌, ◌≤◌, vec_len, vec_capacity}
use Rattle.lxr_shared_heap.specs.Making.{AreNew}
use Rattle.lxr_shared_heap.proofs.making.new_mutators.Given as goal

abbrev pub invariant-loop-number : goal.invariant-loop-number
invariant-loop-number l = record {
  new : AreNew l.limits l.every l.names l.number l.actors.items;
  many : vec_len l.actors ≡ l.number;
  room : l.limits.threads + l.more ≤ vec_capacity l.actors;
}

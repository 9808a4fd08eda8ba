use Rattle.std.proofs.Common.{◌≡◌, ◌≤◌, All, None, Option, vec_capacity, vec_len}
use Rattle.lxr_stand.proofs.keeper.empty_slots.Given as goal

abbrev pub invariant-loop : goal.invariant-loop
invariant-loop g l = record {
  many : vec_len l.slots ≡ l.counter;
  room : l.count ≤ vec_capacity l.slots;
  none : All (λ (slot : Option g.row.T.Denot). slot ≡ None) l.slots.items;
}

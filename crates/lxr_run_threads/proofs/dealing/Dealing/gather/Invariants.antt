use Rattle.std.proofs.Common.{◌≡◌, ◌-◌, ◌≤◌, All, vec_len, vec_capacity}
use Rattle.lxr_core.specs.declared.actors.AnyActor.{AnyActor}
use Rattle.lxr_shared_passes.specs.Passing.{Opened}
use Rattle.lxr_run_threads.specs.Dealing.{AreDealt, IsAmongHands, OfEach, numbers_from, numbers_of}
use Rattle.lxr_run_threads.specs.Working.{IsDoneOf}
use Rattle.lxr_run_threads.proofs.dealing.Dealing.gather.Given as goal

abbrev pub invariant-loop-number : goal.invariant-loop-number
invariant-loop-number l = record {
  dealt : AreDealt l.self (numbers_from l.number (l.count - l.number)) l.hands;
  order : numbers_of l.passes.items ≡ numbers_from 0 l.number;
  many : vec_len l.passes ≡ l.number;
  room : l.count ≤ vec_capacity l.passes;
  each : (table : Opened AnyActor) → OfEach (IsDoneOf table) l.fn.hands → OfEach (IsDoneOf table) l.hands × All (IsDoneOf table) l.passes.items;
  among : OfEach (IsAmongHands l.fn.hands) l.hands × All (IsAmongHands l.fn.hands) l.passes.items;
}

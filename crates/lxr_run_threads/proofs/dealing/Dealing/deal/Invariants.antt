use Rattle.std.proofs.Common.{◌≡◌, ◌-◌, ◌≤◌, All, vec_len, vec_capacity}
use Rattle.lxr_core.specs.declared.actors.AnyActor.{AnyActor}
use Rattle.lxr_shared_passes.specs.Passing.{Opened}
use Rattle.lxr_run_threads.specs.Dealing.{AreDealt, IsAmong, OfEach, numbers_from, numbers_of}
use Rattle.lxr_run_threads.specs.Working.{IsPassOf}
use Rattle.lxr_run_threads.proofs.dealing.Dealing.deal.Given as goal

abbrev pub invariant-loop-pass : goal.invariant-loop-pass
invariant-loop-pass l = record {
  order : numbers_of l.passes.items ≡ numbers_from 0 (vec_len l.passes);
  few : vec_len l.passes ≤ vec_len l.fn.passes;
  dealt : AreDealt l.self (numbers_from (vec_len l.passes) (vec_len l.fn.passes - vec_len l.passes)) l.hands.items;
  room : vec_capacity l.passes ≡ vec_capacity l.fn.passes;
  each : (table : Opened AnyActor) → All (IsPassOf table) l.fn.passes.items → All (IsPassOf table) l.passes.items × OfEach (IsPassOf table) l.hands.items;
  among : All (IsAmong l.fn.passes.items) l.passes.items × OfEach (IsAmong l.fn.passes.items) l.hands.items;
}

abbrev pub decreases-loop-pass : goal.decreases-loop-pass
decreases-loop-pass l = vec_len l.passes

use Rattle.std.proofs.Common.{◌≡◌, ℕ, ◌+◌, ◌≤◌, [], Some, slice_get, vec_len, vec_capacity}
use Rattle.lxr_run_threads.specs.declared.dealing.Hand.{Hand}
use Rattle.lxr_run_threads.proofs.dealing.Dealing.prepare.Given as goal

abbrev pub invariant-loop-own : goal.invariant-loop-own
invariant-loop-own l = record {
  count : vec_len l.hands + vec_len l.hints ≡ l.fn.self.workers;
  room : l.fn.self.workers ≤ vec_capacity l.hands;
  empty : (worker : ℕ) (hand : Hand) → slice_get l.hands.items worker ≡ Some hand → hand.passes.items ≡ [];
}

abbrev pub decreases-loop-own : goal.decreases-loop-own
decreases-loop-own l = vec_len l.hints

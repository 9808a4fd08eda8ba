use Rattle.std.proofs.Common.{◌≡◌, ◌+◌, ◌≤◌, vec_len, vec_capacity}
use Rattle.lxr_run_threads.proofs.helping.make_hints.Given as goal

abbrev pub invariant-loop-decrementers : goal.invariant-loop-decrementers
invariant-loop-decrementers l = record {
  count : vec_len l.hints + vec_len l.for_decrementers ≡ l.workers;
  same : vec_len l.for_tracers ≡ vec_len l.for_decrementers;
  room : l.workers ≤ vec_capacity l.hints;
}

abbrev pub decreases-loop-decrementers : goal.decreases-loop-decrementers
decreases-loop-decrementers l = vec_len l.for_decrementers

use Rattle.std.proofs.Common.{◌≡◌, ◌+◌, ◌≤◌, ◌++◌, map, vec_len, vec_capacity}
use Rattle.std.specs.Vec.Iter.{into_iter_items, into_iter_len}
use Rattle.lxr_run_threads.specs.Standing.{first}
use Rattle.lxr_run_threads.proofs.standing.stand_up.Given as goal

abbrev pub invariant-loop-pass : goal.invariant-loop-pass
invariant-loop-pass l = record {
  room : vec_len l.standing + into_iter_len l.rest ≤ vec_capacity l.standing;
  taken : map first l.fn.passes.items ≡ l.standing.items ++ map first (into_iter_items l.rest);
}

abbrev pub decreases-loop-pass : goal.decreases-loop-pass
decreases-loop-pass l = into_iter_len l.rest

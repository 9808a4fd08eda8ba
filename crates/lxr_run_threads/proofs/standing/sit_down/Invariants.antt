use Rattle.std.proofs.Common.{◌≡◌, ◌+◌, ◌≤◌, ◌++◌, map, vec_len, vec_capacity}
use Rattle.std.specs.Vec.Iter.{into_iter_items, into_iter_len}
use Rattle.lxr_run_threads.specs.declared.standing.Standing.{Standing}
use Rattle.lxr_run_threads.proofs.standing.sit_down.Given as goal

abbrev pub invariant-loop-standing : goal.invariant-loop-standing
invariant-loop-standing l = record {
  room : vec_len l.passes + into_iter_len l.rest ≤ vec_capacity l.passes;
  taken : map (λ (s : Standing). s.pass) l.fn.standing.items ≡ l.passes.items ++ map (λ (s : Standing). s.pass) (into_iter_items l.rest);
}

abbrev pub decreases-loop-standing : goal.decreases-loop-standing
decreases-loop-standing l = into_iter_len l.rest

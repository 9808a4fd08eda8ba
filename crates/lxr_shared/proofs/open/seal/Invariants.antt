use Rattle.std.proofs.Common.{◌≡◌, ◌+◌, ◌≤◌, ◌++◌, vec_len, vec_capacity}
use Rattle.std.specs.Vec.Iter.{into_iter_items, into_iter_len}
use Rattle.lxr_shared.proofs.open.seal.Given as goal

abbrev pub invariant-loop-pass : goal.invariant-loop-pass
invariant-loop-pass l = record {
  room : vec_len l.sealed + into_iter_len l.rest ≤ vec_capacity l.sealed;
  taken : l.fn.passes.items ≡ l.sealed.items ++ into_iter_items l.rest;
}

abbrev pub decreases-loop-pass : goal.decreases-loop-pass
decreases-loop-pass l = into_iter_len l.rest

use Rattle.std.proofs.Common.{◌+◌, ◌≤◌, vec_len, vec_capacity}
use Rattle.std.specs.Vec.Iter.{into_iter_items, into_iter_len}
use Rattle.lxr_stations.proofs.HomeLemmas.{AreSettled}
use Rattle.lxr_stations.proofs.homes.settle.Given as goal

abbrev pub invariant-loop-pass : goal.invariant-loop-pass
invariant-loop-pass l = record {
  settled : AreSettled l.fn.passes.items (into_iter_items l.rest) l.words.items l.places.items;
  words : vec_len l.words + into_iter_len l.rest ≤ vec_capacity l.words;
  places : vec_len l.places + into_iter_len l.rest ≤ vec_capacity l.places;
}

abbrev pub decreases-loop-pass : goal.decreases-loop-pass
decreases-loop-pass l = into_iter_len l.rest

use Rattle.std.proofs.Common.{◌≡◌, ◌-◌, length, vec_capacity}
use Rattle.lxr_large_bodies.proofs.Words.{Grows}
use Rattle.lxr_large_bodies.proofs.bodies.clear_blocks.Given as goal

abbrev pub invariant-loop-words : goal.invariant-loop-words
invariant-loop-words l = record {
  grows : Grows l.fn.words.items l.words.items l.end;
  capacity : vec_capacity l.words ≡ vec_capacity l.fn.words;
}

abbrev pub decreases-loop-words : goal.decreases-loop-words
decreases-loop-words l = l.end - length l.words.items

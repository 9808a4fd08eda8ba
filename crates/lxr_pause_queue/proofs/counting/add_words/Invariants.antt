use Rattle.std.proofs.Common.{◌≡◌, ◌*◌}
use Rattle.lxr_image.specs.Spaces.{tables_of}
use Rattle.lxr_pause_queue.specs.Entries.{entries_below, with_told}
use Rattle.lxr_pause_queue.proofs.counting.add_words.Given as goal

abbrev pub invariant-loop-at : goal.invariant-loop-at
invariant-loop-at l = l.space ≡ with_told l.fn.space (entries_below (tables_of l.fn.space) (64 * l.at))

use Rattle.std.proofs.Common.{◌≡◌, length, take}
use Rattle.lxr_sights.proofs.copy.copy_words.Given as goal

-- the words up to here are those of the other
abbrev pub invariant-loop-at : goal.invariant-loop-at
invariant-loop-at l = (length l.to ≡ length l.from) × (take l.at l.to ≡ take l.at l.from)

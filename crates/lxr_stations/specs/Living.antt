-- Mutators that may be ordered operations.
use Rattle.std.specs.Prelude.{◌≡◌, ℕ, ◌+◌, ◌≤◌, Some, List, length, slice_get}
use Rattle.lxr_mutator.specs.Dialogues.{most_operations}
use Rattle.lxr_mutator.specs.Mutating.{Mutating}

-- It can be ordered as many operations as one of its number may have: it has room for the replies to all of these, to the thread's end, and to one more,
-- of which one is to spare whatever it was ordered.
abbrev pub IsLive : Mutating → Type 0
IsLive m = (m.replies.room ≡ most_operations m.thread + 2) × (length m.operations + 2 ≤ m.replies.room)

-- each of these is live
abbrev pub AreLive : List Mutating → Type 0
AreLive mutators = (i : ℕ) (m : Mutating) → slice_get mutators i ≡ Some m → IsLive m

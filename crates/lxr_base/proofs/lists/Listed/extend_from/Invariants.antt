use Rattle.std.proofs.Common.{◌≡◌, ◌++◌, take}
use Rattle.lxr_base.proofs.lists.Listed.extend_from.Given as goal

-- the items up to here are added, in the same room
abbrev pub invariant-loop-item : goal.invariant-loop-item
invariant-loop-item g l = (l.self.items ≡ l.fn.self.items ++ take l.item-index l.items) × (l.self.room ≡ l.fn.self.room)

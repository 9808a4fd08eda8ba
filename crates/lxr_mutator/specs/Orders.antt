-- Orders: a mutator that is between two operations gets one more.
use Rattle.std.specs.Prelude.{ℕ, ◌+◌, Bool, true, false, ◌&&◌, if◌then◌else◌, nat_le, nat_lt, [], ◌∷◌, ◌++◌, length}
use Rattle.lxr_graph.specs.declared.Op.{Op}
use Rattle.lxr_graph.specs.declared.Op.TheVariants as op
use Rattle.lxr_graph.specs.Forms.{is_formed_for}
use Rattle.lxr_mutator.specs.declared.phases.MutatorPhase.{MutatorPhase}
use Rattle.lxr_mutator.specs.declared.phases.MutatorPhase.TheVariants as phase
use Rattle.lxr_mutator.specs.Mutating.{Mutating}

-- it is between two operations, and may do a further one in this epoch
abbrev pub is_ready : MutatorPhase → Bool
is_ready phase.Ready = true
is_ready p = false

-- an operation that a thread with so many registers may be asked for: it names these alone, its shape fits, and it is no end
abbrev pub is_operation : ℕ → Op → Bool
is_operation width op.End = false
is_operation width o = is_formed_for width o

-- each operation that it has is done
abbrev pub is_idle : Mutating → Bool
is_idle m = nat_le (length m.operations) (length m.replies.items)

-- there is room for one more operation with its reply, beside that of the thread's end
abbrev pub has_room_for_order : Mutating → Bool
has_room_for_order m = nat_lt (length m.operations + 2) m.replies.room

-- whether it takes the operation
abbrev pub takes_order : Mutating → Op → Bool
takes_order m o = is_ready m.phase && (is_idle m && (is_operation m.width o && has_room_for_order m))

-- the operation stands behind those that it has
abbrev pub with_order : Mutating → Op → Mutating
with_order m o = record m { operations = m.operations ++ o ∷ [] }

-- once it was ordered the operation and took it or not, and whether it did
abbrev pub ordered_if : Mutating → Op → Bool → Mutating × Bool
ordered_if m o takes = if takes then (with_order m o, true) else (m, false)

-- once it is ordered the operation, and whether it took it
abbrev pub ordered : Mutating → Op → Mutating × Bool
ordered m o = ordered_if m o (takes_order m o)

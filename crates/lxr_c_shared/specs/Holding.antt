-- What a program has of a heap that threads share: the heap or a station in a box, or nothing; and what a call does at it.
use base.Fml.{Fml, ftrue}
use denote.RawPtr.{Ptr}
use Rattle.std.specs.Prelude.{◌≡◌}
use Rattle.std.specs.declared.option.Option.{Option}
use Rattle.std.specs.declared.option.Option.TheVariants.{None, Some}
use Rattle.std.specs.Box.Ownership.{box_owns}
use Rattle.std.specs.Global.{Box, Global}
use Rattle.std.specs.contracts.impls.GlobalAllocator.TheImpl.{ghosts}
use Rattle.lxr_c_shared.specs.declared.owned.Owned.{Owned}
use Rattle.lxr_c_shared.specs.contracts.owned.Owned.{the_row}

-- a heap or a station, or none
abbrev pub MayHold : Type 0
MayHold = Option the_row.Denot

-- the box at an address, where there is something; and nothing where there is nothing
abbrev pub held_owns : Global → Ptr → MayHold → Fml
held_owns alloc p None = ftrue
held_owns alloc p (Some x) = box_owns (ghosts.dealloc_token alloc) the_row p x

-- what is kept of a box that may be there
abbrev pub held_of : Option (Box Owned) → MayHold
held_of None = None
held_of (Some b) = Some b.value

-- A call was made at what a program has: at nothing it answers this and changes nothing, and else this was done.
abbrev pub At : {T : Type 0} → T → (Owned → Owned → T → Type 0) → MayHold → MayHold → T → Type 0
At nothing does None after answer = (answer ≡ nothing) × (after ≡ None)
At nothing does (Some x) after answer = (y : Owned) × (after ≡ Some y) × does x y answer

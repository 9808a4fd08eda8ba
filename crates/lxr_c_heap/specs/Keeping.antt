-- What a handle keeps, and owns: the heap of a program in a box, or nothing.
use base.Fml.{Fml, ftrue}
use denote.RawPtr.{Ptr}
use Rattle.std.specs.Prelude.{◌≡◌, ℕ, IsSome, Result, Ok, Err}
use Rattle.std.specs.declared.option.Option.{Option}
use Rattle.std.specs.declared.option.Option.TheVariants.{None, Some}
use Rattle.std.specs.Box.Ownership.{box_owns}
use Rattle.std.specs.Global.{Box, Global}
use Rattle.std.specs.contracts.impls.GlobalAllocator.TheImpl.{ghosts}
use Rattle.lxr_c_base.specs.declared.codes.Code.{Code}
use Rattle.lxr_c_base.specs.declared.codes.Code.TheVariants as code
use Rattle.lxr_c_heap.specs.declared.host.HostHeap.{HostHeap}
use Rattle.lxr_c_heap.specs.contracts.host.HostHeap.{the_row}

-- a heap, or none
abbrev pub Kept : Type 0
Kept = Option the_row.Denot

-- the box at an address, where there is a heap; and nothing where there is none
abbrev pub block_owns : Global → Ptr → Kept → Fml
block_owns alloc p None = ftrue
block_owns alloc p (Some x) = box_owns (ghosts.dealloc_token alloc) the_row p x

-- what is kept of a box that may be there
abbrev pub kept_of : Option (Box HostHeap) → Kept
kept_of None = None
kept_of (Some b) = Some b.value

-- how many registers the host may name: none where there is no heap
abbrev pub registers_kept : Kept → ℕ
registers_kept None = 0
registers_kept (Some x) = x.named

-- it was asked whether there is a heap
abbrev pub Finds : Kept → Result (Unit {0}) Code → Type 0
Finds kept (Err e) = (e ≡ code.NoHeap) × (kept ≡ None)
Finds kept (Ok found) = IsSome kept

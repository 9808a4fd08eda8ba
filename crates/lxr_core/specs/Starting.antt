-- Actors that begin an epoch again, with their registers.
use Rattle.std.specs.Prelude.{◌≡◌, ℕ, ◌+◌, ◌*◌, ◌<◌, ◌≤◌, ⊤, true, Some, List, length, slice_get}
use Rattle.lxr_layout.specs.declared.TheConstants.{REGISTERS}
use Rattle.lxr_layout.specs.declared.Place.{Place}
use Rattle.lxr_image.specs.Registers.{Registers, row_in}
use Rattle.lxr_mutator.specs.Mutators.{again, no_spans}
use Rattle.lxr_mutator.specs.Mutating.{Mutating, rests_in}
use Rattle.lxr_decrement.specs.Decrementers.{again as empty_again}
use Rattle.lxr_trace.specs.Tracers.{again as trace_again}
use Rattle.lxr_core.specs.declared.actors.AnyActor.{AnyActor}
use Rattle.lxr_core.specs.declared.actors.AnyActor.TheVariants as any

-- an actor that begins again: a mutator with these registers, a helper with an empty pocket
abbrev pub started_again : AnyActor → List Place → AnyActor
started_again (any.Mutator m) registers = any.Mutator (again m registers)
started_again (any.Decrementer d) registers = any.Decrementer (empty_again d)
started_again (any.Tracer d) registers = any.Tracer (trace_again d)

-- a mutator may begin again: it rests, and has given up what it drew
pub record MutatorMayStart (m : Mutating) : Type 0 where
  pub rests : rests_in m.phase ≡ true
  pub spans : m.spans ≡ no_spans

-- an actor may; a helper always may
abbrev pub MayStart : AnyActor → Type 0
MayStart (any.Mutator m) = MutatorMayStart m
MayStart (any.Decrementer d) = ⊤
MayStart (any.Tracer d) = ⊤

-- all may
abbrev pub MayAllStart : List AnyActor → Type 0
MayAllStart actors = (i : ℕ) (a : AnyActor) → slice_get actors i ≡ Some a → MayStart a

-- among these registers are those of the mutator of a number, which may name as many; a helper has none
abbrev pub HasRegisters : Registers → ℕ → AnyActor → Type 0
HasRegisters r number (any.Mutator m) = (number < 255) × (REGISTERS * (number + 1) ≤ length r.items) × (m.width ≡ r.width)
HasRegisters r number (any.Decrementer d) = ⊤
HasRegisters r number (any.Tracer d) = ⊤

-- each of these mutators may name so many registers
abbrev pub MayNameAll : ℕ → List Mutating → Type 0
MayNameAll width mutators = (i : ℕ) (m : Mutating) → slice_get mutators i ≡ Some m → m.width ≡ width

-- the first so many actors have begun again, each with its registers
pub record HaveStarted (places : List Place) (before after : List AnyActor) (count : ℕ) : Type 0 where
  pub as_many : length after ≡ length before
  pub started : (i : ℕ) (a : AnyActor) → slice_get before i ≡ Some a → i < count → slice_get after i ≡ Some (started_again a (row_in places i))
  pub others : (i : ℕ) → count ≤ i → slice_get after i ≡ slice_get before i

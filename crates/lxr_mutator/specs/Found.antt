-- What units of `swap` and `add` reply, told by the words that their steps find.
use Rattle.std.specs.Prelude.{◌≡◌, ◌≢◌, ℕ, ◌≤◌, ◌⊎◌, Bool, true, false, Option, Some, None, List, [], ◌∷◌, ◌++◌, slice_set}
use Rattle.lxr_layout.specs.declared.Name.{Name}
use Rattle.lxr_layout.specs.declared.Shape.{Shape}
use Rattle.lxr_layout.specs.Objects.{header_of}
use Rattle.lxr_layout.specs.Places.{place_in}
use Rattle.lxr_base.specs.Roomy.{pushed}
use Rattle.lxr_graph.specs.declared.Op.TheVariants as op
use Rattle.lxr_graph.specs.declared.Reply.{Reply}
use Rattle.lxr_graph.specs.declared.Reply.TheVariants as reply
use Rattle.lxr_actor.specs.declared.Action.{Action}
use Rattle.lxr_actor.specs.declared.Kindred.TheVariants.{Swap}
use Rattle.lxr_barrier.specs.Storing.{reference_word}
use Rattle.lxr_mutator.specs.Mutating.{Mutating, op_now, register}
use Rattle.lxr_mutator.specs.Naming.{unnamed}
use Rattle.lxr_mutator.specs.Steps.{accepts_in, action, adding, data_word, name_told, shape_told}
use Rattle.lxr_mutator.specs.Units.{IsUnit, led}

-- a swap of a word for a value
abbrev pub swapping : ℕ → ℕ → Option Action
swapping word value = Some (record { kind = Swap; word = word; operand = value })

-- the base of a unit of these steps, whose first two words are the pause word and the base's header, has this shape
abbrev pub IsBaseShape : List ℕ → Shape → Type 0
IsBaseShape olds shape = (pause : ℕ) × (header : ℕ) × (rest : List ℕ) × (olds ≡ pause ∷ header ∷ rest) × (shape ≡ shape_told (header_of header))

-- the last of these words doesn't tell what its phase looks for; in an epoch each does
abbrev pub IsUnread : Mutating → List ℕ → Type 0
IsUnread m olds = (before : List ℕ) × (old : ℕ) × (olds ≡ before ++ old ∷ []) × (accepts_in (led m before) (led m before).phase old ≡ false)

-- A swap that was done in a unit of these steps, which led to `to`: the step behind `before` swapped reference `index` of the base for what
-- `source` holds, and the register `dest` holds what that step found. `behind` are the words that came after.
pub record HasSwapped (m : Mutating) (dest base index source : ℕ) (olds : List ℕ) (to : Mutating) (found : ℕ) (behind : List ℕ) : Type 0 where
  pub before : List ℕ
  pub is : olds ≡ before ++ found ∷ behind
  pub swaps : action (led m before) ≡ swapping (reference_word (register m base) index) (register m source).0
  pub holds : to.registers ≡ slice_set m.registers dest (place_in found)

-- The name of what its swap found is the one that the header of that tells, in a step of its own; who tells no names makes no such step.
abbrev pub SwapNames : Mutating → (dest base index source : ℕ) → List ℕ → Mutating → Name → ℕ → Bool → Type 0
SwapNames m dest base index source olds to name found true =
    (header : ℕ) × HasSwapped m dest base index source olds to found (header ∷ []) × (name ≡ name_told (header_of header))
SwapNames m dest base index source olds to name found false = HasSwapped m dest base index source olds to found [] × (name ≡ unnamed)

-- why a unit of these steps, which led to `to`, replied so to a swap: with nil or with a name it tells what its swap found
abbrev pub SwapTells : Mutating → (dest base index source : ℕ) → List ℕ → Mutating → Reply → Type 0
SwapTells m dest base index source olds to (reply.Swapped None) = (found : ℕ) × HasSwapped m dest base index source olds to found [] × ((place_in found).0 ≡ 0)
SwapTells m dest base index source olds to (reply.Swapped (Some name)) = (found : ℕ) × ((place_in found).0 ≢ 0) × SwapNames m dest base index source olds to name found m.names
SwapTells m dest base index source olds to reply.Range = (shape : Shape) × IsBaseShape olds shape × (shape.refs ≤ index)
SwapTells m dest base index source olds to reply.Bad = ((register m base).0 ≡ 0) ⊎ IsUnread m olds
SwapTells m dest base index source olds to r = ⊥

-- why one replied so to an add: with the word that its addition found
abbrev pub AddTells : Mutating → (base index value : ℕ) → List ℕ → Reply → Type 0
AddTells m base index value olds (reply.Added found) =
    (shape : Shape) × IsBaseShape olds shape × (before : List ℕ) × (olds ≡ before ++ found ∷ []) × (action (led m before) ≡ adding (data_word (register m base) shape.refs index) value)
AddTells m base index value olds reply.Range = (shape : Shape) × IsBaseShape olds shape × (shape.values ≤ index)
AddTells m base index value olds reply.Bad = ((register m base).0 ≡ 0) ⊎ IsUnread m olds
AddTells m base index value olds r = ⊥

-- the unit led to no reply, or to one that was told so
abbrev pub RepliesSo : Mutating → Mutating → (Reply → Type 0) → Type 0
RepliesSo m to Tells = (to.replies ≡ m.replies) ⊎ ((r : Reply) × (to.replies ≡ pushed m.replies r) × Tells r)

-- A unit of a swap tells what its step that swapped has found, and leaves that in the register; and so the other replies have their causes.
abbrev pub SwapsTellWhatTheyFind : Type 0
SwapsTellWhatTheyFind = (m : Mutating) (olds : List ℕ) (dest base index source : ℕ) → IsUnit m olds → op_now m ≡ op.Swap dest base index source
    → RepliesSo m (led m olds) (SwapTells m dest base index source olds (led m olds))

-- a unit of an add tells the word that its addition has found
abbrev pub AddsTellWhatTheyFind : Type 0
AddsTellWhatTheyFind = (m : Mutating) (olds : List ℕ) (base index value : ℕ) → IsUnit m olds → op_now m ≡ op.Add base index value
    → RepliesSo m (led m olds) (AddTells m base index value olds)

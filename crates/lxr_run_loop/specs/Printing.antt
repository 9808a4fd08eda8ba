-- The text of the replies of all threads, by their mutators.
use Rattle.std.specs.Prelude.{◌≡◌, ℕ, ⊤, Some, List, [], ◌∷◌, ◌++◌, slice_get}
use Rattle.lxr_text_print.specs.Replies.{ArePrintable, replies_text}
use Rattle.lxr_mutator.specs.Mutating.{Mutating}
use Rattle.lxr_mutator.specs.Mutators.{IsFull}
use Rattle.lxr_core.specs.declared.actors.AnyActor.{AnyActor}
use Rattle.lxr_core.specs.declared.actors.AnyActor.TheVariants as any

-- the text of the replies of a thread
abbrev pub mutator_text : Mutating → List ℕ
mutator_text m = replies_text m.thread m.operations m.replies.items

-- the texts of all threads, in order
abbrev pub mutators_text : List Mutating → List ℕ
mutators_text [] = []
mutators_text (m ∷ mutators) = mutator_text m ++ mutators_text mutators

-- an actor keeps its replies, and these can be printed; a helper has none
abbrev pub IsPrintable : AnyActor → Type 0
IsPrintable (any.Mutator m) = IsFull m × ArePrintable m.operations m.replies.items
IsPrintable (any.Decrementer d) = ⊤
IsPrintable (any.Tracer d) = ⊤

-- those of each can be
abbrev pub CanBePrinted : List AnyActor → Type 0
CanBePrinted actors = (i : ℕ) (a : AnyActor) → slice_get actors i ≡ Some a → IsPrintable a

-- One turn: what is asked of a mutator and the space, and what has come of it.
use Rattle.std.specs.Prelude.{◌≡◌, ℕ, ◌+◌, ◌^◌, ◌<◌, ◌≤◌, ◌⊎◌, Bool, true, false, Option, Some, None, List}
use Rattle.lxr_graph.specs.History.{Item}
use Rattle.lxr_image.specs.declared.space.Space.{Space}
use Rattle.lxr_blocks.specs.Placing.{IsFull}
use Rattle.lxr_invariant.specs.AbstractState.{AbstractState}
use Rattle.lxr_invariant.specs.Quiescent.{IsQuiescent}
use Rattle.lxr_mutator.specs.declared.phases.Waiting.{Waiting}
use Rattle.lxr_mutator.specs.Mutating.{Mutating, waiting_by}
use Rattle.lxr_core.specs.declared.actors.AnyActor.{AnyActor}
use Rattle.lxr_core.specs.declared.actors.AnyActor.TheVariants as any
use Rattle.lxr_core.specs.Resting.{FitsThread}
use Rattle.lxr_serve.specs.Answering.{TakesTurn}

-- The turn of thread t has come: the space is between epochs, the thread's mutator rests and fits it, and one more object can be counted.
pub record MayTakeTurn (s : Space) (g : AbstractState) (t : ℕ) (m : Mutating) : Type 0 where
  pub between : IsQuiescent s g
  pub thread : (1 ≤ t) × (t ≤ s.limits.threads)
  pub fits : FitsThread s.limits g.moment.state.graph t m
  pub counted : s.tally.news + 1 < 2 ^ 64

abbrev pub CanTakeTurn : Space → Mutating → Type 0
CanTakeTurn space m = (g : AbstractState) × (t : ℕ) × MayTakeTurn space g t m

-- its `new` finds no room and may not be refused: it waits still, and nothing has changed
pub record StillWaits (collected served : Bool) (before after : Space) (m m' : Mutating) : Type 0 where
  pub waiting : Waiting
  pub waits : waiting_by m m.end ≡ Some waiting
  pub full : IsFull before waiting.shape
  pub not_yet : (collected ≡ false) ⊎ (served ≡ true)
  pub space : after ≡ before
  pub mutator : m' ≡ m

-- What has come of a turn, by whether some `new` was served in this call, where it was taken; none tells that it was not.
abbrev pub ComesOut : Bool → Bool → Space → Space → Mutating → Mutating → Option Bool → Type 0
ComesOut collected served before after m m' (Some served') = (h : List Item) → (h' : List Item) × TakesTurn collected m.thread m m' before after served served' h h'
ComesOut collected served before after m m' None = StillWaits collected served before after m m'

-- an actor is a mutator of which this holds
abbrev pub IsMutatorWith : (Mutating → Type 0) → AnyActor → Type 0
IsMutatorWith P (any.Mutator m) = P m
IsMutatorWith P (any.Decrementer d) = ⊥
IsMutatorWith P (any.Tracer d) = ⊥

-- two actors are mutators between which this holds
abbrev pub AreMutatorsWith : (Mutating → Mutating → Type 0) → AnyActor → AnyActor → Type 0
AreMutatorsWith R (any.Mutator m) (any.Mutator m') = R m m'
AreMutatorsWith R a a' = ⊥

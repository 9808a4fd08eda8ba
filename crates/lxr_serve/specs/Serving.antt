-- When the `new`s that wait may be served, and what a space is then.
use Rattle.std.specs.Prelude.{◌≡◌, ℕ, ◌^◌, ◌<◌, Bool, List, IsTrue, slice_get, Some}
use Rattle.lxr_graph.specs.declared.report.Kind.TheVariants as kind
use Rattle.lxr_graph.specs.History.{Item}
use Rattle.lxr_image.specs.declared.space.Space.{Space}
use Rattle.lxr_model.specs.Moments.{moment}
use Rattle.lxr_invariant.specs.AbstractState.{AbstractState}
use Rattle.lxr_invariant.specs.Quiescent.{IsQuiescent}
use Rattle.lxr_mutator.specs.Mutating.{IsWaiting, Mutating}
use Rattle.lxr_core_sim_mutator.specs.Showing.{IsNew}
use Rattle.lxr_core.specs.declared.actors.AnyActor.{AnyActor}
use Rattle.lxr_core.specs.Actors.{AreInOrder, decrementers_in, mutators_in, tracers_in}
use Rattle.lxr_core.specs.Resting.{FitSpace}
use Rattle.lxr_serve.specs.declared.Served.{Served}
use Rattle.lxr_serve.specs.Answering.{Answers}

-- what waits is a `new`
abbrev pub NewsWait : List Mutating → Type 0
NewsWait mutators = (i : ℕ) (m : Mutating) → slice_get mutators i ≡ Some m → IsWaiting m → IsNew m

-- Waiting `new`s may be served: the space is between epochs, the actors rest and fit it, and a collecting pause is said to stand before
-- only where the last pause was one. New objects can still be counted.
pub record CanServe (s : Space) (g : AbstractState) (actors : List AnyActor) (collected : Bool) : Type 0 where
  pub between : IsQuiescent s g
  pub fit : FitSpace s.limits g.moment.state.graph actors
  pub collected_is : IsTrue collected → s.report.kind ≡ kind.Collect
  pub counted : s.tally.news < 2 ^ 63

-- mutators alone are other than they were: the helpers stand behind them as before
pub record KeepsHelpers (before after : List AnyActor) : Type 0 where
  pub order : AreInOrder after
  pub same : decrementers_in after ≡ decrementers_in before
  pub tracers : tracers_in after ≡ tracers_in before

-- what may be served still may: the space is between epochs for some state, which the actors fit
pub record CanServeOn (s : Space) (g : AbstractState) (actors : List AnyActor) : Type 0 where
  pub between : IsQuiescent s g
  pub fit : FitSpace s.limits g.moment.state.graph actors

-- What a call has come to, behind a history and from the state that the space stood for: the history goes on by the answers, and the space stands for a
-- further state. Where the history led to the one, the longer history leads to the other.
pub record HasServed (result : Served) (collected : Bool) (before after : Space) (actors actors' : List AnyActor) (g : AbstractState) (h : List Item) : Type 0 where
  pub history : List Item
  pub abstract_state : AbstractState
  pub answers : Answers result collected (mutators_in actors) (mutators_in actors') before after h history
  pub on : CanServeOn after abstract_state actors'
  pub leads : (threads : ℕ) → g.moment ≡ moment threads h → abstract_state.moment ≡ moment threads history

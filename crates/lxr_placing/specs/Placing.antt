-- What a space stands for once an object was made for a thread that waited.
use Rattle.std.specs.Prelude.{◌≡◌, ℕ, Option, Some, None, slice_set}
use Rattle.lxr_layout.specs.declared.Name.{Name}
use Rattle.lxr_layout.specs.declared.Place.{Place}
use Rattle.lxr_layout.specs.declared.Shape.{Shape}
use Rattle.lxr_graph.specs.declared.Op.TheVariants as op
use Rattle.lxr_graph.specs.declared.Reply.TheVariants as reply
use Rattle.lxr_graph.specs.State.{next_name, register_index}
use Rattle.lxr_graph.specs.Step.{IsReply}
use Rattle.lxr_image.specs.declared.space.Space.{Space}
use Rattle.lxr_image.specs.ImageLaws.{placed}
use Rattle.lxr_blocks.specs.Placing.{IsFull, IsPlaced}
use Rattle.lxr_model.specs.Moments.{after_call}
use Rattle.lxr_invariant.specs.AbstractState.{AbstractState}
use Rattle.lxr_invariant.specs.Quiescent.{IsAtRest}

-- a space at rest stands for an abstract state in which a name is the next one of its thread
pub record IsServable (s : Space) (g : AbstractState) (name : Name) : Type 0 where
  pub rests : IsAtRest s g
  pub next : name ≡ next_name g.moment.state.graph name.thread

-- the space with a place in one register
abbrev pub with_register : Space → ℕ → Place → Space
with_register space index place = record space { registers = record space.registers { items = slice_set space.registers.items index place } }

-- the abstract state after the `new` of a name's thread: the object stands at a place, and all else stands where it did
abbrev pub served_abstract_state : AbstractState → Name → ℕ → Shape → Place → AbstractState
served_abstract_state g name dest shape place = record g {
  moment = after_call g.moment name.thread (op.New dest shape) (reply.New name);
  at = placed g.at name place.0;
}

-- the reply is that of one step of the model, and the space is at rest for the abstract state after it
pub record IsServedFrom (after : Space) (g : AbstractState) (name : Name) (dest : ℕ) (shape : Shape) (place : Place) : Type 0 where
  pub reply : IsReply g.moment.state name.thread (op.New dest shape) (reply.New name)
  pub rests : IsAtRest after (served_abstract_state g name dest shape place)

-- There was room: the object was placed, the thread's register holds its place, and nothing else has changed. So the `new` is done,
-- whatever the space stood for.
pub record IsServed (before after : Space) (name : Name) (dest : ℕ) (shape : Shape) (place : Place) : Type 0 where
  pub room : ¬ IsFull before shape
  pub middle : Space
  pub placed : IsPlaced before middle name shape place
  pub held : after ≡ with_register middle (register_index name.thread dest) place
  pub abstract_state : (g : AbstractState) → IsServable before g name → IsServedFrom after g name dest shape place

-- a `new` was served with a place, or there was no room, and nothing has changed
abbrev pub Serves : Space → Space → Name → ℕ → Shape → Option Place → Type 0
Serves before after name dest shape (Some place) = IsServed before after name dest shape place
Serves before after name dest shape None = IsFull before shape × (after ≡ before)

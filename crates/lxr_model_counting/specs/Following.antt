-- How the state now follows the one at the last pause: all that operations between two pauses keep.
use Rattle.std.specs.Prelude.{◌≡◌, ℕ, ◌-◌, ◌*◌, ◌<◌, ◌≤◌, ◌⊎◌, false, None, Some, IsTrue, length, slice_get}
use Rattle.lxr_layout.specs.declared.TheConstants.{REGISTERS}
use Rattle.lxr_layout.specs.declared.Name.{Name}
use Rattle.lxr_graph.specs.declared.Op.{Op}
use Rattle.lxr_graph.specs.declared.Op.TheVariants as op
use Rattle.lxr_graph.specs.declared.Reply.{Reply}
use Rattle.lxr_graph.specs.declared.Reply.TheVariants as reply
use Rattle.lxr_graph.specs.Names.{AreInOrder, has}
use Rattle.lxr_graph.specs.State.{Object, State, HasObject, object_at, refs_of, world_name}
use Rattle.lxr_graph.specs.Step.{IsReply}
use Rattle.lxr_model.specs.Reachable.{Holds, Refers, Reachable}
use Rattle.lxr_model.specs.Moments.{Moment}
use Rattle.lxr_model_counting.specs.Distinct.{AreDistinctFields, has_field}

-- a name is live: it was reachable at the last pause, or was made since
abbrev pub IsLive : Moment → Name → Type 0
IsLive m n = Reachable m.last n ⊎ IsTrue (has m.made n)

-- an object has as many references and data words as another
pub record HasShapeOf (a b : Object) : Type 0 where
  pub refs : length a.refs ≡ length b.refs
  pub values : length a.values ≡ length b.values

-- The state now follows the one at the last pause: what calls between two pauses leave as it was, and what they may change.
pub record FollowsPause (m : Moment) : Type 0 where
  -- the unreclaimed names stand each once and in order, and so do those made since the pause; none is in both lists
  pub unreclaimed : AreInOrder m.unreclaimed
  pub made : AreInOrder m.made
  pub apart : (n : Name) → IsTrue (has m.made n) → has m.unreclaimed n ≡ false
  -- what was reachable at the pause is unreclaimed
  pub kept : (n : Name) → Reachable m.last n → IsTrue (has m.unreclaimed n)
  -- what an unreclaimed object referred to at the pause is unreclaimed
  pub closed : (u n : Name) → IsTrue (has m.unreclaimed u) → Refers m.last.graph u n → IsTrue (has m.unreclaimed n)
  -- the world is stuck
  pub world : IsTrue (has m.stuck world_name)
  -- what is stuck is unreclaimed
  pub stuck : (n : Name) → IsTrue (has m.stuck n) → IsTrue (has m.unreclaimed n)
  -- registers hold live names now
  pub held : (n : Name) → Holds m.state n → IsLive m n
  -- what a live object refers to now is live
  pub referred : (u n : Name) → IsLive m u → Refers m.state.graph u n → IsLive m n
  -- no object left the graph
  pub grows : (n : Name) → HasObject m.last.graph n → HasObject m.state.graph n
  -- an unreclaimed name had an object at the pause, and has one of that shape now
  pub objects : (n : Name) → IsTrue (has m.unreclaimed n)
      → (was now : Object) × (object_at m.last.graph n ≡ Some was) × (object_at m.state.graph n ≡ Some now) × HasShapeOf now was
  -- a name made since had no object at the pause, and has one now
  pub young : (n : Name) → IsTrue (has m.made n) → (object_at m.last.graph n ≡ None) × HasObject m.state.graph n
  -- an unreclaimed object that wasn't reachable at the pause is what it was, references and data words: no thread gets at it
  pub unreached : (n : Name) → IsTrue (has m.unreclaimed n) → ¬ Reachable m.last n → object_at m.state.graph n ≡ object_at m.last.graph n
  -- a reference of an unreclaimed object that wasn't written is what it was
  pub unwritten : (n : Name) (i : ℕ) → IsTrue (has m.unreclaimed n) → has_field m.written (n, i) ≡ false
      → slice_get (refs_of (object_at m.state.graph n)) i ≡ slice_get (refs_of (object_at m.last.graph n)) i
  -- the references written stand each once
  pub written_once : AreDistinctFields m.written
  -- each is a reference of an unreclaimed object that was reachable at the pause
  pub written : (n : Name) (i : ℕ) → IsTrue (has_field m.written (n, i))
      → IsTrue (has m.unreclaimed n) × Reachable m.last n × (i < length (refs_of (object_at m.last.graph n)))
  -- the graph has as many rows as it had, one for each thread and the world's
  pub rows : length m.state.graph ≡ length m.last.graph
  -- there are 256 registers for each thread, now and at the pause
  pub registers : length m.state.registers ≡ REGISTERS * (length m.state.graph - 1)
  pub registers_were : length m.last.registers ≡ REGISTERS * (length m.last.graph - 1)

-- the reply is that of a step, or `full` of a `new`, by a thread that there is
abbrev pub IsStepReply : State → ℕ → Op → Reply → Type 0
IsStepReply s t (op.New dest shape) reply.Full = Unit {0}
IsStepReply s t o r = IsReply s t o r × (t < length s.graph) × (1 ≤ t)

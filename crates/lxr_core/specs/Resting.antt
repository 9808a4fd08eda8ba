-- Actors between two epochs.
use Rattle.std.specs.Prelude.{◌≡◌, ℕ, ◌+◌, ◌≤◌, false, true, Some, [], List, length, slice_get, take}
use Rattle.lxr_layout.specs.declared.limits.Limits.{Limits}
use Rattle.lxr_graph.specs.History.{Item, calls_of, replies_of}
use Rattle.lxr_graph.specs.State.{Graph, next_name}
use Rattle.lxr_mutator.specs.Mutating as mutating
use Rattle.lxr_model.specs.Belongs.{calls_since_pause, has_asked}
use Rattle.lxr_mutator.specs.declared.phases.MutEnd.TheVariants as ends
use Rattle.lxr_mutator.specs.Mutating.{IsWaiting, Mutating, rests_in}
use Rattle.lxr_mutator.specs.Mutators.{no_spans}
use Rattle.lxr_mutator.specs.Naming.{all_told_as, blank_end}
use Rattle.lxr_decrement.specs.Decrementing.{DecrementerState}
use Rattle.lxr_decrement.specs.Steps.{decrementer_machine}
use Rattle.lxr_trace.specs.Tracing.{TracerState}
use Rattle.lxr_trace.specs.Steps.{tracer_machine}
use Rattle.lxr_core_invariant.specs.ThreadStates.{all_of}
use Rattle.lxr_core_invariant.specs.EpochStates.{objects_before}
use Rattle.lxr_core_sim_helpers.specs.DecrementerShowing.{IsDecrementerOf}
use Rattle.lxr_core_sim_helpers.specs.TracerShowing.{IsTracerOf}
use Rattle.lxr_core_sim_mutator.specs.Showing.{IsMutatorOf}
use Rattle.lxr_core.specs.declared.actors.AnyActor.{AnyActor}
use Rattle.lxr_core.specs.Actors.{AreInOrder, decrementers_in, mutators_in, tracers_in}

-- The mutator of a thread rests and fits a space of these limits that stands for this graph: it was made with them, has neither
-- entries in its log nor granules in its spans, and names its next object by its thread's next name in the graph.
pub record FitsThread (l : Limits) (graph : Graph) (t : ℕ) (m : Mutating) : Type 0 where
  pub mutator : IsMutatorOf l m
  pub thread : m.thread ≡ t
  pub log : m.log ≡ record { items = []; room = l.log }
  pub spans : m.spans ≡ no_spans
  pub rests : rests_in m.phase ≡ true
  pub name : next_name graph t ≡ mutating.next_name m

-- a decrementer that was made with these limits rests
pub record HelperRests (l : Limits) (d : DecrementerState) : Type 0 where
  pub decrementer : IsDecrementerOf l d
  pub rests : decrementer_machine.rests d ≡ true

-- a tracer that was
pub record TracerRests (l : Limits) (d : TracerState) : Type 0 where
  pub tracer : IsTracerOf l d
  pub rests : tracer_machine.rests d ≡ true

-- the helpers behind the mutators rest
pub record HelpersRest (l : Limits) (actors : List AnyActor) : Type 0 where
  pub order : AreInOrder actors
  pub each : (i : ℕ) (d : DecrementerState) → slice_get (decrementers_in actors) i ≡ Some d → HelperRests l d
  pub tracers : (i : ℕ) (d : TracerState) → slice_get (tracers_in actors) i ≡ Some d → TracerRests l d

-- there is one mutator for each thread, in order, and each fits; the helpers follow
pub record FitSpace (l : Limits) (graph : Graph) (actors : List AnyActor) : Type 0 where
  pub as_many : length (mutators_in actors) ≡ l.threads
  pub each : (i : ℕ) (m : Mutating) → slice_get (mutators_in actors) i ≡ Some m → FitsThread l graph (i + 1) m
  pub helpers : HelpersRest l actors

-- The mutator of a thread rests after a history, in a space of these limits: it has done a beginning of its operations, each
-- once and in order, with the replies of the history, which it tells with names or without; its log is empty, and so are its spans.
pub record RestsAfter (l : Limits) (turns : ℕ) (h : List Item) (t : ℕ) (m : Mutating) : Type 0 where
  pub mutator : IsMutatorOf l m
  pub thread : m.thread ≡ t
  pub every : m.every ≡ turns
  pub log : m.log ≡ record { items = []; room = l.log }
  pub spans : m.spans ≡ no_spans
  pub rests : rests_in m.phase ≡ true
  pub calls : calls_of t h ≡ take (length m.replies.items) (all_of m.operations)
  pub replies : all_told_as m.names (replies_of t h) ≡ m.replies.items
  -- who tells no names has ended its last unit without one
  pub unnamed : m.names ≡ false → blank_end m.end ≡ m.end
  -- it counts from the objects that its thread began with
  pub began : m.before ≡ objects_before t h
  -- where it has ended, all operations and the end have replies
  pub ended : m.end ≡ Some ends.Ended → length m.replies.items ≡ length m.operations + 1

-- there is one mutator for each thread, in order, and each rests
pub record RestAfter (l : Limits) (turns : ℕ) (h : List Item) (mutators : List Mutating) : Type 0 where
  pub as_many : length mutators ≡ l.threads
  pub each : (i : ℕ) (m : Mutating) → slice_get mutators i ≡ Some m → RestsAfter l turns h (i + 1) m

-- so do the helpers behind them
pub record ActorsRestAfter (l : Limits) (turns : ℕ) (h : List Item) (actors : List AnyActor) : Type 0 where
  pub mutators : RestAfter l turns h (mutators_in actors)
  pub helpers : HelpersRest l actors

-- no `new` waits any more, and since the last pause each thread has had at most the call of one that waited
pub record AreServed (h : List Item) (mutators : List Mutating) : Type 0 where
  pub unwaiting : (i : ℕ) (m : Mutating) → slice_get mutators i ≡ Some m → IsWaiting m → ⊥
  pub few : (t : ℕ) → calls_since_pause t h ≤ 1
  pub unasked : (t : ℕ) → has_asked t h ≡ false

-- What a mutator shows of itself, and what its machine keeps of the operation in progress.
use Rattle.std.specs.Prelude.{◌≡◌, ◌≢◌, ℕ, ◌-◌, ◌⊎◌, ⊤, Bool, true, false, IsTrue, Option, Some, List}
use Rattle.lxr_layout.specs.Spaces.{regions_of}
use Rattle.lxr_layout.specs.declared.Place.{Place}
use Rattle.lxr_layout.specs.declared.Shape.{Shape}
use Rattle.lxr_layout.specs.declared.limits.Limits.{Limits}
use Rattle.lxr_layout.specs.Objects.{line_count, word_count}
use Rattle.lxr_graph.specs.History.{Item, replies_of}
use Rattle.lxr_graph.specs.declared.Op.{Op}
use Rattle.lxr_graph.specs.declared.Op.TheVariants as op
use Rattle.lxr_barrier.specs.declared.machines.LastStep.{LastStep}
use Rattle.lxr_barrier.specs.declared.machines.LastStep.TheVariants as last_step
use Rattle.lxr_barrier.specs.declared.machines.StorePhase.{StorePhase}
use Rattle.lxr_barrier.specs.declared.machines.StorePhase.TheVariants as store
use Rattle.lxr_barrier.specs.Storing.{Storing, entry_of}
use Rattle.lxr_mutator.specs.declared.phases.MutEnd.{MutEnd}
use Rattle.lxr_mutator.specs.declared.phases.MutEnd.TheVariants as ends
use Rattle.lxr_mutator.specs.declared.phases.MutatorPhase.{MutatorPhase}
use Rattle.lxr_mutator.specs.declared.phases.MutatorPhase.TheVariants as phase
use Rattle.lxr_mutator.specs.declared.phases.Stop.{Stop}
use Rattle.lxr_mutator.specs.declared.phases.Stop.TheVariants as stop
use Rattle.lxr_mutator.specs.Mutating.{Mutating, op_now, register}
use Rattle.lxr_mutator.specs.Mutators.{IsMutator}
use Rattle.lxr_mutator.specs.Naming.{looks_up, without_names}
use Rattle.lxr_mutator.specs.Operating.{index_of}
use Rattle.lxr_mutator.specs.Steps.{shape_now}
use Rattle.lxr_core_invariant.specs.ThreadStates.{Intent, Reason, Stage, ThreadState, Plain, AtReference, AtValue, Clears, Stores, DrewRun, HasRun, NeedsBlock, DrewBlock, HasBlock, Makes, GivesUp, Rests, Works, Names, Through}
use Rattle.lxr_core_invariant.specs.ThreadStates as why
use Rattle.lxr_core_invariant.specs.Events.{base_of, takes_reference}

-- why it is through with the epoch, by how its last unit ended
abbrev pub reason_by : Option MutEnd → Reason
reason_by (Some ends.NoRun) = why.NoRun
reason_by (Some ends.LogFull) = why.LogFull
reason_by (Some ends.Asked) = why.Asked
reason_by (Some ends.Ended) = why.Ended
reason_by _ = why.Turns

-- why it gives up
abbrev pub reason_of : Stop → Reason
reason_of stop.NoRun = why.NoRun
reason_of stop.LogFull = why.LogFull

-- what a store machine is about to do
abbrev pub intent_of : Storing → StorePhase → Intent
intent_of s store.Begun = AtReference s.place.0 s.index
intent_of s store.Unlogged = AtReference s.place.0 s.index
intent_of s (store.Loaded old) = Clears (entry_of s old)
intent_of s store.Logged = Stores s.place.0 s.index
intent_of s (store.Ended how) = Plain

-- where it is in its work, by its phase
abbrev pub stage_in : Mutating → MutatorPhase → Stage
stage_in m phase.Ready = Rests
stage_in m phase.Finished = Through (reason_by m.end)
stage_in m (phase.Base base) = Works Plain
stage_in m (phase.Reference base) = Works (AtReference base.0 (index_of (op_now m)))
stage_in m (phase.Referent place) = Names place.0
stage_in m (phase.Datum base refs) = Works (AtValue base.0 refs (index_of (op_now m)))
stage_in m (phase.Putting base refs) = Works (AtValue base.0 refs (index_of (op_now m)))
stage_in m (phase.Adding base refs) = Works (AtValue base.0 refs (index_of (op_now m)))
stage_in m (phase.Storing s) = Works (intent_of s s.phase)
stage_in m phase.DrawsRun = Works Plain
stage_in m (phase.RunNumber number) = Works (DrewRun number)
stage_in m (phase.Run number) = Works (HasRun number)
stage_in m phase.DrawsBlock = Works NeedsBlock
stage_in m (phase.BlockNumber number) = Works (DrewBlock number)
stage_in m (phase.Block number) = Works (HasBlock number)
stage_in m (phase.Wiping place next) = Works (Makes place.0 (shape_now m) (next - 1))
stage_in m (phase.Heading place) = Works (Makes place.0 (shape_now m) (word_count (shape_now m) - 1))
stage_in m phase.Asking = Works Plain
stage_in m (phase.GivingUp s) = Works (GivesUp (reason_of s))

-- what it shows
abbrev pub thread_state_of : Mutating → ThreadState
thread_state_of m = record {
  thread = m.thread;
  operations = m.operations;
  registers = m.registers;
  log = m.log;
  spans = m.spans;
  before = m.before;
  replies = m.replies.items;
  every = m.every;
  since = m.since;
  stage = stage_in m m.phase;
}

-- ---- who tells no names

-- a mutator as if it told names: one that tells none has the replies of the history, which has them
abbrev pub told_by : Bool → List Item → Mutating → Mutating
told_by true h m = m
told_by false h m = record m { names = true; replies = record m.replies { items = replies_of m.thread h } }

-- a mutator as if it told names, by whether it tells them
abbrev pub told_in : List Item → Mutating → Mutating
told_in h m = told_by m.names h m

-- who tells no names is as one that does, with the replies of the history, but for the names; and it looks none up
pub record IsUntold (h : List Item) (m : Mutating) : Type 0 where
  pub alike : without_names (told_in h m) ≡ m
  pub looks_none_up : looks_up m.phase ≡ false

-- so it is of one that tells none
abbrev pub HasTold : List Item → Mutating → Type 0
HasTold h m = m.names ≡ false → IsUntold h m

-- it is to work on a field of what a register holds, which is not nil
pub record WorksAtBase (m : Mutating) (base : Place) : Type 0 where
  pub register_of : ℕ
  pub index : ℕ
  pub named : base_of (op_now m) ≡ Some (register_of, index)
  pub held : base ≡ register m register_of
  pub some : base.0 ≢ 0

-- the operation whose store ends with this step: a `swap` has a register for what it finds
abbrev pub written_by : LastStep → (dest base index source : ℕ) → Op
written_by last_step.Store dest base index source = op.Store base index source
written_by last_step.Swap dest base index source = op.Swap dest base index source

-- the store in progress is that of the operation
pub record IsStoreOf (m : Mutating) (s : Storing) : Type 0 where
  pub dest : ℕ
  pub base : ℕ
  pub index : ℕ
  pub source : ℕ
  pub now : op_now m ≡ written_by s.last dest base index source
  pub unlogged : s.unlogged ≡ m.regions.unlogged
  pub place : s.place ≡ register m base
  pub index_is : s.index ≡ index
  pub value : s.value ≡ register m source

-- the operation in progress is a `load`
abbrev pub IsLoad : Mutating → Type 0
IsLoad m = (dest : ℕ) × (base : ℕ) × (index : ℕ) × (op_now m ≡ op.Load dest base index)

-- it is a `load` or a `swap`
abbrev pub TakesReference : Mutating → Type 0
TakesReference m = IsTrue (takes_reference (op_now m))

-- it is a `get`
abbrev pub IsGet : Mutating → Type 0
IsGet m = (base : ℕ) × (index : ℕ) × (op_now m ≡ op.Get base index)

-- it is a `put`
abbrev pub IsPut : Mutating → Type 0
IsPut m = (base : ℕ) × (index : ℕ) × (value : ℕ) × (op_now m ≡ op.Put base index value)

-- it is an `add`
abbrev pub IsAdd : Mutating → Type 0
IsAdd m = (base : ℕ) × (index : ℕ) × (value : ℕ) × (op_now m ≡ op.Add base index value)

-- it is a `new`
abbrev pub IsNew : Mutating → Type 0
IsNew m = (dest : ℕ) × (shape : Shape) × (op_now m ≡ op.New dest shape)

-- it is a `new` of an object of one line
abbrev pub IsNewOfLine : Mutating → Type 0
IsNewOfLine m = IsNew m × (line_count (shape_now m) ≡ 1)

-- where its last unit ended for want of free lines, its operation is a `new`
abbrev pub WaitsForNew : Mutating → Type 0
WaitsForNew m = m.end ≡ Some ends.NoRun → IsNew m

-- What the machine keeps of its operation, by its phase. Between two units it hasn't done its end.
abbrev pub IsSteadyIn : Mutating → MutatorPhase → Type 0
IsSteadyIn m phase.Ready = (m.end ≢ Some ends.Ended) × WaitsForNew m
IsSteadyIn m phase.Finished = WaitsForNew m
IsSteadyIn m (phase.Base base) = WorksAtBase m base
IsSteadyIn m (phase.Reference base) = IsLoad m
IsSteadyIn m (phase.Referent place) = TakesReference m
IsSteadyIn m (phase.Datum base refs) = IsGet m
IsSteadyIn m (phase.Putting base refs) = IsPut m
IsSteadyIn m (phase.Adding base refs) = IsAdd m
IsSteadyIn m (phase.Storing s) = IsStoreOf m s
IsSteadyIn m phase.DrawsRun = IsNewOfLine m
IsSteadyIn m (phase.RunNumber number) = IsNewOfLine m
IsSteadyIn m (phase.Run number) = IsNewOfLine m
IsSteadyIn m phase.DrawsBlock = IsNew m
IsSteadyIn m (phase.BlockNumber number) = IsNew m
IsSteadyIn m (phase.Block number) = IsNew m
IsSteadyIn m (phase.Wiping place next) = IsNew m
IsSteadyIn m (phase.Heading place) = IsNew m
IsSteadyIn m phase.Asking = (op_now m ≡ op.Pause) ⊎ (op_now m ≡ op.Collect)
IsSteadyIn m _ = ⊤

-- a mutator of a space of these limits
pub record IsMutatorOf (l : Limits) (m : Mutating) : Type 0 where
  pub sound : IsMutator m
  pub regions : m.regions ≡ regions_of l
  pub width : m.width ≡ l.registers
  pub steady : IsSteadyIn m m.phase

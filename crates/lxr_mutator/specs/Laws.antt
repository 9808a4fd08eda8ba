-- How long units are, and when they give up. Each law is the contract of a function with an empty body.
use Rattle.std.specs.Prelude.{◌≡◌, ◌≢◌, ℕ, ◌+◌, ◌≤◌, ◌⊎◌, ◌↔◌, false, true, Some, IsSome, IsTrue, List}
use Rattle.lxr_layout.specs.declared.TheConstants.{FREE_BLOCK_CURSOR, RUN_CURSOR}
use Rattle.lxr_layout.specs.declared.Place.{Place}
use Rattle.lxr_layout.specs.declared.LogEntry.{LogEntry}
use Rattle.lxr_base.specs.Roomy.{Roomy}
use Rattle.lxr_graph.specs.declared.Op.{Op}
use Rattle.lxr_graph.specs.declared.Op.TheVariants as op
use Rattle.lxr_graph.specs.declared.Reply.{Reply}
use Rattle.lxr_alloc.specs.declared.Spans.{Spans}
use Rattle.lxr_barrier.specs.declared.StoreEnd.TheVariants as store_end
use Rattle.lxr_barrier.specs.Storing.{Storing, end_of, store_after}
use Rattle.lxr_mutator.specs.declared.phases.MutEnd.TheVariants as ends
use Rattle.lxr_mutator.specs.declared.phases.MutatorPhase.{MutatorPhase}
use Rattle.lxr_mutator.specs.declared.phases.MutatorPhase.TheVariants as phase
use Rattle.lxr_mutator.specs.declared.phases.Stop.{Stop}
use Rattle.lxr_mutator.specs.declared.phases.Stop.TheVariants as stop
use Rattle.lxr_mutator.specs.Mutating.{Mutating, op_now, rests_in}
use Rattle.lxr_mutator.specs.Naming.{looks_up, without_names}
use Rattle.lxr_mutator.specs.Steps.{action, after, done_with, drawing, end_by, ended, finished, is_header, is_medium, left_in, shape_now, storing}
use Rattle.lxr_mutator.specs.Mutators.{IsMutator, MayTakeOrder}
use Rattle.lxr_mutator.specs.Orders.{ordered, with_order}

-- a unit has at most 8,192 steps
abbrev pub UnitsAreShort : Type 0
UnitsAreShort = (m : Mutating) → IsMutator m → left_in m m.phase ≤ 8192

-- the number of a free block was drawn, and there are only so many
abbrev pub IsPastBlocks : Mutating → ℕ → Type 0
IsPastBlocks m count = (number : ℕ) × (m.phase ≡ phase.BlockNumber number) × (count ≤ number)

-- the number of a run was drawn, and there are only so many
abbrev pub IsPastRuns : Mutating → ℕ → Type 0
IsPastRuns m count = (number : ℕ) × (m.phase ≡ phase.RunNumber number) × (count ≤ number)

-- its store ends for want of room in the log
abbrev pub IsLogFull : Mutating → ℕ → Type 0
IsLogFull m old = (s : Storing) × (m.phase ≡ phase.Storing s) × (end_of (store_after s m.log old) ≡ Some store_end.LogFull)

-- its step, at which the word was this, finds why it gives up
abbrev pub Finds : Mutating → ℕ → Stop → Type 0
Finds m old stop.NoRun = IsPastBlocks m old
Finds m old stop.LogFull = IsLogFull m old

-- What comes before a mutator gives up: a number past the free blocks, or a full log; and before that, for an object of
-- one line, a number past the runs. Then it asks for a pause, and its unit ends so.
pub record GivesUpByRules (m : Mutating) (old : ℕ) : Type 0 where
  pub finds : (why : Stop) → (after m old).phase ≡ phase.GivingUp why → Finds m old why
  pub draws_block : (after m old).phase ≡ phase.DrawsBlock → IsPastRuns m old ⊎ ((m.phase ≡ phase.Ready) × IsTrue (is_medium (shape_now m)))
  pub asks : (why : Stop) → m.phase ≡ phase.GivingUp why → action m ≡ storing m.regions.cursors 1
  pub ends : (why : Stop) → m.phase ≡ phase.GivingUp why → (after m old).end ≡ Some (end_by why)

-- it is so at each step
abbrev pub MutatorsGiveUpByRules : Type 0
MutatorsGiveUpByRules = (m : Mutating) (old : ℕ) → GivesUpByRules m old

-- What a step does to the unit that it belongs to. It goes on with it, and then no operation is done: log, registers, spans and phase may change; or it
-- ends it: where the pause word was loaded as 1, where the thread's end is done, where a mutator that gave up has asked for a pause, or with
-- an operation that is done, as its step left log and registers. The operation that makes `every` of them in this epoch is the last in it
-- (`done_with`). A finished mutator stands still.
pub data StepsByRule (m : Mutating) (old : ℕ) : Mutating → Type 0 where
  goes_on : (log : Roomy LogEntry) (registers : List Place) (spans : Spans) (p : MutatorPhase) → rests_in p ≡ false
      → StepsByRule m old (record m { log = log; registers = registers; spans = spans; phase = p })
  finds_asked : m.phase ≡ phase.Ready → old ≡ 1 → StepsByRule m old (finished m ends.Asked)
  finds_end : m.phase ≡ phase.Ready → old ≢ 1 → op_now m ≡ op.End → StepsByRule m old (ended m)
  gave_up : (why : Stop) → m.phase ≡ phase.GivingUp why → StepsByRule m old (finished m (end_by why))
  does_one : (log : Roomy LogEntry) (registers : List Place) (r : Reply) → StepsByRule m old (done_with (record m { log = log; registers = registers }) r)
  stands_still : m.phase ≡ phase.Finished → StepsByRule m old m

-- it is so with each step
abbrev pub MutatorsStepByRule : Type 0
MutatorsStepByRule = (m : Mutating) (old : ℕ) → StepsByRule m old (after m old)

-- A number that is looked up in a table's count is the one that was drawn in the step before: from the cursor of runs, or of free blocks.
pub record DrawsByRule (m : Mutating) (old : ℕ) : Type 0 where
  pub run : (number : ℕ) → (after m old).phase ≡ phase.RunNumber number → (action m ≡ drawing (m.regions.cursors + RUN_CURSOR)) × (number ≡ old)
  pub block : (number : ℕ) → (after m old).phase ≡ phase.BlockNumber number → (action m ≡ drawing (m.regions.cursors + FREE_BLOCK_CURSOR)) × (number ≡ old)

-- it is so with each number
abbrev pub MutatorsDrawByRule : Type 0
MutatorsDrawByRule = (m : Mutating) (old : ℕ) → DrawsByRule m old

-- what holds of a mutator holds of it after each step, whatever the word was
abbrev pub MutatorsStaySo : Type 0
MutatorsStaySo = (m : Mutating) (old : ℕ) → IsMutator m → IsSome (action m) → IsMutator (after m old)

-- An order is taken exactly where it may be. Then the operation stands behind those that the mutator has, and else nothing changes. Either way it
-- is a mutator again.
pub record TakesOrdersByRule (m : Mutating) (o : Op) : Type 0 where
  pub taken : (ordered m o).1 ≡ true ↔ MayTakeOrder m o
  pub may : MayTakeOrder m o → (ordered m o).0 ≡ with_order m o
  pub may_not : ¬ MayTakeOrder m o → (ordered m o).0 ≡ m
  pub stays : IsMutator m → IsMutator (ordered m o).0

-- it is so with each order
abbrev pub MutatorsTakeOrdersByRule : Type 0
MutatorsTakeOrdersByRule = (m : Mutating) (o : Op) → TakesOrdersByRule m o

-- Who tells no names makes the same steps, and finds the same, but for the look at a header: where who tells names is to look there, who tells none is
-- done, with what that look would lead to.
pub record StepsWithoutNames (m : Mutating) (old : ℕ) : Type 0 where
  pub action : action (without_names m) ≡ action m
  pub same : looks_up (after m old).phase ≡ false → after (without_names m) old ≡ without_names (after m old)
  pub spared : (header : ℕ) → looks_up (after m old).phase ≡ true → is_header header ≡ true → after (without_names m) old ≡ without_names (after (after m old) header)

-- it is so with each step, of a mutator that tells names and isn't looking one up
abbrev pub MutatorsStepWithoutNames : Type 0
MutatorsStepWithoutNames = (m : Mutating) (old : ℕ) → m.names ≡ true → looks_up m.phase ≡ false → StepsWithoutNames m old

-- and with each order
abbrev pub MutatorsTakeOrdersWithoutNames : Type 0
MutatorsTakeOrdersWithoutNames = (m : Mutating) (o : Op) → ordered (without_names m) o ≡ (without_names (ordered m o).0, (ordered m o).1)

-- and what holds of a mutator holds of it without names
abbrev pub MutatorsAreSoWithoutNames : Type 0
MutatorsAreSoWithoutNames = (m : Mutating) → IsMutator m ↔ IsMutator (without_names m)

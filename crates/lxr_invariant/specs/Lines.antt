-- Line marks, and which lines objects keep.
use Rattle.std.specs.Prelude.{◌≡◌, ◌≢◌, ℕ, zero, suc, ◌+◌, ◌/◌, ◌%◌, ◌<◌, ◌≤◌, ◌⊎◌, ⊤, Bool, false, true, Option, Some, None, List, IsTrue, if◌then◌else◌}
use Rattle.lxr_layout.specs.declared.Name.{Name}
use Rattle.lxr_layout.specs.declared.TheConstants.{GRANULES_IN_BLOCK, GRANULES_IN_LINE, LINES_IN_BLOCK, STUCK, TRACING_WORD}
use Rattle.lxr_layout.specs.declared.limits.Limits.{Limits}
use Rattle.lxr_graph.specs.Names.{has}
use Rattle.lxr_graph.specs.State.{Graph, Object, object_at}
use Rattle.lxr_image.specs.declared.space.Space.{Space}
use Rattle.lxr_image.specs.Tables.{Tables}
use Rattle.lxr_image.specs.Reads.{granule_of}
use Rattle.lxr_image.specs.Image.{granules_of}
use Rattle.lxr_blocks.specs.declared.states.BlockState.{BlockState}
use Rattle.lxr_blocks.specs.declared.states.BlockState.TheVariants.{Chosen, World, Free, Partly, Whole}
use Rattle.lxr_blocks.specs.Lines.{is_free}
use Rattle.lxr_blocks.specs.States.{is_fixed, state_by_lines, state_in}
use Rattle.lxr_blocks.specs.Placing.{IsRest}
use Rattle.lxr_model.specs.Moments.{Moment, Trace}
use Rattle.lxr_invariant.specs.AbstractState.{members}

-- a granule begins a further line that an object at a place reaches into
pub record IsMarkOf (at : Name → ℕ) (n : Name) (o : Object) (k : ℕ) : Type 0 where
  pub begins : k % GRANULES_IN_LINE ≡ 0
  pub behind : granule_of (at n) < k
  pub within : k < granule_of (at n) + granules_of o

-- The line marks of these objects, which stand in the table of counts.
pub record HasMarks (t : Tables) (g : Graph) (at : Name → ℕ) (us : List Name) : Type 0 where
  -- each further line of one of these objects is marked by count STUCK at its first granule
  pub marked : (n : Name) (o : Object) (k : ℕ) → IsTrue (has us n) → object_at g n ≡ Some o → IsMarkOf at n o k → t.counts k ≡ STUCK
  -- a granule that neither begins one of these objects nor is such a mark has count 0
  pub elsewhere : (k : ℕ) → ((n : Name) → IsTrue (has us n) → granule_of (at n) ≢ k)
      → ((n : Name) (o : Object) → IsTrue (has us n) → object_at g n ≡ Some o → IsMarkOf at n o k → ⊥) → t.counts k ≡ 0

-- the object of a name has this granule
pub record Covers (g : Graph) (at : Name → ℕ) (n : Name) (o : Object) (k : ℕ) : Type 0 where
  pub object : object_at g n ≡ Some o
  pub first : granule_of (at n) ≤ k
  pub behind : k < granule_of (at n) + granules_of o

-- no line of these objects is free
abbrev pub KeepLines : Tables → Graph → (Name → ℕ) → List Name → Type 0
KeepLines t g at ns = (n : Name) (o : Object) (k : ℕ) → IsTrue (has ns n) → Covers g at n o k → is_free t (k / GRANULES_IN_LINE) ≡ false

-- each line of these objects is out
abbrev pub LinesAreOut : Tables → Graph → (Name → ℕ) → List Name → Type 0
LinesAreOut t g at ns = (n : Name) (o : Object) (k : ℕ) → IsTrue (has ns n) → Covers g at n o k → IsTrue (t.outs (k / GRANULES_IN_LINE))

-- none of these objects lies in a Chosen block
abbrev pub AvoidChosen : Tables → (Name → ℕ) → List Name → Type 0
AvoidChosen t at ns = (n : Name) → IsTrue (has ns n) → state_in t (granule_of (at n) / GRANULES_IN_BLOCK) ≢ Chosen

-- none of these objects begins in a Free block
abbrev pub AvoidFree : Tables → (Name → ℕ) → List Name → Type 0
AvoidFree t at ns = (n : Name) → IsTrue (has ns n) → state_in t (granule_of (at n) / GRANULES_IN_BLOCK) ≢ Free

-- a block whose state is Free is unused: none of these objects begins in it, and no line of it is out
pub record FreeAreUnused (t : Tables) (at : Name → ℕ) (ns : List Name) : Type 0 where
  pub objects : AvoidFree t at ns
  pub outs : (line : ℕ) → IsTrue (t.outs line) → state_in t (line / LINES_IN_BLOCK) ≢ Free

-- an object of these names has a granule of a line
abbrev pub IsTakenBy : Graph → (Name → ℕ) → List Name → ℕ → Type 0
IsTakenBy g at ns line = (n : Name) × (o : Object) × (k : ℕ) × IsTrue (has ns n) × Covers g at n o k × (k / GRANULES_IN_LINE ≡ line)

-- each line that is out lies outside Chosen blocks, and one of these objects has a granule of it
pub record OutsAreTaken (t : Tables) (g : Graph) (at : Name → ℕ) (ns : List Name) : Type 0 where
  pub taken : (line : ℕ) → IsTrue (t.outs line) → IsTakenBy g at ns line
  pub outside : (line : ℕ) → IsTrue (t.outs line) → state_in t (line / LINES_IN_BLOCK) ≢ Chosen

-- each block that is neither Chosen nor World has the state of its free lines
abbrev pub HasStates : Tables → ℕ → Type 0
HasStates t blocks = (b : ℕ) → b < blocks → is_fixed (state_in t b) ≡ false → state_in t b ≡ state_by_lines t b

-- whether a state is Chosen
abbrev pub is_chosen : BlockState → Bool
is_chosen Free = false
is_chosen Partly = false
is_chosen Whole = false
is_chosen Chosen = true
is_chosen World = false

-- how many of the first blocks are Chosen
abbrev pub chosen_count : Tables → ℕ → ℕ
chosen_count t zero = 0
chosen_count t (suc b) = (if is_chosen (state_in t b) then 1 else 0) + chosen_count t b

-- no block is Chosen
abbrev pub NoneChosen : Tables → ℕ → Type 0
NoneChosen t blocks = chosen_count t blocks ≡ 0

-- no block is Chosen where no trace runs
abbrev pub ChosenNeedTrace : Tables → ℕ → Option Trace → Type 0
ChosenNeedTrace t blocks None = NoneChosen t blocks
ChosenNeedTrace t blocks (Some trace) = ⊤

-- the tracing word: 1 where a trace runs
abbrev pub tracing_word : Option Trace → ℕ
tracing_word None = 0
tracing_word (Some trace) = 1

-- Block 0 is World, and no other block is. No more blocks are Chosen than may be, and none where no trace runs.
pub record HasBlocks (t : Tables) (l : Limits) (trace : Option Trace) : Type 0 where
  pub world : state_in t 0 ≡ World
  pub others : (b : ℕ) → 1 ≤ b → b < l.blocks → state_in t b ≢ World
  pub few : chosen_count t l.blocks ≤ l.evacuate
  pub chosen : ChosenNeedTrace t l.blocks trace
  pub tracing : t.cursors TRACING_WORD ≡ tracing_word trace

-- The rest of the lines that a pause placed on last: it is empty or lies in one line that is out and outside Chosen
-- blocks, and no object reaches into it.
pub record KeepsRest (s : Space) (m : Moment) (at : Name → ℕ) : Type 0 where
  pub rest : IsRest s
  pub apart : (n : Name) (o : Object) (k : ℕ) → IsTrue (has (members m) n) → Covers m.state.graph at n o k → (k < s.rest_next) ⊎ (s.rest_end ≤ k)

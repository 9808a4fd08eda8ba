-- Drawn memory is one maker's: no granule has two owners. And cursors and fixed tables.
use Rattle.std.specs.Prelude.{◌≡◌, ◌≢◌, ℕ, ◌+◌, ◌/◌, ◌<◌, ◌≤◌, ◌⊎◌, ⊤, false, Some, List, [], ◌∷◌, length, slice_get, IsTrue}
use Rattle.lxr_layout.specs.declared.TheConstants.{DECREMENT_CURSOR, FREE_BLOCK_COUNT, FREE_BLOCK_CURSOR, GRANULES_IN_LINE, PAUSE_WORD, REMEMBERED_CURSOR, RUN_COUNT, RUN_CURSOR}
use Rattle.lxr_layout.specs.declared.Name.{Name}
use Rattle.lxr_layout.specs.declared.Shape.{Shape}
use Rattle.lxr_layout.specs.declared.runs.Run.{Run}
use Rattle.lxr_layout.specs.Objects.{FitsShape}
use Rattle.lxr_graph.specs.Names.{has}
use Rattle.lxr_graph.specs.State.{Object, object_at}
use Rattle.lxr_image.specs.Reads.{granule_of}
use Rattle.lxr_image.specs.Image.{granules_of}
use Rattle.lxr_alloc.specs.declared.Span.{Span}
use Rattle.lxr_alloc.specs.Spans.{block_span, granule_count, run_span}
use Rattle.lxr_invariant.specs.AbstractState.{members}
use Rattle.lxr_invariant.specs.Lines.{Covers}
use Rattle.lxr_invariant.specs.Listed.{ListsRun}
use Rattle.lxr_core_invariant.specs.ThreadStates.{Stage, ThreadState, Plain, AtReference, AtValue, Clears, Stores, DrewRun, HasRun, DrewBlock, HasBlock, Makes, GivesUp, Rests, Works, Names, Through}
use Rattle.lxr_core_invariant.specs.EpochStates.{Beginning, EpochState, limits_of, moment_of, opening_tables}
use Rattle.lxr_core_invariant.specs.Events.{Source, span_from}

-- Who may write to a granule: whoever draws a run or a block of a number; a mutator, for what it has drawn, for its spans and
-- for the object that it makes; and every mutator that holds an object, for that object.
pub data Owner : Type 0 where
  UndrawnRun : ℕ → Owner
  UndrawnBlock : ℕ → Owner
  InHand : ℕ → Owner
  InSpan : ℕ → Source → Owner
  InMaking : ℕ → Owner
  OfMember : Name → Owner

-- a granule of a span, of the listed run of a number, of the listed block of a number
pub record HasGranule (span : Span) (g : ℕ) : Type 0 where
  pub first : span.next ≤ g
  pub behind : g < span.end

pub record IsOfRun (b : Beginning) (k g : ℕ) : Type 0 where
  pub listed : k < (opening_tables b).cursors RUN_COUNT
  pub run : Run
  pub lists : ListsRun (opening_tables b) (limits_of b).blocks k run
  pub granule : HasGranule (run_span run) g

pub record IsOfBlock (b : Beginning) (k g : ℕ) : Type 0 where
  pub listed : k < (opening_tables b).cursors FREE_BLOCK_COUNT
  pub granule : HasGranule (block_span ((opening_tables b).frees k)) g

-- a granule of what a mutator has drawn and not taken yet, and of the object that it makes
abbrev pub IsOfHand : Beginning → Stage → ℕ → Type 0
IsOfHand b (Works (DrewRun k)) g = IsOfRun b k g
IsOfHand b (Works (HasRun k)) g = IsOfRun b k g
IsOfHand b (Works (DrewBlock k)) g = IsOfBlock b k g
IsOfHand b (Works (HasBlock k)) g = IsOfBlock b k g
IsOfHand b _ g = ⊥

abbrev pub IsOfMaking : Stage → ℕ → Type 0
IsOfMaking (Works (Makes place shape wiped)) g = (granule_of place ≤ g) × (g < granule_of place + granule_count shape)
IsOfMaking _ g = ⊥

-- a granule of a member's object
pub record IsOfMember (b : Beginning) (s : EpochState) (n : Name) (g : ℕ) : Type 0 where
  pub member : IsTrue (has (members (moment_of b s)) n)
  pub object : Object
  pub covers : Covers (moment_of b s).state.graph s.at n object g

-- the mutator of a number shows this
abbrev pub Shown : EpochState → ℕ → (ThreadState → Type 0) → Type 0
Shown s i P = (v : ThreadState) × (slice_get s.thread_states i ≡ Some v) × P v

abbrev pub Owns : Beginning → EpochState → Owner → ℕ → Type 0
Owns b s (UndrawnRun k) g = (s.tables.cursors RUN_CURSOR ≤ k) × IsOfRun b k g
Owns b s (UndrawnBlock k) g = (s.tables.cursors FREE_BLOCK_CURSOR ≤ k) × IsOfBlock b k g
Owns b s (InHand i) g = Shown s i (λ v. IsOfHand b v.stage g)
Owns b s (InSpan i from) g = Shown s i (λ v. HasGranule (span_from from v.spans) g)
Owns b s (InMaking i) g = Shown s i (λ v. IsOfMaking v.stage g)
Owns b s (OfMember n) g = IsOfMember b s n g

-- Who has drawn: the threads that drew of the table of runs, and those that drew of the table of free blocks, each in the order
-- of the numbers that they drew.
pub record Drawers : Type 0 where
  pub runs : List ℕ
  pub blocks : List ℕ

-- each number below a cursor has been drawn, and no other
pub record HaveDrawn (d : Drawers) (s : EpochState) : Type 0 where
  pub runs : length d.runs ≡ s.tables.cursors RUN_CURSOR
  pub blocks : length d.blocks ≡ s.tables.cursors FREE_BLOCK_CURSOR

-- granules from one on and below another lie in a listed run, or a listed block, that a thread has drawn
pub record LieInRun (b : Beginning) (d : Drawers) (t first end : ℕ) : Type 0 where
  pub number : ℕ
  pub drawn : slice_get d.runs number ≡ Some t
  pub listed : number < (opening_tables b).cursors RUN_COUNT
  pub run : Run
  pub lists : ListsRun (opening_tables b) (limits_of b).blocks number run
  pub within : ((run_span run).next ≤ first) × (end ≤ (run_span run).end)

pub record LieInBlock (b : Beginning) (d : Drawers) (t first end : ℕ) : Type 0 where
  pub number : ℕ
  pub drawn : slice_get d.blocks number ≡ Some t
  pub listed : number < (opening_tables b).cursors FREE_BLOCK_COUNT
  pub within : let block = block_span ((opening_tables b).frees number) in (block.next ≤ first) × (end ≤ block.end)

abbrev pub LieInDrawn : Beginning → Drawers → ℕ → ℕ → ℕ → Type 0
LieInDrawn b d t first end = LieInRun b d t first end ⊎ LieInBlock b d t first end

-- the object that a thread makes
pub record MakesIn (b : Beginning) (d : Drawers) (t place : ℕ) (shape : Shape) : Type 0 where
  pub placed : 1 ≤ place
  pub fits : FitsShape shape
  pub drawn : LieInDrawn b d t (granule_of place) (granule_of place + granule_count shape)

-- the object was served between the last pause and the epoch: it stood as the epoch opened, and each of its lines was out
pub record WasServed (b : Beginning) (s : EpochState) (n : Name) (o : Object) : Type 0 where
  pub stood : IsTrue (has b.abstract_state.moment.made n)
  pub out : (g : ℕ) → Covers (moment_of b s).state.graph s.at n o g → IsTrue ((opening_tables b).outs (g / GRANULES_IN_LINE))

-- a drawn block is in the hand of a mutator, or one makes an object in it, or an object was made in it
abbrev pub IsHandOf : Stage → ℕ → Type 0
IsHandOf (Works (DrewBlock k)) j = k ≡ j
IsHandOf (Works (HasBlock k)) j = k ≡ j
IsHandOf _ j = ⊥

abbrev pub MakesInBlock : Beginning → Stage → ℕ → Type 0
MakesInBlock b (Works (Makes place shape wiped)) k = HasGranule (block_span ((opening_tables b).frees k)) (granule_of place)
MakesInBlock b _ k = ⊥

pub record HasMadeInBlock (b : Beginning) (s : EpochState) (k : ℕ) : Type 0 where
  pub name : Name
  pub made : IsTrue (has (moment_of b s).made name)
  pub granule : HasGranule (block_span ((opening_tables b).frees k)) (granule_of (s.at name))

abbrev pub IsUsed : Beginning → EpochState → ℕ → Type 0
IsUsed b s k = ((i : ℕ) × Shown s i (λ v. IsHandOf v.stage k)) ⊎ ((i : ℕ) × Shown s i (λ v. MakesInBlock b v.stage k)) ⊎ HasMadeInBlock b s k

-- the number in the hand of a thread's mutator is one that this thread drew, and listed where it was told so
abbrev pub HasDrawn : Beginning → Drawers → ℕ → Stage → Type 0
HasDrawn b d t (Works (DrewRun k)) = slice_get d.runs k ≡ Some t
HasDrawn b d t (Works (HasRun k)) = (slice_get d.runs k ≡ Some t) × (k < (opening_tables b).cursors RUN_COUNT)
HasDrawn b d t (Works (DrewBlock k)) = slice_get d.blocks k ≡ Some t
HasDrawn b d t (Works (HasBlock k)) = (slice_get d.blocks k ≡ Some t) × (k < (opening_tables b).cursors FREE_BLOCK_COUNT)
HasDrawn b d t _ = ⊤

-- Drawn memory is one maker's. Each number is drawn by one thread, and no granule has two owners. What a mutator has in its
-- hand and in its spans, and the object that it makes, are of what its own thread drew; mutator 0 is thread 1's. So is each
-- object that its thread made in this epoch; all others that were made since the last pause were served before it.
pub record IsDrawnMemory (b : Beginning) (s : EpochState) : Type 0 where
  pub drawers : Drawers
  pub numbers : HaveDrawn drawers s
  pub one : (g : ℕ) (x y : Owner) → Owns b s x g → Owns b s y g → x ≡ y
  pub hands : (i : ℕ) (v : ThreadState) → slice_get s.thread_states i ≡ Some v → HasDrawn b drawers (i + 1) v.stage
  pub spans : (i : ℕ) (v : ThreadState) (from : Source) → slice_get s.thread_states i ≡ Some v
      → ((span_from from v.spans).end ≤ (span_from from v.spans).next) ⊎ LieInDrawn b drawers (i + 1) (span_from from v.spans).next (span_from from v.spans).end
  pub makes : (i : ℕ) (v : ThreadState) (place : ℕ) (shape : Shape) (wiped : ℕ) → slice_get s.thread_states i ≡ Some v → v.stage ≡ Works (Makes place shape wiped) → MakesIn b drawers (i + 1) place shape
  pub made : (n : Name) (o : Object) → IsTrue (has (moment_of b s).made n) → object_at (moment_of b s).state.graph n ≡ Some o
      → WasServed b s n o ⊎ LieInDrawn b drawers n.thread (granule_of (s.at n)) (granule_of (s.at n) + granules_of o)
  pub used : (k : ℕ) → k < s.tables.cursors FREE_BLOCK_CURSOR → k < (opening_tables b).cursors FREE_BLOCK_COUNT → IsUsed b s k

-- ---- cursors and fixed tables

-- how often a mutator has drawn of the runs, and of the blocks, at most: once for each of its operations
abbrev pub run_draws : Stage → ℕ
run_draws Rests = 0
run_draws (Works Plain) = 0
run_draws (Works (AtReference place index)) = 0
run_draws (Works (AtValue place refs index)) = 0
run_draws (Works (Clears e)) = 0
run_draws (Works (Stores place index)) = 0
run_draws (Works _) = 1
run_draws (Names place) = 0
run_draws (Through why) = 1

abbrev pub block_draws : Stage → ℕ
block_draws (Works (DrewBlock k)) = 1
block_draws (Works (HasBlock k)) = 1
block_draws (Works (Makes place shape wiped)) = 1
block_draws (Works (GivesUp why)) = 1
block_draws (Through why) = 1
block_draws _ = 0

-- the sum over all mutators
unfoldable pub total : (ThreadState → ℕ) → List ThreadState → ℕ
total f [] = 0
total f (v ∷ thread_states) = f v + total f thread_states

-- Mutators change the heap, unlogged bits and the pause word and the two cursors of what is drawn alone, decrementers counts, grays, dones
-- and the cursor of decrements, and tracers marks, grays, remembered entries and their cursor; counts change only where an unreclaimed
-- object begins, so that line marks stay. Cursors have not come round. The pause word is 0 or 1.
pub record AreFixed (b : Beginning) (s : EpochState) : Type 0 where
  pub tables : s.tables ≡ record (opening_tables b) {
    heap = s.tables.heap;
    unlogged = s.tables.unlogged;
    counts = s.tables.counts;
    marks = s.tables.marks;
    grays = s.tables.grays;
    dones = s.tables.dones;
    remembered = s.tables.remembered;
    cursors = s.tables.cursors;
  }
  pub counts : (k : ℕ) → (opening_tables b).starts k ≡ false → s.tables.counts k ≡ (opening_tables b).counts k
  pub cursors : (c : ℕ) → c ≢ PAUSE_WORD → c ≢ RUN_CURSOR → c ≢ FREE_BLOCK_CURSOR → c ≢ DECREMENT_CURSOR → c ≢ REMEMBERED_CURSOR → s.tables.cursors c ≡ (opening_tables b).cursors c
  pub word : (s.tables.cursors PAUSE_WORD ≡ 0) ⊎ (s.tables.cursors PAUSE_WORD ≡ 1)
  pub runs : s.tables.cursors RUN_CURSOR ≤ total (λ v. length v.replies + run_draws v.stage) s.thread_states
  pub blocks : s.tables.cursors FREE_BLOCK_CURSOR ≤ total (λ v. length v.replies + block_draws v.stage) s.thread_states

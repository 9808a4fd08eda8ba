-- What holds while objects of Chosen blocks are moved away, one after another.
use Rattle.std.specs.Prelude.{◌≡◌, ◌≢◌, ℕ, ◌+◌, ◌*◌, ◌/◌, ◌%◌, ◌^◌, ◌<◌, ◌≤◌, ◌⊎◌, ◌↔◌, ◌&&◌, nat_eq, nat_lt, not, Bool, Some, None, List, IsTrue, filter, length, slice_index_or, if◌then◌else◌}
use Rattle.lxr_layout.specs.declared.Name.{Name}
use Rattle.lxr_layout.specs.declared.TheConstants.{GRANULES_IN_BLOCK, GRANULES_IN_LINE, STUCK}
use Rattle.lxr_layout.specs.Objects.{moved_word}
use Rattle.lxr_layout.specs.Places.{field_word, first_word}
use Rattle.lxr_graph.specs.Names.{has}
use Rattle.lxr_graph.specs.State.{Object, object_at, refs_of, shape_of}
use Rattle.lxr_image.specs.declared.space.Space.{Space}
use Rattle.lxr_image.specs.Tables.{Tables}
use Rattle.lxr_image.specs.Spaces.{IsSpace, tables_of}
use Rattle.lxr_image.specs.Reads.{granule_of}
use Rattle.lxr_image.specs.Image.{granules_of, place_word}
use Rattle.lxr_blocks.specs.Kept.{IsAmong, IsKeptGranule, KeepsGranules}
use Rattle.lxr_blocks.specs.Placing.{IsFull, IsRest}
use Rattle.lxr_blocks.specs.States.{KeepsState, state_in, KeepsFree}
use Rattle.lxr_model.specs.Moments.{Moment}
use Rattle.lxr_invariant.specs.Copied.{CopiesLieOnFreeLines, HasCopy, HasWord}
use Rattle.lxr_invariant.specs.Lines.{is_chosen}
use Rattle.lxr_invariant.specs.Standing.{word_of_field}
use Rattle.lxr_invariant.specs.Tracing.{IsInChosen}
use Rattle.lxr_pause_promote.specs.Either.{HoldEither, IsPlaceOf, StandsNow}
use Rattle.lxr_evac_moving.specs.Evacuation.{CanEvacuate, RefersToOne}

-- A stage of evacuation; no code holds it.
pub record EvacuationStage : Type 0 where
  -- the space as evacuation found it
  pub found : Space
  -- where each object stood then, and where it stands now
  pub at : Name → ℕ
  pub now : Name → ℕ
  -- each object of a Chosen block that began below this granule was looked at
  pub looked : ℕ
  -- where moved objects stood below this granule, all is cleared
  pub cleared : ℕ

-- the granules of a space's heap
abbrev pub granules : Space → ℕ
granules s = GRANULES_IN_BLOCK * s.limits.blocks

-- an object has moved
abbrev pub HasMoved : EvacuationStage → Name → Type 0
HasMoved st n = st.now n ≢ st.at n

-- whether an object stood in a Chosen block
abbrev pub stood_chosen : EvacuationStage → Name → Bool
stood_chosen st n = is_chosen (state_in (tables_of st.found) (granule_of (st.at n) / GRANULES_IN_BLOCK))

-- whether an object is one of a Chosen block that was looked at and kept where it was
abbrev pub is_kept : EvacuationStage → Name → Bool
is_kept st n = stood_chosen st n && (nat_lt (granule_of (st.at n)) st.looked && nat_eq (st.now n) (st.at n))

-- the objects that have moved, and those that were kept, in order
abbrev pub moved_names : Moment → EvacuationStage → List Name
moved_names m st = filter (λ n. not (nat_eq (st.now n) (st.at n))) m.unreclaimed

abbrev pub kept_names : Moment → EvacuationStage → List Name
kept_names m st = filter (is_kept st) m.unreclaimed

-- a place where an object's bits stand: where it stands, or where it stood, until that is cleared
abbrev pub HasPlace : EvacuationStage → Name → ℕ → Type 0
HasPlace st n p = (p ≡ st.now n) ⊎ ((p ≡ st.at n) × (st.cleared ≤ granule_of p))

-- ---- where objects stand

-- Only objects of Chosen blocks that were looked at have moved, out of these blocks and onto what was free. No two objects share a place, nor
-- reach into one another, wherever they stand or stood.
pub record AreMovedApart (m : Moment) (st : EvacuationStage) : Type 0 where
  pub moved : (n : Name) → HasMoved st n → IsTrue (has m.unreclaimed n) × IsInChosen (tables_of st.found) st.at n × (granule_of (st.at n) < st.looked)
  pub away : (n : Name) → HasMoved st n → ¬ IsInChosen (tables_of st.found) st.now n
  pub onto : CopiesLieOnFreeLines st.found m st.at st.now (moved_names m st)
  pub own : (n u : Name) (p : ℕ) → IsTrue (has m.unreclaimed n) → IsTrue (has m.unreclaimed u) → IsPlaceOf st.at st.now n p → IsPlaceOf st.at st.now u p → n ≡ u
  pub apart : (n u : Name) (a b : Object) (p q : ℕ) → IsTrue (has m.unreclaimed n) → IsTrue (has m.unreclaimed u)
      → object_at m.state.graph n ≡ Some a → object_at m.state.graph u ≡ Some b → IsPlaceOf st.at st.now n p → IsPlaceOf st.at st.now u q → p ≢ q
      → (granule_of p + granules_of a ≤ granule_of q) ⊎ (granule_of q + granules_of b ≤ granule_of p)

-- The heap: each object stands whole where it stands now, where it stood its new place is told, and no word has changed but these and the
-- references to what has moved.
pub record HasHeap (t : Tables) (blocks : ℕ) (m : Moment) (st : EvacuationStage) : Type 0 where
  pub stands : (n : Name) → IsTrue (has m.unreclaimed n) → (o : Object) × (object_at m.state.graph n ≡ Some o) × StandsNow t blocks st.at st.now n o
  pub left_behind : (n : Name) → HasMoved st n → t.heap (first_word (st.at n)) ≡ moved_word (st.now n)
  pub others : (w : ℕ) → ((n : Name) → IsTrue (has (moved_names m st) n) → (w ≢ first_word (st.at n)) × ¬ HasWord m.state.graph st.now n w)
      → ¬ RefersToOne m st.now (moved_names m st) w → t.heap w ≡ (tables_of st.found).heap w

-- ---- bits and counts

-- a heap word is a reference of an object, at a place where its bits stand
pub record IsReferenceAt (m : Moment) (st : EvacuationStage) (w : ℕ) : Type 0 where
  pub name : Name
  pub index : ℕ
  pub place : ℕ
  pub member : IsTrue (has m.unreclaimed name)
  pub within : index < length (refs_of (object_at m.state.graph name))
  pub has_place : HasPlace st name place
  pub word : w ≡ field_word place index

-- a granule begins a further line that an object reaches into, at a place where its bits stand
pub record IsMarkAt (m : Moment) (st : EvacuationStage) (k : ℕ) : Type 0 where
  pub name : Name
  pub object : Object
  pub place : ℕ
  pub member : IsTrue (has m.unreclaimed name)
  pub is : object_at m.state.graph name ≡ Some object
  pub has_place : HasPlace st name place
  pub begins : k % GRANULES_IN_LINE ≡ 0
  pub behind : granule_of place < k
  pub within : k < granule_of place + granules_of object

-- Each object has at such a place the start bit, the mark, the gray bit and the count that it had, the unlogged bits of its references and the
-- marks of its lines, and nothing else has any.
pub record HasBitsAndCounts (t : Tables) (m : Moment) (st : EvacuationStage) : Type 0 where
  pub starts : (n : Name) (p : ℕ) → IsTrue (has m.unreclaimed n) → HasPlace st n p → IsTrue (t.starts (granule_of p))
  pub starts_only : (k : ℕ) → IsTrue (t.starts k) → (n : Name) × (p : ℕ) × IsTrue (has m.unreclaimed n) × HasPlace st n p × (granule_of p ≡ k)
  pub marks : (n : Name) (p : ℕ) → IsTrue (has m.unreclaimed n) → HasPlace st n p → t.marks (granule_of p) ≡ (tables_of st.found).marks (granule_of (st.at n))
  pub marks_only : (k : ℕ) → IsTrue (t.marks k) → IsTrue (t.starts k)
  pub grays : (n : Name) (p : ℕ) → IsTrue (has m.unreclaimed n) → HasPlace st n p → t.grays (granule_of p) ≡ (tables_of st.found).grays (granule_of (st.at n))
  pub grays_only : (k : ℕ) → IsTrue (t.grays k) → IsTrue (t.starts k)
  pub counts : (n : Name) (p : ℕ) → IsTrue (has m.unreclaimed n) → HasPlace st n p → t.counts (granule_of p) ≡ (tables_of st.found).counts (granule_of (st.at n))
  pub lines : (k : ℕ) → IsMarkAt m st k → t.counts k ≡ STUCK
  pub counts_only : (k : ℕ) → ((n : Name) (p : ℕ) → IsTrue (has m.unreclaimed n) → HasPlace st n p → granule_of p ≢ k) → ¬ IsMarkAt m st k → t.counts k ≡ 0
  pub unlogged : (w : ℕ) → IsTrue (t.unlogged w) ↔ IsReferenceAt m st w

-- ---- lines and blocks

-- an object has a granule, at a place where its bits stand
pub record IsTaken (m : Moment) (st : EvacuationStage) (k : ℕ) : Type 0 where
  pub name : Name
  pub object : Object
  pub place : ℕ
  pub member : IsTrue (has m.unreclaimed name)
  pub is : object_at m.state.graph name ≡ Some object
  pub has_place : HasPlace st name place
  pub among : IsAmong (granule_of place) (granules_of object) k

-- Nothing is placed on objects. A line is out where it was, and where it has a copy, for which it is counted once more. What was kept where it
-- was found no room, and there is none for it.
pub record HasLines (s : Space) (m : Moment) (st : EvacuationStage) : Type 0 where
  pub rest : IsRest s
  pub kept : KeepsGranules s (IsTaken m st)
  pub outs : (line : ℕ) → IsTrue ((tables_of s).outs line) ↔ (IsTrue ((tables_of st.found).outs line) ⊎ HasCopy m.state.graph st.at st.now (moved_names m st) line)
  pub reuse : (line : ℕ) → (tables_of s).reuse line
      ≡ if (tables_of s).outs line && not ((tables_of st.found).outs line) then (((tables_of st.found).reuse line + 1) % 2 ^ 32) else (tables_of st.found).reuse line
  pub states : (b : ℕ) → KeepsState (tables_of st.found) (tables_of s) b
  pub free : KeepsFree (tables_of st.found) (tables_of s)
  pub wanting : (n : Name) (o : Object) → IsTrue (has (kept_names m st) n) → object_at m.state.graph n ≡ Some o → IsFull s (shape_of o)

-- ---- a stage

-- what has changed of a space since evacuation found it: its words, what registers hold, and the rest of the lines that were placed on last
abbrev pub with_changes : Space → Space → Space
with_changes found s = record found {
  words = s.words;
  registers = record found.registers { items = s.registers.items };
  deferred = record found.deferred { items = s.deferred.items };
  rest_next = s.rest_next;
  rest_end = s.rest_end;
}

-- and of its tables: the heap, bits and counts of objects, lines that are out, and states of blocks
abbrev pub with_changed_tables : Tables → Tables → Tables
with_changed_tables found t = record found {
  heap = t.heap;
  starts = t.starts;
  marks = t.marks;
  grays = t.grays;
  counts = t.counts;
  unlogged = t.unlogged;
  outs = t.outs;
  reuse = t.reuse;
  states = t.states;
}

-- The space is at a stage of evacuation.
pub record IsEvacuating (s : Space) (m : Moment) (st : EvacuationStage) : Type 0 where
  pub can : CanEvacuate st.found m st.at
  pub space : IsSpace s
  pub apart : AreMovedApart m st
  pub heap : HasHeap (tables_of s) s.limits.blocks m st
  pub bits : HasBitsAndCounts (tables_of s) m st
  pub lines : HasLines s m st
  pub registers : HoldEither st.at st.now s.registers.items m.state.registers
  pub deferred : HoldEither st.at st.now s.deferred.items m.last.registers
  pub tables : tables_of s ≡ with_changed_tables (tables_of st.found) (tables_of s)
  pub changes : s ≡ with_changes st.found s

-- so it is while objects are moved: nothing is cleared yet, nor any reference fixed, and all that was kept as evacuation began is
pub record IsMovingAway (s : Space) (m : Moment) (st : EvacuationStage) : Type 0 where
  pub evacuating : IsEvacuating s m st
  pub uncleared : st.cleared ≡ 0
  pub unfixed : (w : ℕ) → ((n : Name) → IsTrue (has (moved_names m st) n) → (w ≢ first_word (st.at n)) × ¬ HasWord m.state.graph st.now n w)
      → (tables_of s).heap w ≡ (tables_of st.found).heap w
  pub kept_before : KeepsGranules s (IsKeptGranule st.found)

-- ---- what is fixed

-- a reference of an unreclaimed object holds the place where what it holds stands now
pub record IsFixed (t : Tables) (m : Moment) (st : EvacuationStage) (n : Name) (i : ℕ) : Type 0 where
  pub member : IsTrue (has m.unreclaimed n)
  pub within : i < length (refs_of (object_at m.state.graph n))
  pub holds : t.heap (word_of_field st.now n i) ≡ place_word st.now (slice_index_or (refs_of (object_at m.state.graph n)) i None)

-- all references do
abbrev pub AreFixed : Tables → Moment → EvacuationStage → Type 0
AreFixed t m st = (n : Name) (i : ℕ) → IsTrue (has m.unreclaimed n) → i < length (refs_of (object_at m.state.graph n)) → IsFixed t m st n i

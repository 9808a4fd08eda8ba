-- The image in the epoch: objects stand in the heap, registers hold the places of what the model's registers hold, and what
-- a mutator has learned of an object stays true.
use Rattle.std.specs.Prelude.{◌≡◌, ℕ, ◌+◌, ◌<◌, ◌≤◌, ⊤, Some, length, slice_get, IsTrue}
use Rattle.lxr_layout.specs.declared.TheConstants.{REGISTERS}
use Rattle.lxr_layout.specs.declared.Name.{Name}
use Rattle.lxr_layout.specs.declared.Shape.{Shape}
use Rattle.lxr_layout.specs.Objects.{word_count}
use Rattle.lxr_layout.specs.Places.{first_word}
use Rattle.lxr_graph.specs.Names.{has}
use Rattle.lxr_graph.specs.State.{Object, State, object_at, register_at, world_name}
use Rattle.lxr_image.specs.Tables.{Tables}
use Rattle.lxr_image.specs.Image.{IsImage, place_word}
use Rattle.lxr_model.specs.Moments.{Moment}
use Rattle.lxr_invariant.specs.AbstractState.{members}
use Rattle.lxr_core_invariant.specs.ThreadStates.{Intent, Stage, ThreadState, held, AtReference, AtValue, Clears, Stores, Makes, Works}
use Rattle.lxr_core_invariant.specs.EpochStates.{Beginning, EpochState, limits_of, moment_of}
use Rattle.lxr_core_invariant.specs.Events.{WorksOn}

-- 256 registers hold the places of what those of the thread hold in the model
pub record HoldsRegisters (st : State) (at : Name → ℕ) (v : ThreadState) : Type 0 where
  pub as_many : length v.registers ≡ REGISTERS
  pub places : (r : ℕ) → r < REGISTERS → (held v r).0 ≡ place_word at (register_at st v.thread r)

-- a reference of a member's object stands at a place and index
pub record IsReferenceAt (m : Moment) (at : Name → ℕ) (place index : ℕ) : Type 0 where
  pub name : Name
  pub object : Object
  pub member : IsTrue (has (members m) name)
  pub is : object_at m.state.graph name ≡ Some object
  pub stands : place ≡ at name
  pub within : index < length object.refs

-- a data word of a member's object, which has so many references, stands at a place and index
pub record IsValueAt (m : Moment) (at : Name → ℕ) (place refs index : ℕ) : Type 0 where
  pub name : Name
  pub object : Object
  pub member : IsTrue (has (members m) name)
  pub is : object_at m.state.graph name ≡ Some object
  pub stands : place ≡ at name
  pub refs_are : refs ≡ length object.refs
  pub within : index < length object.values

-- what a mutator knows of the reference, or of the data word, that it works on
pub record KnowsReference (m : Moment) (at : Name → ℕ) (v : ThreadState) (place index : ℕ) : Type 0 where
  pub stands : IsReferenceAt m at place index
  pub on : WorksOn v place index

pub record KnowsValue (m : Moment) (at : Name → ℕ) (v : ThreadState) (place refs index : ℕ) : Type 0 where
  pub stands : IsValueAt m at place refs index
  pub on : WorksOn v place index

-- so many words behind the header's are 0
abbrev pub AreWiped : Tables → ℕ → ℕ → Type 0
AreWiped t place wiped = (k : ℕ) → k < wiped → t.heap (first_word place + 1 + k) ≡ 0

-- so many words behind the header's of the object that a mutator makes are 0, and it has no fewer
pub record IsWipedTo (t : Tables) (place : ℕ) (shape : Shape) (wiped : ℕ) : Type 0 where
  pub within : wiped + 1 ≤ word_count shape
  pub zeros : AreWiped t place wiped

-- what it knows by what it intends
abbrev pub KnowsBy : Tables → Moment → (Name → ℕ) → ThreadState → Intent → Type 0
KnowsBy t m at v (AtReference place index) = KnowsReference m at v place index
KnowsBy t m at v (AtValue place refs index) = KnowsValue m at v place refs index
KnowsBy t m at v (Clears e) = KnowsReference m at v e.place.0 e.index
KnowsBy t m at v (Stores place index) = KnowsReference m at v place index
KnowsBy t m at v (Makes place shape wiped) = IsWipedTo t place shape wiped
KnowsBy t m at v _ = ⊤

abbrev pub Knows : Tables → Moment → (Name → ℕ) → ThreadState → Stage → Type 0
Knows t m at v (Works intent) = KnowsBy t m at v intent
Knows t m at v _ = ⊤

-- objects stand in the heap at their places, and what mutators have learned of them is so
pub record IsPlacedIn (b : Beginning) (s : EpochState) : Type 0 where
  pub image : IsImage s.tables (limits_of b).blocks s.at (moment_of b s).state.graph (members (moment_of b s))
  pub world : s.at world_name ≡ 1
  -- what stood in the heap as the epoch opened stands where it did
  pub unmoved : (n : Name) → IsTrue (has (members b.abstract_state.moment) n) → s.at n ≡ b.abstract_state.at n
  pub knows : (i : ℕ) (v : ThreadState) → slice_get s.thread_states i ≡ Some v → Knows s.tables (moment_of b s) s.at v v.stage

-- each mutator's registers hold the places of what those of its thread hold in the model
abbrev pub HaveRegisters : Beginning → EpochState → Type 0
HaveRegisters b s = (i : ℕ) (v : ThreadState) → slice_get s.thread_states i ≡ Some v → HoldsRegisters (moment_of b s).state s.at v

pub record IsImagedIn (b : Beginning) (s : EpochState) : Type 0 where
  pub placed : IsPlacedIn b s
  pub registers : HaveRegisters b s

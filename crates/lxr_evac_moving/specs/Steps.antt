-- What each step of evacuation asks, and from which stage to which it leads, for every moment that the space may hold.
use Rattle.std.specs.Prelude.{◌≡◌, ℕ, ◌+◌, ◌/◌, ◌<◌, ◌≤◌, ◌&&◌, not, Bool, true, false, Option, Some, List, IsTrue, length, slice_get, if◌then◌else◌}
use Rattle.lxr_layout.specs.declared.Name.{Name}
use Rattle.lxr_layout.specs.declared.Place.{Place}
use Rattle.lxr_layout.specs.declared.Shape.{Shape}
use Rattle.lxr_layout.specs.declared.TheConstants.{GRANULES_IN_BLOCK, REMEMBERED_CURSOR, WORDS_IN_LINE}
use Rattle.lxr_layout.specs.Objects.{word_count}
use Rattle.lxr_layout.specs.Places.{first_word}
use Rattle.lxr_layout.specs.Runs.{word_of_entry}
use Rattle.lxr_graph.specs.Names.{has}
use Rattle.lxr_graph.specs.State.{object_at, refs_of}
use Rattle.lxr_image.specs.declared.space.Space.{Space}
use Rattle.lxr_image.specs.Tables.{Tables, changed}
use Rattle.lxr_image.specs.Spaces.{tables_of}
use Rattle.lxr_image.specs.Reads.{granule_of}
use Rattle.lxr_image.specs.Image.{place_word}
use Rattle.lxr_blocks.specs.Masks.{one_if}
use Rattle.lxr_blocks.specs.States.{state_in}
use Rattle.lxr_model.specs.Moments.{Moment}
use Rattle.lxr_invariant.specs.Lines.{is_chosen}
use Rattle.lxr_blocks.specs.Lines.{line_behind, next_line}
use Rattle.lxr_invariant.specs.Standing.{place_of, word_of_field}
use Rattle.lxr_invariant.specs.Tracing.{HasOverflowed}
use Rattle.lxr_pause_promote.specs.Either.{HoldsEither}
use Rattle.lxr_pause_promote.specs.Promotion.{marked_between, set_between}
use Rattle.lxr_evac_moving.specs.declared.evacuating.Evacuated.{Evacuated}
use Rattle.lxr_evac_moving.specs.declared.registers.Registers.{Registers}
use Rattle.lxr_evac_moving.specs.declared.registers.Registers.TheVariants.{AtLastPause, Now}
use Rattle.lxr_evac_moving.specs.Evacuation.{CanEvacuate, evacuated_of}
use Rattle.lxr_evac_moving.specs.Stages.{AreFixed, EvacuationStage, IsEvacuating, IsFixed, IsMovingAway, granules, kept_names, moved_names}

-- ---- start bits of Chosen blocks

-- an object of a Chosen block begins at a granule
abbrev pub begins_in_chosen : Tables → ℕ → Bool
begins_in_chosen t k = is_chosen (state_in t (k / GRANULES_IN_BLOCK)) && t.starts k

-- none begins from a granule on and below another
abbrev pub NoneBegins : Tables → ℕ → ℕ → Type 0
NoneBegins t from end = (k : ℕ) → from ≤ k → k < end → begins_in_chosen t k ≡ false

-- the first one from a granule on begins at another, which is below the end
pub record IsNextChosen (t : Tables) (from end granule : ℕ) : Type 0 where
  pub reached : from ≤ granule
  pub within : granule < end
  pub is : IsTrue (begins_in_chosen t granule)
  pub passed : NoneBegins t from granule

-- ---- objects are moved

-- the stage at which evacuation begins
abbrev pub first_stage : Space → (Name → ℕ) → EvacuationStage
first_stage s at = record { found = s; at = at; now = at; looked = 0; cleared = 0 }

-- the stage once all is looked at, where objects stand then at these places
abbrev pub last_stage : Space → (Name → ℕ) → (Name → ℕ) → EvacuationStage
last_stage s at now = record { found = s; at = at; now = now; looked = granules s; cleared = 0 }

-- the space is where objects may be moved away, and its remembered set has not overflowed
pub record CanMove (s : Space) (m : Moment) (at : Name → ℕ) : Type 0 where
  pub can : CanEvacuate s m at
  pub whole : ¬ HasOverflowed s.limits (tables_of s)

-- the tables with the object at a granule marked where the one at another is, and gray where it is
abbrev pub with_mark_of : Tables → ℕ → ℕ → Tables
with_mark_of t from to = record t { marks = if t.marks from then changed t.marks to true else t.marks }

abbrev pub with_gray_of : Tables → ℕ → ℕ → Tables
with_gray_of t from to = record t { grays = if t.grays from then changed t.grays to true else t.grays }

-- the tables with the bits and the count of the object at a place at another too, with the unlogged bits and line marks that an object of its
-- shape has there
abbrev pub with_taken_over : Tables → ℕ → ℕ → Shape → Tables
with_taken_over t p q shape = record t {
  starts = changed t.starts (granule_of q) true;
  marks = if t.marks (granule_of p) then changed t.marks (granule_of q) true else t.marks;
  grays = if t.grays (granule_of p) then changed t.grays (granule_of q) true else t.grays;
  counts = marked_between (changed t.counts (granule_of q) (t.counts (granule_of p))) (next_line (granule_of q)) (line_behind (granule_of q) (word_count shape / 2));
  unlogged = set_between t.unlogged (first_word q + 1) (first_word q + 1 + shape.refs);
}

-- an object of a Chosen block begins at a granule, and is the next to be looked at
abbrev pub MayMove : Space → ℕ → Type 0
MayMove s granule = (m : Moment) × (st : EvacuationStage) × IsMovingAway s m st × IsNextChosen (tables_of s) st.looked (granules s) granule

-- a stage behind another: the same was found, all below a granule is looked at, and so many more objects have moved and were kept
pub record ComesBehind (m : Moment) (st later : EvacuationStage) (looked moved kept : ℕ) : Type 0 where
  pub found : later.found ≡ st.found
  pub at : later.at ≡ st.at
  pub looked_at : later.looked ≡ looked
  pub moved_more : length (moved_names m later) ≡ length (moved_names m st) + moved
  pub kept_more : length (kept_names m later) ≡ length (kept_names m st) + kept

-- it is looked at: moved, or kept where it is
abbrev pub Moves : Space → Space → ℕ → Bool → Type 0
Moves before after granule moved =
    (m : Moment) (st : EvacuationStage) → IsMovingAway before m st → IsNextChosen (tables_of before) st.looked (granules before) granule
    → (later : EvacuationStage) × IsMovingAway after m later × ComesBehind m st later (granule + 1) (one_if moved) (one_if (not moved))

-- all objects of Chosen blocks are moved, or kept where they are for want of lines; this is how many
pub record MovesAll (before after : Space) (m : Moment) (at now : Name → ℕ) (result : Evacuated) : Type 0 where
  pub evacuating : IsEvacuating after m (last_stage before at now)
  pub answer : result ≡ evacuated_of (moved_names m (last_stage before at now)) (kept_names m (last_stage before at now))
  pub few : result.moved + result.kept ≤ granules before

-- ---- where what is held stands now

-- a word holds either place of what is held, which is unreclaimed
pub record HoldsMember (m : Moment) (st : EvacuationStage) (w : ℕ) (held : Option Name) : Type 0 where
  pub either : HoldsEither st.at st.now w held
  pub member : (n : Name) → held ≡ Some n → IsTrue (has m.unreclaimed n)

abbrev pub MayFollow : Space → ℕ → Type 0
MayFollow s w = (m : Moment) × (st : EvacuationStage) × (held : Option Name) × IsEvacuating s m st × HoldsMember m st w held

-- and this is where it stands now
abbrev pub Follows : Space → ℕ → ℕ → Type 0
Follows s w now = (m : Moment) (st : EvacuationStage) (held : Option Name) → IsEvacuating s m st → HoldsMember m st w held → now ≡ place_word st.now held

-- ---- references

-- a place is where an unreclaimed object stands now
pub record IsHolder (m : Moment) (st : EvacuationStage) (n : Name) (place : ℕ) : Type 0 where
  pub member : IsTrue (has m.unreclaimed n)
  pub stands : place ≡ st.now n

-- some object does
abbrev pub HasHolder : Space → ℕ → Type 0
HasHolder s place = (m : Moment) × (st : EvacuationStage) × (n : Name) × IsEvacuating s m st × IsHolder m st n place

-- so many references it has
abbrev pub HasSlots : Space → ℕ → ℕ → Type 0
HasSlots s place slots = (m : Moment) (st : EvacuationStage) (n : Name) → IsEvacuating s m st → IsHolder m st n place → slots ≡ length (refs_of (object_at m.state.graph n))

-- what was fixed stays so
abbrev pub KeepsFixed : Space → Space → Moment → EvacuationStage → Type 0
KeepsFixed before after m st = (n : Name) (i : ℕ) → IsFixed (tables_of before) m st n i → IsFixed (tables_of after) m st n i

-- one reference of an object is fixed
abbrev pub MayFixField : Space → ℕ → ℕ → Type 0
MayFixField s place i =
    (m : Moment) × (st : EvacuationStage) × (n : Name) × IsEvacuating s m st × IsHolder m st n place × (i < length (refs_of (object_at m.state.graph n)))

pub record FixesField (before after : Space) (m : Moment) (st : EvacuationStage) (n : Name) (i : ℕ) : Type 0 where
  pub evacuating : IsEvacuating after m st
  pub fixed : IsFixed (tables_of after) m st n i
  pub keeps : KeepsFixed before after m st

abbrev pub FixesFieldAt : Space → Space → ℕ → ℕ → Type 0
FixesFieldAt before after place i =
    (m : Moment) (st : EvacuationStage) (n : Name) → IsEvacuating before m st → IsHolder m st n place → i < length (refs_of (object_at m.state.graph n)) → FixesField before after m st n i

-- the remembered set has an entry of a reference among its first ones, with the reuse counter that the reference's line has now
abbrev pub IsRememberedBelow : ℕ → Tables → EvacuationStage → ℕ → Name → ℕ → Type 0
IsRememberedBelow blocks t st count n i = (k : ℕ) × (k < count)
    × (t.remembered k ≡ word_of_entry blocks (t.reuse (word_of_field st.at n i / WORDS_IN_LINE)) (place_of st.at n) i)

-- nothing is cleared yet, and each reference that has an entry among the first ones is fixed
pub record HasFixedEntries (s : Space) (m : Moment) (st : EvacuationStage) (count : ℕ) : Type 0 where
  pub evacuating : IsEvacuating s m st
  pub uncleared : st.cleared ≡ 0
  pub fixed : (n : Name) (i : ℕ) → IsTrue (has m.unreclaimed n) → i < length (refs_of (object_at m.state.graph n)) → IsRememberedBelow s.limits.blocks (tables_of s) st count n i
      → IsFixed (tables_of s) m st n i

-- the set has such an entry; then its reference is fixed too
abbrev pub MayFixEntry : Space → ℕ → Type 0
MayFixEntry s number =
    (m : Moment) × (st : EvacuationStage) × HasFixedEntries s m st number × (number < (tables_of s).cursors REMEMBERED_CURSOR) × (number < s.limits.remember)

abbrev pub FixesEntry : Space → Space → ℕ → Type 0
FixesEntry before after number = (m : Moment) (st : EvacuationStage) → HasFixedEntries before m st number → HasFixedEntries after m st (number + 1)

-- nothing is cleared yet, and the remembered set has not overflowed
pub record CanFix (s : Space) (m : Moment) (st : EvacuationStage) : Type 0 where
  pub evacuating : IsEvacuating s m st
  pub uncleared : st.cleared ≡ 0
  pub whole : ¬ HasOverflowed st.found.limits (tables_of st.found)

-- then all references are fixed
pub record FixesAll (after : Space) (m : Moment) (st : EvacuationStage) : Type 0 where
  pub evacuating : IsEvacuating after m st
  pub fixed : AreFixed (tables_of after) m st

-- ---- registers

-- registers hold either place of what they are to hold; the first so many hold where it stands now
pub record HoldNow (st : EvacuationStage) (places : List Place) (held : List (Option Name)) (count : ℕ) : Type 0 where
  pub first : (k : ℕ) (p : Place) (r : Option Name) → k < count → slice_get places k ≡ Some p → slice_get held k ≡ Some r → p.0 ≡ place_word st.now r

-- the places that registers hold, now or at the last pause
abbrev pub held_places : Registers → Space → List Place
held_places Now s = s.registers.items
held_places AtLastPause s = s.deferred.items

-- the names that they are to hold
abbrev pub held_names : Registers → Moment → List (Option Name)
held_names Now m = m.state.registers
held_names AtLastPause m = m.last.registers

-- the space with other places in them
abbrev pub with_places : Registers → Space → List Place → Space
with_places Now s places = record s { registers = record s.registers { items = places } }
with_places AtLastPause s places = record s { deferred = record s.deferred { items = places } }

-- there is a register of this number while objects are moved
abbrev pub MayFixRegister : Space → Registers → ℕ → Type 0
MayFixRegister s registers register = (m : Moment) × (st : EvacuationStage) × IsEvacuating s m st × (register < length (held_places registers s))

-- where the registers before it hold where what they are to hold stands now, it does too
abbrev pub FixesRegister : Space → Space → Registers → ℕ → Type 0
FixesRegister before after registers register =
    (m : Moment) (st : EvacuationStage) → IsEvacuating before m st → HoldNow st (held_places registers before) (held_names registers m) register
    → IsEvacuating after m st × HoldNow st (held_places registers after) (held_names registers m) (register + 1)

-- ---- old places

-- the stage with what stood below a granule cleared
abbrev pub cleared_to : EvacuationStage → ℕ → EvacuationStage
cleared_to st end = record st { cleared = end }

-- all objects were looked at, and old places below a granule are cleared
pub record IsClearing (s : Space) (m : Moment) (st : EvacuationStage) (end : ℕ) : Type 0 where
  pub evacuating : IsEvacuating s m (cleared_to st end)
  pub looked : st.looked ≡ granules s

-- an object of a Chosen block begins at a granule, or one that has moved began there; then what is left of the latter is cleared
abbrev pub MayClear : Space → ℕ → Type 0
MayClear s granule = (m : Moment) × (st : EvacuationStage) × (from : ℕ) × IsClearing s m st from × IsNextChosen (tables_of s) from (granules s) granule

abbrev pub Clears : Space → Space → ℕ → Type 0
Clears before after granule =
    (m : Moment) (st : EvacuationStage) (from : ℕ) → IsClearing before m st from → IsNextChosen (tables_of before) from (granules before) granule → IsClearing after m st (granule + 1)

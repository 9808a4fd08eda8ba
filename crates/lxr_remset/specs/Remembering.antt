-- What changes where a reference is remembered.
use Rattle.std.specs.Prelude.{◌≡◌, ℕ, ◌+◌, ◌*◌, ◌/◌, ◌^◌, ◌<◌, ◌≤◌, ◌⊎◌, ⊤, nat_lt, if◌then◌else◌, Bool, false, Option, Some, None, List, [], ◌∷◌, IsTrue, length, slice_get}
use Rattle.lxr_layout.specs.declared.TheConstants.{GRANULES_IN_BLOCK, REMEMBERED_CURSOR, WORDS_IN_BLOCK, WORDS_IN_LINE}
use Rattle.lxr_layout.specs.declared.limits.Limits.{Limits}
use Rattle.lxr_layout.specs.declared.Name.{Name}
use Rattle.lxr_layout.specs.declared.Place.{Place}
use Rattle.lxr_layout.specs.Places.{field_word}
use Rattle.lxr_layout.specs.Runs.{word_of_entry}
use Rattle.lxr_layout.specs.Spaces.{AreLimits}
use Rattle.lxr_graph.specs.Names.{has}
use Rattle.lxr_graph.specs.State.{object_at, refs_of}
use Rattle.lxr_image.specs.Tables.{Tables, changed}
use Rattle.lxr_image.specs.Reads.{granule_of}
use Rattle.lxr_image.specs.Spaces.{AreWithin}
use Rattle.lxr_blocks.specs.States.{state_in}
use Rattle.lxr_model.specs.Moments.{Field, Moment, Trace}
use Rattle.lxr_model_counting.specs.Distinct.{has_field}
use Rattle.lxr_invariant.specs.Lines.{NoneChosen, is_chosen}
use Rattle.lxr_invariant.specs.Standing.{place_of, word_of_field}
use Rattle.lxr_invariant.specs.Tracing.{HasOverflowed, IsEntryWord, IsInChosen, IsRemembered}
use Rattle.lxr_remset.specs.declared.remembering.Remembered.{Remembered}
use Rattle.lxr_remset.specs.declared.remembering.Remembered.TheVariants.{Full, Kept}

-- a reference of an object at a place: its word is one of the heap, and an object has at most 1,023 references
pub record IsField (l : Limits) (p : Place) (i : ℕ) : Type 0 where
  pub placed : 1 ≤ p.0
  pub index : i ≤ 1022
  pub in_heap : field_word p.0 i < WORDS_IN_BLOCK * l.blocks

-- the line of a reference of the object at a place, counted over the whole heap
abbrev pub line_of_field : Place → ℕ → ℕ
line_of_field p i = field_word p.0 i / WORDS_IN_LINE

-- the entry of a reference in a heap of so many blocks, with the reuse counter that its line has now
abbrev pub entry_now : ℕ → Tables → Place → ℕ → ℕ
entry_now blocks t p i = word_of_entry blocks (t.reuse (line_of_field p i)) p i

-- the tables with a reference remembered: a number is drawn, and where the set has room for it, the entry is written there
abbrev pub remembering : Limits → Tables → Place → ℕ → Tables
remembering l t p i = record t {
  remembered = if nat_lt (t.cursors REMEMBERED_CURSOR) l.remember then (changed t.remembered (t.cursors REMEMBERED_CURSOR) (entry_now l.blocks t p i)) else t.remembered;
  cursors = changed t.cursors REMEMBERED_CURSOR (t.cursors REMEMBERED_CURSOR + 1);
}

-- whether the object at a place stands in a Chosen block
abbrev pub is_in_chosen : Tables → Place → Bool
is_in_chosen t q = is_chosen (state_in t (granule_of q.0 / GRANULES_IN_BLOCK))

-- the tables with a reference remembered, where what it holds stands in a Chosen block
abbrev pub remembering_chosen : Limits → Tables → Place → ℕ → Place → Tables
remembering_chosen l t p i held = if is_in_chosen t held then remembering l t p i else t

-- the answer: Kept where the set has room for the number that is drawn
abbrev pub kept_or_full : Limits → Tables → Remembered
kept_or_full l t = if nat_lt (t.cursors REMEMBERED_CURSOR) l.remember then Kept else Full

-- each entry below the cursor is one of a reference of the heap
abbrev pub AreEntries : Limits → Tables → Type 0
AreEntries l t = (k : ℕ) → k < t.cursors REMEMBERED_CURSOR → k < l.remember → (c : ℕ) × (p : Place) × (i : ℕ) × IsEntryWord l (t.remembered k) c p i

-- After a reference was entered it is remembered, or the set has overflowed. What was remembered is, and a set that had
-- overflowed has. Each entry is one of a reference where each was.
pub record KeepsSet (l : Limits) (t u : Tables) (at : Name → ℕ) (n : Name) (i : ℕ) : Type 0 where
  pub field : IsRemembered l u at n i ⊎ HasOverflowed l u
  pub others : (m : Name) (j : ℕ) → IsRemembered l t at m j → IsRemembered l u at m j
  pub full : HasOverflowed l t → HasOverflowed l u
  pub entries : AreEntries l t → AreEntries l u

-- so it is with each reference of an object
abbrev pub RememberingKeepsSet : Type 0
RememberingKeepsSet = (l : Limits) (t : Tables) (at : Name → ℕ) (n : Name) (i : ℕ) → AreLimits l → AreWithin t → IsField l (place_of at n) i
    → KeepsSet l t (remembering l t (place_of at n) i) at n i

-- ---- what a step of a pause does that remembers references

-- the tables with the remembered set of others
abbrev pub with_remembered_of : Tables → Tables → Tables
with_remembered_of t u = record t { remembered = u.remembered; cursors = changed t.cursors REMEMBERED_CURSOR (u.cursors REMEMBERED_CURSOR) }

-- while a trace runs, far fewer references were remembered than the cursor can count
abbrev pub CanRemember : Option Trace → Tables → Type 0
CanRemember None t = ⊤
CanRemember (Some trace) t = t.cursors REMEMBERED_CURSOR < 2 ^ 62

-- a number of the remembered set has the entry of one of these references, which leads into a Chosen block
pub record HasEntryOf (l : Limits) (u : Tables) (m : Moment) (now : Name → ℕ) (IsOne : Name → ℕ → Type 0) (k : ℕ) : Type 0 where
  pub holder : Name
  pub held : Name
  pub index : ℕ
  pub one : IsOne holder index
  pub holds : slice_get (refs_of (object_at m.state.graph holder)) index ≡ Some (Some held)
  pub chosen : IsInChosen u now held
  pub entry : u.remembered k ≡ word_of_entry l.blocks (u.reuse (word_of_field now holder index / WORDS_IN_LINE)) (place_of now holder) index

-- Each of these references that leads into a Chosen block is remembered, or the set has overflowed, and only such references are
-- remembered. What was remembered of unreclaimed objects still is, a set that had overflowed has, and each entry is one of a reference
-- where each was. Where no block is Chosen, nothing is remembered. Objects stood where `at` says, and stand where `now` says.
pub record Remembers (l : Limits) (t u : Tables) (m : Moment) (at now : Name → ℕ) (IsOne : Name → ℕ → Type 0) : Type 0 where
  pub fields : (n v : Name) (i : ℕ) → IsOne n i → slice_get (refs_of (object_at m.state.graph n)) i ≡ Some (Some v) → IsInChosen u now v
      → IsRemembered l u now n i ⊎ HasOverflowed l u
  pub only : (k : ℕ) → t.cursors REMEMBERED_CURSOR ≤ k → k < u.cursors REMEMBERED_CURSOR → k < l.remember → HasEntryOf l u m now IsOne k
  pub kept : (n : Name) (i : ℕ) (held : Option Name) → IsTrue (has m.unreclaimed n) → slice_get (refs_of (object_at m.state.graph n)) i ≡ Some held
      → IsRemembered l t at n i → IsRemembered l u now n i
  pub full : HasOverflowed l t → HasOverflowed l u
  pub entries : AreEntries l t → AreEntries l u
  pub idle : NoneChosen t l.blocks → (u.remembered ≡ t.remembered) × (u.cursors REMEMBERED_CURSOR ≡ t.cursors REMEMBERED_CURSOR)

-- ---- how many references are remembered

-- a reference of an object leads into a Chosen block
pub record LeadsIntoChosen (t : Tables) (m : Moment) (at : Name → ℕ) (n : Name) (i : ℕ) : Type 0 where
  pub held : Name
  pub holds : slice_get (refs_of (object_at m.state.graph n)) i ≡ Some (Some held)
  pub chosen : IsInChosen t at held

-- where the set has room for a number, it has the entry of this reference there
abbrev pub HasEntryAtNumber : Limits → Tables → (Name → ℕ) → ℕ → Field → Type 0
HasEntryAtNumber l t now k field = k < l.remember → t.remembered k ≡ word_of_entry l.blocks (t.reuse (word_of_field now field.0 field.1 / WORDS_IN_LINE)) (place_of now field.0) field.1

-- The numbers from one on were drawn for these references, the newest first: each is one of those that are meant and leads into a Chosen block, none
-- stands here twice, and each has its entry.
abbrev pub AreEntered : Limits → Tables → Moment → (Name → ℕ) → (Name → ℕ → Type 0) → ℕ → List Field → Type 0
AreEntered l t m now IsOne from [] = ⊤
AreEntered l t m now IsOne from (field ∷ fields) = IsOne field.0 field.1 × LeadsIntoChosen t m now field.0 field.1 × (has_field fields field ≡ false)
    × HasEntryAtNumber l t now (from + length fields) field × AreEntered l t m now IsOne from fields

-- Since other tables one number was drawn for each of some of these references, which lead into Chosen blocks, for none of them twice, and
-- no other number.
pub record EntersOnce (l : Limits) (t u : Tables) (m : Moment) (now : Name → ℕ) (IsOne : Name → ℕ → Type 0) : Type 0 where
  pub entered : List Field
  pub are : AreEntered l u m now IsOne (t.cursors REMEMBERED_CURSOR) entered
  pub drawn : u.cursors REMEMBERED_CURSOR ≡ t.cursors REMEMBERED_CURSOR + length entered

-- Each reference of an unreclaimed object that leads into a Chosen block is remembered, or the set has overflowed; each entry is one of a
-- reference.
pub record RemembersChosen (l : Limits) (t : Tables) (m : Moment) (at : Name → ℕ) : Type 0 where
  pub fields : (n v : Name) (i : ℕ) → IsTrue (has m.unreclaimed n) → slice_get (refs_of (object_at m.state.graph n)) i ≡ Some (Some v) → IsInChosen t at v
      → IsRemembered l t at n i ⊎ HasOverflowed l t
  pub entries : AreEntries l t

-- what is done so to a reference of an object that holds another
abbrev pub ChosenAreRemembered : Type 0
ChosenAreRemembered = (l : Limits) (t : Tables) (m : Moment) (at : Name → ℕ) (n v : Name) (i : ℕ) → AreLimits l → AreWithin t
    → IsField l (place_of at n) i → granule_of (at v) < GRANULES_IN_BLOCK * l.blocks → slice_get (refs_of (object_at m.state.graph n)) i ≡ Some (Some v)
    → Remembers l t (remembering_chosen l t (place_of at n) i (place_of at v)) m at at (λ o j. (o ≡ n) × (j ≡ i))

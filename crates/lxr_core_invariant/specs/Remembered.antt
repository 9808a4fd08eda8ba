-- Remembered so far in an epoch: while a trace runs, each reference into a Chosen block of what is marked, or was promoted since the trace
-- began, is remembered, or a tracer is ahead of it. The state at the last pause, the unreclaimed names and the places of their objects stay
-- through an epoch, so they are those of its beginning; and a reference whose unlogged bit is set holds what it held then.
use Rattle.std.specs.Prelude.{◌≡◌, ℕ, ◌+◌, ◌-◌, ◌/◌, ◌^◌, ◌<◌, ◌≤◌, ◌⊎◌, ⊤, Option, Some, None, List, [], ◌∷◌, IsTrue, length, slice_get}
use Rattle.lxr_layout.specs.declared.limits.Limits.{Limits}
use Rattle.lxr_layout.specs.declared.Name.{Name}
use Rattle.lxr_layout.specs.declared.Place.{Place}
use Rattle.lxr_layout.specs.declared.TheConstants.{REMEMBERED_CURSOR, WORDS_IN_LINE}
use Rattle.lxr_layout.specs.Places.{field_word}
use Rattle.lxr_layout.specs.Runs.{word_of_entry}
use Rattle.lxr_graph.specs.Names.{IsSetOf, has}
use Rattle.lxr_graph.specs.State.{object_at, refs_of}
use Rattle.lxr_image.specs.Tables.{Tables}
use Rattle.lxr_model.specs.Reachable.{Reachable}
use Rattle.lxr_model.specs.Moments.{Moment, Trace, rememberable}
use Rattle.lxr_invariant.specs.Lines.{NoneChosen}
use Rattle.lxr_invariant.specs.Standing.{word_of_field}
use Rattle.lxr_invariant.specs.Tracing.{HasOverflowed, IsEntryWord, IsInChosen, IsScanned, unscanned_slots}
use Rattle.lxr_core_access.specs.Tracers.{Tracing, ReadsShape, Scans, AsksReferent, GraysReferent, AsksBlock, ReadsReuse, DrawsNumber, Enters}
use Rattle.lxr_core_invariant.specs.EpochStates.{Beginning, EpochState, limits_of, opening_tables}
use Rattle.lxr_core_invariant.specs.Counted.{references_at}

-- ---- what tracers have in hand

-- the object at a place is remembered from this reference on: each of those before it is remembered already, or need not be
abbrev pub remembers_from : Tracing → Option (ℕ × ℕ)
remembers_from (ReadsShape place) = Some (place, 0)
remembers_from (Scans place refs index) = Some (place, index)
remembers_from (AsksReferent place refs index referent) = Some (place, index)
remembers_from (GraysReferent place refs index referent) = Some (place, index)
remembers_from (AsksBlock place refs index referent) = Some (place, index)
remembers_from (ReadsReuse place refs index) = Some (place, index)
remembers_from (DrawsNumber place refs index counter) = Some (place, index)
remembers_from (Enters place refs index counter number) = Some (place, index)
remembers_from _ = None

-- a tracer is ahead of reference i of the object at a place
pub record IsRememberedLater (ts : List Tracing) (place i : ℕ) : Type 0 where
  pub number : ℕ
  pub tracer : Tracing
  pub first : ℕ
  pub shows : slice_get ts number ≡ Some tracer
  pub from : remembers_from tracer ≡ Some (place, first)
  pub later : first ≤ i

-- how many references a tracer is ahead of for which it has drawn no number yet, and how many all tracers are
abbrev pub undrawn_by : Moment → (Name → ℕ) → Tracing → ℕ
undrawn_by m at (ReadsShape place) = length (references_at m at place)
undrawn_by m at (Scans place refs index) = refs - index
undrawn_by m at (AsksReferent place refs index referent) = refs - index
undrawn_by m at (GraysReferent place refs index referent) = refs - index
undrawn_by m at (AsksBlock place refs index referent) = refs - index
undrawn_by m at (ReadsReuse place refs index) = refs - index
undrawn_by m at (DrawsNumber place refs index counter) = refs - index
undrawn_by m at (Enters place refs index counter number) = refs - (index + 1)
undrawn_by m at _ = 0

abbrev pub undrawn : Moment → (Name → ℕ) → List Tracing → ℕ
undrawn m at [] = 0
undrawn m at (d ∷ ts) = undrawn_by m at d + undrawn m at ts

-- the number whose entry a tracer is about to write
abbrev pub entered_by : Tracing → Option ℕ
entered_by (Enters place refs index counter number) = Some number
entered_by _ = None

-- some tracer is about to write the entry of a number
abbrev pub IsBeingEntered : List Tracing → ℕ → Type 0
IsBeingEntered ts k = (j : ℕ) × (d : Tracing) × (slice_get ts j ≡ Some d) × (entered_by d ≡ Some k)

-- the reference that a tracer is at is to be remembered
abbrev pub IsRemembering : Tracing → Type 0
IsRemembering (ReadsReuse place refs index) = ⊤
IsRemembering (DrawsNumber place refs index counter) = ⊤
IsRemembering (Enters place refs index counter number) = ⊤
IsRemembering _ = ⊥

-- ---- what tracers know

-- a reference held v at the last pause, and wasn't written since
pub record StillHolds (t : Tables) (m : Moment) (at : Name → ℕ) (n : Name) (i : ℕ) (v : Name) : Type 0 where
  pub member : IsTrue (has m.unreclaimed n)
  pub held : slice_get (refs_of (object_at m.last.graph n)) i ≡ Some (Some v)
  pub unlogged : IsTrue (t.unlogged (word_of_field at n i))

-- what a tracer has loaded of a reference is what that holds, if it still holds what it held at the last pause
abbrev pub HasLoaded : Tables → Moment → (Name → ℕ) → ℕ → ℕ → ℕ → Type 0
HasLoaded t m at place index referent = (n v : Name) → place ≡ at n → StillHolds t m at n index v → referent ≡ at v

-- what it knows of what it remembers: the reuse counter of the field's line, which doesn't change in an epoch, and a number that it has drawn
abbrev pub KnowsCounter : Tables → ℕ → ℕ → ℕ → Type 0
KnowsCounter t place index counter = counter ≡ t.reuse (field_word place index / WORDS_IN_LINE)

pub record KnowsNumber (l : Limits) (t : Tables) (place index counter number : ℕ) : Type 0 where
  pub counter_is : KnowsCounter t place index counter
  pub drawn : number < t.cursors REMEMBERED_CURSOR
  pub within : number < l.remember

abbrev pub KnowsFields : Limits → Tables → Moment → (Name → ℕ) → Tracing → Type 0
KnowsFields l t m at (AsksReferent place refs index referent) = HasLoaded t m at place index referent
KnowsFields l t m at (GraysReferent place refs index referent) = HasLoaded t m at place index referent
KnowsFields l t m at (AsksBlock place refs index referent) = HasLoaded t m at place index referent
KnowsFields l t m at (DrawsNumber place refs index counter) = KnowsCounter t place index counter
KnowsFields l t m at (Enters place refs index counter number) = KnowsNumber l t place index counter number
KnowsFields l t m at _ = ⊤

-- ---- the part

-- a field has an entry, written already, with the reuse counter that its line has now
pub record HasEntry (l : Limits) (t : Tables) (ts : List Tracing) (at : Name → ℕ) (n : Name) (i : ℕ) : Type 0 where
  pub number : ℕ
  pub drawn : number < t.cursors REMEMBERED_CURSOR
  pub within : number < l.remember
  pub written : ¬ IsBeingEntered ts number
  pub word : t.remembered number ≡ word_of_entry l.blocks (t.reuse (word_of_field at n i / WORDS_IN_LINE)) (record { 0 = at n }) i

-- a word is the entry of some field of the heap
abbrev pub IsSomeEntry : Limits → ℕ → Type 0
IsSomeEntry l word = (c : ℕ) × (p : Place) × (i : ℕ) × IsEntryWord l word c p i

-- For a trace that runs: each reference of a scanned or promoted object that points into a Chosen block, and wasn't written since the last
-- pause, has its entry, or the set has overflowed, or a tracer is ahead of it. Numbers that tracers are about to write entries for differ, and
-- each other entry is one. What was drawn, what is still to be scanned, and what tracers are ahead of are no more than may be remembered.
pub record AreRemembered (l : Limits) (t : Tables) (ts : List Tracing) (m : Moment) (at : Name → ℕ) (trace : Trace) : Type 0 where
  pub fields : (n v : Name) (i : ℕ) → IsScanned t at trace n → StillHolds t m at n i v → IsInChosen t at v → HasEntry l t ts at n i ⊎ HasOverflowed l t ⊎ IsRememberedLater ts (at n) i
  pub entries : (k : ℕ) → k < t.cursors REMEMBERED_CURSOR → k < l.remember → ¬ IsBeingEntered ts k → IsSomeEntry l (t.remembered k)
  pub knows : (j : ℕ) (d : Tracing) → slice_get ts j ≡ Some d → KnowsFields l t m at d
  pub one_number : (i j : ℕ) (d e : Tracing) (k : ℕ) → slice_get ts i ≡ Some d → slice_get ts j ≡ Some e → entered_by d ≡ Some k → entered_by e ≡ Some k → i ≡ j
  pub bound : (snapshot : List Name) → IsSetOf snapshot (Reachable trace.state)
      → t.cursors REMEMBERED_CURSOR + unscanned_slots t m at snapshot + undrawn m at ts ≤ rememberable trace snapshot

abbrev pub AreRememberedWhile : Beginning → EpochState → Option Trace → Type 0
AreRememberedWhile b s None = ⊤
AreRememberedWhile b s (Some trace) = AreRemembered (limits_of b) s.tables s.tracers b.abstract_state.moment b.abstract_state.at trace

-- where no block was Chosen as the epoch opened, as where no trace runs, no tracer is to remember anything, and none has
pub record AreIdle (b : Beginning) (s : EpochState) : Type 0 where
  pub none : (j : ℕ) (d : Tracing) → slice_get s.tracers j ≡ Some d → ¬ IsRemembering d
  pub drawn : s.tables.cursors REMEMBERED_CURSOR ≡ (opening_tables b).cursors REMEMBERED_CURSOR

-- as in every space, the number of pauses has 32 bits, so that the cursor of remembered entries doesn't come round
pub record AreRememberedIn (b : Beginning) (s : EpochState) : Type 0 where
  pub few_pauses : b.space.pauses < 2 ^ 32
  pub traced : AreRememberedWhile b s b.abstract_state.moment.trace
  pub idle : NoneChosen (opening_tables b) (limits_of b).blocks → AreIdle b s

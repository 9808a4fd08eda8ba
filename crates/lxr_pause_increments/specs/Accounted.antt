-- The steps between two stages of the increments, and what they have raised so far.
use Rattle.std.specs.Prelude.{◌≡◌, ℕ, ◌+◌, ◌-◌, ◌<◌, ◌≤◌, ◌⊎◌, false, None, Option, Some, List, [], IsTrue, count_by, length, map, slice_get, slice_index_or, take}
use Rattle.std.specs.List.Sorted.{IsPermutation}
use Rattle.lxr_layout.specs.declared.Name.{Name}
use Rattle.lxr_layout.specs.declared.LogEntry.{LogEntry}
use Rattle.lxr_layout.specs.declared.Place.{Place}
use Rattle.lxr_layout.specs.declared.TheConstants.{REMEMBERED_CURSOR}
use Rattle.lxr_graph.specs.Names.{has, without}
use Rattle.lxr_graph.specs.State.{object_at, refs_of}
use Rattle.lxr_image.specs.declared.space.Space.{Space}
use Rattle.lxr_image.specs.Image.{place_word}
use Rattle.lxr_image.specs.Spaces.{tables_of}
use Rattle.lxr_model.specs.Moments.{Field, Moment}
use Rattle.lxr_model.specs.References.{reference_slots}
use Rattle.lxr_model.specs.Reports.{field_holds, newly_held}
use Rattle.lxr_model_counting.specs.Distinct.{has_field}
use Rattle.lxr_model_counting.specs.Following.{IsLive}
use Rattle.lxr_model_counting.specs.Raising.{IsHeldUp}
use Rattle.lxr_invariant.specs.AbstractState.{members}
use Rattle.lxr_invariant.specs.Standing.{entry_of, word_of_field}
use Rattle.lxr_invariant.specs.Counting.{occurrences_from}
use Rattle.lxr_invariant.specs.Raised.{with_promoted}
use Rattle.lxr_invariant.specs.Tracing.{HasOverflowed, IsInChosen, IsRemembered}
use Rattle.lxr_pause_promote.specs.Either.{HoldsEither}
use Rattle.lxr_remset.specs.Remembering.{EntersOnce}
use Rattle.lxr_pause_increments.specs.Increments.{Accounts, IsIncrementing, IncrementStage, StaysRemembered, WasRaised, stage_with}

-- what an object refers to now
abbrev pub references_at : Moment → Name → List (Option Name)
references_at m u = refs_of (object_at m.state.graph u)

-- the stage once what is held is raised, and stands at a place; nil raises nothing
abbrev pub stage_with_held : Moment → IncrementStage → Option Name → ℕ → IncrementStage
stage_with_held m st None q = st
stage_with_held m st (Some o) q = stage_with m st o q

-- a word is either place of what is held, and that may be raised
pub record HeldMayBeRaised (m : Moment) (at : Name → ℕ) (st : IncrementStage) (held : Option Name) (w : ℕ) : Type 0 where
  pub word : HoldsEither at st.now w held
  pub member : (o : Name) → held ≡ Some o → IsTrue (has (members m) o)
  pub held_up : (o : Name) → held ≡ Some o → IsHeldUp m.state m.unreclaimed st.promoted o

-- an object whose references are raised: a live one that is unreclaimed, or a promoted one
pub record IsHolder (m : Moment) (st : IncrementStage) (u : Name) (place : ℕ) : Type 0 where
  pub live : IsLive m u
  pub known : IsTrue (has m.unreclaimed u) ⊎ IsTrue (has st.promoted u)
  pub stands : place ≡ st.now u

-- a reference of it that is to be raised: of a promoted object, or one that was written since the last pause
pub record IsRaisable (m : Moment) (st : IncrementStage) (u : Name) (i : ℕ) : Type 0 where
  pub within : i < length (references_at m u)
  pub changes : IsTrue (has st.promoted u) ⊎ IsTrue (has_field m.written (u, i))

-- ---- references that are fixed

-- what is held is unreclaimed or promoted, so it won't move any more
abbrev pub IsKnown : Moment → IncrementStage → Option Name → Type 0
IsKnown m st held = (o : Name) → held ≡ Some o → IsTrue (has (with_promoted m st.promoted) o)

-- a reference of an unreclaimed or promoted object is fixed: it holds the place where what it holds stands now, which won't change any
-- more
pub record IsFixed (s : Space) (m : Moment) (st : IncrementStage) (u : Name) (i : ℕ) : Type 0 where
  pub holder : IsTrue (has (with_promoted m st.promoted) u)
  pub within : i < length (references_at m u)
  pub holds : (tables_of s).heap (word_of_field st.now u i) ≡ place_word st.now (slice_index_or (references_at m u) i None)
  pub known : IsKnown m st (slice_index_or (references_at m u) i None)

-- so is a register
pub record IsRegisterFixed (s : Space) (m : Moment) (st : IncrementStage) (k : ℕ) : Type 0 where
  pub place : Place
  pub held : Option Name
  pub place_is : slice_get s.registers.items k ≡ Some place
  pub held_is : slice_get m.state.registers k ≡ Some held
  pub holds : place.0 ≡ place_word st.now held
  pub known : IsKnown m st held

-- where what a reference holds stands in a Chosen block, it is remembered, or the set has overflowed
abbrev pub IsEntered : Space → Moment → IncrementStage → Name → ℕ → Type 0
IsEntered s m st u i = (v : Name) → slice_index_or (references_at m u) i None ≡ Some v → IsInChosen (tables_of s) st.now v
    → IsRemembered s.limits (tables_of s) st.now u i ⊎ HasOverflowed s.limits (tables_of s)

-- a reference that was raised is fixed and entered
pub record IsFieldRaised (s : Space) (m : Moment) (st : IncrementStage) (u : Name) (i : ℕ) : Type 0 where
  pub fixed : IsFixed s m st u i
  pub entered : IsEntered s m st u i

-- between two stages all that was fixed stays so, and what was remembered
pub record GoesOn (before after : Space) (m : Moment) (st later : IncrementStage) : Type 0 where
  pub found : later.found ≡ st.found
  pub fields : (u : Name) (i : ℕ) → IsFixed before m st u i → IsFixed after m later u i
  pub registers : (k : ℕ) → IsRegisterFixed before m st k → IsRegisterFixed after m later k
  pub remembered : StaysRemembered before after m st later

-- ---- stages

-- how often each name is raised, by how many references, and by which of those that were written
pub record Raisings : Type 0 where
  pub times : Name → ℕ
  pub fields : ℕ
  pub written : List Field

-- none is raised
abbrev pub none_raised : Raisings
none_raised = record { times = λ o. 0; fields = 0; written = [] }

-- No more references were remembered since increments began than were raised: so many of those that were written, and those of each
-- promoted object that isn't in the worklist, but for so many that are still pending.
pub record IsFew (s : Space) (m : Moment) (st : IncrementStage) (base pending : ℕ) : Type 0 where
  pub cursor : (tables_of s).cursors REMEMBERED_CURSOR + pending ≤ (tables_of st.found).cursors REMEMBERED_CURSOR + base + reference_slots m.state.graph (without st.promoted st.work)
  pub within : base ≤ length m.written

-- a reference is raised already: it is one of a promoted object outside the worklist, but for those that are still open, or one of these that were
-- stored to
abbrev pub IsPassed : Moment → IncrementStage → List Field → (Name → ℕ → Type 0) → Name → ℕ → Type 0
IsPassed m st written open_fields u i = (IsTrue (has st.promoted u) × (has st.work u ≡ false) × ¬ open_fields u i) ⊎ (IsTrue (has_field m.written (u, i)) × IsTrue (has_field written (u, i)))

-- Since increments began one number was drawn for each of some references that are raised already, which lead into Chosen blocks, for none of
-- them twice, and no other number.
abbrev pub HasEnteredOnce : Space → Moment → IncrementStage → List Field → (Name → ℕ → Type 0) → Type 0
HasEnteredOnce s m st written open_fields =
    EntersOnce s.limits (tables_of st.found) (tables_of s) m st.now (λ u i. WasRaised m st u i × IsPassed m st written open_fields u i)

-- The space is at a stage with these accounts. All references of promoted objects outside the worklist are raised, but for those that
-- are still open.
pub record IsAccounted (s : Space) (m : Moment) (at : Name → ℕ) (st : IncrementStage) (base pending : Raisings) (open_fields : Name → ℕ → Type 0) : Type 0 where
  pub incrementing : IsIncrementing s m at st
  pub accounts : Accounts m st base.times pending.times
  pub few : IsFew s m st base.fields pending.fields
  pub entered : HasEnteredOnce s m st base.written open_fields
  pub raised : (u : Name) (i : ℕ) → IsTrue (has st.promoted u) → has st.work u ≡ false → i < length (references_at m u) → IsFieldRaised s m st u i ⊎ open_fields u i

-- nothing is pending or open
abbrev pub IsEven : Space → Moment → (Name → ℕ) → IncrementStage → Raisings → Type 0
IsEven s m at st base = IsAccounted s m at st base none_raised (λ u i. ⊥)

-- so it is at some stage behind one
abbrev pub Reaches : Space → Space → Moment → (Name → ℕ) → IncrementStage → Raisings → Type 0
Reaches before after m at st base = (later : IncrementStage) × IsEven after m at later base × GoesOn before after m st later

-- so it is, and the worklist is empty
pub record IsSettled (s : Space) (m : Moment) (at : Name → ℕ) (st : IncrementStage) (base : Raisings) : Type 0 where
  pub accounted : IsEven s m at st base
  pub no_work : st.work ≡ []

abbrev pub Settles : Space → Space → Moment → (Name → ℕ) → IncrementStage → Raisings → Type 0
Settles before after m at st base = (later : IncrementStage) × IsSettled after m at later base × GoesOn before after m st later

-- what references raise from a number on
abbrev pub raisings_from : List (Option Name) → ℕ → Raisings
raisings_from refs i = record { times = occurrences_from refs i; fields = length refs - i; written = [] }

-- a promoted object out of the worklist, whose references are still to be raised from number i on
pub record IsScanning (s : Space) (place i : ℕ) (m : Moment) (at : Name → ℕ) (st : IncrementStage) (u : Name) (base : Raisings) : Type 0 where
  pub accounted : IsAccounted s m at st base (raisings_from (references_at m u) i) (λ v j. (v ≡ u) × (i ≤ j))
  pub promoted : IsTrue (has st.promoted u)
  pub out : has st.work u ≡ false
  pub stands : place ≡ st.now u

-- ---- roots

-- the written fields in the order of their log entries
pub record IsLogOrder (m : Moment) (at : Name → ℕ) (fields : List Field) (logged : List LogEntry) : Type 0 where
  pub entries : map (entry_of m at) fields ≡ logged
  pub order : IsPermutation m.written fields

-- how many of the first fields hold o
abbrev pub fields_held : Moment → List Field → ℕ → Name → ℕ
fields_held m fields count o = count_by (field_holds m.state.graph o) (take count fields)

-- the written fields that hold o, and how many of the first registers hold it newly
abbrev pub roots_held : Moment → ℕ → Name → ℕ
roots_held m count o = count_by (field_holds m.state.graph o) m.written + newly_held (take count m.last.registers) (take count m.state.registers) o

-- what the first so many written fields raise
abbrev pub fields_raise : Moment → List Field → ℕ → Raisings
fields_raise m fields count = record { times = fields_held m fields count; fields = count; written = take count fields }

-- what the written fields raise and the first so many registers
abbrev pub roots_raise : Moment → ℕ → Raisings
roots_raise m count = record { times = roots_held m count; fields = length m.written; written = m.written }

-- the first so many written fields are raised, with all that they bring along
pub record HasRaisedEntries (s : Space) (m : Moment) (at : Name → ℕ) (st : IncrementStage) (fields : List Field) (count : ℕ) : Type 0 where
  pub order : IsLogOrder m at fields s.logged.items
  pub settled : IsSettled s m at st (fields_raise m fields count)
  pub raised : (k : ℕ) (w : Field) → k < count → slice_get fields k ≡ Some w → IsFieldRaised s m st w.0 w.1

-- all written fields are raised and the first so many registers, with all that they bring along
pub record HasRaisedRoots (s : Space) (m : Moment) (at : Name → ℕ) (st : IncrementStage) (count : ℕ) : Type 0 where
  pub settled : IsSettled s m at st (roots_raise m count)
  pub written : (u : Name) (i : ℕ) → IsTrue (has_field m.written (u, i)) → IsFieldRaised s m st u i
  pub registers : (k : ℕ) → k < count → IsRegisterFixed s m st k

-- What each step of the increments asks, and from which stage to which it leads. What was raised is counted for each name:
-- `base` tells how often by logged references and registers so far.
use Rattle.std.specs.Prelude.{◌≡◌, ℕ, ◌+◌, ◌<◌, ◌⊎◌, false, Option, None, Some, List, IsTrue, length, slice_get, slice_index_or}
use Rattle.lxr_layout.specs.declared.Name.{Name}
use Rattle.lxr_layout.specs.declared.Place.{Place}
use Rattle.lxr_layout.specs.declared.Shape.{Shape}
use Rattle.lxr_layout.specs.declared.TheConstants.{REMEMBERED_CURSOR}
use Rattle.lxr_graph.specs.Names.{has}
use Rattle.lxr_graph.specs.State.{Object, object_at, shape_of}
use Rattle.lxr_image.specs.declared.space.Space.{Space}
use Rattle.lxr_image.specs.Image.{place_word}
use Rattle.lxr_image.specs.Spaces.{tables_of}
use Rattle.lxr_model.specs.Moments.{Field, Moment}
use Rattle.lxr_invariant.specs.Raised.{with_promoted}
use Rattle.lxr_invariant.specs.Standing.{place_of}
use Rattle.lxr_remset.specs.Remembering.{HasEntryAtNumber, LeadsIntoChosen}
use Rattle.lxr_pause_promote.specs.Copying.{StandsAt}
use Rattle.lxr_pause_increments.specs.Accounted.{GoesOn, HasRaisedEntries, HasRaisedRoots, HeldMayBeRaised, IsEven, IsFieldRaised, IsFixed, IsHolder, IsKnown, IsRaisable, IsRegisterFixed, IsScanning, IsSettled, Raisings, Reaches, Settles, none_raised, references_at, stage_with_held}
use Rattle.lxr_pause_increments.specs.Entering.{CanEnter}
use Rattle.lxr_pause_increments.specs.Increments.{IncrementStage, IsIncrementing, MayBeRaised}
use Rattle.lxr_pause_increments.specs.Promotion.{RaisesAt, TakesIn}

-- ---- an object

-- the count of the object at a place is raised
abbrev pub RaisesCount : Space → Space → Place → Type 0
RaisesCount before after place = (n : Name) (shape : Shape) → StandsAt before place n shape → RaisesAt before after place.0 n

-- ---- one name is raised

-- the object at a place may be raised
abbrev pub MayRaise : Space → ℕ → Type 0
MayRaise s place = (m : Moment) × (at : Name → ℕ) × (st : IncrementStage) × (o : Name) × IsIncrementing s m at st × MayBeRaised m at st o place

-- it is unreclaimed or promoted already, and this is the place where it stands
pub record StandsThere (before after : Space) (m : Moment) (st : IncrementStage) (o : Name) (q : ℕ) : Type 0 where
  pub same : after ≡ before
  pub known : IsTrue (has (with_promoted m st.promoted) o)
  pub place : q ≡ st.now o

-- it is new, and is taken in; it stood where it was made
pub record IsTakenIn (before after : Space) (m : Moment) (at : Name → ℕ) (st : IncrementStage) (o : Name) (q : Place) : Type 0 where
  pub unknown : has (with_promoted m st.promoted) o ≡ false
  pub object : Object
  pub is : object_at m.state.graph o ≡ Some object
  pub takes : TakesIn before after (place_of at o) q o (shape_of object)

-- the place where an object stands is found; where it is new, by taking it in
abbrev pub FindsPlace : Space → Space → ℕ → Place → Type 0
FindsPlace before after p q =
    (m : Moment) (at : Name → ℕ) (st : IncrementStage) (o : Name) → IsIncrementing before m at st → MayBeRaised m at st o p → StandsThere before after m st o q.0 ⊎ IsTakenIn before after m at st o q

-- no reference was remembered
abbrev pub KeepsCursor : Space → Space → Type 0
KeepsCursor before after = (tables_of after).cursors REMEMBERED_CURSOR ≡ (tables_of before).cursors REMEMBERED_CURSOR

-- what is held is raised, and this is the word of the place where it stands
pub record RaisesHeld (before after : Space) (m : Moment) (at : Name → ℕ) (st : IncrementStage) (held : Option Name) (w : ℕ) : Type 0 where
  pub incrementing : IsIncrementing after m at (stage_with_held m st held w)
  pub word : w ≡ place_word (stage_with_held m st held w).now held
  pub known : IsKnown m (stage_with_held m st held w) held
  pub goes_on : GoesOn before after m st (stage_with_held m st held w)
  pub cursor : KeepsCursor before after

-- so with the object at a place
abbrev pub RaisesName : Space → Space → ℕ → ℕ → Type 0
RaisesName before after p q = (m : Moment) (at : Name → ℕ) (st : IncrementStage) (o : Name) → IsIncrementing before m at st → MayBeRaised m at st o p → RaisesHeld before after m at st (Some o) q

-- so with what a word tells, unless it is nil
abbrev pub MayRaiseWord : Space → ℕ → Type 0
MayRaiseWord s word = (m : Moment) × (at : Name → ℕ) × (st : IncrementStage) × (held : Option Name) × IsIncrementing s m at st × HeldMayBeRaised m at st held word

abbrev pub RaisesWord : Space → Space → ℕ → ℕ → Type 0
RaisesWord before after word now =
    (m : Moment) (at : Name → ℕ) (st : IncrementStage) (held : Option Name) → IsIncrementing before m at st → HeldMayBeRaised m at st held word → RaisesHeld before after m at st held now

-- so with what a reference of the object at a place holds; then the reference is fixed, and this is the word that it holds
abbrev pub MayFixField : Space → ℕ → ℕ → Type 0
MayFixField s place index =
    (m : Moment) × (at : Name → ℕ) × (st : IncrementStage) × (u : Name) × IsIncrementing s m at st × IsHolder m st u place × IsRaisable m st u index

pub record FixesField (before after : Space) (m : Moment) (at : Name → ℕ) (st : IncrementStage) (u : Name) (i : ℕ) (w : ℕ) : Type 0 where
  pub incrementing : IsIncrementing after m at (stage_with_held m st (slice_index_or (references_at m u) i None) w)
  pub fixed : IsFixed after m (stage_with_held m st (slice_index_or (references_at m u) i None) w) u i
  pub word : w ≡ place_word (stage_with_held m st (slice_index_or (references_at m u) i None) w).now (slice_index_or (references_at m u) i None)
  pub goes_on : GoesOn before after m st (stage_with_held m st (slice_index_or (references_at m u) i None) w)
  pub cursor : KeepsCursor before after

abbrev pub FixesFieldWith : Space → Space → ℕ → ℕ → ℕ → Type 0
FixesFieldWith before after place index word =
    (m : Moment) (at : Name → ℕ) (st : IncrementStage) (u : Name) → IsIncrementing before m at st → IsHolder m st u place → IsRaisable m st u index → FixesField before after m at st u index word

-- a number is drawn for a reference that leads into a Chosen block, and it has its entry there
pub record Draws (before after : Space) (m : Moment) (now : Name → ℕ) (field : Field) : Type 0 where
  pub leads : LeadsIntoChosen (tables_of after) m now field.0 field.1
  pub entry : HasEntryAtNumber after.limits (tables_of after) now ((tables_of before).cursors REMEMBERED_CURSOR) field
  pub cursor : (tables_of after).cursors REMEMBERED_CURSOR ≡ (tables_of before).cursors REMEMBERED_CURSOR + 1

-- and then it is remembered where what it holds stands in a Chosen block
abbrev pub MayRaiseField : Space → ℕ → ℕ → Type 0
MayRaiseField s place index =
    (m : Moment) × (at : Name → ℕ) × (st : IncrementStage) × (u : Name) × IsIncrementing s m at st × IsHolder m st u place × IsRaisable m st u index × CanEnter m.trace (tables_of s)

pub record EntersField (before after : Space) (m : Moment) (at : Name → ℕ) (st : IncrementStage) (u : Name) (i : ℕ) (w : ℕ) : Type 0 where
  pub incrementing : IsIncrementing after m at (stage_with_held m st (slice_index_or (references_at m u) i None) w)
  pub raised : IsFieldRaised after m (stage_with_held m st (slice_index_or (references_at m u) i None) w) u i
  pub goes_on : GoesOn before after m st (stage_with_held m st (slice_index_or (references_at m u) i None) w)
  pub drawn : KeepsCursor before after ⊎ Draws before after m (stage_with_held m st (slice_index_or (references_at m u) i None) w).now (u, i)

abbrev pub RaisesField : Space → Space → ℕ → ℕ → Type 0
RaisesField before after place index =
    (m : Moment) (at : Name → ℕ) (st : IncrementStage) (u : Name) → IsIncrementing before m at st → IsHolder m st u place → IsRaisable m st u index → (w : ℕ) × EntersField before after m at st u index w

-- ---- a promoted object

-- the object at a place is one whose references are raised; so many they are
abbrev pub HasHolder : Space → ℕ → Type 0
HasHolder s place = (m : Moment) × (at : Name → ℕ) × (st : IncrementStage) × (u : Name) × IsIncrementing s m at st × IsHolder m st u place

abbrev pub HasSlots : Space → ℕ → ℕ → Type 0
HasSlots s place slots = (m : Moment) (at : Name → ℕ) (st : IncrementStage) (u : Name) → IsIncrementing s m at st → IsHolder m st u place → slots ≡ length (references_at m u)

-- a promoted object is out of the worklist; then its references are raised
abbrev pub MayScan : Space → ℕ → Type 0
MayScan s place = (m : Moment) × (at : Name → ℕ) × (st : IncrementStage) × (u : Name) × (base : Raisings) × IsScanning s place 0 m at st u base

abbrev pub Scans : Space → Space → ℕ → Type 0
Scans before after place = (m : Moment) (at : Name → ℕ) (st : IncrementStage) (u : Name) (base : Raisings) → IsScanning before place 0 m at st u base → Reaches before after m at st base

-- the worklist has promoted objects; then it is empty
abbrev pub MayEmpty : Space → Type 0
MayEmpty s = (m : Moment) × (at : Name → ℕ) × (st : IncrementStage) × (base : Raisings) × IsEven s m at st base

abbrev pub Empties : Space → Space → Type 0
Empties before after = (m : Moment) (at : Name → ℕ) (st : IncrementStage) (base : Raisings) → IsEven before m at st base → Settles before after m at st base

-- ---- roots

-- at a stage behind one, with the same space found
abbrev pub AtLater : IncrementStage → (IncrementStage → Type 0) → Type 0
AtLater st holds = (later : IncrementStage) × (later.found ≡ st.found) × holds later

-- the logged references before one are raised; then it is too
abbrev pub MayRaiseEntry : Space → ℕ → Type 0
MayRaiseEntry s index = (m : Moment) × (at : Name → ℕ) × (st : IncrementStage) × (fields : List Field) × HasRaisedEntries s m at st fields index × (index < length fields)

abbrev pub RaisesEntry : Space → Space → ℕ → Type 0
RaisesEntry before after index =
    (m : Moment) (at : Name → ℕ) (st : IncrementStage) (fields : List Field) → HasRaisedEntries before m at st fields index → index < length fields
    → AtLater st (λ later. HasRaisedEntries after m at later fields (index + 1))

-- nothing is raised; then all logged references are
abbrev pub MayRaiseEntries : Space → Type 0
MayRaiseEntries s = (m : Moment) × (at : Name → ℕ) × (st : IncrementStage) × IsSettled s m at st none_raised

abbrev pub RaisesEntries : Space → Space → Type 0
RaisesEntries before after = (m : Moment) (at : Name → ℕ) (st : IncrementStage) → IsSettled before m at st none_raised → AtLater st (λ later. HasRaisedRoots after m at later 0)

-- what a register holds may be raised; then the register is fixed
pub record HeldIsRaised (s : Space) (m : Moment) (at : Name → ℕ) (st : IncrementStage) (k : ℕ) (p : Place) (held : Option Name) : Type 0 where
  pub incrementing : IsIncrementing s m at st
  pub may : HeldMayBeRaised m at st held p.0
  pub place_is : slice_get s.registers.items k ≡ Some p
  pub held_is : slice_get m.state.registers k ≡ Some held

abbrev pub MayRaiseHeld : Space → ℕ → Place → Type 0
MayRaiseHeld s k p = (m : Moment) × (at : Name → ℕ) × (st : IncrementStage) × (held : Option Name) × HeldIsRaised s m at st k p held

pub record FixesRegister (before after : Space) (m : Moment) (at : Name → ℕ) (st : IncrementStage) (k : ℕ) (held : Option Name) (w : ℕ) : Type 0 where
  pub incrementing : IsIncrementing after m at (stage_with_held m st held w)
  pub fixed : IsRegisterFixed after m (stage_with_held m st held w) k
  pub goes_on : GoesOn before after m st (stage_with_held m st held w)
  pub cursor : KeepsCursor before after

abbrev pub RaisesHeldIn : Space → Space → ℕ → Place → Type 0
RaisesHeldIn before after k p = (m : Moment) (at : Name → ℕ) (st : IncrementStage) (held : Option Name) → HeldIsRaised before m at st k p held → (w : ℕ) × FixesRegister before after m at st k held w

-- all logged references and the registers before one are raised; then it is too
abbrev pub MayRaiseRegister : Space → ℕ → Type 0
MayRaiseRegister s register = (m : Moment) × (at : Name → ℕ) × (st : IncrementStage) × (register < length s.registers.items) × HasRaisedRoots s m at st register

abbrev pub RaisesRegister : Space → Space → ℕ → Type 0
RaisesRegister before after register =
    (m : Moment) (at : Name → ℕ) (st : IncrementStage) → register < length before.registers.items → HasRaisedRoots before m at st register
    → AtLater st (λ later. HasRaisedRoots after m at later (register + 1))

-- all logged references are raised; then all registers are too
abbrev pub MayRaiseRegisters : Space → Type 0
MayRaiseRegisters s = (m : Moment) × (at : Name → ℕ) × (st : IncrementStage) × HasRaisedRoots s m at st 0

abbrev pub RaisesRegisters : Space → Space → Type 0
RaisesRegisters before after =
    (m : Moment) (at : Name → ℕ) (st : IncrementStage) → HasRaisedRoots before m at st 0 → AtLater st (λ later. HasRaisedRoots after m at later (length before.registers.items))

-- A trace by places: what is left to mark, and what holds while it is marked.
use Rattle.std.specs.Prelude.{◌≡◌, ◌≢◌, ℕ, ◌+◌, ◌-◌, ◌*◌, ◌/◌, ◌^◌, ◌<◌, ◌≤◌, ◌⊎◌, ⊤, not, Bool, true, false, Option, Some, None, List, [], ◌∷◌, IsTrue, length, slice_get, if◌then◌else◌}
use Rattle.std.specs.List.{Contains}
use Rattle.lxr_layout.specs.declared.TheConstants.{GRANULES_IN_BLOCK, REMEMBERED_CURSOR}
use Rattle.lxr_layout.specs.declared.limits.Limits.{Limits}
use Rattle.lxr_layout.specs.declared.Place.{Place}
use Rattle.lxr_layout.specs.declared.Header.{Header}
use Rattle.lxr_layout.specs.declared.Header.TheVariants.{Object, Moved}
use Rattle.lxr_base.specs.Roomy.{pushed}
use Rattle.lxr_image.specs.declared.space.Space.{Space}
use Rattle.lxr_image.specs.Spaces.{IsSpace, tables_of}
use Rattle.lxr_image.specs.Tables.{Tables, changed}
use Rattle.lxr_image.specs.Reads.{StartsStandWhole, field_at, granule_of, header_at}
use Rattle.lxr_blocks.specs.declared.states.BlockState.TheVariants.{Free}
use Rattle.lxr_blocks.specs.States.{state_in}
use Rattle.lxr_invariant.specs.Counting.{passing}
use Rattle.lxr_invariant.specs.Lines.{NoneChosen}
use Rattle.lxr_invariant.specs.Tracing.{HasOverflowed}
use Rattle.lxr_remset.specs.Remembering.{AreEntries, entry_now, is_in_chosen, with_remembered_of}

-- the granules of a space's heap
abbrev pub granules : Space → ℕ
granules s = GRANULES_IN_BLOCK * s.limits.blocks

-- ---- what is left to mark

-- a reference of the object at a place holds another place
abbrev pub RefersAt : Tables → ℕ → ℕ → Type 0
RefersAt t p q = (1 ≤ q) × (i : ℕ) × (field_at t p i ≡ Some q)

-- The least set of places whose objects are not marked yet and are gray, or to which one of the set refers.
pub data IsLeft (t : Tables) : ℕ → Type 0 where
  gray : (p : ℕ) → 1 ≤ p → IsTrue (t.grays (granule_of p)) → t.marks (granule_of p) ≡ false → IsLeft t p
  referred : (p q : ℕ) → IsLeft t p → RefersAt t p q → t.marks (granule_of q) ≡ false → IsLeft t q

-- an object is to be found: it is gray, or one that is left to mark refers to it
pub record IsDue (t : Tables) (q : ℕ) : Type 0 where
  pub placed : 1 ≤ q
  pub by : IsTrue (t.grays (granule_of q)) ⊎ ((p : ℕ) × IsLeft t p × RefersAt t p q)

-- what a trace reads: each object stands whole, and in no block whose state is Free, each of its references is nil or holds an object's
-- place, and what is gray is an object
pub record IsTraceable (t : Tables) (blocks : ℕ) : Type 0 where
  pub whole : StartsStandWhole t blocks
  pub closed : (p q : ℕ) → RefersAt t p q → IsTrue (t.starts (granule_of q))
  pub grays : (k : ℕ) → IsTrue (t.grays k) → IsTrue (t.starts k)
  pub used : (k : ℕ) → IsTrue (t.starts k) → state_in t (k / GRANULES_IN_BLOCK) ≢ Free

-- how many references an object has, by its header
abbrev pub slots_in : Option Header → ℕ
slots_in (Some (Object n shape)) = shape.refs
slots_in (Some (Moved p)) = 0
slots_in None = 0

-- so it has at a place
abbrev pub slots_at : Tables → ℕ → ℕ
slots_at t p = slots_in (header_at t p)

-- ---- what is found

-- the object at a place is found: it is gray and marked
pub record IsFound (t : Tables) (q : ℕ) : Type 0 where
  pub gray : IsTrue (t.grays (granule_of q))
  pub marked : IsTrue (t.marks (granule_of q))

-- reference i of the object at a place has an entry with the reuse counter that its line has now
abbrev pub IsEntered : Limits → Tables → ℕ → ℕ → Type 0
IsEntered l t p i = (k : ℕ) × (k < t.cursors REMEMBERED_CURSOR) × (k < l.remember) × (t.remembered k ≡ entry_now l.blocks t (record { 0 = p }) i)

-- Reference i of the object at a place, which holds another place, is scanned: what it holds is found, and where that stands in a Chosen
-- block, the reference is remembered, unless the set has overflowed.
pub record IsSeen (l : Limits) (t : Tables) (p i q : ℕ) : Type 0 where
  pub found : IsFound t q
  pub remembered : IsTrue (is_in_chosen t (record { 0 = q })) → IsEntered l t p i ⊎ HasOverflowed l t

-- What was remembered is, a set that had overflowed has, and each entry is one of a reference where each was. Where no block is Chosen,
-- nothing is remembered.
pub record KeepsEntries (l : Limits) (t u : Tables) : Type 0 where
  pub entered : (p i : ℕ) → IsEntered l t p i → IsEntered l u p i
  pub full : HasOverflowed l t → HasOverflowed l u
  pub entries : AreEntries l t → AreEntries l u
  pub idle : NoneChosen t l.blocks → (u.remembered ≡ t.remembered) × (u.cursors REMEMBERED_CURSOR ≡ t.cursors REMEMBERED_CURSOR)

-- the object at a place is found, and where it was unmarked it waits in the worklist
pub record Finds (before after : Space) (place : Place) : Type 0 where
  pub tables : let t : Tables = tables_of before in
      tables_of after ≡ record t { grays = changed t.grays (granule_of place.0) true; marks = changed t.marks (granule_of place.0) true }
  pub work : after.work ≡ (if (tables_of before).marks (granule_of place.0) then before.work else pushed before.work place)
  pub rest : after ≡ record before { words = after.words; work = after.work }

-- ---- a trace that is being finished

-- A place in the worklist: its object was left to mark, and is marked.
pub record IsWaiting (before now : Tables) (p : ℕ) : Type 0 where
  pub left : IsLeft before p
  pub marked : IsTrue (now.marks (granule_of p))

-- A number of the remembered set has the entry of a reference of an object that was left to mark and is marked. The reference leads into
-- a Chosen block, and is none of those that are scanned later.
pub record HasEntryAt (l : Limits) (before now : Tables) (IsLater : ℕ → ℕ → Type 0) (k : ℕ) : Type 0 where
  pub place : ℕ
  pub index : ℕ
  pub held : ℕ
  pub scanned : IsWaiting before now place
  pub passed : ¬ IsLater place index
  pub placed : 1 ≤ held
  pub holds : field_at before place index ≡ Some held
  pub chosen : IsTrue (is_in_chosen now (record { 0 = held }))
  pub entry : now.remembered k ≡ entry_now l.blocks now (record { 0 = place }) index

-- a reference of an object that was left to mark and is marked; it leads into a Chosen block, and is none of those that are scanned later
pub record IsPassed (before now : Tables) (IsLater : ℕ → ℕ → Type 0) (place index : ℕ) : Type 0 where
  pub held : ℕ
  pub scanned : IsWaiting before now place
  pub passed : ¬ IsLater place index
  pub placed : 1 ≤ held
  pub holds : field_at before place index ≡ Some held
  pub chosen : IsTrue (is_in_chosen now (record { 0 = held }))

-- The numbers from one on were drawn for such references, the newest first, by their places and indices: none stands here twice, and each has its
-- entry where the set has room for its number.
abbrev pub AreEnteredAt : Limits → Tables → Tables → (ℕ → ℕ → Type 0) → ℕ → List (ℕ × ℕ) → Type 0
AreEnteredAt l before now IsLater from [] = ⊤
AreEnteredAt l before now IsLater from (r ∷ rs) = IsPassed before now IsLater r.0 r.1 × ¬ Contains rs r
    × (from + length rs < l.remember → now.remembered (from + length rs) ≡ entry_now l.blocks now (record { 0 = r.0 }) r.1) × AreEnteredAt l before now IsLater from rs

-- only such references were remembered since, and none of them twice; and for each one number was drawn
pub record EntersOnly (l : Limits) (before now : Tables) (IsLater : ℕ → ℕ → Type 0) : Type 0 where
  pub only : (k : ℕ) → before.cursors REMEMBERED_CURSOR ≤ k → k < now.cursors REMEMBERED_CURSOR → k < l.remember → HasEntryAt l before now IsLater k
  pub once : (j k : ℕ) → before.cursors REMEMBERED_CURSOR ≤ j → j < k → k < now.cursors REMEMBERED_CURSOR → k < l.remember → now.remembered j ≢ now.remembered k
  pub entered : List (ℕ × ℕ)
  pub are : AreEnteredAt l before now IsLater (before.cursors REMEMBERED_CURSOR) entered
  pub drawn : now.cursors REMEMBERED_CURSOR ≡ before.cursors REMEMBERED_CURSOR + length entered

-- no place stands twice in a worklist
abbrev pub WaitOnce : List Place → Type 0
WaitOnce [] = ⊤
WaitOnce (p ∷ ps) = ¬ Contains ps p × WaitOnce ps

-- Marking has come to these tables. Marked is what was marked and some of what is left, and gray is what was gray and some of
-- what the latter refers to.
pub record IsMarkedSoFar (before now : Tables) : Type 0 where
  pub marks_kept : (k : ℕ) → IsTrue (before.marks k) → IsTrue (now.marks k)
  pub marks_left : (p : ℕ) → 1 ≤ p → IsTrue (now.marks (granule_of p)) → IsTrue (before.marks (granule_of p)) ⊎ IsLeft before p
  pub grays_kept : (k : ℕ) → IsTrue (before.grays k) → IsTrue (now.grays k)
  pub grays_due : (p : ℕ) → 1 ≤ p → IsTrue (now.grays (granule_of p)) → IsDue before p

-- where a block is Chosen, far fewer references were remembered before than the cursor can count
abbrev pub CountsFar : Tables → ℕ → Type 0
CountsFar t blocks = NoneChosen t blocks ⊎ (t.cursors REMEMBERED_CURSOR < 2 ^ 62)

-- how many references the objects at these places have that aren't marked, in a list of them
abbrev pub unmarked_slots : Tables → (ℕ → Bool) → List ℕ → ℕ
unmarked_slots t marks [] = 0
unmarked_slots t marks (p ∷ ps) = (if marks (granule_of p) then 0 else slots_at t p) + unmarked_slots t marks ps

-- how many references the objects in a worklist have
abbrev pub waiting_slots : Tables → List Place → ℕ
waiting_slots t [] = 0
waiting_slots t (p ∷ ps) = slots_at t p.0 + waiting_slots t ps

-- all that is left to mark stands at one of these places
abbrev pub HasAllLeft : Tables → List ℕ → Type 0
HasAllLeft t places = (p : ℕ) → IsLeft t p → Contains places p

-- A space while a trace is finished that began with another space: the grays below a granule are marked. Each marked object that
-- was left waits in the worklist, once, or its references are seen, but for those that are pending, of which there are so many. Only
-- references that are seen were remembered, and no more than those of what has been marked, without those that wait or are pending.
pub record MarkingStage (before s : Space) (end : ℕ) (pending : ℕ → ℕ → Type 0) (ahead : ℕ) : Type 0 where
  pub space : IsSpace s
  pub traceable : IsTraceable (tables_of before) before.limits.blocks
  pub far : CountsFar (tables_of before) before.limits.blocks
  pub so_far : IsMarkedSoFar (tables_of before) (tables_of s)
  pub ended : (k : ℕ) → k < end → IsTrue ((tables_of s).grays k) → IsTrue ((tables_of s).marks k)
  pub waiting : (p : Place) → Contains s.work.items p → IsWaiting (tables_of before) (tables_of s) p.0
  pub scanned : (p q i : ℕ) → IsWaiting (tables_of before) (tables_of s) p → 1 ≤ q → field_at (tables_of before) p i ≡ Some q
      → Contains s.work.items (record { 0 = p }) ⊎ pending p i ⊎ IsSeen before.limits (tables_of s) p i q
  pub single : WaitOnce s.work.items
  pub kept : KeepsEntries before.limits (tables_of before) (tables_of s)
  pub drawn : EntersOnly before.limits (tables_of before) (tables_of s) (λ p i. Contains s.work.items (record { 0 = p }) ⊎ pending p i)
  pub bound : (places : List ℕ) → HasAllLeft (tables_of before) places
      → (tables_of s).cursors REMEMBERED_CURSOR + unmarked_slots (tables_of before) (tables_of s).marks places + waiting_slots (tables_of before) s.work.items + ahead
      ≤ (tables_of before).cursors REMEMBERED_CURSOR + unmarked_slots (tables_of before) (tables_of before).marks places
  pub room : passing (λ k. not ((tables_of s).marks k)) (granules s) + length s.work.items ≤ s.work.room
  pub tables : tables_of s ≡ record (with_remembered_of (tables_of before) (tables_of s)) { marks = (tables_of s).marks; grays = (tables_of s).grays }
  pub rest : s ≡ record before { words = s.words; work = record before.work { items = s.work.items } }

-- no reference is pending
abbrev pub IsMarking : Space → Space → ℕ → Type 0
IsMarking before s end = MarkingStage before s end (λ p i. ⊥) 0

-- the object at a place is out of the worklist, and its references from number i on are pending; all grays are marked
pub record IsScanning (before s : Space) (place i : ℕ) : Type 0 where
  pub stage : MarkingStage before s (granules s) (λ p j. (p ≡ place) × (i ≤ j)) (slots_at (tables_of before) place - i)
  pub waited : IsWaiting (tables_of before) (tables_of s) place
  pub out : ¬ Contains s.work.items (record { 0 = place })

-- nothing waits any more
pub record IsOver (before s : Space) : Type 0 where
  pub stage : IsMarking before s (granules s)
  pub no_work : s.work.items ≡ []

-- what is left to do: each unmarked object may come into the worklist once
abbrev pub to_do : Space → ℕ
to_do s = passing (λ k. not ((tables_of s).marks k)) (granules s) + length s.work.items

-- ---- what each step asks, and what it does, for every space with which the trace may have begun

-- nothing is found yet; then all that is gray is marked
abbrev pub MayFindGrays : Space → Type 0
MayFindGrays s = (before : Space) × IsMarking before s 0

abbrev pub FindsGrays : Space → Space → Type 0
FindsGrays s after = (before : Space) → IsMarking before s 0 → IsMarking before after (granules after)

-- an object is out of the worklist; then what its references hold is found
abbrev pub MayScan : Space → ℕ → Type 0
MayScan s place = (before : Space) × IsScanning before s place 0

abbrev pub Scans : Space → Space → ℕ → Type 0
Scans s after place = (before : Space) → IsScanning before s place 0 → IsMarking before after (granules after)

-- so with one reference of it
abbrev pub MayScanField : Space → ℕ → ℕ → Type 0
MayScanField s place i = (before : Space) × IsScanning before s place i × (i < slots_at (tables_of s) place)

abbrev pub ScansField : Space → Space → ℕ → ℕ → Type 0
ScansField s after place i = (before : Space) → IsScanning before s place i → i < slots_at (tables_of s) place → IsScanning before after place (i + 1)

-- all that is gray is marked; then nothing waits
abbrev pub MayEmpty : Space → Type 0
MayEmpty s = (before : Space) × IsMarking before s (granules s)

abbrev pub Empties : Space → Space → Type 0
Empties s after = (before : Space) → IsMarking before s (granules s) → IsOver before after

-- ---- the roots

-- one of the first registers holds an object that stands at a granule
pub record IsHeldAt (registers : List Place) (count k : ℕ) : Type 0 where
  pub register : ℕ
  pub place : Place
  pub among : register < count
  pub holds : slice_get registers register ≡ Some place
  pub placed : 1 ≤ place.0
  pub stands : k ≡ granule_of place.0

-- what the first registers hold is made gray; nothing else has changed
pub record ShadesRegisters (before after : Space) (count : ℕ) : Type 0 where
  pub space : IsSpace after
  pub grays_kept : (k : ℕ) → IsTrue ((tables_of before).grays k) → IsTrue ((tables_of after).grays k)
  pub grays_held : (k : ℕ) → IsHeldAt before.registers.items count k → IsTrue ((tables_of after).grays k)
  pub grays_only : (k : ℕ) → IsTrue ((tables_of after).grays k) → IsTrue ((tables_of before).grays k) ⊎ IsHeldAt before.registers.items count k
  pub tables : tables_of after ≡ record (tables_of before) { grays = (tables_of after).grays }
  pub rest : after ≡ record before { words = after.words }

-- registers hold places of the heap, or nil
abbrev pub HoldPlaces : Space → Type 0
HoldPlaces s = (i : ℕ) (p : Place) → slice_get s.registers.items i ≡ Some p → p.0 ≤ granules s

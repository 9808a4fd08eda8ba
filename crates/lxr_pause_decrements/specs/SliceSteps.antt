-- What each step of doing some of the decrements asks, and to which stage it leads.
use Rattle.std.specs.Prelude.{◌≡◌, ◌≢◌, ℕ, ◌+◌, ◌*◌, ◌<◌, ◌≤◌, None, List, [], IsTrue, count_by, drop, is_some, length}
use Rattle.lxr_layout.specs.declared.TheConstants.{DECREMENT_COUNT, DECREMENT_CURSOR}
use Rattle.lxr_layout.specs.declared.Name.{Name}
use Rattle.lxr_graph.specs.Names.{has}
use Rattle.lxr_image.specs.declared.space.Space.{Space}
use Rattle.lxr_image.specs.Spaces.{tables_of}
use Rattle.lxr_image.specs.Tables.{Tables, changed}
use Rattle.lxr_invariant.specs.AbstractState.{leaving}
use Rattle.lxr_invariant.specs.Counting.{occurrences_from}
use Rattle.lxr_invariant.specs.Keeping.{KeepsListsAndCounters}
use Rattle.lxr_pause_decrements.specs.Cascade.{CascadeStage, IsAt, IsOpening, LeavesBy, held_by, kept, later}
use Rattle.lxr_pause_decrements.specs.Slices.{HoldsBack, references_held}

-- the tables that doing some of the decrements never writes, and the cursors but for those of their list
pub record StaysBesideList (t u : Tables) : Type 0 where
  pub keeps : KeepsListsAndCounters t u
  pub outs : u.outs ≡ t.outs
  pub states : u.states ≡ t.states

-- what doing some of the decrements leaves
abbrev pub LeavesBesideList : Space → Space → Type 0
LeavesBesideList before after = LeavesBy StaysBesideList before after

-- the tables with one more entry at the end of the list of decrements
abbrev pub with_entry : Tables → ℕ → Tables
with_entry t p = record t { decs = changed t.decs (t.cursors DECREMENT_COUNT) p; cursors = changed t.cursors DECREMENT_COUNT (t.cursors DECREMENT_COUNT + 1) }

-- The list of decrements got no shorter, and the entries that it had are as they were.
pub record Appends (t u : Tables) : Type 0 where
  pub longer : t.cursors DECREMENT_COUNT ≤ u.cursors DECREMENT_COUNT
  pub entries : (k : ℕ) → k < t.cursors DECREMENT_COUNT → u.decs k ≡ t.decs k

-- Between two units: nothing waits but in the list of decrements, of which nothing is drawn, and no trace runs.
pub record IsSliced (s : Space) (st : CascadeStage) : Type 0 where
  pub opening : IsOpening s st
  pub drawn : (tables_of s).cursors DECREMENT_CURSOR ≡ 0
  pub untraced : st.moment.trace ≡ None

-- by the last decrement an object would die whose references the list has no room for
abbrev pub IsHeldBack : Space → CascadeStage → Type 0
IsHeldBack s st = (k : ℕ) × (n : Name) × HoldsBack s.limits (tables_of s) (leaving st.moment (kept st)) st.at k n

-- how many references of a name's object aren't nil, from number i on
abbrev pub held_from : CascadeStage → Name → ℕ → ℕ
held_from st r i = count_by is_some (drop i (held_by st r))

-- The references of a reclaimed object wait beside the list of decrements from number i on; the list has room for them, and will have
-- so many entries with them.
pub record QueuesFrom (s : Space) (place i : ℕ) (st : CascadeStage) (r : Name) (all : ℕ) : Type 0 where
  pub stage : IsAt s (later st st.gone st.work (λ o. occurrences_from (held_by st r) i o))
  pub gone : IsTrue (has st.gone r)
  pub stands : place ≡ st.at r
  pub drawn : (tables_of s).cursors DECREMENT_CURSOR ≡ 0
  pub room : (tables_of s).cursors DECREMENT_COUNT + length (held_by st r) ≤ s.limits.threads * (s.limits.log + s.limits.registers) + i
  pub total : (tables_of s).cursors DECREMENT_COUNT + held_from st r i ≡ all

-- one of them is put into the list
abbrev pub MayQueueField : Space → ℕ → ℕ → Type 0
MayQueueField s place i = (st : CascadeStage) × (r : Name) × (all : ℕ) × QueuesFrom s place i st r all × (i < length (held_by st r))

abbrev pub QueuesField : Space → Space → ℕ → ℕ → Type 0
QueuesField before after place i =
    (st : CascadeStage) (r : Name) (all : ℕ) → QueuesFrom before place i st r all → i < length (held_by st r) → QueuesFrom after place (i + 1) st r all

-- and all of them are
abbrev pub MayQueueReferences : Space → ℕ → Type 0
MayQueueReferences s place = (st : CascadeStage) × (r : Name) × (all : ℕ) × QueuesFrom s place 0 st r all

abbrev pub QueuesReferences : Space → Space → ℕ → Type 0
QueuesReferences before after place = (st : CascadeStage) (r : Name) (all : ℕ) → QueuesFrom before place 0 st r all → QueuesFrom after place (length (held_by st r)) st r all

-- Some entries were lowered, and these names are gone now: the list has lost the entries, and got what the reclaimed objects refer to;
-- its entries further from the end are as they were.
pub record SlicedBy (before after : Space) (st : CascadeStage) (gone : List Name) (lowered : ℕ) : Type 0 where
  pub sliced : IsSliced after (later st gone [] (λ o. 0))
  pub waiting : (tables_of after).cursors DECREMENT_COUNT + lowered + references_held st.moment.last.graph st.gone
      ≡ (tables_of before).cursors DECREMENT_COUNT + references_held st.moment.last.graph gone
  pub more : references_held st.moment.last.graph st.gone ≤ references_held st.moment.last.graph gone
  pub entries : (k : ℕ) → k + lowered < (tables_of before).cursors DECREMENT_COUNT → (tables_of after).decs k ≡ (tables_of before).decs k

-- the last decrement is done, for which there is room
abbrev pub MayLowerLast : Space → Type 0
MayLowerLast s = (st : CascadeStage) × IsSliced s st × ((tables_of s).cursors DECREMENT_COUNT ≢ 0) × ¬ IsHeldBack s st

abbrev pub LowersLast : Space → Space → Type 0
LowersLast before after = (st : CascadeStage) → IsSliced before st → ¬ IsHeldBack before st → (gone : List Name) × SlicedBy before after st gone 1

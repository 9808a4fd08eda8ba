-- What doing some of the decrements between two pauses does.
use Rattle.std.specs.Prelude.{◌≡◌, ◌≢◌, ℕ, ◌+◌, ◌*◌, ◌<◌, ◌≤◌, None, List, ◌++◌, IsTrue, count_by, is_some, length, sum_by}
use Rattle.lxr_layout.specs.declared.limits.Limits.{Limits}
use Rattle.lxr_layout.specs.declared.TheConstants.{DECREMENT_COUNT, GRANULES_IN_BLOCK}
use Rattle.lxr_layout.specs.declared.Name.{Name}
use Rattle.lxr_graph.specs.Names.{has, without}
use Rattle.lxr_graph.specs.State.{Graph, object_at, refs_of}
use Rattle.lxr_image.specs.declared.space.Space.{Space}
use Rattle.lxr_image.specs.Spaces.{tables_of}
use Rattle.lxr_image.specs.Tables.{Tables}
use Rattle.lxr_model.specs.Dead.{Dead}
use Rattle.lxr_model.specs.Moments.{Moment}
use Rattle.lxr_model_counting.specs.Distinct.{IsDistinct}
use Rattle.lxr_invariant.specs.AbstractState.{leaving}
use Rattle.lxr_invariant.specs.Counting.{IsUndecremented, count_at, passing}
use Rattle.lxr_invariant.specs.Keeping.{KeepsListsAndCounters}
use Rattle.lxr_invariant.specs.Quiescent.{HoldsMoment}
use Rattle.lxr_pause_decrements.specs.declared.slices.Slice.{Slice}
use Rattle.lxr_pause_decrements.specs.declared.slices.Slice.TheVariants.{Done, Spent, Held}
use Rattle.lxr_pause_decrements.specs.Wipe.{LosesBits}

-- how many references that aren't nil the objects of these names hold
abbrev pub references_held : Graph → List Name → ℕ
references_held g ns = sum_by (λ n. count_by is_some (refs_of (object_at g n))) ns

-- Some of the decrements may be done: the space holds a moment at which no trace runs, no decrementer has worked since the last pause,
-- and the report has room for the names of all objects that stand in the heap.
pub record CanFinishSome (s : Space) (m : Moment) (at : Name → ℕ) : Type 0 where
  pub holds : HoldsMoment s m at
  pub undecremented : IsUndecremented (tables_of s) m at
  pub untraced : m.trace ≡ None
  pub room : length s.report.dead.items + passing (tables_of s).starts (GRANULES_IN_BLOCK * s.limits.blocks) ≤ s.report.dead.room

-- Entry k of the list of decrements is its last one, and the object of this name would die by it; the object has more references, nil or
-- not, than the list has room for in place of that entry and after it.
pub record HoldsBack (l : Limits) (t : Tables) (m : Moment) (at : Name → ℕ) (k : ℕ) (n : Name) : Type 0 where
  pub last : t.cursors DECREMENT_COUNT ≡ k + 1
  pub member : IsTrue (has m.unreclaimed n)
  pub entry : t.decs k ≡ at n
  pub count : count_at t at n ≡ 1
  pub full : l.threads * (l.log + l.registers) < k + length (refs_of (object_at m.last.graph n))

-- how a slice of so many units ends after it has lowered so many entries
abbrev pub Ends : Slice → Space → Moment → (Name → ℕ) → ℕ → ℕ → Type 0
Ends Done s m at units lowered = (tables_of s).cursors DECREMENT_COUNT ≡ 0
Ends Spent s m at units lowered = ((tables_of s).cursors DECREMENT_COUNT ≢ 0) × (lowered ≡ units)
Ends Held s m at units lowered = (lowered < units) × ((k : ℕ) × (n : Name) × HoldsBack s.limits (tables_of s) m at k n)

-- So many entries were lowered, one a unit: the list of decrements lost them at its end, where what the reclaimed objects refer to was
-- put. Entries further from the end are as they were.
pub record LowersSome (before after : Space) (m : Moment) (at : Name → ℕ) (units : ℕ) (result : Slice) (gone : List Name) (lowered : ℕ) : Type 0 where
  pub few : lowered ≤ units
  pub waiting : (tables_of after).cursors DECREMENT_COUNT + lowered ≡ (tables_of before).cursors DECREMENT_COUNT + references_held m.last.graph gone
  pub entries : (k : ℕ) → k + lowered < (tables_of before).cursors DECREMENT_COUNT → (tables_of after).decs k ≡ (tables_of before).decs k
  pub ends : Ends result after (leaving m (without m.unreclaimed gone)) at units lowered

-- Some of the decrements are done: some of the dead are gone, each is reported once, and what is left stands as before. Its count is its
-- references from what is left and the decrements of it that still wait, and it is not 0; nothing is done, and nothing drawn. A reclaimed
-- object loses its mark and gray bits; all others are as they were. States of blocks and the lines that are out stay, and so do lists
-- and counters. Nothing else has changed but the list of decrements.
pub record FinishesSome (before after : Space) (m : Moment) (at : Name → ℕ) (units : ℕ) (result : Slice) (gone : List Name) : Type 0 where
  pub dead : (n : Name) → IsTrue (has gone n) → Dead m.last m.unreclaimed m.stuck n
  pub once : IsDistinct gone
  pub holds : HoldsMoment after (leaving m (without m.unreclaimed gone)) at
  pub undecremented : IsUndecremented (tables_of after) (leaving m (without m.unreclaimed gone)) at
  pub lowers : (lowered : ℕ) × LowersSome before after m at units result gone lowered
  pub fewer : length gone + passing (tables_of after).starts (GRANULES_IN_BLOCK * before.limits.blocks) ≡ passing (tables_of before).starts (GRANULES_IN_BLOCK * before.limits.blocks)
  pub keeps : KeepsListsAndCounters (tables_of before) (tables_of after)
  pub marks : LosesBits (tables_of before).marks (tables_of after).marks at gone
  pub grays : LosesBits (tables_of before).grays (tables_of after).grays at gone
  pub states : (tables_of after).states ≡ (tables_of before).states
  pub outs : (tables_of after).outs ≡ (tables_of before).outs
  pub space : after ≡ record before {
    words = after.words;
    report = record before.report { dead = record before.report.dead { items = before.report.dead.items ++ gone } };
  }

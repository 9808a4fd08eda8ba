-- What finishing the decrements of a pause does.
use Rattle.std.specs.Prelude.{◌≡◌, ◌≢◌, ℕ, ◌+◌, ◌*◌, ◌≤◌, ◌↔◌, ◌⊎◌, ⊤, Bool, false, Option, Some, None, List, ◌++◌, IsTrue, length}
use Rattle.lxr_layout.specs.declared.TheConstants.{DECREMENT_COUNT, GRANULES_IN_BLOCK}
use Rattle.lxr_layout.specs.declared.Name.{Name}
use Rattle.lxr_graph.specs.Names.{has, without}
use Rattle.lxr_image.specs.declared.space.Space.{Space}
use Rattle.lxr_image.specs.Spaces.{tables_of}
use Rattle.lxr_image.specs.Tables.{Tables}
use Rattle.lxr_image.specs.Reads.{granule_of}
use Rattle.lxr_model.specs.Dead.{Dead}
use Rattle.lxr_model.specs.Moments.{Moment, Trace}
use Rattle.lxr_model.specs.Reachable.{Refers}
use Rattle.lxr_model_counting.specs.Distinct.{IsDistinct}
use Rattle.lxr_invariant.specs.AbstractState.{leaving}
use Rattle.lxr_invariant.specs.Counting.{IsUndecremented, passing}
use Rattle.lxr_invariant.specs.Keeping.{KeepsListsAndCounters}
use Rattle.lxr_invariant.specs.Quiescent.{HoldsMoment}
use Rattle.lxr_invariant.specs.Tracing.{HandledAreGray}
use Rattle.lxr_pause_decrements.specs.Wipe.{LosesBits}

-- while a trace runs, what an object that is done referred to is gray; nothing is asked where none runs
abbrev pub HandledAreTraced : Tables → Moment → (Name → ℕ) → Option Trace → Type 0
HandledAreTraced t m at None = ⊤
HandledAreTraced t m at (Some trace) = HandledAreGray t m at

-- The decrements may be finished: the space holds a moment, whatever decrementers have done since the last pause, and the report has
-- room for the names of all objects that stand in the heap.
pub record CanFinish (s : Space) (m : Moment) (at : Name → ℕ) : Type 0 where
  pub holds : HoldsMoment s m at
  pub handled : HandledAreTraced (tables_of s) m at m.trace
  pub room : length s.report.dead.items + passing (tables_of s).starts (GRANULES_IN_BLOCK * s.limits.blocks) ≤ s.report.dead.room

-- What is left is gray where it was, and where a reclaimed object referred to it; and no other granule is.
pub record GraysReferents (before after : ℕ → Bool) (m : Moment) (at : Name → ℕ) (gone : List Name) : Type 0 where
  pub left : (n : Name) → IsTrue (has (without m.unreclaimed gone) n)
      → IsTrue (after (granule_of (at n))) ↔ (IsTrue (before (granule_of (at n))) ⊎ ((u : Name) × IsTrue (has gone u) × Refers m.last.graph u n))
  pub reclaimed : (n : Name) → IsTrue (has gone n) → after (granule_of (at n)) ≡ false
  pub others : (k : ℕ) → ((n : Name) → IsTrue (has m.unreclaimed n) → granule_of (at n) ≢ k) → after k ≡ before k

-- A reclaimed object loses its gray bit, and while a trace runs, what it referred to gets one; all others are as they were.
abbrev pub FinishesGrays : Option Trace → (ℕ → Bool) → (ℕ → Bool) → Moment → (Name → ℕ) → List Name → Type 0
FinishesGrays None before after m at gone = LosesBits before after at gone
FinishesGrays (Some trace) before after m at gone = GraysReferents before after m at gone

-- The decrements are finished: exactly the dead are gone, each is reported once, what is left stands as before, its count is
-- its references, nothing is done, and no decrement waits. A reclaimed object loses its mark and gray bits, and while a trace runs,
-- what it referred to is made gray; all others are as they were. States of blocks, the lines that are out and the entries of the table
-- of decrements stay, and so do lists and counters. Nothing else has changed.
pub record Finishes (before after : Space) (m : Moment) (at : Name → ℕ) (gone : List Name) : Type 0 where
  pub dead : (n : Name) → IsTrue (has gone n) ↔ Dead m.last m.unreclaimed m.stuck n
  pub once : IsDistinct gone
  pub holds : HoldsMoment after (leaving m (without m.unreclaimed gone)) at
  pub undecremented : IsUndecremented (tables_of after) (leaving m (without m.unreclaimed gone)) at
  pub empty : (tables_of after).cursors DECREMENT_COUNT ≡ 0
  pub fewer : length gone + passing (tables_of after).starts (GRANULES_IN_BLOCK * before.limits.blocks) ≡ passing (tables_of before).starts (GRANULES_IN_BLOCK * before.limits.blocks)
  pub keeps : KeepsListsAndCounters (tables_of before) (tables_of after)
  pub marks : LosesBits (tables_of before).marks (tables_of after).marks at gone
  pub grays : FinishesGrays m.trace (tables_of before).grays (tables_of after).grays m at gone
  pub decs : (tables_of after).decs ≡ (tables_of before).decs
  pub states : (tables_of after).states ≡ (tables_of before).states
  pub outs : (tables_of after).outs ≡ (tables_of before).outs
  pub space : after ≡ record before {
    words = after.words;
    report = record before.report { dead = record before.report.dead { items = before.report.dead.items ++ gone } };
  }

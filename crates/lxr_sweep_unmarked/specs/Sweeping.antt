-- What sweeping what a trace didn't mark does.
use Rattle.std.specs.Prelude.{◌≡◌, ◌≢◌, ℕ, ◌+◌, ◌*◌, ◌≤◌, ◌↔◌, ◌⊎◌, Bool, false, Option, Some, None, List, ◌++◌, IsTrue, length}
use Rattle.lxr_layout.specs.declared.TheConstants.{DECREMENT_COUNT, GRANULES_IN_BLOCK}
use Rattle.lxr_layout.specs.declared.Name.{Name}
use Rattle.lxr_graph.specs.Names.{has, without}
use Rattle.lxr_image.specs.declared.space.Space.{Space}
use Rattle.lxr_image.specs.Spaces.{tables_of}
use Rattle.lxr_image.specs.Reads.{granule_of}
use Rattle.lxr_model.specs.Dead.{Dead}
use Rattle.lxr_model.specs.Moments.{Moment, Trace}
use Rattle.lxr_model.specs.Reachable.{Refers}
use Rattle.lxr_model_counting.specs.Distinct.{IsDistinct}
use Rattle.lxr_invariant.specs.Counting.{IsUndecremented, passing}
use Rattle.lxr_invariant.specs.Keeping.{KeepsListsAndCounters}
use Rattle.lxr_invariant.specs.Quiescent.{HoldsMoment}
use Rattle.lxr_invariant.specs.Settled.{IsSettled}
use Rattle.lxr_invariant.specs.Tracing.{IsMarked, IsRoot, IsUnmarked}
use Rattle.lxr_pause_decrements.specs.Wipe.{LosesBits}

-- What isn't marked may be swept: counting is done, no decrement waits, the world and what registers hold is marked, and
-- what is marked refers to what is marked. The report has room for the names of all objects that stand in the heap.
pub record CanSweep (s : Space) (m : Moment) (at : Name → ℕ) : Type 0 where
  pub holds : HoldsMoment s m at
  pub settled : IsSettled m
  pub undecremented : IsUndecremented (tables_of s) m at
  pub empty : (tables_of s).cursors DECREMENT_COUNT ≡ 0
  pub roots : (n : Name) → IsRoot m.state n → IsMarked (tables_of s) at n
  pub closed : (u n : Name) → IsTrue (has m.unreclaimed u) → IsMarked (tables_of s) at u → Refers m.state.graph u n → IsMarked (tables_of s) at n
  pub dead_room : length s.report.dead.items + passing (tables_of s).starts (GRANULES_IN_BLOCK * s.limits.blocks) ≤ s.report.dead.room
  pub swept_room : length s.report.swept.items + passing (tables_of s).starts (GRANULES_IN_BLOCK * s.limits.blocks) ≤ s.report.swept.room

-- the moment without the swept names and those that died by it
abbrev pub swept_moment : Moment → List Name → List Name → Moment
swept_moment m swept gone = record m { unreclaimed = without (without m.unreclaimed swept) gone; stuck = without m.stuck swept }

-- What is left is gray where it was, and where one of those that died referred to it; and no other granule is.
pub record SweepsTracedGrays (before after : ℕ → Bool) (m : Moment) (at : Name → ℕ) (swept gone : List Name) : Type 0 where
  pub left : (n : Name) → IsTrue (has (without (without m.unreclaimed swept) gone) n)
      → IsTrue (after (granule_of (at n))) ↔ (IsTrue (before (granule_of (at n))) ⊎ ((u : Name) × IsTrue (has gone u) × Refers m.last.graph u n))
  pub reclaimed : (n : Name) → IsTrue (has (swept ++ gone) n) → after (granule_of (at n)) ≡ false
  pub others : (k : ℕ) → ((n : Name) → IsTrue (has m.unreclaimed n) → granule_of (at n) ≢ k) → after k ≡ before k

-- A reclaimed object loses its gray bit, and while a trace runs, what died makes gray what it referred to; all others are as they were.
abbrev pub SweepsGrays : Option Trace → (ℕ → Bool) → (ℕ → Bool) → Moment → (Name → ℕ) → List Name → List Name → Type 0
SweepsGrays None before after m at swept gone = LosesBits before after at (swept ++ gone)
SweepsGrays (Some trace) before after m at swept gone = SweepsTracedGrays before after m at swept gone

-- What wasn't marked is swept: exactly these names, each reported once; and exactly the dead of what is left are gone, each reported
-- once. What is left stands as before, with its references as its count. A reclaimed object loses its mark and gray bits, and while a
-- trace runs, what those that died referred to is gray; all others are as they were. Nothing else has changed.
pub record SweepsUnmarked (before after : Space) (m : Moment) (at : Name → ℕ) (swept gone : List Name) : Type 0 where
  pub swept_are : (n : Name) → IsTrue (has swept n) ↔ (IsTrue (has m.unreclaimed n) × IsUnmarked (tables_of before) at n)
  pub swept_once : IsDistinct swept
  pub dead : (n : Name) → IsTrue (has gone n) ↔ Dead m.state (without m.unreclaimed swept) m.stuck n
  pub dead_once : IsDistinct gone
  pub holds : HoldsMoment after (swept_moment m swept gone) at
  pub undecremented : IsUndecremented (tables_of after) (swept_moment m swept gone) at
  pub empty : (tables_of after).cursors DECREMENT_COUNT ≡ 0
  pub keeps : KeepsListsAndCounters (tables_of before) (tables_of after)
  pub marks : LosesBits (tables_of before).marks (tables_of after).marks at (swept ++ gone)
  pub grays : SweepsGrays m.trace (tables_of before).grays (tables_of after).grays m at swept gone
  pub decs : (tables_of after).decs ≡ (tables_of before).decs
  pub states : (tables_of after).states ≡ (tables_of before).states
  pub outs : (tables_of after).outs ≡ (tables_of before).outs
  pub space : after ≡ record before {
    words = after.words;
    report = record before.report {
      swept = record before.report.swept { items = before.report.swept.items ++ swept };
      dead = record before.report.dead { items = before.report.dead.items ++ gone };
    };
  }

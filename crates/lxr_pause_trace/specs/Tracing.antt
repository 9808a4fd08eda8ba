-- What the steps of a trace do that a pause makes: it begins, and it is finished.
use Rattle.std.specs.Prelude.{◌≡◌, ◌≢◌, ◌↔◌, ◌⊎◌, ℕ, ◌+◌, ◌<◌, ◌≤◌, false, List, IsTrue}
use Rattle.lxr_layout.specs.declared.TheConstants.{REMEMBERED_CURSOR}
use Rattle.lxr_layout.specs.declared.Name.{Name}
use Rattle.lxr_graph.specs.Names.{has}
use Rattle.lxr_image.specs.declared.space.Space.{Space}
use Rattle.lxr_image.specs.Spaces.{tables_of}
use Rattle.lxr_image.specs.Tables.{Tables}
use Rattle.lxr_image.specs.Reads.{granule_of}
use Rattle.lxr_model.specs.Moments.{Moment}
use Rattle.lxr_model.specs.Reachable.{Refers}
use Rattle.lxr_invariant.specs.Quiescent.{HoldsMoment}
use Rattle.lxr_invariant.specs.Settled.{IsSettled}
use Rattle.lxr_invariant.specs.Tracing.{IsGray, IsMarked, IsRoot, IsToBeMarked, unscanned_slots}
use Rattle.lxr_remset.specs.Remembering.{CanRemember, EntersOnce, Remembers, with_remembered_of}

-- a pause may trace: counting is done, whatever is marked and gray
pub record CanTrace (s : Space) (m : Moment) (at : Name → ℕ) : Type 0 where
  pub holds : HoldsMoment s m at
  pub settled : IsSettled m

-- a pause may finish a trace: it may trace, and remember what it finds
pub record CanFinishTrace (s : Space) (m : Moment) (at : Name → ℕ) : Type 0 where
  pub trace : CanTrace s m at
  pub remembers : CanRemember m.trace (tables_of s)

-- A trace begins: nothing is marked, and exactly the world and what registers hold is gray. Nothing else has changed.
pub record BeginsTrace (before after : Space) (m : Moment) (at : Name → ℕ) : Type 0 where
  pub holds : HoldsMoment after m at
  pub none_marked : (k : ℕ) → (tables_of after).marks k ≡ false
  pub grays : (k : ℕ) → IsTrue ((tables_of after).grays k) ↔ ((n : Name) × IsRoot m.state n × (k ≡ granule_of (at n)))
  pub tables : tables_of after ≡ record (tables_of before) { marks = (tables_of after).marks; grays = (tables_of after).grays }
  pub space : after ≡ record before { words = after.words }

-- these names have all that is to be marked
abbrev pub HasAllToBeMarked : Tables → Moment → (Name → ℕ) → List Name → Type 0
HasAllToBeMarked t m at names = (n : Name) → IsToBeMarked t m at n → IsTrue (has names n)

-- A trace is finished: marked is exactly what was and what was left to mark, gray is exactly what was and what the latter refers
-- to, and nothing gray is unmarked. Each reference of what was left to mark that leads into a Chosen block is remembered, unless the set
-- has overflowed. Only these are remembered, and none of them twice; one number is drawn for each, and no other. Nothing else has changed.
pub record FinishesTrace (before after : Space) (m : Moment) (at : Name → ℕ) : Type 0 where
  pub holds : HoldsMoment after m at
  pub marks : (n : Name) → IsTrue (has m.unreclaimed n) → IsMarked (tables_of after) at n ↔ (IsMarked (tables_of before) at n ⊎ IsToBeMarked (tables_of before) m at n)
  pub grays : (n : Name) → IsTrue (has m.unreclaimed n)
      → IsGray (tables_of after) at n ↔ (IsGray (tables_of before) at n ⊎ ((u : Name) × IsToBeMarked (tables_of before) m at u × Refers m.state.graph u n))
  pub none_left : (k : ℕ) → IsTrue ((tables_of after).grays k) → IsTrue ((tables_of after).marks k)
  pub remembers : Remembers before.limits (tables_of before) (tables_of after) m at at (λ n i. IsToBeMarked (tables_of before) m at n)
  pub once : (j k : ℕ) → (tables_of before).cursors REMEMBERED_CURSOR ≤ j → j < k → k < (tables_of after).cursors REMEMBERED_CURSOR → k < before.limits.remember
      → (tables_of after).remembered j ≢ (tables_of after).remembered k
  pub entered : EntersOnce before.limits (tables_of before) (tables_of after) m at (λ n i. IsToBeMarked (tables_of before) m at n)
  pub bound : (names : List Name) → HasAllToBeMarked (tables_of before) m at names
      → (tables_of after).cursors REMEMBERED_CURSOR + unscanned_slots (tables_of after) m at names
      ≤ (tables_of before).cursors REMEMBERED_CURSOR + unscanned_slots (tables_of before) m at names
  pub tables : tables_of after ≡ record (with_remembered_of (tables_of before) (tables_of after)) { marks = (tables_of after).marks; grays = (tables_of after).grays }
  pub space : after ≡ record before { words = after.words }

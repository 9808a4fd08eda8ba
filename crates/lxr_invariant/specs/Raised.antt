-- The middle of a pause: all increments are done, and the decrements of old values aren't queued yet.
use Rattle.std.specs.Prelude.{◌≡◌, ◌≢◌, ℕ, ◌+◌, ◌*◌, ◌≤◌, ◌↔◌, false, List, [], IsTrue, length, if◌then◌else◌}
use Rattle.lxr_layout.specs.declared.Name.{Name}
use Rattle.lxr_layout.specs.declared.TheConstants.{DECREMENT_COUNT, DECREMENT_CURSOR, REGISTERS, STUCK}
use Rattle.lxr_graph.specs.Names.{has, union}
use Rattle.lxr_graph.specs.State.{world_name}
use Rattle.lxr_image.specs.declared.space.Space.{Space}
use Rattle.lxr_image.specs.Tables.{Tables}
use Rattle.lxr_image.specs.Spaces.{IsSpace, tables_of}
use Rattle.lxr_image.specs.Opened.{HasRoom}
use Rattle.lxr_image.specs.Image.{ArePlacesOf, IsImage}
use Rattle.lxr_model.specs.Dead.{Promoted}
use Rattle.lxr_model.specs.References.{references}
use Rattle.lxr_model.specs.Moments.{Moment}
use Rattle.lxr_model.specs.Reports.{raised}
use Rattle.lxr_model_counting.specs.Distinct.{IsDistinct}
use Rattle.lxr_model_counting.specs.Following.{FollowsPause}
use Rattle.lxr_invariant.specs.Standing.{AreLogged, HasBits}
use Rattle.lxr_invariant.specs.Counting.{count_at}
use Rattle.lxr_invariant.specs.Lines.{FreeAreUnused, HasBlocks, HasMarks}

-- the unreclaimed names once these are promoted
abbrev pub with_promoted : Moment → List Name → List Name
with_promoted m promoted = union promoted m.unreclaimed

-- the count of o before it is raised, where the dead are gone already: its references at the last pause, and 0 where it is
-- promoted
abbrev pub count_found : Moment → List Name → Name → ℕ
count_found m promoted o = if has promoted o then 0 else references m.last m.unreclaimed o

-- the count of o as it would be without a largest value
abbrev pub count_raised : Moment → List Name → Name → ℕ
count_raised m promoted o = count_found m promoted o + raised m promoted o

-- a name becomes stuck: it wasn't, and its raised count reaches STUCK
pub record BecomesStuck (m : Moment) (promoted : List Name) (o : Name) : Type 0 where
  pub member : IsTrue (has (with_promoted m promoted) o)
  pub unstuck : has m.stuck o ≡ false
  pub reaches : STUCK ≤ count_raised m promoted o

-- these are the promoted names and those that become stuck, each once
pub record AreRaised (m : Moment) (promoted stuck : List Name) : Type 0 where
  pub promoted_are : (n : Name) → IsTrue (has promoted n) ↔ Promoted m.state m.unreclaimed m.made n
  pub promoted_once : IsDistinct promoted
  pub stuck_are : (n : Name) → IsTrue (has stuck n) ↔ BecomesStuck m promoted n
  pub stuck_once : IsDistinct stuck

-- the counts are raised: STUCK for what was stuck or became so, and else exact
pub record CountsAreRaised (t : Tables) (m : Moment) (at : Name → ℕ) (promoted stuck : List Name) : Type 0 where
  pub full : (n : Name) → IsTrue (has (with_promoted m promoted) n) → IsTrue (has (union stuck m.stuck) n) → count_at t at n ≡ STUCK
  pub exact : (n : Name) → IsTrue (has (with_promoted m promoted) n) → has (union stuck m.stuck) n ≡ false → count_at t at n ≡ count_raised m promoted n

-- Increments are done for a moment whose dead are gone. The report has the promoted names and those that
-- became stuck. Promoted objects have their bits and marks, logs and deferred registers are still those of the safepoint,
-- no line is out, and no decrement waits.
pub record IsRaised (s : Space) (m : Moment) (at : Name → ℕ) (promoted stuck : List Name) : Type 0 where
  pub space : IsSpace s
  pub room : HasRoom s
  pub as_many : (length s.registers.items ≡ REGISTERS * s.limits.threads) × (length s.deferred.items ≡ REGISTERS * s.limits.threads)
  pub follows : FollowsPause m
  pub raised : AreRaised m promoted stuck
  pub image : IsImage (tables_of s) s.limits.blocks at m.state.graph (with_promoted m promoted)
  pub registers : ArePlacesOf at s.registers.items m.state.registers
  pub deferred : ArePlacesOf at s.deferred.items m.last.registers
  pub world : at world_name ≡ 1
  pub bits : HasBits (tables_of s) m at (with_promoted m promoted)
  pub logs : AreLogged m at s.logged.items
  pub few_logs : length s.logged.items ≤ s.limits.threads * s.limits.log
  pub counts : CountsAreRaised (tables_of s) m at promoted stuck
  pub positive : (n : Name) → IsTrue (has (with_promoted m promoted) n) → count_at (tables_of s) at n ≢ 0
  pub marks : HasMarks (tables_of s) m.state.graph at (with_promoted m promoted)
  pub none_done : (k : ℕ) → (tables_of s).dones k ≡ false
  pub none_out : (line : ℕ) → (tables_of s).outs line ≡ false
  pub unused : FreeAreUnused (tables_of s) at (with_promoted m promoted)
  pub blocks : HasBlocks (tables_of s) s.limits m.trace
  pub decrements : ((tables_of s).cursors DECREMENT_CURSOR ≡ 0) × ((tables_of s).cursors DECREMENT_COUNT ≡ 0)
  pub no_rest : s.rest_next ≡ s.rest_end
  pub no_work : s.work.items ≡ []

-- the moment at which increments and decrements are queued: the state now is that of the pause, and nothing was made or
-- written since
abbrev pub settled : Moment → List Name → List Name → Moment
settled m promoted stuck = record m {
  last = m.state;
  unreclaimed = with_promoted m promoted;
  stuck = union stuck m.stuck;
  made = [];
  written = [];
}

-- What holds of a space while unmarked objects are taken out of its heap, one after another.
use Rattle.std.specs.Prelude.{◌≡◌, ℕ, ◌+◌, ◌*◌, ◌<◌, false, List, ◌∷◌, IsTrue, length, map, reverse}
use Rattle.lxr_layout.specs.declared.Name.{Name}
use Rattle.lxr_layout.specs.declared.Place.{Place}
use Rattle.lxr_layout.specs.declared.Shape.{Shape}
use Rattle.lxr_layout.specs.declared.TheConstants.{GRANULES_IN_BLOCK}
use Rattle.lxr_base.specs.Roomy.{Roomy, extended, pushed}
use Rattle.lxr_graph.specs.Listing.{NameList, with_name, with_names}
use Rattle.lxr_graph.specs.Names.{has, without}
use Rattle.lxr_image.specs.declared.space.Space.{Space}
use Rattle.lxr_image.specs.Spaces.{IsSpace, tables_of}
use Rattle.lxr_image.specs.Reads.{granule_of}
use Rattle.lxr_model.specs.Moments.{Moment}
use Rattle.lxr_model.specs.References.{references_from}
use Rattle.lxr_model_counting.specs.Distinct.{IsDistinct}
use Rattle.lxr_invariant.specs.Counting.{count_at, passing}
use Rattle.lxr_invariant.specs.Lines.{HasMarks}
use Rattle.lxr_invariant.specs.Standing.{HasBits, place_of}
use Rattle.lxr_invariant.specs.Tracing.{IsUnmarked}
use Rattle.lxr_pause_decrements.specs.Cascade.{TablesStay}
use Rattle.lxr_blocks.specs.Clearing.{without_counted}
use Rattle.lxr_pause_decrements.specs.Wipe.{LosesBits}
use Rattle.lxr_sweep_unmarked.specs.Sweeping.{CanSweep}

-- A stage of taking out: what stands for the space meanwhile. No code holds it.
pub record ClearingStage : Type 0 where
  pub moment : Moment
  pub at : Name → ℕ
  -- the space as the sweep began
  pub was : Space
  -- what is taken out so far, newest first
  pub swept : List Name
  -- below this granule no unmarked object is left
  pub passed : ℕ

-- the stage at which these are taken out, and a pass has come to a granule
abbrev pub clearing : Space → Moment → (Name → ℕ) → List Name → ℕ → ClearingStage
clearing s m at swept passed = record { moment = m; at = at; was = s; swept = swept; passed = passed }

-- a further name is taken out, at the granule that the pass has come to
abbrev pub cleared_too : ClearingStage → Name → ClearingStage
cleared_too st r = record st { swept = r ∷ st.swept; passed = st.passed + 1 }

-- the unreclaimed names that are left
abbrev pub left_so_far : ClearingStage → List Name
left_so_far st = without st.moment.unreclaimed st.swept

-- the space with other words, another worklist and other swept names in its report
abbrev pub with_swept : Space → List ℕ → Roomy Place → NameList → Space
with_swept s words work swept = record s { words = words; work = work; report = record s.report { swept = swept } }

-- the object at a place begins no more, is reported as swept and waits in the worklist
pub record TakesOut (before after : Space) (p : Place) (n : Name) (shape : Shape) : Type 0 where
  pub tables : tables_of after ≡ without_counted (tables_of before) p.0 shape
  pub rest : after ≡ with_swept before after.words (pushed before.work p) (with_name before.report.swept n)

-- Unmarked objects are taken out so far: what is left has its bits, marks and counts, and what is taken out is reported and waits in
-- the worklist, each once. All references are those from what is left and from what is taken out.
pub record IsClearing (s : Space) (st : ClearingStage) : Type 0 where
  pub can : CanSweep st.was st.moment st.at
  pub space : IsSpace s
  pub stay : TablesStay (tables_of st.was) (tables_of s)
  pub cursors : (tables_of s).cursors ≡ (tables_of st.was).cursors
  pub dones : (tables_of s).dones ≡ (tables_of st.was).dones
  pub bits : HasBits (tables_of s) st.moment st.at (left_so_far st)
  pub marks : HasMarks (tables_of s) st.moment.state.graph st.at (left_so_far st)
  pub counts : (n : Name) → IsTrue (has (left_so_far st) n) → count_at (tables_of s) st.at n ≡ count_at (tables_of st.was) st.at n
  pub lost_marks : LosesBits (tables_of st.was).marks (tables_of s).marks st.at st.swept
  pub lost_grays : LosesBits (tables_of st.was).grays (tables_of s).grays st.at st.swept
  pub unmarked : (n : Name) → IsTrue (has st.swept n) → IsTrue (has st.moment.unreclaimed n) × IsUnmarked (tables_of st.was) st.at n
  pub found : (n : Name) → IsTrue (has st.moment.unreclaimed n) → IsUnmarked (tables_of st.was) st.at n → granule_of (st.at n) < st.passed → IsTrue (has st.swept n)
  pub once : IsDistinct (reverse st.swept)
  pub references : (o : Name) → references_from st.moment.last.graph st.moment.unreclaimed o
      ≡ references_from st.moment.last.graph (left_so_far st) o + references_from st.moment.last.graph st.swept o
  pub fewer : length st.swept + passing (tables_of s).starts (GRANULES_IN_BLOCK * st.was.limits.blocks) ≡ passing (tables_of st.was).starts (GRANULES_IN_BLOCK * st.was.limits.blocks)
  pub rest : s ≡ with_swept st.was s.words (extended st.was.work (map (place_of st.at) (reverse st.swept))) (with_names st.was.report.swept (reverse st.swept))

-- an unmarked object begins at the granule that a pass has come to
pub record UnmarkedAt (s : Space) (granule : ℕ) (st : ClearingStage) : Type 0 where
  pub stage : IsClearing s st
  pub come : st.passed ≡ granule
  pub start : IsTrue ((tables_of s).starts granule)
  pub unmarked : (tables_of s).marks granule ≡ false

-- it is to be taken out; then it is
abbrev pub MayClear : Space → ℕ → Type 0
MayClear s granule = (st : ClearingStage) × UnmarkedAt s granule st

abbrev pub Clears : Space → Space → ℕ → Type 0
Clears before after granule = (st : ClearingStage) → UnmarkedAt before granule st → (r : Name) × IsClearing after (cleared_too st r)

-- all unmarked objects are to be taken out; then they are
abbrev pub MaySweep : Space → Type 0
MaySweep s = (m : Moment) × (at : Name → ℕ) × CanSweep s m at

abbrev pub ClearsAll : Space → Space → Type 0
ClearsAll before after =
    (m : Moment) (at : Name → ℕ) → CanSweep before m at → (swept : List Name) × IsClearing after (clearing before m at swept (GRANULES_IN_BLOCK * before.limits.blocks))

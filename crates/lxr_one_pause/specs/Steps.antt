-- What the small steps of a pause do: how its report begins, how its names are put in order, and how it is counted.
use Rattle.std.specs.Prelude.{◌≡◌, ℕ, ◌+◌, ⊤, Bool, true, false, []}
use Rattle.lxr_layout.specs.declared.Name.{Name}
use Rattle.lxr_base.specs.Roomy.{emptied}
use Rattle.lxr_graph.specs.declared.report.Kind.TheVariants.{Plain}
use Rattle.lxr_graph.specs.declared.report.Report.{Report}
use Rattle.lxr_graph.specs.Listing.{in_order, without_names}
use Rattle.lxr_image.specs.declared.space.Space.{Space}
use Rattle.lxr_graph.specs.Distinct.{IsDistinct}
use Rattle.lxr_model.specs.Moments.{Moment}
use Rattle.lxr_evac_moving.specs.declared.evacuating.Evacuated.{Evacuated}
use Rattle.lxr_pause_queue.specs.Counting.{CanCount, CountsUnreclaimed}

-- a report of a plain pause of this number, in which nothing is reported yet
abbrev pub begun : Report → ℕ → Report
begun r number = record {
  number = number;
  kind = Plain;
  promoted = without_names r.promoted;
  dead = without_names r.dead;
  stuck = without_names r.stuck;
  swept = without_names r.swept;
  counts = record r.counts { items = [] };
  told = emptied r.told;
}

-- the space once the report of its next pause has begun
abbrev pub with_report_begun : Space → Space
with_report_begun s = record s { report = begun s.report (s.pauses + 1) }

-- no list of a report has a name twice
pub record HasDistinctNames (r : Report) : Type 0 where
  pub promoted : IsDistinct r.promoted.items
  pub dead : IsDistinct r.dead.items
  pub stuck : IsDistinct r.stuck.items
  pub swept : IsDistinct r.swept.items

-- the report with the names of each list in order; memory has them as they were found
abbrev pub with_names_in_order : Report → Report
with_names_in_order r = record r {
  promoted = in_order r.promoted;
  dead = in_order r.dead;
  stuck = in_order r.stuck;
  swept = in_order r.swept;
}

-- the space once its pause is counted
abbrev pub with_pause_counted : Space → Space
with_pause_counted s = record s { pauses = s.pauses + 1; tally = record s.tally { pauses = s.tally.pauses + 1 } }

-- the space once what evacuation moved and kept is counted
abbrev pub with_evacuated : Space → Evacuated → Space
with_evacuated s evacuated = record s { tally = record s.tally { moved = s.tally.moved + evacuated.moved; kept = s.tally.kept + evacuated.kept } }

-- where a pause drained, unreclaimed objects may be counted; else nothing is asked
abbrev pub CanCountWhere : Bool → Space → Moment → (Name → ℕ) → Type 0
CanCountWhere false s m at = ⊤
CanCountWhere true s m at = CanCount s m at

-- they are counted there, and else nothing has changed
abbrev pub CountsWhere : Bool → Space → Space → Moment → Type 0
CountsWhere false before after m = after ≡ before
CountsWhere true before after m = CountsUnreclaimed before after m

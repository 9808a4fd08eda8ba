-- What a report tells after its pause: which counts it lists, and whether its names can be read.
use Rattle.std.specs.Prelude.{◌≡◌, Bool, [], if◌then◌else◌}
use Rattle.lxr_graph.specs.declared.report.Report.{Report}
use Rattle.lxr_graph.specs.Telling.{with_names_told}
use Rattle.lxr_image.specs.declared.space.Space.{Space}

-- a report lists the counts of its pause where these are wanted, and else none
abbrev pub TellsWanted : Bool → Report → Type 0
TellsWanted wanted r = r.told.items ≡ (if wanted then r.counts.items else [])

-- the report that tells what another one tells: its names can be read where those can, and it lists the same counts
abbrev pub retold : Report → Report → Report
retold r by = record r {
  promoted = record r.promoted { listed = by.promoted.listed };
  dead = record r.dead { listed = by.dead.listed };
  stuck = record r.stuck { listed = by.stuck.listed };
  swept = record r.swept { listed = by.swept.listed };
  told = record r.told { items = by.told.items };
}

-- the space with that report
abbrev pub with_retold : Space → Report → Space
with_retold s by = record s { report = retold s.report by }

-- the space whose report's names can be read where they are wanted, and as it was where they aren't
abbrev pub with_names_where : Bool → Space → Space
with_names_where wanted s = if wanted then (record s { report = with_names_told s.report }) else s

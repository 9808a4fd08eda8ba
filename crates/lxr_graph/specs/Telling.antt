-- The names of a report: they stand in order, and can be read once they are told.
use Rattle.lxr_graph.specs.History.{PauseReport}
use Rattle.lxr_graph.specs.Listing.{listed}
use Rattle.lxr_graph.specs.Names.{AreInOrder}
use Rattle.lxr_graph.specs.declared.report.Report.{Report}

-- each list of names of a report is in order, each name once
pub record HasListsInOrder (report : PauseReport) : Type 0 where
  pub promoted : AreInOrder report.promoted
  pub dead : AreInOrder report.dead
  pub stuck : AreInOrder report.stuck
  pub swept : AreInOrder report.swept

-- the same report, whose names memory has in order
abbrev pub with_names_told : Report → Report
with_names_told r = record r {
  promoted = listed r.promoted;
  dead = listed r.dead;
  stuck = listed r.stuck;
  swept = listed r.swept;
}

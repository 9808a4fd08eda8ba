-- What a watch sees of a space.
use Rattle.std.specs.Prelude.{◌≡◌, ℕ, Option, Some, None, List, [], ◌∷◌, ◌++◌}
use Rattle.lxr_layout.specs.declared.limits.Limits.{Limits}
use Rattle.lxr_layout.specs.declared.LogEntry.{LogEntry}
use Rattle.lxr_layout.specs.declared.Place.{Place}
use Rattle.lxr_graph.specs.declared.report.Count.{Count}
use Rattle.lxr_graph.specs.History.{PauseReport, report_of}
use Rattle.lxr_image.specs.declared.space.Space.{Space}
use Rattle.lxr_image.specs.declared.space.Tally.{Tally}
use Rattle.lxr_image.specs.Tables.{Tables, tables_in}

-- a space as contracts see it, whatever the room of its lists
pub record Sight : Type 0 where
  pub words : List ℕ
  pub limits : Limits
  pub registers : List Place
  pub deferred : List Place
  pub logged : List LogEntry
  pub work : List Place
  pub report : PauseReport
  -- what was told of what is left
  pub told : List Count
  pub tally : Tally
  pub pauses : ℕ
  pub trace : Option ℕ
  pub rest_next : ℕ
  pub rest_end : ℕ

-- what is seen of a space
abbrev pub sight_of : Space → Sight
sight_of s = record {
  words = s.words;
  limits = s.limits;
  registers = s.registers.items;
  deferred = s.deferred.items;
  logged = s.logged.items;
  work = s.work.items;
  report = report_of s.report;
  told = s.report.told.items;
  tally = s.tally;
  pauses = s.pauses;
  trace = s.trace;
  rest_next = s.rest_next;
  rest_end = s.rest_end;
}

-- the tables of the space that was seen
abbrev pub sight_tables : Sight → Tables
sight_tables sight = tables_in sight.limits sight.words

-- one look at a space: a watch that tells afterwards told before, and has seen this space more
abbrev pub Looks : Option (List Sight) → Option (List Sight) → Sight → Type 0
Looks before None sight = Unit {0}
Looks None (Some after) sight = ⊥
Looks (Some before) (Some after) sight = after ≡ before ++ sight ∷ []

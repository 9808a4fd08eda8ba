-- A space as it is opened: the world at the first place, and all other blocks free.
use Rattle.std.specs.Prelude.{◌≡◌, ℕ, ◌+◌, ◌-◌, ◌*◌, nat_le, nat_lt, ◌&&◌, true, false, Option, Some, None, [], map, if◌then◌else◌}
use Rattle.lxr_layout.specs.declared.limits.Limits.{Limits}
use Rattle.lxr_layout.specs.declared.runs.Run.{Run}
use Rattle.lxr_layout.specs.declared.Name.{Name}
use Rattle.lxr_layout.specs.declared.Place.{Place}
use Rattle.lxr_layout.specs.declared.TheConstants.{FREE_BLOCK_COUNT, GRANULES_IN_BLOCK, GRANULES_IN_LINE, LINES_IN_BLOCK, RUN_COUNT, STUCK, WORLD_LINES, WORLD_REFS}
use Rattle.lxr_layout.specs.Objects.{header_word}
use Rattle.lxr_layout.specs.Runs.{word_of_run}
use Rattle.lxr_layout.specs.Spaces.{all_regions, region_begin}
use Rattle.lxr_graph.specs.declared.report.Kind.TheVariants.{Plain}
use Rattle.lxr_graph.specs.declared.report.Report.{Report}
use Rattle.lxr_graph.specs.State.{world, world_name, shape_of, opening_registers}
use Rattle.lxr_image.specs.declared.space.Space.{Space}
use Rattle.lxr_image.specs.declared.space.Tally.{Tally}
use Rattle.lxr_image.specs.Tables.{Tables, changed}
use Rattle.lxr_image.specs.Spaces.{tables_of}

-- so many words, all 0
abbrev pub cleared_tables : ℕ → Tables
cleared_tables size = record {
  size = size;
  heap = λ _. 0;
  counts = λ _. 0;
  starts = λ _. false;
  marks = λ _. false;
  grays = λ _. false;
  dones = λ _. false;
  unlogged = λ _. false;
  reuse = λ _. 0;
  outs = λ _. false;
  states = λ _. 0;
  runs = λ _. 0;
  frees = λ _. 0;
  decs = λ _. 0;
  remembered = λ _. 0;
  cursors = λ _. 0;
}

-- The world stands on granules 0 to 32: its header, its start bit, its stuck count, the marks of the two further
-- lines that it reaches into, and the unlogged bits of its 64 references, which are nil.
abbrev pub with_world : Tables → Tables
with_world t = record t {
  heap = changed t.heap 0 (header_word world_name (shape_of world));
  starts = changed t.starts 0 true;
  counts = changed (changed (changed t.counts 0 STUCK) GRANULES_IN_LINE STUCK) (2 * GRANULES_IN_LINE) STUCK;
  unlogged = λ w. if nat_le 1 w && nat_le w WORLD_REFS then true else t.unlogged w;
}

-- the state of the world's block, as its number
abbrev pub world_state : ℕ
world_state = 4

-- the lines of the world's block that the world leaves
abbrev pub first_run : Run
first_run = record { block = 0; line = WORLD_LINES; lines = LINES_IN_BLOCK - WORLD_LINES }

-- Block 0 is the world's. The run table has its run, the free table all other blocks in order, and the cursors their numbers.
abbrev pub with_blocks : ℕ → Tables → Tables
with_blocks blocks t = record t {
  states = changed t.states 0 world_state;
  runs = changed t.runs 0 (word_of_run first_run);
  frees = λ i. if nat_lt (i + 1) blocks then (i + 1) else t.frees i;
  cursors = changed (changed t.cursors RUN_COUNT 1) FREE_BLOCK_COUNT (blocks - 1);
}

-- the tables of an opened space
abbrev pub opened_tables : Limits → Tables
opened_tables l = with_blocks l.blocks (with_world (cleared_tables (region_begin l all_regions)))

-- where a name that a register holds at the opening stands: the world is at place 1, and 0 is nil
abbrev pub opening_place : Option Name → Place
opening_place None = record { 0 = 0 }
opening_place (Some n) = record { 0 = 1 }

-- the room of a report's lists, for a heap of so many granules
pub record HasReportRoom (r : Report) (granules : ℕ) : Type 0 where
  pub promoted : r.promoted.room ≡ granules
  pub dead : r.dead.room ≡ 2 * granules
  pub stuck : r.stuck.room ≡ granules
  pub swept : r.swept.room ≡ granules
  pub told : r.told.room ≡ granules

-- the room that each list of a space has, from the opening on, and the registers that a thread may name
pub record HasRoom (s : Space) : Type 0 where
  pub registers : s.registers.width ≡ s.limits.registers
  pub deferred : s.deferred.width ≡ s.limits.registers
  pub logged : s.logged.room ≡ s.limits.threads * s.limits.log
  pub work : s.work.room ≡ GRANULES_IN_BLOCK * s.limits.blocks
  pub report : HasReportRoom s.report (GRANULES_IN_BLOCK * s.limits.blocks)

-- the report of no pause
pub record IsBlank (r : Report) : Type 0 where
  pub number : r.number ≡ 0
  pub kind : r.kind ≡ Plain
  pub promoted : r.promoted.items ≡ []
  pub dead : r.dead.items ≡ []
  pub stuck : r.stuck.items ≡ []
  pub swept : r.swept.items ≡ []
  pub counts : r.counts.items ≡ []
  pub told : r.told.items ≡ []

-- nothing was done yet
abbrev pub no_tally : Tally
no_tally = record { news = 0; loads = 0; stores = 0; logs = 0; pauses = 0; moved = 0; kept = 0 }

-- a space of these limits and tables in which nothing was done: r0 of each thread holds the world, all else is nil or empty
pub record IsNew (s : Space) (l : Limits) (t : Tables) : Type 0 where
  pub limits : s.limits ≡ l
  pub tables : tables_of s ≡ t
  pub registers : s.registers.items ≡ map opening_place (opening_registers l.threads)
  pub deferred : s.deferred.items ≡ map opening_place (opening_registers l.threads)
  pub logged : s.logged.items ≡ []
  pub work : s.work.items ≡ []
  pub report : IsBlank s.report
  pub tally : s.tally ≡ no_tally
  pub pauses : s.pauses ≡ 0
  pub trace : s.trace ≡ None
  pub rest : (s.rest_next ≡ 0) × (s.rest_end ≡ 0)
  pub room : HasRoom s

-- an opened space
abbrev pub IsOpened : Space → Limits → Type 0
IsOpened s l = IsNew s l (opened_tables l)

-- What threads have drawn in an epoch is handed out as it closes: each listed run and each listed block that was drawn.
use Rattle.std.specs.Prelude.{◌≡◌, ℕ, ◌+◌, ◌/◌, ◌%◌, ◌^◌, ◌<◌, ◌≤◌, ◌⊎◌, true, false, min, IsTrue}
use Rattle.lxr_layout.specs.declared.TheConstants.{FREE_BLOCK_COUNT, FREE_BLOCK_CURSOR, LINES_IN_BLOCK, RUN_COUNT, RUN_CURSOR}
use Rattle.lxr_layout.specs.declared.runs.Run.{Run}
use Rattle.lxr_image.specs.declared.space.Space.{Space}
use Rattle.lxr_image.specs.Tables.{Tables}
use Rattle.lxr_image.specs.Spaces.{IsSpace, tables_of}
use Rattle.lxr_blocks.specs.Handing.{first_line}
use Rattle.lxr_blocks.specs.States.{is_fixed, state_by_lines, state_in, state_number}
use Rattle.lxr_invariant.specs.Listed.{IsListed, ListsRun, whole_block}

-- a line, counted over the whole heap, is one of a run
pub record IsLineOf (r : Run) (n : ℕ) : Type 0 where
  pub first : first_line r ≤ n
  pub behind : n < first_line r + r.lines

-- a line of a listed run of a number below one
pub record IsInRuns (listed : Tables) (blocks below n : ℕ) : Type 0 where
  pub number : ℕ
  pub drawn : number < below
  pub run : Run
  pub lists : ListsRun listed blocks number run
  pub line : IsLineOf run n

-- a line of a listed block of a number below one
pub record IsInBlocks (listed : Tables) (below n : ℕ) : Type 0 where
  pub number : ℕ
  pub drawn : number < below
  pub line : IsLineOf (whole_block (listed.frees number)) n

-- a line of what was drawn: of so many runs and so many blocks
abbrev pub IsDrawnLine : Tables → ℕ → ℕ → ℕ → ℕ → Type 0
IsDrawnLine listed blocks runs frees n = IsInRuns listed blocks runs n ⊎ IsInBlocks listed frees n

-- One of these lines was handed out, from tables t to tables u: it is out, and its reuse counter is higher by one.
pub record IsHandedOut (lines : ℕ → Type 0) (t u : Tables) (n : ℕ) : Type 0 where
  pub drawn : lines n
  pub out : IsTrue (u.outs n)
  pub reuse : u.reuse n ≡ (t.reuse n + 1) % 2 ^ 32

-- a line that is none of these is as it was
pub record IsLeft (lines : ℕ → Type 0) (t u : Tables) (n : ℕ) : Type 0 where
  pub undrawn : ¬ lines n
  pub out : u.outs n ≡ t.outs n
  pub reuse : u.reuse n ≡ t.reuse n

-- a block that has one of these lines, and is neither Chosen nor World, has the state of the lines that are left of it
pub record IsBlockChanged (lines : ℕ → Type 0) (t u : Tables) (b : ℕ) : Type 0 where
  pub line : ℕ
  pub drawn : lines line
  pub in_block : line / LINES_IN_BLOCK ≡ b
  pub loose : is_fixed (state_in t b) ≡ false
  pub state : u.states b ≡ state_number (state_by_lines u b)

-- a block that is Chosen or World, or has none of these lines, has the state that it had
pub record IsBlockLeft (lines : ℕ → Type 0) (t u : Tables) (b : ℕ) : Type 0 where
  pub why : (is_fixed (state_in t b) ≡ true) ⊎ ((n : ℕ) → n / LINES_IN_BLOCK ≡ b → ¬ lines n)
  pub state : u.states b ≡ t.states b

-- From tables t to tables u, these lines were handed out, each once, and no others; all other tables are as they were.
pub record AreHandedOut (lines : ℕ → Type 0) (t u : Tables) : Type 0 where
  pub rest : u ≡ record t { outs = u.outs; reuse = u.reuse; states = u.states }
  pub lines_are : (n : ℕ) → IsHandedOut lines t u n ⊎ IsLeft lines t u n
  pub blocks_are : (b : ℕ) → IsBlockChanged lines t u b ⊎ IsBlockLeft lines t u b

-- how many of the listed runs were drawn: a number past the last one names none
abbrev pub drawn_runs : Tables → ℕ
drawn_runs t = min (t.cursors RUN_CURSOR) (t.cursors RUN_COUNT)

-- so it is with blocks
abbrev pub drawn_blocks : Tables → ℕ
drawn_blocks t = min (t.cursors FREE_BLOCK_CURSOR) (t.cursors FREE_BLOCK_COUNT)

-- Tables may be those at the end of an epoch: since runs and blocks were listed, only the heap, unlogged bits, counts, marks, grays,
-- dones, remembered entries and cursors have changed, what had no count has none, and runs and blocks are as many.
pub record AreLater (listed t : Tables) : Type 0 where
  pub rest : t ≡ record listed { heap = t.heap; unlogged = t.unlogged; counts = t.counts; marks = t.marks; grays = t.grays; dones = t.dones; remembered = t.remembered; cursors = t.cursors }
  pub uncounted : (k : ℕ) → listed.counts k ≡ 0 → t.counts k ≡ 0
  pub runs : t.cursors RUN_COUNT ≡ listed.cursors RUN_COUNT
  pub frees : t.cursors FREE_BLOCK_COUNT ≡ listed.cursors FREE_BLOCK_COUNT

-- what was drawn of the lists of one space may be handed out in a later one
pub record MayHandOut (listed later : Space) : Type 0 where
  pub lists : IsListed listed
  pub space : IsSpace later
  pub limits : later.limits ≡ listed.limits
  pub tables : AreLater (tables_of listed) (tables_of later)

-- from a start on, the listed runs below a number and the listed blocks below a number were handed out, and nothing else has
-- changed
pub record HasHandedOut (listed start now : Space) (runs frees : ℕ) : Type 0 where
  pub may : MayHandOut listed start
  pub hands : AreHandedOut (IsDrawnLine (tables_of listed) listed.limits.blocks runs frees) (tables_of start) (tables_of now)
  pub rest : now ≡ record start { words = now.words }
  pub space : IsSpace now

-- a line of what was drawn of the lists of one space, as the cursors of a later one tell
abbrev pub IsDrawn : Space → Space → ℕ → Type 0
IsDrawn listed later = IsDrawnLine (tables_of listed) listed.limits.blocks (drawn_runs (tables_of later)) (drawn_blocks (tables_of later))

-- what was drawn of the lists of a space was handed out
abbrev pub DrawnIsOut : Space → Space → Space → Type 0
DrawnIsOut listed before after = HasHandedOut listed before after (drawn_runs (tables_of before)) (drawn_blocks (tables_of before))

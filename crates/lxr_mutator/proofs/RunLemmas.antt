-- The words of runs.
use Rattle.std.proofs.Common.{◌≡◌, ℕ, ◌+◌, ◌<◌, ◌≤◌, arith, subst, sym}
use Rattle.std.specs.Prelude.{IsTrue}
use Rattle.lxr_layout.specs.declared.TheConstants.{LINES_IN_BLOCK, MOST_BLOCKS}
use Rattle.lxr_layout.specs.declared.Shape.{Shape}
use Rattle.lxr_layout.specs.Objects.{line_count}
use Rattle.lxr_alloc.specs.Spans.{IsInBlock}
use Rattle.lxr_layout.specs.declared.Run.{Run}
use Rattle.lxr_layout.specs.Runs.{word_of_run}
use Rattle.lxr_mutator.specs.Steps.{is_run, run_in}

-- what a run's test tells
pub record FitsRun (r : Run) : Type 0 where
  pub block : r.block < MOST_BLOCKS
  pub some : 1 ≤ r.lines
  pub within : r.line + r.lines ≤ LINES_IN_BLOCK

-- the test of a run tells so
pub fits_run : (r : Run) → IsTrue (is_run r) → FitsRun r
fits_run r h = record { block = grind arith; some = grind arith; within = grind arith }

-- a word is that of the run that it tells
pub word_of_told : (word : ℕ) → word ≡ word_of_run (run_in word)
word_of_told word = omega arith

-- it is in its block
pub run_in_block : (r : Run) → IsTrue (is_run r) → IsInBlock r
run_in_block r h = let f = fits_run r h in (f.block, f.within)

-- an object of one line fits it
pub one_line_fits : (r : Run) (s shape : Shape) → IsTrue (is_run r) → s ≡ shape → line_count shape ≤ 1 → line_count s ≤ r.lines
one_line_fits r s shape h is one =
    let some : 1 ≤ r.lines = (fits_run r h).some in
    let few : line_count s ≤ 1 = subst (λ (q : Shape). line_count q ≤ 1) (sym is) one in
    omega arith

-- A number that a thread has drawn is below the cursor.
use Rattle.std.proofs.Common.{◌≡◌, ℕ, ◌<◌, arith}
use Rattle.std.specs.Prelude.{Some, slice_get}
use Rattle.std.proofs.lemmas.Option.{slice_get_within}
use Rattle.lxr_layout.specs.declared.TheConstants.{FREE_BLOCK_CURSOR, RUN_CURSOR}
use Rattle.lxr_core_invariant.specs.EpochStates.{Beginning, EpochState}
use Rattle.lxr_core_invariant.specs.Drawn.{IsDrawnMemory}

-- the number of a run
pub run_below : (b : Beginning) (s : EpochState) (is : IsDrawnMemory b s) (k t : ℕ) → slice_get is.drawers.runs k ≡ Some t → k < s.tables.cursors RUN_CURSOR
run_below b s is k t drawn = let inside = slice_get_within is.drawers.runs k t drawn in let many = is.numbers.runs in omega (arith, inside, many)

-- the number of a block
pub block_below : (b : Beginning) (s : EpochState) (is : IsDrawnMemory b s) (k t : ℕ) → slice_get is.drawers.blocks k ≡ Some t → k < s.tables.cursors FREE_BLOCK_CURSOR
block_below b s is k t drawn = let inside = slice_get_within is.drawers.blocks k t drawn in let many = is.numbers.blocks in omega (arith, inside, many)

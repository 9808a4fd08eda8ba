-- Listings in turn, one after another.
use Rattle.std.specs.Prelude.{ℕ, ◌<◌}
use Rattle.lxr_image.specs.declared.space.Space.{Space}
use Rattle.lxr_image.specs.Spaces.{tables_of}
use Rattle.lxr_blocks.specs.InTurn.{IsTurn}
use Rattle.lxr_blocks.specs.Listing.{block_runs}
use Rattle.lxr_placing.specs.declared.listing.ToList.TheVariants.{InTurn}
use Rattle.lxr_placing.specs.Listing.{Lists}

-- Each listing in turn passes so many blocks from where the last one ended, and the next one begins where it ends. So no run is left out for ever
-- (`NoRunIsLeftOut` of lxr_blocks).
abbrev pub ListingsAreTurns : Type 0
ListingsAreTurns = (most from next : ℕ) (before after : Space) → from < before.limits.blocks → Lists (InTurn most from) before after (InTurn most next)
    → (next < before.limits.blocks) × ((many : ℕ) × IsTurn before.limits.blocks most (block_runs (tables_of before)) from many next)

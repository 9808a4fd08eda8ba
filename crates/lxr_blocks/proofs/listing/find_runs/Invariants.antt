use Rattle.std.proofs.Common.{◌-◌}
use Rattle.lxr_blocks.specs.declared.listing.TheConstants.{MOST_RUNS}
use Rattle.lxr_blocks.proofs.ListingLemmas.{HasFound}
use Rattle.lxr_blocks.proofs.listing.find_runs.Given as goal

abbrev pub invariant-loop-run : goal.invariant-loop-run
invariant-loop-run l = HasFound l.free l.block l.edges l.words l.many

abbrev pub decreases-loop-run : goal.decreases-loop-run
decreases-loop-run l = MOST_RUNS - l.many

use Rattle.lxr_core_inv_trace.proofs.SnapshotSafepointLemmas.{opening_cover}
use Rattle.lxr_core_inv_trace.proofs.snapshot.opening_cover.Goals as goal

pub returns : goal.returns
returns c = opening_cover

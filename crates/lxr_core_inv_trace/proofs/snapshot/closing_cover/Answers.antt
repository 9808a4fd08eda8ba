use Rattle.lxr_core_inv_trace.proofs.SnapshotSafepointLemmas.{closing_cover}
use Rattle.lxr_core_inv_trace.proofs.snapshot.closing_cover.Goals as goal

pub returns : goal.returns
returns c = closing_cover

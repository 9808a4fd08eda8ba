use Rattle.lxr_core_inv_trace.proofs.SnapshotHelperLemmas.{tracers_keep_cover}
use Rattle.lxr_core_inv_trace.proofs.snapshot.tracers_keep_cover.Goals as goal

pub returns : goal.returns
returns c = tracers_keep_cover

use Rattle.lxr_core_inv_trace.proofs.SnapshotHelperLemmas.{decrementers_keep_cover}
use Rattle.lxr_core_inv_trace.proofs.snapshot.decrementers_keep_cover.Goals as goal

pub returns : goal.returns
returns c = decrementers_keep_cover

use Rattle.lxr_core_inv_trace.proofs.SnapshotMutatorLemmas.{cover_is_kept}
use Rattle.lxr_core_inv_trace.proofs.snapshot.cover_is_kept.Goals as goal

pub returns : goal.returns
returns c = cover_is_kept

use Rattle.lxr_shared_passes.proofs.Keeps.{opens}
use Rattle.lxr_shared_passes.proofs.open.open_passes.Goals as goal

pub open-table-requires-clause-rule : goal.open-table-requires-clause-rule
open-table-requires-clause-rule g c = opens g.A.Actor.machine _

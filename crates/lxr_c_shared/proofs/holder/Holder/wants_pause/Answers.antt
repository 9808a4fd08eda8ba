use Rattle.std.proofs.Common.{refl, Some}
use Rattle.std.specs.Prelude.{Err}
use Rattle.lxr_c_base.specs.declared.codes.Code.TheVariants as code
use Rattle.lxr_c_shared.specs.Passing.{SeesWanted}
use Rattle.lxr_c_shared.proofs.HolderLemmas.{at_some}
use Rattle.lxr_c_shared.proofs.holder.Holder.wants_pause.Goals as goal

pub returns : goal.returns
returns c = at_some (Err code.NoHeap) SeesWanted c.args.self.now.held.value (Some c.lend.result.now) c.lend.result.now c.lend.result.now c.wants_pause.result c.lend.ensures.held refl c.wants_pause.ensures

use Rattle.std.proofs.Common.{refl, Some}
use Rattle.lxr_c_base.specs.declared.codes.Code.TheVariants as code
use Rattle.lxr_c_shared.specs.Sharing.{PausesHeap}
use Rattle.lxr_c_shared.proofs.HolderLemmas.{at_some}
use Rattle.lxr_c_shared.proofs.holder.Holder.pause.Goals as goal

pub returns : goal.returns
returns c = at_some code.NoHeap (PausesHeap c.args.begins) c.args.self.now.held.value (Some c.pause.new.self) c.lend.result.now c.pause.new.self c.pause.result c.lend.ensures.held refl c.pause.ensures

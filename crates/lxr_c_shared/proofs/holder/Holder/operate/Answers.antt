use Rattle.std.proofs.Common.{refl, Some}
use Rattle.lxr_c_base.specs.declared.codes.Code.TheVariants as code
use Rattle.lxr_c_shared.specs.Passing.{Operates, only}
use Rattle.lxr_c_shared.proofs.HolderLemmas.{at_some}
use Rattle.lxr_c_shared.proofs.holder.Holder.operate.Goals as goal

pub returns : goal.returns
returns c = at_some (only code.NoHeap) (Operates c.args.request) c.args.self.now.held.value (Some c.operate.new.self) c.lend.result.now c.operate.new.self c.operate.result c.lend.ensures.held refl c.operate.ensures

use Rattle.std.proofs.Common.{refl, Some}
use Rattle.lxr_c_base.specs.declared.codes.Code.TheVariants as code
use Rattle.lxr_c_shared.specs.Passing.{ComesHome}
use Rattle.lxr_c_shared.proofs.HolderLemmas.{at_some}
use Rattle.lxr_c_shared.proofs.holder.Holder.come_home.Goals as goal

pub returns : goal.returns
returns c = at_some code.NoHeap ComesHome c.args.self.now.held.value (Some c.come_home.new.self) c.lend.result.now c.come_home.new.self c.come_home.result c.lend.ensures.held refl c.come_home.ensures

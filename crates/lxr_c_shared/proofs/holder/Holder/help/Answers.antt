use Rattle.std.proofs.Common.{refl, Some}
use Rattle.std.specs.Prelude.{Err}
use Rattle.lxr_c_base.specs.declared.codes.Code.TheVariants as code
use Rattle.lxr_c_shared.specs.Passing.{HelpsBy}
use Rattle.lxr_c_shared.proofs.HolderLemmas.{at_some}
use Rattle.lxr_c_shared.proofs.holder.Holder.help.Goals as goal

pub returns : goal.returns
returns c = at_some (Err code.NoHeap) (HelpsBy c.args.units) c.args.self.now.held.value (Some c.help.new.self) c.lend.result.now c.help.new.self c.help.result c.lend.ensures.held refl c.help.ensures

use Rattle.std.proofs.Common.{refl, Some}
use Rattle.std.specs.Prelude.{Err}
use Rattle.lxr_c_base.specs.declared.codes.Code.TheVariants as code
use Rattle.lxr_c_shared.specs.Trimming.{TrimsShared}
use Rattle.lxr_c_shared.proofs.HolderLemmas.{at_some}
use Rattle.lxr_c_shared.proofs.holder.Holder.trim_next.Goals as goal

pub returns : goal.returns
returns c = at_some (Err code.NoHeap) (TrimsShared c.args.from) c.args.self.now.held.value (Some c.trim_next.new.self) c.lend.result.now c.trim_next.new.self c.trim_next.result c.lend.ensures.held refl c.trim_next.ensures

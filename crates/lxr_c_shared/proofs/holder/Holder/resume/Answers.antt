use Rattle.std.proofs.Common.{refl, Some}
use Rattle.lxr_c_base.specs.declared.codes.Code.TheVariants as code
use Rattle.lxr_c_shared.specs.Sharing.{ResumesHeap}
use Rattle.lxr_c_shared.proofs.HolderLemmas.{at_some}
use Rattle.lxr_c_shared.proofs.holder.Holder.resume.Goals as goal

pub returns : goal.returns
returns c = at_some code.NoHeap ResumesHeap c.args.self.now.held.value (Some c.resume.new.self) c.lend.result.now c.resume.new.self c.resume.result c.lend.ensures.held refl c.resume.ensures

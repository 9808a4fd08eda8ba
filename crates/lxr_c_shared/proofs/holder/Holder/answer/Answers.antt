use Rattle.std.proofs.Common.{refl, Some}
use Rattle.lxr_c_base.specs.declared.codes.Code.TheVariants as code
use Rattle.lxr_c_shared.specs.Passing.{Answers, only}
use Rattle.lxr_c_shared.proofs.HolderLemmas.{at_some}
use Rattle.lxr_c_shared.proofs.holder.Holder.answer.Goals as goal

pub returns : goal.returns
returns c = at_some (only code.NoHeap) Answers c.args.self.now.held.value (Some c.answer.new.self) c.lend.result.now c.answer.new.self c.answer.result c.lend.ensures.held refl c.answer.ensures

use Rattle.std.proofs.Common.{refl, Some}
use Rattle.lxr_c_base.specs.Codes.{code_in}
use Rattle.lxr_c_base.specs.declared.codes.Code.TheVariants as code
use Rattle.lxr_c_shared.specs.Trimming.{AsksSharedPlace}
use Rattle.lxr_c_shared.proofs.HolderLemmas.{at_some}
use Rattle.lxr_c_shared.proofs.holder.Holder.first_word.Goals as goal

pub returns : goal.returns
returns c = at_some code.NoHeap AsksSharedPlace c.args.self.now.held.value (Some c.first_word.new.self) c.lend.result.now c.first_word.new.self (code_in c.first_word.result) c.lend.ensures.held refl c.first_word.ensures

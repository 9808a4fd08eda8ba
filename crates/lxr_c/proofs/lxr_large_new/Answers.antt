use Rattle.std.proofs.Common.{◌∙◌, ap, subst}
use Rattle.lxr_c_base.specs.Requests as asking
use Rattle.lxr_c_heap.specs.Calling.{Asks}
use Rattle.lxr_c_heap.specs.Hosting.{Makes}
use Rattle.lxr_c.proofs.lxr_large_new.Goals as goal

pub returns : goal.returns
returns c = (c.make.result, subst (λ q. Asks Makes c.args.heap.now.block.value c.make.new.self.block.value q c.make.result) (c.big-request.ensures.asked ∙ ap (λ n. asking.big n c.args.dest c.args.blocks) c.registers.ensures.counted) c.make.ensures, c.answered.ensures)

use Rattle.std.proofs.Common.{◌∙◌, ap, subst}
use Rattle.lxr_c_base.specs.Requests as asking
use Rattle.lxr_c_heap.specs.Calling.{Asks}
use Rattle.lxr_c_heap.specs.Hosting.{Replies}
use Rattle.lxr_c.proofs.put_aside.Goals as goal

pub returns : goal.returns
returns c = (c.reply.result, subst (λ q. Asks Replies c.args.heap.now.block.value c.reply.new.self.block.value q c.reply.result) (c.put-request.ensures.asked ∙ ap (λ n. asking.put n c.args.base c.args.index c.args.word) c.registers.ensures.counted) c.reply.ensures, c.answered.ensures)

use Rattle.std.proofs.Common.{◌∙◌, ap, subst}
use Rattle.lxr_c_base.specs.Requests as asking
use Rattle.lxr_c_heap.specs.Calling.{Asks}
use Rattle.lxr_c_heap.specs.Hosting.{Makes}
use Rattle.lxr_c.proofs.lxr_new.Goals as goal

pub returns : goal.returns
returns c = (c.make.result, subst (λ q. Asks Makes c.args.heap.now.block.value c.make.new.self.block.value q c.make.result) (c.new-request.ensures.asked ∙ ap (λ n. asking.new n c.args.dest c.args.refs c.args.words) c.registers.ensures.counted) c.make.ensures, c.answered.ensures)

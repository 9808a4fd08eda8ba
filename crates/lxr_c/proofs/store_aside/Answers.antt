use Rattle.std.proofs.Common.{◌∙◌, ap, subst}
use Rattle.lxr_c_base.specs.Requests as asking
use Rattle.lxr_c_heap.specs.Calling.{Asks}
use Rattle.lxr_c_heap.specs.Hosting.{Stores}
use Rattle.lxr_c.proofs.store_aside.Goals as goal

pub returns : goal.returns
returns c = (c.store.result, subst (λ q. Asks Stores c.args.heap.now.block.value c.store.new.self.block.value q c.store.result) (c.set_reference-request.ensures.asked ∙ ap (λ n. asking.store n c.args.base c.args.index c.args.source) c.registers.ensures.counted) c.store.ensures, c.answered.ensures)

use Rattle.std.proofs.Common.{subst, sym}
use Rattle.lxr_c_base.specs.Requests as asking
use Rattle.lxr_c_heap.specs.Calling.{Calls}
use Rattle.lxr_c_heap.specs.Hosting.{Replies}
use Rattle.lxr_c_heap.specs.Keeping.{registers_kept}
use Rattle.lxr_c.proofs.lxr_put.Goals as goal

pub returns-then-try_put : goal.returns-then-try_put
returns-then-try_put c = let k = c.args.heap.now.block.value in
    subst (Calls Replies k c.try_put.new.self.block.value (asking.put (registers_kept k) c.args.base c.args.index c.args.word)) (sym c.number.ensures) (c.try_put.ensures.done c.if-try_put.true)

pub returns : goal.returns
returns c =
    subst (λ k. Calls Replies k c.put_aside.new.heap.block.value (asking.put (registers_kept k) c.args.base c.args.index c.args.word) c.put_aside.result) (c.try_put.ensures.unchanged c.if-try_put.false) c.put_aside.ensures

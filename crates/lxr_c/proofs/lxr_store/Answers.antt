use Rattle.std.proofs.Common.{subst, sym}
use Rattle.lxr_c_base.specs.Requests as asking
use Rattle.lxr_c_heap.specs.Calling.{Calls}
use Rattle.lxr_c_heap.specs.Hosting.{Stores}
use Rattle.lxr_c_heap.specs.Keeping.{registers_kept}
use Rattle.lxr_c.proofs.lxr_store.Goals as goal

pub returns-then-try_store : goal.returns-then-try_store
returns-then-try_store c = let k = c.args.heap.now.block.value in
    subst (Calls Stores k c.try_store.new.self.block.value (asking.store (registers_kept k) c.args.base c.args.index c.args.source)) (sym c.number.ensures) (c.try_store.ensures.done c.if-try_store.true)

pub returns : goal.returns
returns c =
    subst (λ k. Calls Stores k c.store_aside.new.heap.block.value (asking.store (registers_kept k) c.args.base c.args.index c.args.source) c.store_aside.result) (c.try_store.ensures.unchanged c.if-try_store.false) c.store_aside.ensures

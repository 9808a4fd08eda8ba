use Rattle.std.proofs.Common.{subst, sym}
use Rattle.lxr_c_base.specs.Requests as asking
use Rattle.lxr_c_heap.specs.Calling.{Calls}
use Rattle.lxr_c_heap.specs.Hosting.{Replies}
use Rattle.lxr_c_heap.specs.Keeping.{registers_kept}
use Rattle.lxr_c.proofs.lxr_load.Goals as goal

pub returns-then-try_load : goal.returns-then-try_load
returns-then-try_load c = let k = c.args.heap.now.block.value in
    subst (Calls Replies k c.try_load.new.self.block.value (asking.load (registers_kept k) c.args.dest c.args.base c.args.index)) (sym c.number.ensures) (c.try_load.ensures.done c.if-try_load.true)

pub returns : goal.returns
returns c =
    subst (λ k. Calls Replies k c.load_aside.new.heap.block.value (asking.load (registers_kept k) c.args.dest c.args.base c.args.index) c.load_aside.result) (c.try_load.ensures.unchanged c.if-try_load.false) c.load_aside.ensures

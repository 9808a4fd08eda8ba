use Rattle.std.proofs.Common.{subst}
use Rattle.lxr_c_heap.specs.Calling.{Closes}
use Rattle.lxr_c_heap.proofs.CallLemmas.{closed_to_none}
use Rattle.lxr_c_heap.proofs.handle.Handle.end.Goals as goal

pub end-requires : goal.end-requires
end-requires c = closed_to_none c.args.self.block.value c.close-code.new.self.block.value c.close-code.result c.close-code.ensures

pub returns : goal.returns
returns c =
    subst (λ k. Closes c.args.self.block.value k c.close-code.result) (closed_to_none c.args.self.block.value c.close-code.new.self.block.value c.close-code.result c.close-code.ensures) c.close-code.ensures

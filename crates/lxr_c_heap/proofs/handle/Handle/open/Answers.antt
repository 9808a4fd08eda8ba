use Rattle.std.proofs.lemmas.Bool.{iff_false}
use Rattle.lxr_c_heap.proofs.CallLemmas.{opens_anew}
use Rattle.lxr_c_heap.proofs.handle.Handle.open.Goals as goal

pub returns : goal.returns
returns c = opens_anew c.args.self.now.block.value c.fill.new.self.block.value c.args.wanted.now c.fill.result (iff_false c.has_heap.ensures c.if-has_heap.false) c.fill.ensures

use Rattle.std.proofs.Common.{◌∙◌, ap}
use Rattle.lxr_c_heap.specs.Keeping.{kept_of}
use Rattle.lxr_c_heap.proofs.CallLemmas.{closes_none, closes_some}
use Rattle.lxr_c_heap.proofs.handle.Handle.close.Goals as goal

pub returns-in-None : goal.returns-in-None
returns-in-None c = closes_none c.args.self.now.block.value c.take.new.self.block.value (c.take.ensures.found ∙ ap kept_of c.in-None.is) c.take.ensures.emptied

pub returns-in-Some : goal.returns-in-Some
returns-in-Some c = closes_some c.args.self.now.block.value c.take.new.self.block.value c.in-Some.heap.value (c.take.ensures.found ∙ ap kept_of c.in-Some.is) c.take.ensures.emptied

use Rattle.std.proofs.Common.{◌∙◌, refl, Some}
use Rattle.lxr_c_heap.specs.Looking.{SeesReply}
use Rattle.lxr_c_heap.proofs.RegisterLemmas.{still_counted}
use Rattle.lxr_c_heap.proofs.CallLemmas.{looks_seen}
use Rattle.lxr_c_heap.proofs.handle.Handle.see.Goals as goal

pub invariant_of-self-clause-counted : goal.invariant_of-self-clause-counted
invariant_of-self-clause-counted c =
    still_counted c.args.self.now.block.value c.lend.result.now c.lend.result.now _ c.args.self.now.counted c.lend.ensures.heap refl

pub invariant_of-self-clause-serving : goal.invariant_of-self-clause-serving
invariant_of-self-clause-serving c = λ x is. c.args.self.now.serving x (c.lend.ensures.heap ∙ is)

pub returns : goal.returns
returns c = looks_seen SeesReply c.args.self.now.block.value (Some c.lend.result.now) c.lend.result.now c.args.request c.in_ok-op.op c.see.result c.lend.ensures.heap refl c.in_ok-op.was c.see.ensures

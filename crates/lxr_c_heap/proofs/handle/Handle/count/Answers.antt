use Rattle.std.proofs.Common.{◌∙◌, refl, sym, Some}
use Rattle.lxr_c_heap.specs.Looking.{Counts, counted_by}
use Rattle.lxr_c_heap.proofs.RegisterLemmas.{still_counted}
use Rattle.lxr_c_heap.proofs.CallLemmas.{looks_seen}
use Rattle.lxr_c_heap.proofs.handle.Handle.count.Goals as goal

pub invariant_of-self-clause-counted : goal.invariant_of-self-clause-counted
invariant_of-self-clause-counted c =
    still_counted c.args.self.now.block.value c.lend.result.now c.lend.result.now _ c.args.self.now.counted c.lend.ensures.heap refl

pub invariant_of-self-clause-serving : goal.invariant_of-self-clause-serving
invariant_of-self-clause-serving c = λ x is. c.args.self.now.serving x (c.lend.ensures.heap ∙ is)

pub returns : goal.returns
returns c =
    looks_seen Counts c.args.self.now.block.value (Some c.lend.result.now) c.lend.result.now (counted_by c.args.what) c.in_ok-what.what c.count.result c.lend.ensures.heap refl (sym c.counted_by.ensures ∙ c.in_ok-what.was) c.count.ensures

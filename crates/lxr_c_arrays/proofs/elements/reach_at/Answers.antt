use Rattle.std.proofs.Common.{subst}
use Rattle.std.proofs.lemmas.Option.{same_Some}
use Rattle.lxr_c_heap.specs.Hosting.{IsServing}
use Rattle.lxr_c_heap.proofs.RegisterLemmas.{still_counted}
use Rattle.lxr_c_arrays.proofs.elements.reach_at.Goals as goal

pub reach-requires-clause-serving : goal.reach-requires-clause-serving
reach-requires-clause-serving c = c.args.handle.now.serving c.lend.result.now c.lend.ensures.heap

pub invariant_of-handle-clause-counted : goal.invariant_of-handle-clause-counted
invariant_of-handle-clause-counted c = still_counted c.args.handle.now.block.value c.lend.result.now c.reach.new.heap _ c.args.handle.now.counted c.lend.ensures.heap c.reach.ensures.registers

pub invariant_of-handle-clause-serving : goal.invariant_of-handle-clause-serving
invariant_of-handle-clause-serving c = λ x is. subst IsServing (same_Some c.reach.new.heap x is) c.reach.ensures.serving

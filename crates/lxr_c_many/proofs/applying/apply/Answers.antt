use Rattle.std.proofs.Common.{subst}
use Rattle.std.proofs.lemmas.Option.{same_Some}
use Rattle.lxr_c_heap.specs.Hosting.{IsServing}
use Rattle.lxr_c_heap.proofs.RegisterLemmas.{still_counted}
use Rattle.lxr_c_many.proofs.applying.apply.Goals as goal

pub perform_all-requires-clause-serving : goal.perform_all-requires-clause-serving
perform_all-requires-clause-serving c = c.args.handle.now.serving c.lend.result.now c.lend.ensures.heap

pub invariant_of-handle-clause-counted : goal.invariant_of-handle-clause-counted
invariant_of-handle-clause-counted c = still_counted c.args.handle.now.block.value c.lend.result.now c.perform_all.new.heap _ c.args.handle.now.counted c.lend.ensures.heap c.perform_all.ensures.registers

pub invariant_of-handle-clause-serving : goal.invariant_of-handle-clause-serving
invariant_of-handle-clause-serving c = λ x is. subst IsServing (same_Some c.perform_all.new.heap x is) c.perform_all.ensures.serving

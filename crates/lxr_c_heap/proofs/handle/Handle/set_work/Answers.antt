use Rattle.std.proofs.Common.{refl, Some, subst}
use Rattle.std.proofs.lemmas.Option.{same_Some}
use Rattle.lxr_c_heap.specs.Calling.{SetsWork}
use Rattle.lxr_c_heap.specs.Hosting.{IsServing}
use Rattle.lxr_c_heap.proofs.RegisterLemmas.{work_keeps, still_counted}
use Rattle.lxr_c_heap.proofs.CallLemmas.{sets_some}
use Rattle.lxr_c_heap.proofs.handle.Handle.set_work.Goals as goal

pub set_work-requires : goal.set_work-requires
set_work-requires c = record { serving = c.args.self.now.serving c.lend.result.now c.lend.ensures.heap }

pub invariant_of-self-clause-counted : goal.invariant_of-self-clause-counted
invariant_of-self-clause-counted c =
    let x = c.lend.result.now in
    still_counted c.args.self.now.block.value x c.set_work.new.self _ c.args.self.now.counted c.lend.ensures.heap (work_keeps c.args.units x c.set_work.new.self c.set_work.result c.set_work.ensures.set)

pub invariant_of-self-clause-serving : goal.invariant_of-self-clause-serving
invariant_of-self-clause-serving c = λ x is. subst IsServing (same_Some c.set_work.new.self x is) c.set_work.ensures.serving

pub returns : goal.returns
returns c = sets_some c.args.self.now.block.value (Some c.set_work.new.self) (SetsWork c.args.units) c.lend.result.now c.set_work.new.self c.set_work.result c.lend.ensures.heap refl c.set_work.ensures.set

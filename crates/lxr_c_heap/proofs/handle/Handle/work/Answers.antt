use Rattle.std.proofs.Common.{refl, Some, subst}
use Rattle.std.proofs.lemmas.Option.{same_Some}
use Rattle.lxr_c_heap.specs.Hosting.{IsServing}
use Rattle.lxr_c_heap.proofs.RegisterLemmas.{sliced_keeps, known, still_counted}
use Rattle.lxr_c_heap.proofs.CallLemmas.{works_done}
use Rattle.lxr_c_heap.proofs.handle.Handle.work.Goals as goal

pub work_asked-requires : goal.work_asked-requires
work_asked-requires c = record { serving = c.args.self.now.serving c.lend.result.now c.lend.ensures.heap }

pub invariant_of-self-clause-counted : goal.invariant_of-self-clause-counted
invariant_of-self-clause-counted c =
    let x = c.lend.result.now in
    still_counted c.args.self.now.block.value x c.work_asked.new.self _ c.args.self.now.counted c.lend.ensures.heap (known x _ _ (c.args.self.now.serving x c.lend.ensures.heap).holds (λ h is. sliced_keeps x c.work_asked.new.self h c.args.units c.work_asked.result (c.work_asked.ensures.works h is)))

pub invariant_of-self-clause-serving : goal.invariant_of-self-clause-serving
invariant_of-self-clause-serving c = λ x is. subst IsServing (same_Some c.work_asked.new.self x is) c.work_asked.ensures.serving

pub returns : goal.returns
returns c = works_done c.args.self.now.block.value (Some c.work_asked.new.self) c.lend.result.now c.work_asked.new.self c.args.units c.work_asked.result c.lend.ensures.heap refl c.work_asked.ensures.works

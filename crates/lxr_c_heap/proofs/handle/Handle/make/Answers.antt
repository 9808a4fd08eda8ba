use Rattle.std.proofs.Common.{refl, Some, subst}
use Rattle.std.proofs.lemmas.Option.{same_Some}
use Rattle.std.specs.Prelude.{IfOk}
use Rattle.lxr_c_base.specs.Requests.{IsMaking}
use Rattle.lxr_c_heap.specs.Keeping.{registers_kept}
use Rattle.lxr_c_heap.specs.Hosting.{IsServing, Makes, all_registers_in, registers_in}
use Rattle.lxr_c_heap.proofs.OperationLemmas.{making_more}
use Rattle.lxr_c_heap.proofs.RegisterLemmas.{known, named_few, made_keeps, still_counted}
use Rattle.lxr_c_heap.proofs.CallLemmas.{asks_done}
use Rattle.lxr_c_heap.proofs.handle.Handle.make.Goals as goal

pub make-requires-clause-serving : goal.make-requires-clause-serving
make-requires-clause-serving c = c.args.self.now.serving c.lend.result.now c.lend.ensures.heap

pub make-requires-clause-op : goal.make-requires-clause-op
make-requires-clause-op c =
    let x = c.lend.result.now in
    making_more (registers_in x) (all_registers_in x) c.in_ok-op.op (named_few x (c.args.self.now.serving x c.lend.ensures.heap).holds)
    (subst (λ k. IsMaking (registers_kept k) c.in_ok-op.op) c.lend.ensures.heap (subst (λ q. IfOk q (IsMaking (registers_kept c.args.self.now.block.value))) c.in_ok-op.was c.requires))

pub invariant_of-self-clause-counted : goal.invariant_of-self-clause-counted
invariant_of-self-clause-counted c =
    let x = c.lend.result.now in
    still_counted c.args.self.now.block.value x c.make.new.self _ c.args.self.now.counted c.lend.ensures.heap (known x _ _ (c.args.self.now.serving x c.lend.ensures.heap).holds (λ h is. made_keeps x c.make.new.self h c.in_ok-op.op c.make.result (c.make.ensures.makes h is)))

pub invariant_of-self-clause-serving : goal.invariant_of-self-clause-serving
invariant_of-self-clause-serving c = λ x is. subst IsServing (same_Some c.make.new.self x is) c.make.ensures.serving

pub returns : goal.returns
returns c =
    asks_done Makes c.args.self.now.block.value (Some c.make.new.self) c.lend.result.now c.make.new.self c.args.request c.in_ok-op.op c.make.result c.lend.ensures.heap refl c.in_ok-op.was c.make.ensures.makes

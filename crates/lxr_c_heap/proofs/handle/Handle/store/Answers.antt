use Rattle.std.proofs.Common.{refl, Some, subst}
use Rattle.std.proofs.lemmas.Option.{same_Some}
use Rattle.std.specs.Prelude.{IfOk}
use Rattle.lxr_c_base.specs.Requests.{IsStoring}
use Rattle.lxr_c_heap.specs.Keeping.{registers_kept}
use Rattle.lxr_c_heap.specs.Hosting.{IsServing, Stores, all_registers_in, registers_in}
use Rattle.lxr_c_heap.proofs.OperationLemmas.{storing_more}
use Rattle.lxr_c_heap.proofs.RegisterLemmas.{known, named_few, still_counted, stored_keeps}
use Rattle.lxr_c_heap.proofs.CallLemmas.{asks_done}
use Rattle.lxr_c_heap.proofs.handle.Handle.store.Goals as goal

pub store-requires-clause-serving : goal.store-requires-clause-serving
store-requires-clause-serving c = c.args.self.now.serving c.lend.result.now c.lend.ensures.heap

pub store-requires-clause-op : goal.store-requires-clause-op
store-requires-clause-op c =
    let x = c.lend.result.now in
    storing_more (registers_in x) (all_registers_in x) c.in_ok-op.op (named_few x (c.args.self.now.serving x c.lend.ensures.heap).holds)
    (subst (λ k. IsStoring (registers_kept k) c.in_ok-op.op) c.lend.ensures.heap (subst (λ q. IfOk q (IsStoring (registers_kept c.args.self.now.block.value))) c.in_ok-op.was c.requires))

pub invariant_of-self-clause-counted : goal.invariant_of-self-clause-counted
invariant_of-self-clause-counted c =
    let x = c.lend.result.now in
    still_counted c.args.self.now.block.value x c.store.new.self _ c.args.self.now.counted c.lend.ensures.heap (known x _ _ (c.args.self.now.serving x c.lend.ensures.heap).holds (λ h is. stored_keeps x c.store.new.self h c.in_ok-op.op c.store.result (c.store.ensures.stores h is)))

pub invariant_of-self-clause-serving : goal.invariant_of-self-clause-serving
invariant_of-self-clause-serving c = λ x is. subst IsServing (same_Some c.store.new.self x is) c.store.ensures.serving

pub returns : goal.returns
returns c =
    asks_done Stores c.args.self.now.block.value (Some c.store.new.self) c.lend.result.now c.store.new.self c.args.request c.in_ok-op.op c.store.result c.lend.ensures.heap refl c.in_ok-op.was c.store.ensures.stores

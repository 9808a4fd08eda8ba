use Rattle.std.proofs.Common.{◌∙◌, ap, arith, refl, sym, Some, subst}
use Rattle.std.proofs.lemmas.Option.{same_Some}
use Rattle.std.specs.Prelude.{IsTrue}
use Rattle.lxr_c_heap.specs.Keeping.{registers_kept}
use Rattle.lxr_c_heap.specs.Hosting.{IsServing}
use Rattle.lxr_c_heap.proofs.RegisterLemmas.{still_counted}
use Rattle.lxr_c_many.specs.Calling.{StoresReferences}
use Rattle.lxr_c_many.specs.Fields.{are_registers, base_of_stores}
use Rattle.lxr_c_many.proofs.CallLemmas.{does_done}
use Rattle.lxr_c_many.proofs.references.store_many.Goals as goal

pub store-requires-clause-serving : goal.store-requires-clause-serving
store-requires-clause-serving c = c.args.handle.now.serving c.lend.result.now c.lend.ensures.heap

pub store-requires-clause-base : goal.store-requires-clause-base
store-requires-clause-base c =
    let small = c.in_ok-base.ensures.small in
    let same = c.registers.ensures.counted ∙ ap registers_kept c.lend.ensures.heap in
    omega (arith, small, same)

pub store-requires-clause-sources : goal.store-requires-clause-sources
store-requires-clause-sources c =
    subst (λ n. IsTrue (are_registers n c.args.sources.now)) (c.registers.ensures.counted ∙ ap registers_kept c.lend.ensures.heap) c.in_ok-base.ensures.sources

pub invariant_of-handle-clause-counted : goal.invariant_of-handle-clause-counted
invariant_of-handle-clause-counted c = still_counted c.args.handle.now.block.value c.lend.result.now c.store.new.heap _ c.args.handle.now.counted c.lend.ensures.heap c.store.ensures.registers

pub invariant_of-handle-clause-serving : goal.invariant_of-handle-clause-serving
invariant_of-handle-clause-serving c = λ x is. subst IsServing (same_Some c.store.new.heap x is) c.store.ensures.serving

pub returns : goal.returns
returns c =
    does_done (StoresReferences c.args.first c.args.sources.now) c.args.handle.now.block.value (Some c.store.new.heap) c.lend.result.now c.store.new.heap (base_of_stores (registers_kept c.args.handle.now.block.value) c.args.base c.args.sources.now) c.in_ok-base.base c.store.result
    c.lend.ensures.heap refl (sym (ap (λ n. base_of_stores n c.args.base c.args.sources.now) c.registers.ensures.counted) ∙ sym c.base_of_stores.ensures.base ∙ c.in_ok-base.was) (λ h is. c.store.ensures.stores h is)

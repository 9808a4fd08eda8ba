use Rattle.std.proofs.Common.{◌∙◌, ap, arith, refl, sym, Some, subst}
use Rattle.std.proofs.lemmas.Option.{same_Some}
use Rattle.std.specs.Prelude.{IsTrue}
use Rattle.lxr_c_heap.specs.Keeping.{registers_kept}
use Rattle.lxr_c_heap.specs.Hosting.{IsServing}
use Rattle.lxr_c_heap.proofs.RegisterLemmas.{still_counted}
use Rattle.lxr_c_many.specs.Calling.{LoadsReferences}
use Rattle.lxr_c_many.specs.Fields.{are_registers, base_of_loads}
use Rattle.lxr_c_many.proofs.CallLemmas.{does_done}
use Rattle.lxr_c_many.proofs.references.load_many.Goals as goal

pub load-requires-clause-serving : goal.load-requires-clause-serving
load-requires-clause-serving c = c.args.handle.now.serving c.lend.result.now c.lend.ensures.heap

pub load-requires-clause-base : goal.load-requires-clause-base
load-requires-clause-base c =
    let small = c.in_ok-base.ensures.small in
    let same = c.registers.ensures.counted ∙ ap registers_kept c.lend.ensures.heap in
    omega (arith, small, same)

pub load-requires-clause-targets : goal.load-requires-clause-targets
load-requires-clause-targets c =
    subst (λ n. IsTrue (are_registers n c.args.targets.now)) (c.registers.ensures.counted ∙ ap registers_kept c.lend.ensures.heap) c.in_ok-base.ensures.targets

pub invariant_of-handle-clause-counted : goal.invariant_of-handle-clause-counted
invariant_of-handle-clause-counted c = still_counted c.args.handle.now.block.value c.lend.result.now c.load.new.heap _ c.args.handle.now.counted c.lend.ensures.heap c.load.ensures.registers

pub invariant_of-handle-clause-serving : goal.invariant_of-handle-clause-serving
invariant_of-handle-clause-serving c = λ x is. subst IsServing (same_Some c.load.new.heap x is) c.load.ensures.serving

pub returns : goal.returns
returns c =
    does_done (LoadsReferences c.args.first c.args.targets.now) c.args.handle.now.block.value (Some c.load.new.heap) c.lend.result.now c.load.new.heap (base_of_loads (registers_kept c.args.handle.now.block.value) c.args.base c.args.targets.now) c.in_ok-base.base c.load.result
    c.lend.ensures.heap refl (sym (ap (λ n. base_of_loads n c.args.base c.args.targets.now) c.registers.ensures.counted) ∙ sym c.base_of_loads.ensures.base ∙ c.in_ok-base.was) (λ h is. c.load.ensures.loads h is.heap)

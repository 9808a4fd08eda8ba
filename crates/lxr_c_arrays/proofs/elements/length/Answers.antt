use Rattle.std.proofs.Common.{◌∙◌, ap, refl, sym, Some}
use Rattle.lxr_c_base.specs.Requests.{register_of}
use Rattle.lxr_c_heap.specs.Keeping.{registers_kept}
use Rattle.lxr_c_heap.proofs.CallLemmas.{looks_seen}
use Rattle.lxr_c_heap.proofs.RegisterLemmas.{still_counted}
use Rattle.lxr_c_arrays.specs.Plans.{SeesLength}
use Rattle.lxr_c_arrays.proofs.elements.length.Goals as goal

pub invariant_of-handle-clause-counted : goal.invariant_of-handle-clause-counted
invariant_of-handle-clause-counted c = still_counted c.args.handle.now.block.value c.lend.result.now c.lend.result.now _ c.args.handle.now.counted c.lend.ensures.heap refl

pub invariant_of-handle-clause-serving : goal.invariant_of-handle-clause-serving
invariant_of-handle-clause-serving c = λ x is. c.args.handle.now.serving x (c.lend.ensures.heap ∙ is)

pub returns : goal.returns
returns c =
    looks_seen SeesLength c.args.handle.now.block.value (Some c.lend.result.now) c.lend.result.now (register_of (registers_kept c.args.handle.now.block.value) c.args.base) c.in_ok-base.base c.array_length.result
    c.lend.ensures.heap refl (sym (ap (λ n. register_of n c.args.base) c.registers.ensures.counted) ∙ sym c.register_of.ensures.asked ∙ c.in_ok-base.was) c.array_length.ensures

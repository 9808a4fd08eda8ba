use Rattle.std.proofs.Common.{◌∙◌, ap, arith, refl, sym, Some, subst}
use Rattle.std.proofs.lemmas.Option.{same_Some}
use Rattle.lxr_c_base.specs.Requests.{in_use_of}
use Rattle.lxr_c_heap.specs.Hosting.{IsServing}
use Rattle.lxr_c_heap.specs.Keeping.{registers_kept}
use Rattle.lxr_c_heap.proofs.RegisterLemmas.{still_counted}
use Rattle.lxr_c_many.specs.Clearing.{LetsGo}
use Rattle.lxr_c_many.proofs.CallLemmas.{does_done}
use Rattle.lxr_c_many.proofs.clearing.registers_in_use.Goals as goal

pub clear_from-requires-clause-serving : goal.clear_from-requires-clause-serving
clear_from-requires-clause-serving c = c.args.handle.now.serving c.lend.result.now c.lend.ensures.heap

pub clear_from-requires-clause-first : goal.clear_from-requires-clause-first
clear_from-requires-clause-first c =
    let few = c.in_ok-count.ensures.few in
    let same = c.registers.ensures.counted ∙ ap registers_kept c.lend.ensures.heap in
    omega (arith, few, same)

pub invariant_of-handle-clause-counted : goal.invariant_of-handle-clause-counted
invariant_of-handle-clause-counted c = still_counted c.args.handle.now.block.value c.lend.result.now c.clear_from.new.heap _ c.args.handle.now.counted c.lend.ensures.heap c.clear_from.ensures.registers

pub invariant_of-handle-clause-serving : goal.invariant_of-handle-clause-serving
invariant_of-handle-clause-serving c = λ x is. subst IsServing (same_Some c.clear_from.new.heap x is) c.clear_from.ensures.serving

pub returns : goal.returns
returns c =
    does_done LetsGo c.args.handle.now.block.value (Some c.clear_from.new.heap) c.lend.result.now c.clear_from.new.heap (in_use_of (registers_kept c.args.handle.now.block.value) c.args.count) c.in_ok-count.count tt
    c.lend.ensures.heap refl (sym (ap (λ n. in_use_of n c.args.count) c.registers.ensures.counted) ∙ sym c.in_use_of.ensures.asked ∙ c.in_ok-count.was) (λ h is. c.clear_from.ensures.follows h is.heap)

use Rattle.std.proofs.Common.{◌∙◌, ap, refl, sym, Some, subst}
use Rattle.std.proofs.lemmas.Option.{same_Some}
use Rattle.lxr_c_heap.specs.Hosting.{IsServing}
use Rattle.lxr_c_heap.specs.Keeping.{registers_kept}
use Rattle.lxr_c_heap.proofs.RegisterLemmas.{still_counted}
use Rattle.lxr_c_many.proofs.CallLemmas.{does_done}
use Rattle.lxr_c_arrays.specs.Plans.{CopiesElements, IsPair, pair_of}
use Rattle.lxr_c_arrays.proofs.copying.copy.Goals as goal

pub copy_range-requires-clause-serving : goal.copy_range-requires-clause-serving
copy_range-requires-clause-serving c = c.args.handle.now.serving c.lend.result.now c.lend.ensures.heap

pub copy_range-requires-clause-pair : goal.copy_range-requires-clause-pair
copy_range-requires-clause-pair c = subst (λ n. IsPair n c.in_ok-pair.pair) (c.registers.ensures.counted ∙ ap registers_kept c.lend.ensures.heap) c.in_ok-pair.ensures.named

pub invariant_of-handle-clause-counted : goal.invariant_of-handle-clause-counted
invariant_of-handle-clause-counted c = still_counted c.args.handle.now.block.value c.lend.result.now c.copy_range.new.heap _ c.args.handle.now.counted c.lend.ensures.heap c.copy_range.ensures.registers

pub invariant_of-handle-clause-serving : goal.invariant_of-handle-clause-serving
invariant_of-handle-clause-serving c = λ x is. subst IsServing (same_Some c.copy_range.new.heap x is) c.copy_range.ensures.serving

pub returns : goal.returns
returns c =
    does_done (CopiesElements c.args.at c.args.first c.args.count) c.args.handle.now.block.value (Some c.copy_range.new.heap) c.lend.result.now c.copy_range.new.heap (pair_of (registers_kept c.args.handle.now.block.value) c.args.to c.args.from) c.in_ok-pair.pair c.copy_range.result
    c.lend.ensures.heap refl (sym (ap (λ n. pair_of n c.args.to c.args.from) c.registers.ensures.counted) ∙ sym c.pair_of.ensures.asked ∙ c.in_ok-pair.was) c.copy_range.ensures.copies

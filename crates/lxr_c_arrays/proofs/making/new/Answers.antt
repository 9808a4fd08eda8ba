use Rattle.std.proofs.Common.{◌∙◌, ap, refl, sym, Some, subst}
use Rattle.std.proofs.lemmas.Option.{same_Some}
use Rattle.lxr_c_heap.specs.Hosting.{IsServing}
use Rattle.lxr_c_heap.specs.Keeping.{registers_kept}
use Rattle.lxr_c_heap.proofs.RegisterLemmas.{still_counted}
use Rattle.lxr_c_many.proofs.CallLemmas.{does_done}
use Rattle.lxr_c_arrays.specs.Plans.{IsNewArray, MakesArray, new_array}
use Rattle.lxr_c_arrays.proofs.making.new.Goals as goal

pub make-requires-clause-serving : goal.make-requires-clause-serving
make-requires-clause-serving c = c.args.handle.now.serving c.lend.result.now c.lend.ensures.heap

pub make-requires-clause-wanted : goal.make-requires-clause-wanted
make-requires-clause-wanted c = subst (λ n. IsNewArray n c.in_ok-wanted.wanted) (c.registers.ensures.counted ∙ ap registers_kept c.lend.ensures.heap) c.in_ok-wanted.ensures.fits

pub invariant_of-handle-clause-counted : goal.invariant_of-handle-clause-counted
invariant_of-handle-clause-counted c = still_counted c.args.handle.now.block.value c.lend.result.now c.make.new.heap _ c.args.handle.now.counted c.lend.ensures.heap c.make.ensures.registers

pub invariant_of-handle-clause-serving : goal.invariant_of-handle-clause-serving
invariant_of-handle-clause-serving c = λ x is. subst IsServing (same_Some c.make.new.heap x is) c.make.ensures.serving

pub returns : goal.returns
returns c =
    does_done (MakesArray) c.args.handle.now.block.value (Some c.make.new.heap) c.lend.result.now c.make.new.heap (new_array (registers_kept c.args.handle.now.block.value) c.args.dest c.args.length) c.in_ok-wanted.wanted c.make.result
    c.lend.ensures.heap refl (sym (ap (λ n. new_array n c.args.dest c.args.length) c.registers.ensures.counted) ∙ sym c.new_array.ensures.wanted ∙ c.in_ok-wanted.was) c.make.ensures.makes

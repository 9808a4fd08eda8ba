use Rattle.std.proofs.Common.{◌∙◌, ap, arith, refl, sym, Some, subst}
use Rattle.std.proofs.lemmas.Option.{same_Some}
use Rattle.lxr_c_base.specs.Requests.{register_of}
use Rattle.lxr_c_heap.specs.Keeping.{registers_kept}
use Rattle.lxr_c_heap.specs.Hosting.{IsServing}
use Rattle.lxr_c_heap.proofs.RegisterLemmas.{still_counted}
use Rattle.lxr_c_many.proofs.CallLemmas.{does_done}
use Rattle.lxr_c_words.specs.Writing.{Writes}
use Rattle.lxr_c_words.proofs.writing.write.Goals as goal

pub write_words-requires-clause-serving : goal.write_words-requires-clause-serving
write_words-requires-clause-serving c = c.args.handle.now.serving c.lend.result.now c.lend.ensures.heap

pub write_words-requires-clause-base : goal.write_words-requires-clause-base
write_words-requires-clause-base c =
    let small = c.in_ok-base.ensures.named in
    let same = c.registers.ensures.counted ∙ ap registers_kept c.lend.ensures.heap in
    omega (arith, small, same)

pub invariant_of-handle-clause-counted : goal.invariant_of-handle-clause-counted
invariant_of-handle-clause-counted c = still_counted c.args.handle.now.block.value c.lend.result.now c.write_words.new.heap _ c.args.handle.now.counted c.lend.ensures.heap c.write_words.ensures.registers

pub invariant_of-handle-clause-serving : goal.invariant_of-handle-clause-serving
invariant_of-handle-clause-serving c = λ x is. subst IsServing (same_Some c.write_words.new.heap x is) c.write_words.ensures.serving

pub returns : goal.returns
returns c =
    does_done (Writes c.args.first c.args.words.now) c.args.handle.now.block.value (Some c.write_words.new.heap) c.lend.result.now c.write_words.new.heap (register_of (registers_kept c.args.handle.now.block.value) c.args.base) c.in_ok-base.base c.write_words.result
    c.lend.ensures.heap refl (sym (ap (λ n. register_of n c.args.base) c.registers.ensures.counted) ∙ sym c.register_of.ensures.asked ∙ c.in_ok-base.was) (λ h is. c.write_words.ensures.writes h is.heap)

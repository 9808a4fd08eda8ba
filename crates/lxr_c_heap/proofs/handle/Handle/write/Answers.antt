use Rattle.std.proofs.Common.{◌∙◌, ap, arith, refl, sym, Some, subst}
use Rattle.std.proofs.lemmas.Option.{same_Some}
use Rattle.lxr_c_base.specs.Requests.{register_of}
use Rattle.lxr_c_heap.specs.Keeping.{registers_kept}
use Rattle.lxr_c_heap.specs.Hosting.{IsServing, registers_in}
use Rattle.lxr_c_heap.proofs.RegisterLemmas.{named_few, still_counted}
use Rattle.lxr_c_heap.proofs.CallLemmas.{writes_done}
use Rattle.lxr_c_heap.proofs.handle.Handle.write.Goals as goal

pub write-requires-clause-serving : goal.write-requires-clause-serving
write-requires-clause-serving c = c.args.self.now.serving c.lend.result.now c.lend.ensures.heap

pub write-requires-clause-base : goal.write-requires-clause-base
write-requires-clause-base c =
    let named = c.in_ok-base.ensures.named in
    let same = c.registers.ensures.counted ∙ ap registers_kept c.lend.ensures.heap in
    let few = named_few c.lend.result.now (c.args.self.now.serving c.lend.result.now c.lend.ensures.heap).holds in
    omega (arith, named, same, few)

pub invariant_of-self-clause-counted : goal.invariant_of-self-clause-counted
invariant_of-self-clause-counted c =
    let x = c.lend.result.now in
    still_counted c.args.self.now.block.value x c.write.new.self _ c.args.self.now.counted c.lend.ensures.heap (ap registers_in c.write.ensures.rest)

pub invariant_of-self-clause-serving : goal.invariant_of-self-clause-serving
invariant_of-self-clause-serving c = λ x is. subst IsServing (same_Some c.write.new.self x is) c.write.ensures.serving

pub returns : goal.returns
returns c =
    writes_done c.args.self.now.block.value (Some c.write.new.self) c.args.index c.args.from.now c.lend.result.now c.write.new.self (register_of (registers_kept c.args.self.now.block.value) c.args.base) c.in_ok-base.base c.write.result
    c.lend.ensures.heap refl (sym (ap (λ n. register_of n c.args.base) c.registers.ensures.counted) ∙ sym c.register_of.ensures.asked ∙ c.in_ok-base.was) c.write.ensures.rest c.write.ensures.writes

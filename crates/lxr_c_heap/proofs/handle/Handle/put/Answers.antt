use Rattle.std.proofs.Common.{◌≡◌, ◌∙◌, ap, arith, sym, subst}
use Rattle.std.proofs.lemmas.Option.{same_Some}
use Rattle.lxr_c_heap.specs.Hosting.{IsServing, registers_in}
use Rattle.lxr_c_heap.proofs.RegisterLemmas.{few_registers, some_registers}
use Rattle.lxr_c_heap.proofs.handle.Handle.put.Goals as goal

pub invariant_of-full-clause-empty : goal.invariant_of-full-clause-empty
invariant_of-full-clause-empty c = λ none.
    let there : c.deref.result.now ≡ c.args.heap.value = cc in
    let same = ap registers_in there in
    let some = some_registers c.args.heap.value c.requires.serving.holds in
    absurd (omega (arith, some, same, none))

pub invariant_of-full-clause-few : goal.invariant_of-full-clause-few
invariant_of-full-clause-few c =
    let there : c.deref.result.now ≡ c.args.heap.value = cc in
    let same = ap registers_in there in
    let few = few_registers c.args.heap.value c.requires.serving.holds in
    omega (arith, few, same)

pub invariant_of-full-clause-serving : goal.invariant_of-full-clause-serving
invariant_of-full-clause-serving c = λ x is. subst IsServing (sym c.of.ensures ∙ same_Some c.of.result.value x (sym c.of_parts.ensures ∙ is)) c.requires.serving

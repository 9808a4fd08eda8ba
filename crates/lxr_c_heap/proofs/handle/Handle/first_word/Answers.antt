use Rattle.std.proofs.Common.{◌∙◌, Some, refl, subst, sym}
use Rattle.lxr_c_base.specs.Codes.{code_in}
use Rattle.lxr_c_heap.specs.Trimming.{AsksPlace}
use Rattle.lxr_c_heap.proofs.RegisterLemmas.{still_counted}
use Rattle.lxr_c_heap.proofs.handle.Handle.first_word.Goals as goal

pub invariant_of-self-clause-counted : goal.invariant_of-self-clause-counted
invariant_of-self-clause-counted c =
    still_counted c.args.self.now.block.value c.lend.result.now c.lend.result.now _ c.args.self.now.counted c.lend.ensures.heap refl

pub invariant_of-self-clause-serving : goal.invariant_of-self-clause-serving
invariant_of-self-clause-serving c = λ x is. c.args.self.now.serving x (c.lend.ensures.heap ∙ is)

pub returns : goal.returns
returns c = subst (λ kept. AsksPlace kept (Some c.lend.result.now) (code_in c.first_word.result)) (sym c.lend.ensures.heap) (c.first_word.ensures, refl)

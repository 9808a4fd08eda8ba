use Rattle.std.proofs.Common.{sym}
use Rattle.lxr_c_heap.specs.Hosting.{all_registers_in, registers_in}
use Rattle.lxr_c_heap.proofs.RegisterLemmas.{few_registers, named_few}
use Rattle.lxr_c_many.proofs.ApplyLemmas.{asked_more}
use Rattle.lxr_c_many.proofs.entries.perform_aside.Goals as goal

pub asked_of-requires : goal.asked_of-requires
asked_of-requires c = few_registers c.args.heap.now c.requires.serving.holds

pub perform-requires-clause-asked : goal.perform-requires-clause-asked
perform-requires-clause-asked c =
    let x = c.args.heap.now in
    asked_more (registers_in x) (all_registers_in x) c.in-Ok.asked (named_few x c.requires.serving.holds) c.in-Ok.ensures.may

pub returns-clause-performs : goal.returns-clause-performs
returns-clause-performs c = (
  c.perform.result,
  c.tell.ensures.code,
  c.tell.ensures.told,
  λ h is. let done = c.perform.ensures.performs h is in (done.0, (c.in-Ok.asked, sym c.in-Ok.ensures.asked, done.1)),
)

use Rattle.std.proofs.Common.{◌≡◌, ap, Some, subst}
use Rattle.std.proofs.lemmas.Option.{same_Some}
use Rattle.lxr_c_heap.specs.Hosting.{IsServing, registers_in}
use Rattle.lxr_c_heap.specs.Working.{with_pace}
use Rattle.lxr_c_heap.proofs.RegisterLemmas.{still_counted}
use Rattle.lxr_c_heap.proofs.CallLemmas.{sets_done}
use Rattle.lxr_c_heap.proofs.handle.Handle.set_pace.Goals as goal

pub set_pace-requires : goal.set_pace-requires
set_pace-requires c = record { serving = c.args.self.now.serving c.lend.result.now c.lend.ensures.heap }

pub invariant_of-self-clause-counted : goal.invariant_of-self-clause-counted
invariant_of-self-clause-counted c =
    still_counted c.args.self.now.block.value c.lend.result.now c.set_pace.new.self _ c.args.self.now.counted c.lend.ensures.heap (ap registers_in c.set_pace.ensures.set)

pub invariant_of-self-clause-serving : goal.invariant_of-self-clause-serving
invariant_of-self-clause-serving c = λ x is. subst IsServing (same_Some c.set_pace.new.self x is) c.set_pace.ensures.serving

pub returns : goal.returns
returns c =
    let x = c.lend.result.now in
    let set = subst (λ p. c.set_pace.new.self ≡ with_pace p x) c.of.ensures c.set_pace.ensures.set in
    sets_done c.args.self.now.block.value (Some c.set_pace.new.self) x c.args.bytes c.lend.ensures.heap (ap Some set)

use Rattle.std.proofs.Common.{arith, subst}
use Rattle.std.proofs.lemmas.Option.{same_Some}
use Rattle.lxr_c_heap.specs.Hosting.{IsServing}
use Rattle.lxr_c_heap.proofs.RegisterLemmas.{known, settled_keeps, still_counted}
use Rattle.lxr_c_heap.proofs.RoomLemmas.{weaker_room}
use Rattle.lxr_c_heap.proofs.handle.Handle.settle.Goals as goal

pub settle-requires-clause-serving : goal.settle-requires-clause-serving
settle-requires-clause-serving c = c.args.self.now.serving c.lend.result.now c.lend.ensures.heap

pub invariant_of-self-clause-counted : goal.invariant_of-self-clause-counted
invariant_of-self-clause-counted c =
    let x = c.lend.result.now in
    still_counted c.args.self.now.block.value x c.settle.new.self _ c.args.self.now.counted c.lend.ensures.heap (known x _ _ (c.args.self.now.serving x c.lend.ensures.heap).holds (λ h is. let (k, settled) = c.settle.ensures.settled h is.heap in settled_keeps c.args.ends x c.settle.new.self h k settled))

pub invariant_of-self-clause-serving : goal.invariant_of-self-clause-serving
invariant_of-self-clause-serving c = λ x is. subst IsServing (same_Some c.settle.new.self x is) (weaker_room 2 3 c.settle.new.self c.settle.ensures.room (omega arith) (omega arith))

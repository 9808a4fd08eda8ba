use Rattle.std.proofs.Common.{refl, inr}
use Rattle.lxr_c_heap.proofs.RoomLemmas.{no_turn_due, with_less}
use Rattle.lxr_c_heap.proofs.host.HostHeap.turn_if_due.Goals as goal

pub returns-then-self-clause-turns : goal.returns-then-self-clause-turns
returns-then-self-clause-turns c = λ h is.
    let none = no_turn_due c.args.self.now h c.requires.room.timed is c.if-self.true in
    record { worked = c.args.self.now; works = inr (none.0, refl); history = h; pauses = inr (none.1, refl, refl) }

pub returns-then-self-clause-room : goal.returns-then-self-clause-room
returns-then-self-clause-room c = with_less 2 2 c.args.self.now c.requires.room

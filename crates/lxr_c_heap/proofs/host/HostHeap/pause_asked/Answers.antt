use Rattle.std.proofs.Common.{arith}
use Rattle.lxr_c_heap.specs.declared.host.TheConstants.{ENDS}
use Rattle.lxr_c_heap.proofs.RoomLemmas.{paused_room, settled_holds, weaker_room}
use Rattle.lxr_c_heap.proofs.host.HostHeap.pause_asked.Goals as goal

pub settle-requires-clause-ends : goal.settle-requires-clause-ends
settle-requires-clause-ends c = record { made = omega arith; pauses = omega arith }

pub pause-requires : goal.pause-requires
pause-requires c = record { number = let few = c.settle.ensures.room.paused in omega (arith, few) }

pub returns-clause-pauses : goal.returns-clause-pauses
returns-clause-pauses c = λ h is.
    let (k, settled) = c.settle.ensures.settled h is.heap in
    record {
      settled = c.settle.new.self;
      history = k;
      settles = settled;
      pauses = c.pause.ensures k (settled_holds ENDS c.args.self.now c.settle.new.self h k is settled).heap;
    }

pub returns-clause-serving : goal.returns-clause-serving
returns-clause-serving c = weaker_room 2 2 c.pause.new.self (paused_room 2 2 c.settle.new.self c.pause.new.self c.args.collect c.settle.ensures.room c.pause.ensures) (omega arith) (omega arith)

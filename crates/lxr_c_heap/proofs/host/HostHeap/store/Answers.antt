use Rattle.std.proofs.Common.{arith, subst, sym}
use Rattle.lxr_heap.specs.Acting.{MayBeCalled}
use Rattle.lxr_c_heap.specs.declared.host.TheConstants.{ENDS}
use Rattle.lxr_c_heap.specs.Hosting.{all_registers_in}
use Rattle.lxr_c_heap.proofs.OperationLemmas.{storing_may}
use Rattle.lxr_c_heap.proofs.RegisterLemmas.{known, settled_all}
use Rattle.lxr_c_heap.proofs.RoomLemmas.{settled_holds, with_less}
use Rattle.lxr_c_heap.proofs.host.HostHeap.store.Goals as goal

pub settle-requires-clause-ends : goal.settle-requires-clause-ends
settle-requires-clause-ends c = record { made = omega arith; pauses = omega arith }

pub act-requires-clause-room : goal.act-requires-clause-room
act-requires-clause-room c = with_less 2 2 c.settle.new.self c.settle.ensures.room

pub act-requires-clause-op : goal.act-requires-clause-op
act-requires-clause-op c =
    let x = c.args.self.now in
    let same = known x (all_registers_in c.settle.new.self) (all_registers_in x) c.requires.serving.holds (λ h is.
    let (k, settled) = c.settle.ensures.settled h is.heap in settled_all ENDS x c.settle.new.self h k settled) in
    subst (λ n. MayBeCalled n c.args.op) (sym same) (storing_may (all_registers_in x) c.args.op c.requires.op)

pub returns-clause-stores : goal.returns-clause-stores
returns-clause-stores c = λ h is.
    let (k, settled) = c.settle.ensures.settled h is.heap in
    record {
      settled = c.settle.new.self;
      history = k;
      settles = settled;
      acts = c.act.ensures.acts k (settled_holds ENDS c.args.self.now c.settle.new.self h k is settled).heap;
    }

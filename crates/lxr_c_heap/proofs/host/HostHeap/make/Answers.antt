use Rattle.std.proofs.Common.{◌∙◌, arith, subst, sym}
use Rattle.lxr_heap.specs.Acting.{MayBeCalled}
use Rattle.lxr_c_heap.specs.declared.host.TheConstants.{ENDS}
use Rattle.lxr_c_heap.specs.Hosting.{all_registers_in}
use Rattle.lxr_c_heap.proofs.OperationLemmas.{making_may}
use Rattle.lxr_c_heap.proofs.RegisterLemmas.{known, settled_all, turned_all}
use Rattle.lxr_c_heap.proofs.RoomLemmas.{settled_holds, turned_holds}
use Rattle.lxr_c_heap.proofs.host.HostHeap.make.Goals as goal

pub settle-requires-clause-ends : goal.settle-requires-clause-ends
settle-requires-clause-ends c = record { made = omega arith; pauses = omega arith }

pub act-requires-clause-op : goal.act-requires-clause-op
act-requires-clause-op c =
    let x = c.args.self.now in
    let same = known x (all_registers_in c.turn_if_due.new.self) (all_registers_in x) c.requires.serving.holds (λ h is.
    let (k, settled) = c.settle.ensures.settled h is.heap in
    let turns = c.turn_if_due.ensures.turns k (settled_holds ENDS x c.settle.new.self h k is settled) in
    turned_all c.settle.new.self c.turn_if_due.new.self k turns ∙ settled_all ENDS x c.settle.new.self h k settled) in
    subst (λ n. MayBeCalled n c.args.op) (sym same) (making_may (all_registers_in x) c.args.op c.requires.op)

pub returns-clause-makes : goal.returns-clause-makes
returns-clause-makes c = λ h is.
    let (k, settled) = c.settle.ensures.settled h is.heap in
    let held = settled_holds ENDS c.args.self.now c.settle.new.self h k is settled in
    let turns = c.turn_if_due.ensures.turns k held in
    record {
      settled = c.settle.new.self;
      settled_history = k;
      settles = settled;
      paused = c.turn_if_due.new.self;
      turns = turns;
      acts = c.act.ensures.acts turns.history (turned_holds c.settle.new.self c.turn_if_due.new.self k held turns).heap;
    }

use Rattle.std.proofs.Common.{inl, inr, subst}
use mathlib.Core.Logic.{∥∥₁_elim}
use Rattle.lxr_heap.specs.Acting.{Acts as HeapActs}
use Rattle.lxr_c_heap.specs.Hosting.{all_registers_in}
use Rattle.lxr_c_heap.proofs.OperationLemmas.{quiet_log, quiet_may, quiet_place}
use Rattle.lxr_c_heap.proofs.RoomLemmas.{quiet_room, quiet_same}
use Rattle.lxr_c_heap.proofs.host.HostHeap.reply.Goals as goal

pub act-requires-clause-op : goal.act-requires-clause-op
act-requires-clause-op c = quiet_may (all_registers_in c.args.self.now) c.args.op c.requires.op

pub unreachable-requires : goal.unreachable-requires
unreachable-requires c = ∥∥₁_elim c.requires.serving.holds (λ x y. absurd x) (λ of.
    let (h, at) = of in
    let is = at.heap in
    elim c.in-Room.is [
      | inl room ↦ quiet_place (all_registers_in c.args.self.now) c.args.self.now.heap c.args.op c.requires.op (subst (HeapActs c.args.self.now.heap c.act.new.self h c.args.op) room (c.act.ensures h is)).0
      | inr log ↦ quiet_log (all_registers_in c.args.self.now) c.args.self.now.heap _ c.args.op c.requires.op (subst (HeapActs c.args.self.now.heap c.act.new.self h c.args.op) log (c.act.ensures h is)).0
    ])

pub returns-clause-replies : goal.returns-clause-replies
returns-clause-replies c = λ h is. record {
  heap = subst (HeapActs c.args.self.now.heap c.act.new.self h c.args.op) c.in-Replied.is (c.act.ensures h is);
  rest = quiet_same c.args.self.now c.act.new.self c.args.op c.in-Replied.reply c.requires.op;
}

pub returns-clause-serving : goal.returns-clause-serving
returns-clause-serving c =
    quiet_room c.args.self.now (record c.args.self.now { heap = c.act.new.self }) c.args.op c.in-Replied.reply c.requires.op c.requires.serving (returns-clause-replies c)

use Rattle.std.proofs.Common.{◌∙◌, refl, arith, inl, inr, subst, sym, true≢false}
use mathlib.Core.Logic.{∥∥₁_elim}
use Rattle.lxr_heap.specs.Acting.{Acts as HeapActs}
use Rattle.lxr_c_heap.specs.Hosting.{Replies, all_registers_in}
use Rattle.lxr_c_heap.proofs.RoomLemmas.{bytes_room}
use Rattle.lxr_c_heap.proofs.host.HostHeap.act_behind.Goals as goal

pub unreachable-requires : goal.unreachable-requires
unreachable-requires c = ∥∥₁_elim c.requires.ready (λ x y. absurd x) (λ ready.
    let (h, w) = ready in
    elim c.in-Room.is [
      | inl room ↦
          let came = subst (HeapActs c.args.self.now.heap c.act.new.self h c.args.op) room (c.act.ensures h w.holds) in
          true≢false (sym (w.fresh came.0) ∙ came.1)
      | inr log ↦
          let came = subst (HeapActs c.args.self.now.heap c.act.new.self h c.args.op) log (c.act.ensures h w.holds) in
          w.logs came.0
    ])

pub count_bytes-requires-clause-room : goal.count_bytes-requires-clause-room
count_bytes-requires-clause-room c =
    bytes_room c.args.self.now c.args.op c.in-Replied.reply (all_registers_in c.args.self.now, c.requires.op) (let few = c.requires.made in omega (arith, few)) c.requires.bytes

pub returns : goal.returns
returns c = λ h w.
    let came = subst (HeapActs c.args.self.now.heap c.act.new.self h c.args.op) c.in-Replied.is (c.act.ensures h w.holds) in
    subst (λ z. Replies c.args.self.now z h c.args.op c.in-Replied.reply) (sym c.count_bytes.ensures) (record { heap = came; rest = refl })

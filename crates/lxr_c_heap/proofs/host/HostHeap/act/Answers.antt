use Rattle.std.proofs.Common.{refl, inr, sym, subst, arith, true, false, List}
use mathlib.Core.Logic.{∥∥₁_elim, ∥∥₁_prop}
use Rattle.lxr_large_model.specs.History.{LargeItem}
use Rattle.lxr_heap.specs.Acting.{Acts as HeapActs, MayBeCalled}
use Rattle.lxr_heap.specs.Holding.{IsHeapOf}
use Rattle.lxr_c_heap.specs.Hosting.{Replies, all_registers_in}
use Rattle.lxr_c_heap.proofs.RoomLemmas.{acts_behind, asked_number, behind_registers, behind_room, behind_serves, bytes_room, replied_needs_none, replied_room, some_wants_none, weaker_room}
use Rattle.lxr_c_heap.proofs.host.HostHeap.act.Goals as goal

pub returns-in-Replied-clause-acts : goal.returns-in-Replied-clause-acts
returns-in-Replied-clause-acts c = λ h is.
    let x = c.args.self.now in
    let came = subst (HeapActs x.heap c.act.new.self h c.args.op) c.in-Replied.is (c.act.ensures h is) in
    record {
      middle = x;
      history = h;
      pauses = inr (replied_needs_none x c.act.new.self h c.args.op c.in-Replied.reply came, refl, refl);
      replies = subst (λ z. Replies x z h c.args.op c.in-Replied.reply) (sym c.count_bytes.ensures) (record { heap = came; rest = refl });
    }

pub returns-in-Replied-clause-serving : goal.returns-in-Replied-clause-serving
returns-in-Replied-clause-serving c =
    let x = c.args.self.now in
    let y = c.count_bytes.new.self in
    weaker_room 1 2 y (replied_room 1 2 x y c.args.op c.in-Replied.reply (all_registers_in x, c.requires.op) c.requires.room (∥∥₁_elim c.requires.room.holds ∥∥₁_prop (λ of.
    let came = subst (HeapActs x.heap c.act.new.self of.0 c.args.op) c.in-Replied.is (c.act.ensures of.0 of.1.heap) in
    ∣ (of.0, of.1, subst (λ z. Replies x z of.0 c.args.op c.in-Replied.reply) (sym c.count_bytes.ensures) (record { heap = came; rest = refl })) ∣₁))) (omega arith) (omega arith)

pub count_bytes-requires-clause-room : goal.count_bytes-requires-clause-room
count_bytes-requires-clause-room c =
    bytes_room c.args.self.now c.args.op c.in-Replied.reply (all_registers_in c.args.self.now, c.requires.op) (let few = c.requires.room.made in omega (arith, few)) c.requires.room.bytes

pub pause-requires : goal.pause-requires
pause-requires c = record { number = asked_number c.args.self.now c.act.new.self c.args.op true c.requires.room (λ h is. subst (HeapActs c.args.self.now.heap c.act.new.self h c.args.op) c.in-Room.is (c.act.ensures h is)) }

pub pause-requires-in-Log : goal.pause-requires-in-Log
pause-requires-in-Log c = record { number = asked_number c.args.self.now c.act.new.self c.args.op false c.requires.room (λ h is. subst (HeapActs c.args.self.now.heap c.act.new.self h c.args.op) c.in-Log.is (c.act.ensures h is)) }

pub act_behind-requires-clause-made : goal.act_behind-requires-clause-made
act_behind-requires-clause-made c =
    let acts = λ (h : List LargeItem) (is : IsHeapOf c.args.self.now.heap h). subst (HeapActs c.args.self.now.heap c.act.new.self h c.args.op) c.in-Room.is (c.act.ensures h is) in
    let few = (behind_room c.args.self.now c.act.new.self c.pause.new.self c.args.op true acts c.pause.ensures c.requires.room).made in
    omega (arith, few)

pub act_behind-requires-clause-bytes : goal.act_behind-requires-clause-bytes
act_behind-requires-clause-bytes c =
    let acts = λ (h : List LargeItem) (is : IsHeapOf c.args.self.now.heap h). subst (HeapActs c.args.self.now.heap c.act.new.self h c.args.op) c.in-Room.is (c.act.ensures h is) in
    (behind_room c.args.self.now c.act.new.self c.pause.new.self c.args.op true acts c.pause.ensures c.requires.room).bytes

pub act_behind-requires-clause-op : goal.act_behind-requires-clause-op
act_behind-requires-clause-op c =
    let acts = λ (h : List LargeItem) (is : IsHeapOf c.args.self.now.heap h). subst (HeapActs c.args.self.now.heap c.act.new.self h c.args.op) c.in-Room.is (c.act.ensures h is) in
    subst (λ n. MayBeCalled n c.args.op) (sym (behind_registers c.args.self.now c.act.new.self c.pause.new.self c.args.op true acts c.pause.ensures c.requires.room.holds)) c.requires.op

pub act_behind-requires-clause-ready : goal.act_behind-requires-clause-ready
act_behind-requires-clause-ready c =
    let acts = λ (h : List LargeItem) (is : IsHeapOf c.args.self.now.heap h). subst (HeapActs c.args.self.now.heap c.act.new.self h c.args.op) c.in-Room.is (c.act.ensures h is) in
    some_wants_none c.args.self.now c.act.new.self c.pause.new.self c.args.op true acts c.pause.ensures c.requires.room.holds

pub act_behind-requires-in-Log-clause-made : goal.act_behind-requires-in-Log-clause-made
act_behind-requires-in-Log-clause-made c =
    let acts = λ (h : List LargeItem) (is : IsHeapOf c.args.self.now.heap h). subst (HeapActs c.args.self.now.heap c.act.new.self h c.args.op) c.in-Log.is (c.act.ensures h is) in
    let few = (behind_room c.args.self.now c.act.new.self c.pause-in-Log.new.self c.args.op false acts c.pause-in-Log.ensures c.requires.room).made in
    omega (arith, few)

pub act_behind-requires-in-Log-clause-bytes : goal.act_behind-requires-in-Log-clause-bytes
act_behind-requires-in-Log-clause-bytes c =
    let acts = λ (h : List LargeItem) (is : IsHeapOf c.args.self.now.heap h). subst (HeapActs c.args.self.now.heap c.act.new.self h c.args.op) c.in-Log.is (c.act.ensures h is) in
    (behind_room c.args.self.now c.act.new.self c.pause-in-Log.new.self c.args.op false acts c.pause-in-Log.ensures c.requires.room).bytes

pub act_behind-requires-in-Log-clause-op : goal.act_behind-requires-in-Log-clause-op
act_behind-requires-in-Log-clause-op c =
    let acts = λ (h : List LargeItem) (is : IsHeapOf c.args.self.now.heap h). subst (HeapActs c.args.self.now.heap c.act.new.self h c.args.op) c.in-Log.is (c.act.ensures h is) in
    subst (λ n. MayBeCalled n c.args.op) (sym (behind_registers c.args.self.now c.act.new.self c.pause-in-Log.new.self c.args.op false acts c.pause-in-Log.ensures c.requires.room.holds)) c.requires.op

pub act_behind-requires-in-Log-clause-ready : goal.act_behind-requires-in-Log-clause-ready
act_behind-requires-in-Log-clause-ready c =
    let acts = λ (h : List LargeItem) (is : IsHeapOf c.args.self.now.heap h). subst (HeapActs c.args.self.now.heap c.act.new.self h c.args.op) c.in-Log.is (c.act.ensures h is) in
    some_wants_none c.args.self.now c.act.new.self c.pause-in-Log.new.self c.args.op false acts c.pause-in-Log.ensures c.requires.room.holds

pub returns-in-Room-clause-acts : goal.returns-in-Room-clause-acts
returns-in-Room-clause-acts c =
    let acts = λ (h : List LargeItem) (is : IsHeapOf c.args.self.now.heap h). subst (HeapActs c.args.self.now.heap c.act.new.self h c.args.op) c.in-Room.is (c.act.ensures h is) in
    acts_behind c.args.self.now c.act.new.self c.pause.new.self c.args.op true acts c.pause.ensures c.act_behind.new.self c.act_behind.result c.act_behind.ensures

pub returns-in-Room-clause-serving : goal.returns-in-Room-clause-serving
returns-in-Room-clause-serving c =
    let acts = λ (h : List LargeItem) (is : IsHeapOf c.args.self.now.heap h). subst (HeapActs c.args.self.now.heap c.act.new.self h c.args.op) c.in-Room.is (c.act.ensures h is) in
    behind_serves c.args.self.now c.act.new.self c.pause.new.self c.args.op true acts c.pause.ensures c.act_behind.new.self c.act_behind.result (all_registers_in c.args.self.now, c.requires.op) c.requires.room c.act_behind.ensures

pub returns-in-Log-clause-acts : goal.returns-in-Log-clause-acts
returns-in-Log-clause-acts c =
    let acts = λ (h : List LargeItem) (is : IsHeapOf c.args.self.now.heap h). subst (HeapActs c.args.self.now.heap c.act.new.self h c.args.op) c.in-Log.is (c.act.ensures h is) in
    acts_behind c.args.self.now c.act.new.self c.pause-in-Log.new.self c.args.op false acts c.pause-in-Log.ensures c.act_behind-in-Log.new.self c.act_behind-in-Log.result c.act_behind-in-Log.ensures

pub returns-in-Log-clause-serving : goal.returns-in-Log-clause-serving
returns-in-Log-clause-serving c =
    let acts = λ (h : List LargeItem) (is : IsHeapOf c.args.self.now.heap h). subst (HeapActs c.args.self.now.heap c.act.new.self h c.args.op) c.in-Log.is (c.act.ensures h is) in
    behind_serves c.args.self.now c.act.new.self c.pause-in-Log.new.self c.args.op false acts c.pause-in-Log.ensures c.act_behind-in-Log.new.self c.act_behind-in-Log.result (all_registers_in c.args.self.now, c.requires.op) c.requires.room c.act_behind-in-Log.ensures

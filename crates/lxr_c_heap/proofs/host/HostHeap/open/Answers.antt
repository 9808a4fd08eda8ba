use Rattle.std.proofs.Common.{◌∙◌, ap, subst}
use Rattle.lxr_heap.specs.Holding.{IsOpenedHeap}
use Rattle.lxr_c_heap.specs.Pacing.{due_after}
use Rattle.lxr_c_heap.specs.Rooms.{room_limit}
use Rattle.lxr_c_heap.proofs.RoomLemmas.{opened_serves, opened_with}
use Rattle.lxr_c_heap.proofs.host.HostHeap.open.Goals as goal

pub returns-clause-opened : goal.returns-clause-opened
returns-clause-opened c =
    let wanted = c.args.wanted.now in
    opened_with c.in_ok-heap.heap wanted _ c.registers-named.result c.of-pace.result c.of-room.result c.due_after-limit.result c.limit-brink.result c.work_said-work.result c.first_slice-slice.result c.turn_of.result (subst (IsOpenedHeap c.in_ok-heap.heap) c.sizes.ensures.sizes c.in_ok-heap.ensures) c.registers-named.ensures
    c.of-pace.ensures c.of-room.ensures (c.due_after-limit.ensures ∙ ap (due_after c.of-pace.result c.of-room.result) c.free_blocks-free.ensures)
    (c.limit-brink.ensures ∙ ap (room_limit c.of-room.result) c.free_blocks-free.ensures) c.work_said-work.ensures c.first_slice-slice.ensures c.turn_of.ensures

pub returns-clause-serving : goal.returns-clause-serving
returns-clause-serving c = opened_serves _ c.args.wanted.now c.requires (returns-clause-opened c)

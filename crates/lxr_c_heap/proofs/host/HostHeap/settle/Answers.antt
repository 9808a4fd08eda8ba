use Rattle.std.proofs.Common.{true, refl, inl, inr}
use Rattle.std.proofs.lemmas.Bool.{iff_false}
use Rattle.lxr_c_heap.specs.Hosting.{behind_pause}
use Rattle.lxr_c_heap.proofs.RoomLemmas.{early_room, paused_fresh, paused_none, paused_some, paused_timed, renewed_room}
use Rattle.lxr_c_heap.proofs.host.HostHeap.settle.Goals as goal

pub returns-then-not-is_at_end-clause-settled : goal.returns-then-not-is_at_end-clause-settled
returns-then-not-is_at_end-clause-settled c = λ h is. (h, inr (iff_false c.is_at_end.ensures c.if-not-is_at_end.true, refl, refl))

pub returns-then-not-is_at_end-clause-room : goal.returns-then-not-is_at_end-clause-room
returns-then-not-is_at_end-clause-room c = early_room c.args.ends c.args.self.now c.requires.ends c.requires.serving (iff_false c.is_at_end.ensures c.if-not-is_at_end.true)

pub renew-requires : goal.renew-requires
renew-requires c = record { fresh = paused_fresh c.args.self.now c.pause.new.self c.requires.serving.holds c.pause.ensures }

pub returns-clause-settled : goal.returns-clause-settled
returns-clause-settled c = λ h is.
    let paused = c.pause.ensures h is in
    let renewed = c.renew.ensures (behind_pause c.pause.new.self h) paused.heap.holds in
    (_, inl (c.is_at_end.ensures.0 c.if-not-is_at_end.false, c.pause.new.self, paused, record { heap = renewed; history = refl; rest = refl }))

pub returns-clause-room : goal.returns-clause-room
returns-clause-room c =
    renewed_room c.pause.new.self c.renew.new.self (paused_some c.args.self.now c.pause.new.self true c.requires.serving.holds c.pause.ensures)
    (paused_none c.args.self.now c.pause.new.self true c.requires.serving.holds c.pause.ensures)
    (paused_timed c.args.self.now c.pause.new.self true c.requires.serving.holds c.requires.serving.timed c.pause.ensures) c.renew.ensures

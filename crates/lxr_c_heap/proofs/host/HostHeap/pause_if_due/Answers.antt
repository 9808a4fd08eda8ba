use Rattle.std.proofs.Common.{refl, inl, inr}
use Rattle.std.proofs.lemmas.Bool.{iff_false}
use Rattle.lxr_c_heap.proofs.RoomLemmas.{paused_room}
use Rattle.lxr_c_heap.proofs.host.HostHeap.pause_if_due.Goals as goal

pub returns-then-not-is_due-clause-pauses : goal.returns-then-not-is_due-clause-pauses
returns-then-not-is_due-clause-pauses c = λ h is. (h, inr (iff_false (c.is_due.ensures h is) c.if-not-is_due.true, refl, refl))

pub returns-clause-pauses : goal.returns-clause-pauses
returns-clause-pauses c = λ h is. (_, inl ((c.is_due.ensures h is).0 c.if-not-is_due.false, c.pause_due.ensures h is.heap, refl))

pub returns-clause-room : goal.returns-clause-room
returns-clause-room c = paused_room 2 2 c.args.self.now c.pause_due.new.self _ c.requires.room c.pause_due.ensures

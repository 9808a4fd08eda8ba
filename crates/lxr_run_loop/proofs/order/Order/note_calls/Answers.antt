use Rattle.std.proofs.Common.{slice_index, subst}
use Rattle.lxr_run_loop.specs.Orders.{Notes, call_of}
use Rattle.lxr_run_loop.proofs.OrderLemmas.{notes_next}
use Rattle.lxr_run_loop.proofs.order.Order.note_calls.Goals as goal

pub loop-number-preserved : goal.loop-number-preserved
loop-number-preserved c =
    notes_next c.args.before.now c.args.actors.now c.loop-number.number c.args.self.now c.loop-number.self c.note_call.new.self c.loop-number.invariant
    (subst (λ actor. Notes c.loop-number.self (call_of (slice_index c.args.before.now c.loop-number.number) actor) c.note_call.new.self) c.actor_at.ensures c.note_call.ensures)

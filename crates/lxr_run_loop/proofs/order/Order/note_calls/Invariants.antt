use Rattle.lxr_run_loop.specs.Orders.{Notes, calls_of_first}
use Rattle.lxr_run_loop.proofs.order.Order.note_calls.Given as goal

abbrev pub invariant-loop-number : goal.invariant-loop-number
invariant-loop-number l = Notes l.fn.self (calls_of_first l.before l.actors l.number) l.self

use Rattle.lxr_shared_heap.proofs.RenewingLemmas.{RenewedTo}
use Rattle.lxr_shared_heap.proofs.renewing.renew_actors.Given as goal

abbrev pub invariant-loop-number : goal.invariant-loop-number
invariant-loop-number l = RenewedTo l.fn.left l.fn.actors l.actors l.number

use Rattle.std.proofs.Common.{arith}
use Rattle.lxr_shared_heap.proofs.RenewingLemmas.{all_renewed, none_renewed}
use Rattle.lxr_shared_heap.proofs.renewing.renew_actors.Goals as goal

pub loop-number-init : goal.loop-number-init
loop-number-init c = none_renewed c.args.left c.args.actors.now

pub returns : goal.returns
returns c = all_renewed c.args.left c.args.actors.now c.loop-number.actors c.loop-number.number c.loop-number.invariant (omega arith)

use Rattle.std.proofs.Common.{◌+◌, ◌*◌, ap, arith}
use Rattle.lxr_image.specs.Registers.{holding}
use Rattle.lxr_pause_queue.proofs.HoldsLemmas.{queues}
use Rattle.lxr_pause_queue.proofs.RaisedLemmas.{entries_in_heap, few_held}
use Rattle.lxr_pause_queue.proofs.queueing.queue_decrements.Goals as goal

pub queue_entries-requires-clause-entries : goal.queue_entries-requires-clause-entries
queue_entries-requires-clause-entries c = entries_in_heap c.args.space.now c.requires.0 c.requires.1 c.requires.2 c.requires.3 c.requires.4

pub queue_registers-requires-clause-room : goal.queue_registers-requires-clause-room
queue_registers-requires-clause-room c =
    let is = c.requires.4 in
    let named = few_held c.args.space.now c.requires.0 c.requires.1 c.requires.2 c.requires.3 is c.hold_few.ensures in
    let none = is.decrements.1 in
    let few_logs = is.few_logs in
    let few = c.queue_entries.ensures.few in
    let held = ap (λ s. holding s.deferred.items) c.queue_entries.ensures.turns.rest in
    let most = ap (λ s. s.limits.threads * (s.limits.log + s.limits.registers)) c.queue_entries.ensures.turns.rest in
    omega (arith, named, none, few_logs, few, held, most)

pub returns : goal.returns
returns c m at promoted stuck is =
    queues c.args.space.now c.queue_entries.new.space c.queue_registers.new.space c.clear.new.self m at promoted stuck is c.hold_few.ensures c.queue_entries.ensures.turns c.queue_registers.ensures c.clear.ensures

use Rattle.std.proofs.Common.{◌+◌, ◌*◌, ap, arith, length}
use Rattle.lxr_pause_queue.proofs.AppendingLemmas.{register_fits, registers_end, registers_first, registers_later, registers_next}
use Rattle.lxr_pause_queue.proofs.queueing.queue_registers.Goals as goal

pub loop-register-init : goal.loop-register-init
loop-register-init c =
    let next = c.next_changed-register.ensures in
    registers_first c.args.space.now c.next_changed-register.result c.requires.space c.requires.as_many next.range.1 next.passed

pub at-requires-in-loop-register : goal.at-requires-in-loop-register
at-requires-in-loop-register c =
    let t = c.loop-register-test.true in
    let e = c.len.ensures in
    let many = c.requires.as_many in
    let last = ap (λ s. length s.deferred.items) c.loop-register.invariant.rest in
    let now = ap (λ s. length s.registers.items) c.loop-register.invariant.rest in
    omega (arith, t, e, many, last, now)

pub queue_old-requires-clause-space : goal.queue_old-requires-clause-space
queue_old-requires-clause-space c = c.loop-register.invariant.space

pub queue_old-requires-clause-room : goal.queue_old-requires-clause-room
queue_old-requires-clause-room c some =
    let most = ap (λ s. s.limits.threads * (s.limits.log + s.limits.registers)) c.loop-register.invariant.rest in
    let fits = register_fits c.args.space.now c.loop-register.space c.loop-register.register c.dropped_place-old.result.0 _ c.at.result c.at-in-loop-register.result
    c.loop-register.invariant c.at.ensures c.dropped_place-old.ensures c.requires.room some in
    omega (arith, most, fits)

pub next_changed-register-requires-in-loop-register : goal.next_changed-register-requires-in-loop-register
next_changed-register-requires-in-loop-register c =
    let after =
    registers_next c.args.space.now c.loop-register.space c.queue_old.new.space c.loop-register.register c.dropped_place-old.result.0 c.at.result c.at-in-loop-register.result
    c.loop-register.invariant c.at.ensures c.at-in-loop-register.ensures c.dropped_place-old.ensures c.queue_old.ensures in
    let within = after.within in
    let last = ap (λ s. length s.deferred.items) after.rest in
    let now = ap (λ s. length s.registers.items) after.rest in
    let many = c.requires.as_many in
    omega (arith, within, last, now, many)

pub loop-register-smaller : goal.loop-register-smaller
loop-register-smaller c =
    let t = c.loop-register-test.true in
    let e = c.len.ensures in
    let last = ap (λ s. length s.deferred.items) c.loop-register.invariant.rest in
    let later = c.next_changed-register-in-loop-register.ensures.range.0 in
    omega (arith, t, e, last, later)

pub loop-register-preserved : goal.loop-register-preserved
loop-register-preserved c =
    let next = c.next_changed-register-in-loop-register.ensures in
    registers_later c.args.space.now c.loop-register.space c.queue_old.new.space c.loop-register.register c.dropped_place-old.result.0 c.next_changed-register-in-loop-register.result
    c.at.result c.at-in-loop-register.result c.requires.as_many c.loop-register.invariant c.at.ensures c.at-in-loop-register.ensures c.dropped_place-old.ensures c.queue_old.ensures
    next.range.0 next.range.1 next.passed

pub returns : goal.returns
returns c =
    let t = c.loop-register-test.false in
    let e = c.len.ensures in
    let within = c.loop-register.invariant.within in
    let last = ap (λ s. length s.deferred.items) c.loop-register.invariant.rest in
    registers_end c.args.space.now c.loop-register.space c.loop-register.register c.loop-register.invariant (omega (arith, t, e, within, last))

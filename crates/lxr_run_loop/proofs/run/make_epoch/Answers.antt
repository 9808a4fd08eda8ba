use Rattle.std.proofs.Common.{◌∙◌, ap, length, subst, sym}
use Rattle.std.proofs.lemmas.List.{with_items_is}
use Rattle.lxr_core.specs.Closing.{MayClose}
use Rattle.lxr_core.specs.Opening.{Begins, MayOpen, Opens}
use Rattle.lxr_core.proofs.OpenedLemmas.{may_open}
use Rattle.lxr_run_threads.specs.Running.{CanRun}
use Rattle.lxr_rounds_invariant.specs.Laws.{beginning_of}
use Rattle.lxr_run_loop.specs.Tasks.{rounds_of}
use Rattle.lxr_rounds_invariant.proofs.EpochLemmas.{may_open as epoch_begins}
use Rattle.lxr_run_loop.specs.Drawing.{GoesOnInOrder}
use Rattle.lxr_run_loop.specs.Progress.{HasMadeEpochInOrder}
use Rattle.lxr_run_loop.proofs.EpochLemmas.{can_run, closed_many, execution_on, has_made_epoch, may_be_closed, started_many}
use Rattle.lxr_run_loop.proofs.run.make_epoch.Goals as goal

pub open_epoch-requires : goal.open_epoch-requires
open_epoch-requires g c =
    let (task, with_options, written, seen, h, m, amid) = c.requires.may in
    (m, subst (MayOpen m c.args.space.now) (sym c.deref_mut.ensures.value) (may_open (beginning_of (rounds_of task) c.args.space.now h m) c.args.space.now c.args.actors.now.items (epoch_begins (rounds_of task) c.args.space.now seen c.args.actors.now.items h m amid.epochs)))

pub go_on-requires-clause-may : goal.go_on-requires-clause-may
go_on-requires-clause-may g c = λ lifetimes bounds.
    let (task, with_options, written, seen, h, m, amid) = c.requires.may in
    let opens = subst (λ actors. Opens c.args.space.now c.open_epoch.new.space actors c.open_epoch.new.actors) c.deref_mut.ensures.value c.open_epoch.ensures.opens in
    let holds = c.open_epoch.ensures.execution (beginning_of (rounds_of task) c.args.space.now h m) (subst (Begins (beginning_of (rounds_of task) c.args.space.now h m) c.args.space.now) (sym c.deref_mut.ensures.value) (epoch_begins (rounds_of task) c.args.space.now seen c.args.actors.now.items h m amid.epochs)) in
    let many = started_many task c.args.space.now written seen c.args.actors.now.items h m amid c.open_epoch.new.space c.open_epoch.new.actors opens holds in
    let whole = with_items_is c.args.actors.now c.open_epoch.new.actors (many ∙ ap length (sym c.deref_mut.ensures.value) ∙ c.deref_mut.ensures.len) in
    subst (CanRun c.args.options.now c.open_epoch.new.space) (sym whole) (can_run task c.args.space.now written seen c.args.actors.now.items h m amid c.open_epoch.new.space c.open_epoch.new.actors opens holds c.args.options.now with_options c.requires.range)

pub close_epoch-requires : goal.close_epoch-requires
close_epoch-requires g c =
    let (task, with_options, written, seen, h, m, amid) = c.requires.may in
    let opens = subst (λ actors. Opens c.args.space.now c.open_epoch.new.space actors c.open_epoch.new.actors) c.deref_mut.ensures.value c.open_epoch.ensures.opens in
    let holds = c.open_epoch.ensures.execution (beginning_of (rounds_of task) c.args.space.now h m) (subst (Begins (beginning_of (rounds_of task) c.args.space.now h m) c.args.space.now) (sym c.deref_mut.ensures.value) (epoch_begins (rounds_of task) c.args.space.now seen c.args.actors.now.items h m amid.epochs)) in
    let many = started_many task c.args.space.now written seen c.args.actors.now.items h m amid c.open_epoch.new.space c.open_epoch.new.actors opens holds in
    let whole = with_items_is c.args.actors.now c.open_epoch.new.actors (many ∙ ap length (sym c.deref_mut.ensures.value) ∙ c.deref_mut.ensures.len) in
    let goes = subst (λ started. GoesOnInOrder c.open_epoch.new.space c.go_on.new.space started c.go_on.new.actors.items c.args.generator.now c.go_on.new.generator c.args.order.now c.go_on.new.order) whole c.in_ok-go_on.ensures.ok in
    let on = goes.goes in (
      beginning_of (rounds_of task) c.args.space.now h m,
      execution_on task c.args.space.now written seen c.args.actors.now.items h m amid c.open_epoch.new.space c.open_epoch.new.actors opens holds c.go_on.new.space c.go_on.new.actors.items c.args.generator.now c.go_on.new.generator on,
      subst (MayClose (beginning_of (rounds_of task) c.args.space.now h m) (execution_on task c.args.space.now written seen c.args.actors.now.items h m amid c.open_epoch.new.space c.open_epoch.new.actors opens holds c.go_on.new.space c.go_on.new.actors.items c.args.generator.now c.go_on.new.generator on) c.go_on.new.space) (sym c.deref_mut-2.ensures.value) (may_be_closed task c.args.space.now written seen c.args.actors.now.items h m amid c.open_epoch.new.space c.open_epoch.new.actors opens holds c.go_on.new.space c.go_on.new.actors.items c.args.generator.now c.go_on.new.generator on),
    )

pub returns-clause-ok : goal.returns-clause-ok
returns-clause-ok g c = λ task with_options written seen h m amid.
    let opens = subst (λ actors. Opens c.args.space.now c.open_epoch.new.space actors c.open_epoch.new.actors) c.deref_mut.ensures.value c.open_epoch.ensures.opens in
    let holds = c.open_epoch.ensures.execution (beginning_of (rounds_of task) c.args.space.now h m) (subst (Begins (beginning_of (rounds_of task) c.args.space.now h m) c.args.space.now) (sym c.deref_mut.ensures.value) (epoch_begins (rounds_of task) c.args.space.now seen c.args.actors.now.items h m amid.epochs)) in
    let many = started_many task c.args.space.now written seen c.args.actors.now.items h m amid c.open_epoch.new.space c.open_epoch.new.actors opens holds in
    let whole = with_items_is c.args.actors.now c.open_epoch.new.actors (many ∙ ap length (sym c.deref_mut.ensures.value) ∙ c.deref_mut.ensures.len) in
    let goes = subst (λ started. GoesOnInOrder c.open_epoch.new.space c.go_on.new.space started c.go_on.new.actors.items c.args.generator.now c.go_on.new.generator c.args.order.now c.go_on.new.order) whole c.in_ok-go_on.ensures.ok in
    let on = goes.goes in
    let may = subst (MayClose (beginning_of (rounds_of task) c.args.space.now h m) (execution_on task c.args.space.now written seen c.args.actors.now.items h m amid c.open_epoch.new.space c.open_epoch.new.actors opens holds c.go_on.new.space c.go_on.new.actors.items c.args.generator.now c.go_on.new.generator on) c.go_on.new.space) (sym c.deref_mut-2.ensures.value) (may_be_closed task c.args.space.now written seen c.args.actors.now.items h m amid c.open_epoch.new.space c.open_epoch.new.actors opens holds c.go_on.new.space c.go_on.new.actors.items c.args.generator.now c.go_on.new.generator on) in
    let closes = c.close_epoch.ensures.closes (beginning_of (rounds_of task) c.args.space.now h m) (execution_on task c.args.space.now written seen c.args.actors.now.items h m amid c.open_epoch.new.space c.open_epoch.new.actors opens holds c.go_on.new.space c.go_on.new.actors.items c.args.generator.now c.go_on.new.generator on) may in
    let closed = closed_many task c.args.space.now written seen c.args.actors.now.items h m amid c.open_epoch.new.space c.open_epoch.new.actors opens holds c.go_on.new.space c.go_on.new.actors.items c.args.generator.now c.go_on.new.generator on c.close_epoch.new.space c.close_epoch.new.actors closes in
    let rest = with_items_is c.go_on.new.actors c.close_epoch.new.actors (closed ∙ ap length (sym c.deref_mut-2.ensures.value) ∙ c.deref_mut-2.ensures.len) in
    subst (λ actors. HasMadeEpochInOrder task c.args.space.now c.close_epoch.new.space written seen c.args.actors.now.items actors h c.args.generator.now c.go_on.new.generator c.args.order.now c.go_on.new.order) (sym rest)
    (has_made_epoch task c.args.space.now written seen c.args.actors.now.items h m amid c.open_epoch.new.space c.open_epoch.new.actors opens holds c.go_on.new.space c.go_on.new.actors.items c.args.generator.now c.go_on.new.generator on c.close_epoch.new.space c.close_epoch.new.actors closes c.args.order.now c.go_on.new.order goes.notes)

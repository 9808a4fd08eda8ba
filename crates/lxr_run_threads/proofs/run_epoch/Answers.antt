use Rattle.std.proofs.Common.{◌≡◌, All, length, arith, sym, subst, ap, ◌∙◌}
use Rattle.lxr_actor.specs.Run.{core_of}
use Rattle.lxr_image.specs.declared.space.Space.{Space}
use Rattle.lxr_barrier.proofs.ViewLemmas.{all_to}
use Rattle.lxr_core.specs.declared.actors.AnyActor.{AnyActor}
use Rattle.lxr_shared_passes.specs.Passing.{Opened, Passing}
use Rattle.lxr_shared.specs.Sharing.{KeepsLinesAlways}
use Rattle.lxr_run_replay.specs.Replaying.{CanBeReplayed}
use Rattle.lxr_run_threads.specs.Working.{HasPassed, IsDoneOf, IsPassOf}
use Rattle.lxr_run_threads.proofs.GateLemmas.{closed_passed, opened_passed}
use Rattle.lxr_run_threads.proofs.EpochLemmas.{IsOpened, as_many_actors, closed_numbers, has_run, opened_many, opened_numbers, opened_of}
use Rattle.lxr_run_threads.proofs.run_epoch.Goals as goal

pub let_all_work-requires-clause-can : goal.let_all_work-requires-clause-can
let_all_work-requires-clause-can g c κs within = subst CanBeReplayed (sym (ap (λ (t : Opened AnyActor). t.opening) c.table.ensures ∙ c.in_ok-epoch.ensures.epoch.0)) c.requires.fits

pub let_all_work-requires-clause-passes : goal.let_all_work-requires-clause-passes
let_all_work-requires-clause-passes g c κs within =
    let opened : IsOpened c.args.space c.args.actors.items c.in_ok-epoch.epoch c.in_ok-epoch.passes.items = record { opening = c.in_ok-epoch.ensures.epoch.0; passes_are = c.in_ok-epoch.ensures.passes } in
    subst (λ (t : Opened AnyActor). All (IsPassOf t) c.in_ok-epoch.passes.items) (sym c.table.ensures) (opened_of _ _ _ _ opened c.requires.resting)

pub let_all_work-requires-clause-order : goal.let_all_work-requires-clause-order
let_all_work-requires-clause-order g c κs within =
    let opened : IsOpened c.args.space c.args.actors.items c.in_ok-epoch.epoch c.in_ok-epoch.passes.items = record { opening = c.in_ok-epoch.ensures.epoch.0; passes_are = c.in_ok-epoch.ensures.passes } in
    let ok = c.in_ok-epoch.passes.ok in
    opened_numbers _ _ _ _ _ opened (omega arith)

pub let_all_work-requires-clause-helpers : goal.let_all_work-requires-clause-helpers
let_all_work-requires-clause-helpers g c κs within =
    let opened : IsOpened c.args.space c.args.actors.items c.in_ok-epoch.epoch c.in_ok-epoch.passes.items = record { opening = c.in_ok-epoch.ensures.epoch.0; passes_are = c.in_ok-epoch.ensures.passes } in
    let many = opened_many _ _ _ _ opened in
    let all = as_many_actors c.args.actors.items in
    let decrementers = c.requires.decrementers in
    let tracers = c.requires.tracers in
    let ok = c.in_ok-epoch.passes.ok in
    record { few = let few = c.requires.few in omega arith; workers = c.requires.workers; helpers = omega arith }

pub close_shared-requires-clause-epoch : goal.close_shared-requires-clause-epoch
close_shared-requires-clause-epoch g c =
    let epoch = c.in_ok-epoch.epoch in
    all_to (IsDoneOf c.table.result.now) (λ (p : Passing AnyActor). p.epoch ≡ epoch.id) c.in_ok-passes.passes.items (λ p is. is.0.epoch_is ∙ ap (λ (t : Opened AnyActor). t.id) c.table.ensures) c.in_ok-passes.ensures.done

pub close_shared-requires-clause-order : goal.close_shared-requires-clause-order
close_shared-requires-clause-order g c =
    let opened : IsOpened c.args.space c.args.actors.items c.in_ok-epoch.epoch c.in_ok-epoch.passes.items = record { opening = c.in_ok-epoch.ensures.epoch.0; passes_are = c.in_ok-epoch.ensures.passes } in
    let ok = c.in_ok-epoch.passes.ok in
    let count : c.in_ok-epoch.passes.len ≡ length c.in_ok-epoch.passes.items = omega arith in
    closed_numbers _ _ c.in_ok-epoch.epoch _ c.in_ok-passes.passes.items c.in_ok-epoch.passes.len opened count (c.in_ok-passes.ensures.numbers ∙ opened_numbers _ _ _ _ _ opened count)

pub close_shared-requires-clause-lines : goal.close_shared-requires-clause-lines
close_shared-requires-clause-lines g c =
    let opened = c.in_ok-epoch.ensures.epoch in
    subst (KeepsLinesAlways c.in_ok-epoch.epoch.space.limits) (sym opened.0)
    (subst (λ (s : Space). KeepsLinesAlways s.limits (core_of c.args.space.words c.args.actors.items)) (sym opened.1) c.requires.lines)

pub returns-clause-run : goal.returns-clause-run
returns-clause-run g c =
    let epoch = c.in_ok-epoch.epoch in
    has_run c.args.space c.close_shared.result.0 c.args.actors.items c.close_shared.result.1.items epoch c.in_ok-passes.passes.items c.requires.fits c.in_ok-epoch.ensures.epoch.0 c.in_ok-epoch.ensures.epoch.1
    (record { done = subst (λ (t : Opened AnyActor). All (IsDoneOf t) c.in_ok-passes.passes.items) c.table.ensures c.in_ok-passes.ensures.done; whose = c.close_shared.ensures.actors; run = c.close_shared.ensures.run; rest = c.close_shared.ensures.rest })

pub returns-clause-passed : goal.returns-clause-passed
returns-clause-passed g c =
    let passed = g.G.Gate.passed c.args.gate.now in
    let opening = core_of c.args.space.words c.args.actors.items in
    let epoch = c.in_ok-epoch.epoch in
    let opened : IsOpened c.args.space c.args.actors.items c.in_ok-epoch.epoch c.in_ok-epoch.passes.items = record { opening = c.in_ok-epoch.ensures.epoch.0; passes_are = c.in_ok-epoch.ensures.passes } in
    let ok = c.in_ok-epoch.passes.ok in
    let count : c.in_ok-epoch.passes.len ≡ length c.in_ok-epoch.passes.items = omega arith in
    let dealt : All (HasPassed passed) c.in_ok-epoch.passes.items = subst (All (HasPassed passed)) (sym c.in_ok-epoch.ensures.passes) (opened_passed passed epoch opening c.requires.resting) in
    let ran = returns-clause-run g c in
    closed_passed passed opening c.close_shared.result.1.items c.in_ok-passes.passes.items c.in_ok-epoch.passes.len ran.schedule c.close_shared.result.0.words c.requires.fits ran.run c.close_shared.ensures.actors
    (c.in_ok-passes.ensures.numbers ∙ opened_numbers _ _ _ _ _ opened count)
    (all_to (IsDoneOf c.table.result.now) (λ (p : Passing AnyActor). p.opening ≡ opening) c.in_ok-passes.passes.items
    (λ p is. is.0.opening_is ∙ (ap (λ (t : Opened AnyActor). t.opening) c.table.ensures ∙ c.in_ok-epoch.ensures.epoch.0)) c.in_ok-passes.ensures.done)
    (c.in_ok-passes.ensures.passed_on dealt)

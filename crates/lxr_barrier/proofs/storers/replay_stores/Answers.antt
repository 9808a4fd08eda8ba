use Rattle.std.proofs.Common.{◌∙◌, ap, sym, subst, length, map}
use Rattle.lxr_actor.specs.declared.Core.{Core}
use Rattle.lxr_actor.specs.declared.Event.TheVariants.{Step}
use Rattle.lxr_actor.specs.Run.{core_of}
use Rattle.lxr_actor.proofs.Runs.{replay-fits, run-lengths}
use Rattle.lxr_barrier.specs.Storers.{Logging, storer_machine}
use Rattle.lxr_barrier.specs.Unlogged.{ChangesOnlyBehindBarrier, KeepOwnLogs}
use Rattle.lxr_barrier.proofs.StorerLemmas.{storers_fit}
use Rattle.lxr_barrier.proofs.ScheduleLemmas.{HoldsIn, beginning_holds, schedule_keeps}
use Rattle.lxr_barrier.proofs.OwnLemmas.{schedule_keeps_logs, schedule_leaves}
use Rattle.lxr_barrier.proofs.storers.replay_stores.Goals as goal

pub replay-requires : goal.replay-requires
replay-requires c = let core : Core Logging = core_of c.args.words.now c.args.storers.now in replay-fits storer_machine core c.args.schedule.now (storers_fit core c.requires)

pub returns-clause-count : goal.returns-clause-count
returns-clause-count c = ap (λ (after : Core Logging). length after.words) c.replay.ensures ∙ (run-lengths storer_machine (core_of c.args.words.now c.args.storers.now) (map Step c.args.schedule.now)).0

-- the core that is left, from what `replay` says of it
pub returns-clause-kept : goal.returns-clause-kept
returns-clause-kept c regions opening are kept =
    let core : Core Logging = core_of c.args.words.now c.args.storers.now in
    (subst (HoldsIn regions opening) (sym c.replay.ensures) (schedule_keeps regions opening core (map Step c.args.schedule.now) (record { has = are.0; stores = are.1; kept = kept }))).kept

pub returns-clause-beginning : goal.returns-clause-beginning
returns-clause-beginning c regions are begins =
    let core : Core Logging = core_of c.args.words.now c.args.storers.now in
    let kept = beginning_holds regions core.words core.actors begins in
    (subst (HoldsIn regions core.words) (sym c.replay.ensures) (schedule_keeps regions core.words core (map Step c.args.schedule.now) (record { has = are.0; stores = are.1; kept = kept }))).kept

pub returns-clause-logs : goal.returns-clause-logs
returns-clause-logs c =
    let core : Core Logging = core_of c.args.words.now c.args.storers.now in
    subst (λ (after : Core Logging). KeepOwnLogs core.actors after.actors) (sym c.replay.ensures) (schedule_keeps_logs core (map Step c.args.schedule.now))

pub returns-clause-untouched : goal.returns-clause-untouched
returns-clause-untouched c regions are =
    let core : Core Logging = core_of c.args.words.now c.args.storers.now in
    subst (λ (after : Core Logging). ChangesOnlyBehindBarrier regions core.words after.words after.actors) (sym c.replay.ensures) (schedule_leaves regions core are.0 are.1 (map Step c.args.schedule.now))

use Rattle.std.proofs.Common.{◌≡◌, ◌∙◌, ◌++◌, [], map, sym, ap, subst}
use Rattle.lxr_actor.specs.declared.Core.{Core}
use Rattle.lxr_actor.specs.declared.Event.TheVariants.{Step}
use Rattle.lxr_actor.specs.Run.{core_of, run}
use Rattle.lxr_core.specs.declared.actors.AnyActor.{AnyActor}
use Rattle.lxr_core.specs.Actors.{any_machine, mutators_in}
use Rattle.lxr_core.specs.Closing.{AreFinished}
use Rattle.lxr_sights.specs.Gates.{HavePassed}
use Rattle.lxr_run_replay.specs.Replaying.{CanBeReplayed, some_act}
use Rattle.lxr_run_replay.specs.Finishing.{StepsOfFirst}
use Rattle.lxr_run_replay.specs.Recording.{AreCallsOf, calls_in}
use Rattle.lxr_run_replay.proofs.PickLemmas.{all_finished}
use Rattle.lxr_run_replay.proofs.RecordLemmas.{calls_drawn, calls_told}
use Rattle.lxr_run_replay.proofs.ReplayLemmas.{can_go_on, none_left, replayed}
use Rattle.lxr_run_replay.proofs.replaying.replay.Goals as goal

pub finish_units-requires-clause-replayable : goal.finish_units-requires-clause-replayable
finish_units-requires-clause-replayable g c =
    let (drawn, draws, core_is, noted) = c.draw_steps.ensures.draws in
    subst CanBeReplayed (sym core_is) (can_go_on (core_of c.args.words.now c.args.actors.now) (map Step drawn) c.requires.replayable)

pub finish_units-requires-clause-finished : goal.finish_units-requires-clause-finished
finish_units-requires-clause-finished g c =
    let (drawn, draws, core_is, noted) = c.draw_steps.ensures.draws in
    let can : CanBeReplayed (core_of c.draw_steps.new.words c.draw_steps.new.actors) = subst CanBeReplayed (sym core_is) (can_go_on (core_of c.args.words.now c.args.actors.now) (map Step drawn) c.requires.replayable) in
    all_finished (mutators_in c.draw_steps.new.actors) (ap (λ (d : Core AnyActor). some_act (mutators_in d.actors)) core_is ∙ none_left c.args.tracing _ (core_of c.args.words.now c.args.actors.now) drawn _ draws) (can.mutators [])

pub returns-clause-schedule : goal.returns-clause-schedule
returns-clause-schedule g c =
    let (drawn, draws, core_is, noted) = c.draw_steps.ensures.draws in
    let to = replayed c.args.tracing _ (core_of c.args.words.now c.args.actors.now) _ drawn (core_of c.draw_steps.new.words c.draw_steps.new.actors) (core_of c.finish_units.new.words c.finish_units.new.actors) draws core_is
    c.finish_units.ensures.finishing c.finish_units.ensures.resting in
    let core = core_of c.args.words.now c.args.actors.now in
    let finishing = c.finish_units.ensures.finishing in
    let amid : core_of c.draw_steps.new.words c.draw_steps.new.actors ≡ run any_machine core (map Step drawn) = core_is in
    let can : CanBeReplayed (run any_machine core (map Step drawn)) = can_go_on core (map Step drawn) c.requires.replayable in
    let finished = all_finished (mutators_in (run any_machine core (map Step drawn)).actors) (none_left c.args.tracing _ core drawn _ draws) (can.mutators []) in
    let brought = calls_drawn core drawn finishing.schedule can finished (subst (λ (d : Core AnyActor). StepsOfFirst d finishing.schedule) amid finishing.firsts) in (
      to.schedule,
      calls_in core drawn,
      to.replays,
      to.core_is,
      subst (AreCallsOf core (map Step (drawn ++ finishing.schedule))) brought (calls_told core (drawn ++ finishing.schedule)),
      noted,
    )

pub returns-clause-finished : goal.returns-clause-finished
returns-clause-finished g c =
    let (drawn, draws, core_is, noted) = c.draw_steps.ensures.draws in
    let can : CanBeReplayed (core_of c.draw_steps.new.words c.draw_steps.new.actors) = subst CanBeReplayed (sym core_is) (can_go_on (core_of c.args.words.now c.args.actors.now) (map Step drawn) c.requires.replayable) in
    subst AreFinished (sym c.finish_units.ensures.finishing.mutators)
    (all_finished (mutators_in c.draw_steps.new.actors) (ap (λ (d : Core AnyActor). some_act (mutators_in d.actors)) core_is ∙ none_left c.args.tracing _ (core_of c.args.words.now c.args.actors.now) drawn _ draws) (can.mutators []))

pub returns-clause-passed : goal.returns-clause-passed
returns-clause-passed g c = subst (HavePassed (g.G.Gate.passed c.args.gate.now) (mutators_in c.args.actors.now)) (sym c.finish_units.ensures.finishing.mutators) c.draw_steps.ensures.passed

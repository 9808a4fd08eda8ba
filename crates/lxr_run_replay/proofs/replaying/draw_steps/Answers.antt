use Rattle.std.proofs.Common.{◌≡◌, ◌∙◌, [], length, sym, subst, ap}
use Rattle.std.proofs.lemmas.Option.{slice_get_within}
use Rattle.lxr_actor.specs.declared.Core.{Core}
use Rattle.lxr_actor.specs.Run.{core_of}
use Rattle.lxr_core.specs.declared.actors.AnyActor.{AnyActor}
use Rattle.lxr_core.specs.Actors.{mutators_in}
use Rattle.lxr_run_replay.specs.Replaying.{some_act}
use Rattle.lxr_run_replay.proofs.GateLemmas.{AreLetPass, have_passed, let_pass_none, let_pass_step}
use Rattle.lxr_run_replay.proofs.PickLemmas.{as_many_mutators, begins_with_mutator, picked_actor, test_tells, turn_nearer}
use Rattle.lxr_run_replay.proofs.RecordLemmas.{begins_recording, records_on, room_for_call}
use Rattle.lxr_run_replay.proofs.ReplayLemmas.{all_drawn, can_under_way, fits_next, turn_under_way}
use Rattle.lxr_run_replay.proofs.replaying.draw_steps.Goals as goal

pub turn-requires-clause-fits : goal.turn-requires-clause-fits
turn-requires-clause-fits g c κs lives = fits_next (core_of c.loop-numbers.words c.loop-numbers.actors) (can_under_way c.args.tracing _ _ _ _ c.requires.replayable c.loop-numbers.invariant.recording.under_way)

pub turn-requires-clause-some : goal.turn-requires-clause-some
turn-requires-clause-some g c κs lives =
    let (number, at, below) = c.begin_below.ensures.0 c.loop-numbers-test.true in
    slice_get_within c.loop-numbers.numbers 0 number at

pub turn-requires-clause-room : goal.turn-requires-clause-room
turn-requires-clause-room g c κs lives =
    room_for_call (core_of c.loop-numbers.words c.loop-numbers.actors) c.loop-numbers.calls
    (can_under_way c.args.tracing _ _ _ (core_of c.loop-numbers.words c.loop-numbers.actors) c.requires.replayable c.loop-numbers.invariant.recording.under_way) c.loop-numbers.invariant.recording.room

pub loop-numbers-smaller : goal.loop-numbers-smaller
loop-numbers-smaller g c =
    let s = c.turn.ensures.step in
    let order = (can_under_way c.args.tracing _ _ _ (core_of c.loop-numbers.words c.loop-numbers.actors) c.requires.replayable c.loop-numbers.invariant.recording.under_way).order [] in
    let some = begins_with_mutator c.args.tracing c.loop-numbers.actors c.loop-numbers.numbers c.mutators_among-mutators.result order c.loop-numbers.invariant.numbers c.loop-numbers.invariant.mutators (c.begin_below.ensures.0 c.loop-numbers-test.true) in
    turn_nearer c.args.tracing c.loop-numbers.x c.turn.new.x c.loop-numbers.words c.loop-numbers.actors s.0 c.turn.new.words c.turn.new.actors
    (turn_under_way c.args.tracing _ _ _ _ (core_of c.loop-numbers.words c.loop-numbers.actors) s.0 c.requires.replayable c.loop-numbers.invariant.recording.under_way some c.turn.ensures.state s.1) c.turn.ensures.state s.2

pub loop-numbers-init : goal.loop-numbers-init
loop-numbers-init g c = record { recording = begins_recording c.args.tracing _ _ _ c.requires.room; numbers = c.of-numbers.ensures; mutators = c.mutators_among-mutators.ensures; let_pass = let_pass_none (g.G.Gate.passed c.args.gate.now) (mutators_in c.args.actors.now) }

pub loop-numbers-preserved : goal.loop-numbers-preserved
loop-numbers-preserved g c =
    let s = c.turn.ensures.step in
    let order = (can_under_way c.args.tracing _ _ _ (core_of c.loop-numbers.words c.loop-numbers.actors) c.requires.replayable c.loop-numbers.invariant.recording.under_way).order [] in
    let some = begins_with_mutator c.args.tracing c.loop-numbers.actors c.loop-numbers.numbers c.mutators_among-mutators.result order c.loop-numbers.invariant.numbers c.loop-numbers.invariant.mutators (c.begin_below.ensures.0 c.loop-numbers-test.true) in
    let p = picked_actor c.args.tracing c.turn.new.x c.loop-numbers.actors s.0 s.1 in
    let as_many : length (mutators_in c.turn.new.actors) ≡ length (mutators_in c.loop-numbers.actors) =
    ap (λ (d : Core AnyActor). length (mutators_in d.actors)) s.2 ∙ as_many_mutators (core_of c.loop-numbers.words c.loop-numbers.actors) s.0 p.actor order p.at in
    record {
      recording = records_on c.args.tracing _ _ _ _ (core_of c.loop-numbers.words c.loop-numbers.actors) c.loop-numbers.calls _ _ _ s.0
          (can_under_way c.args.tracing _ _ _ (core_of c.loop-numbers.words c.loop-numbers.actors) c.requires.replayable c.loop-numbers.invariant.recording.under_way)
          c.loop-numbers.invariant.recording some c.turn.ensures.state s.1 s.2 s.4;
      numbers = c.turn.ensures.numbers;
      mutators = c.loop-numbers.invariant.mutators ∙ sym as_many;
      let_pass = subst (AreLetPass (g.G.Gate.passed c.args.gate.now) (mutators_in c.args.actors.now)) (sym (ap (λ (d : Core AnyActor). mutators_in d.actors) s.2))
          (let_pass_step (g.G.Gate.passed c.args.gate.now) (mutators_in c.args.actors.now) (core_of c.loop-numbers.words c.loop-numbers.actors) s.0 p.actor order p.at s.3 c.loop-numbers.invariant.let_pass);
    }

pub returns-clause-passed : goal.returns-clause-passed
returns-clause-passed g c = have_passed (g.G.Gate.passed c.args.gate.now) (mutators_in c.args.actors.now) (mutators_in c.loop-numbers.actors) c.loop-numbers.invariant.let_pass

pub returns-clause-draws : goal.returns-clause-draws
returns-clause-draws g c =
    let u = c.loop-numbers.invariant.recording.under_way in
    let order = (can_under_way c.args.tracing _ _ _ (core_of c.loop-numbers.words c.loop-numbers.actors) c.requires.replayable u).order [] in
    let told = test_tells c.args.tracing c.loop-numbers.actors c.loop-numbers.numbers c.mutators_among-mutators.result c.begin_below.result order c.loop-numbers.invariant.numbers c.loop-numbers.invariant.mutators c.begin_below.ensures in
    (u.schedule, all_drawn c.args.tracing _ _ u.schedule _ u.picks (ap (λ (d : Core AnyActor). some_act (mutators_in d.actors)) (sym u.core_is) ∙ (told ∙ c.loop-numbers-test.false)), u.core_is, c.loop-numbers.invariant.recording.calls)

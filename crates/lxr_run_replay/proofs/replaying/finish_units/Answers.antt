use Rattle.std.proofs.Common.{◌≡◌, arith, length, sym, subst}
use Rattle.lxr_actor.specs.Run.{core_of}
use Rattle.lxr_core.specs.Closing.{AreFinished}
use Rattle.lxr_run_replay.proofs.FinishLemmas.{all_rest, begins_finishing, can_finish, finishing_both}
use Rattle.lxr_run_replay.proofs.replaying.finish_units.Goals as goal

pub loop-number-init : goal.loop-number-init
loop-number-init c = record { finishing = begins_finishing _; before = λ i a at below. absurd (omega arith) }

pub finish_unit-requires-clause-replayable : goal.finish_unit-requires-clause-replayable
finish_unit-requires-clause-replayable c = can_finish _ (core_of c.loop-number.words c.loop-number.actors) c.requires.replayable c.loop-number.invariant.finishing

pub finish_unit-requires-clause-finished : goal.finish_unit-requires-clause-finished
finish_unit-requires-clause-finished c = subst AreFinished (sym c.loop-number.invariant.finishing.mutators) c.requires.finished

pub loop-number-preserved : goal.loop-number-preserved
loop-number-preserved c = record {
  finishing = finishing_both _ (core_of c.loop-number.words c.loop-number.actors) _ c.loop-number.invariant.finishing c.finish_unit.ensures.finishing;
  before = c.finish_unit.ensures.before;
}

pub returns-clause-resting : goal.returns-clause-resting
returns-clause-resting c =
    let many = c.loop-number.auto.actors in
    let all : c.loop-number.number ≡ length c.loop-number.actors = omega arith in
    all_rest c.loop-number.actors c.loop-number.number all c.loop-number.invariant.before

use Rattle.std.proofs.Common.{subst, Some, refl, sym, ap, ◌∙◌, get_or, length}
use Rattle.std.proofs.lemmas.Option.{slice_get_read}
use Rattle.lxr_actor.specs.declared.Core.{Core}
use Rattle.lxr_actor.specs.Run.{core_of, stepped, FitsAt}
use Rattle.lxr_actor.proofs.Runs.{replay-then, replay-else}
use Rattle.lxr_actor.proofs.replay.Goals as goal
use Rattle.lxr_actor.proofs.replay.Goals.{then-at-actors, else-at-actors}

pub step-requires : goal.step-requires
step-requires g c =
    let at = slice_get_read c.loop-number.actors (length c.loop-number.actors) _ c.index-actors-at.result refl c.if-at-actors.true c.index-actors-at.is in
    let fits = subst (λ (core : Core g.row.A.Denot). FitsAt g.A.Actor.machine core (get_or c.args.schedule.now c.loop-number.number-index 0)) (sym c.loop-number.invariant)
    (c.requires c.loop-number.number-index c.loop-number-test.true) in
    fits _ (at ∙ ap Some c.index-actors-at.is)

pub loop-number-preserved : goal.loop-number-preserved
loop-number-preserved g c =
    elim c.if-at-actors.branch [
      | then-at-actors w ↦
          let at = slice_get_read c.loop-number.actors (length c.loop-number.actors) _ w.index-actors-at.result refl w.if-at-actors.true w.index-actors-at.is in
          rw (w.words-is, w.actors-is) (replay-then g.A.Actor.machine (core_of c.args.words.now c.args.actors.now) c.args.schedule.now c.loop-number.number-index c.loop-number.words c.loop-number.actors
          _ refl c.loop-number-test.true c.loop-number.invariant w.index-actors-at.result w.step.new.words w.step.new.actor at (w.step.ensures.done ∙ ap (stepped g.A.Actor.machine c.loop-number.words) (sym w.index-actors-at.is)))
      | else-at-actors w ↦
          rw (w.words-is, w.actors-is) (replay-else g.A.Actor.machine (core_of c.args.words.now c.args.actors.now) c.args.schedule.now c.loop-number.number-index c.loop-number.words c.loop-number.actors
          _ refl c.loop-number-test.true c.loop-number.invariant w.if-at-actors.false)
    ]

use Rattle.std.proofs.Common.{◌≡◌, ◌<◌, ◌∙◌, arith, false, length, refl, sym, ap, subst}
use Rattle.std.specs.Prelude.{IsSome}
use Rattle.std.proofs.lemmas.Option.{slice_get_read}
use Rattle.lxr_actor.specs.Machine.{Fits, to_go}
use Rattle.lxr_actor.specs.Run.{core_of, stepped}
use Rattle.lxr_core.specs.declared.actors.AnyActor.{AnyActor}
use Rattle.lxr_core.specs.Actors.{any_machine}
use Rattle.lxr_run_replay.proofs.FinishLemmas.{can_finish, finishing_both, goes_nearer, one_more_rests, same_actor, stepped_once, steps_on, still_rest}
use Rattle.lxr_run_replay.proofs.ReplayLemmas.{fits_next}
use Rattle.lxr_run_replay.proofs.replaying.finish_unit.Goals as goal

-- the actor whose unit it is, as a step of the loop finds it
pub step-requires : goal.step-requires
step-requires c =
    let within : c.args.number < length c.loop-words.actors = let low = c.requires.number in let many = c.loop-words.auto.actors in omega arith in
    let at = slice_get_read c.loop-words.actors (length c.loop-words.actors) c.args.number c.index-actors-number-in-loop-words.result refl within c.index-actors-number-in-loop-words.is in
    let can = can_finish _ (core_of c.loop-words.words c.loop-words.actors) c.requires.replayable c.loop-words.invariant.finishing in
    subst (Fits any_machine c.loop-words.words) c.index-actors-number-in-loop-words.is (fits_next (core_of c.loop-words.words c.loop-words.actors) can c.args.number c.index-actors-number-in-loop-words.result at)

pub loop-words-smaller : goal.loop-words-smaller
loop-words-smaller c =
    let within : c.args.number < length c.loop-words.actors = let low = c.requires.number in let many = c.loop-words.auto.actors in omega arith in
    let at = slice_get_read c.loop-words.actors (length c.loop-words.actors) c.args.number c.index-actors-number-in-loop-words.result refl within c.index-actors-number-in-loop-words.is in
    let seen = slice_get_read c.loop-words.actors (length c.loop-words.actors) c.args.number c.index-actors-number.result refl within c.index-actors-number.is in
    let same = same_actor c.loop-words.actors c.args.number c.index-actors-number.result c.index-actors-number-in-loop-words.result seen at in
    let busy : any_machine.rests c.index-actors-number.result ≡ false = ap any_machine.rests c.index-actors-number.is ∙ (sym c.resting.ensures.rests ∙ c.loop-words-test.true) in
    let acts : IsSome (any_machine.action c.index-actors-number.result) = subst (λ (a : AnyActor). IsSome (any_machine.action a)) (sym c.index-actors-number.is) (c.resting.ensures.busy c.loop-words-test.true) in
    let acts' : IsSome (any_machine.action c.index-actors-number-in-loop-words.result) = subst (λ (a : AnyActor). IsSome (any_machine.action a)) same acts in
    let nearer : to_go any_machine c.step.new.actor < any_machine.left c.index-actors-number-in-loop-words.result =
    subst (λ (a : AnyActor). to_go any_machine c.step.new.actor < any_machine.left a) (sym c.index-actors-number-in-loop-words.is)
    (c.step.ensures.nearer (subst (λ (a : AnyActor). IsSome (any_machine.action a)) c.index-actors-number-in-loop-words.is acts')) in
    goes_nearer c.loop-words.actors c.args.number c.index-actors-number-in-loop-words.result c.step.new.actor at (subst (λ (a : AnyActor). any_machine.rests a ≡ false) same busy) nearer

pub loop-words-preserved : goal.loop-words-preserved
loop-words-preserved c =
    let within : c.args.number < length c.loop-words.actors = let low = c.requires.number in let many = c.loop-words.auto.actors in omega arith in
    let at = slice_get_read c.loop-words.actors (length c.loop-words.actors) c.args.number c.index-actors-number-in-loop-words.result refl within c.index-actors-number-in-loop-words.is in
    let seen = slice_get_read c.loop-words.actors (length c.loop-words.actors) c.args.number c.index-actors-number.result refl within c.index-actors-number.is in
    let same = same_actor c.loop-words.actors c.args.number c.index-actors-number.result c.index-actors-number-in-loop-words.result seen at in
    let busy : any_machine.rests c.index-actors-number.result ≡ false = ap any_machine.rests c.index-actors-number.is ∙ (sym c.resting.ensures.rests ∙ c.loop-words-test.true) in
    let has = steps_on _ c.loop-words.words c.loop-words.actors c.args.number c.index-actors-number-in-loop-words.result c.step.new.words c.step.new.actor c.requires.replayable c.requires.finished
    c.loop-words.invariant.finishing at (subst (λ (a : AnyActor). any_machine.rests a ≡ false) same busy) c.loop-words.invariant.before
    (c.step.ensures.done ∙ ap (stepped any_machine c.loop-words.words) (sym c.index-actors-number-in-loop-words.is)) in
    record {
      finishing = finishing_both _ (core_of c.loop-words.words c.loop-words.actors) _ c.loop-words.invariant.finishing (stepped_once _ _ _ _ _ _ has);
      before = still_rest c.loop-words.actors c.args.number c.step.new.actor c.loop-words.invariant.before;
    }

pub returns-clause-before : goal.returns-clause-before
returns-clause-before c =
    let within : c.args.number < length c.loop-words.actors = let low = c.requires.number in let many = c.loop-words.auto.actors in omega arith in
    let seen = slice_get_read c.loop-words.actors (length c.loop-words.actors) c.args.number c.index-actors-number.result refl within c.index-actors-number.is in
    one_more_rests c.loop-words.actors c.args.number c.index-actors-number.result seen (ap any_machine.rests c.index-actors-number.is ∙ (sym c.resting.ensures.rests ∙ c.loop-words-test.false)) c.loop-words.invariant.before

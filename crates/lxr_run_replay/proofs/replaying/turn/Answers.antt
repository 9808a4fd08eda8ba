use Rattle.std.proofs.Common.{List, length, refl, sym, subst, ap, ◌∙◌}
use Rattle.std.proofs.lemmas.Option.{slice_get_read}
use Rattle.lxr_actor.specs.Machine.{Fits}
use Rattle.lxr_actor.specs.Run.{stepped}
use Rattle.lxr_core.specs.declared.actors.AnyActor.{AnyActor}
use Rattle.lxr_core.specs.declared.actors.AnyActor.TheVariants as any
use Rattle.lxr_core.specs.Actors.{any_machine}
use Rattle.lxr_graph.specs.declared.Item.{Item}
use Rattle.lxr_run_replay.specs.Recording.{HasRoom, call_by, call_if, recorded}
use Rattle.lxr_run_replay.proofs.FinishLemmas.{same_actor}
use Rattle.lxr_run_replay.proofs.TurnLemmas.{after_turn, left_out, left_so, picked_there, picked_within}
use Rattle.lxr_run_replay.proofs.replaying.turn.Goals as goal

pub bounds-actors-number : goal.bounds-actors-number
bounds-actors-number g c =
    picked_within c.args.tracing c.draw.new.x c.args.actors.now c.from-number.result
    (picked_there c.args.tracing c.draw.new.x c.args.actors.now c.args.numbers.now c.draw.result c.len.result c.at.result c.from-number.result c.requires.numbers c.draw.ensures.drawn c.len.ensures c.at.ensures c.from-number.ensures)

pub advance-requires-clause-room : goal.advance-requires-clause-room
advance-requires-clause-room g c κs lives =
    let within = picked_within c.args.tracing c.draw.new.x c.args.actors.now c.from-number.result
    (picked_there c.args.tracing c.draw.new.x c.args.actors.now c.args.numbers.now c.draw.result c.len.result c.at.result c.from-number.result c.requires.numbers c.draw.ensures.drawn c.len.ensures c.at.ensures c.from-number.ensures) in
    let at = slice_get_read c.args.actors.now (length c.args.actors.now) _ c.index-actors-number.result refl within c.index-actors-number.is in
    subst (λ (a : AnyActor). HasRoom c.args.calls.now (length (call_by c.args.words.now a))) c.index-actors-number.is
    (subst (λ (xs : List Item). HasRoom c.args.calls.now (length xs)) (ap (call_if c.args.words.now) at) (c.requires.room c.from-number.result))

pub advance-requires-clause-fits : goal.advance-requires-clause-fits
advance-requires-clause-fits g c κs lives =
    let within = picked_within c.args.tracing c.draw.new.x c.args.actors.now c.from-number.result
    (picked_there c.args.tracing c.draw.new.x c.args.actors.now c.args.numbers.now c.draw.result c.len.result c.at.result c.from-number.result c.requires.numbers c.draw.ensures.drawn c.len.ensures c.at.ensures c.from-number.ensures) in
    let at = slice_get_read c.args.actors.now (length c.args.actors.now) _ c.index-actors-number.result refl within c.index-actors-number.is in
    subst (λ (a : AnyActor). Fits any_machine c.args.words.now a) c.index-actors-number.is (c.requires.fits c.from-number.result c.index-actors-number.result at)

pub returns-then-not-advance-clause-step : goal.returns-then-not-advance-clause-step
returns-then-not-advance-clause-step g c =
    let picked = picked_there c.args.tracing c.draw.new.x c.args.actors.now c.args.numbers.now c.draw.result c.len.result c.at.result c.from-number.result c.requires.numbers c.draw.ensures.drawn c.len.ensures c.at.ensures c.from-number.ensures in
    let within = picked_within c.args.tracing c.draw.new.x c.args.actors.now c.from-number.result picked in
    let at = slice_get_read c.args.actors.now (length c.args.actors.now) _ c.index-actors-number.result refl within c.index-actors-number.is in (
      c.from-number.result,
      picked,
      after_turn c.args.words.now c.args.actors.now c.from-number.result c.index-actors-number.result c.advance.new.words c.advance.new.actor at
          (c.advance.ensures.done ∙ ap (stepped any_machine c.args.words.now) (sym c.index-actors-number.is)),
      λ m there. c.advance.ensures.passed m (sym c.index-actors-number.is ∙ same_actor c.args.actors.now c.from-number.result c.index-actors-number.result (any.Mutator m) at there),
      c.advance.ensures.calls ∙ ap (recorded c.args.calls.now) (ap (call_by c.args.words.now) (sym c.index-actors-number.is) ∙ sym (ap (call_if c.args.words.now) at)),
    )

pub returns-else-not-advance-clause-step : goal.returns-else-not-advance-clause-step
returns-else-not-advance-clause-step g c =
    let picked = picked_there c.args.tracing c.draw.new.x c.args.actors.now c.args.numbers.now c.draw.result c.len.result c.at.result c.from-number.result c.requires.numbers c.draw.ensures.drawn c.len.ensures c.at.ensures c.from-number.ensures in
    let within = picked_within c.args.tracing c.draw.new.x c.args.actors.now c.from-number.result picked in
    let at = slice_get_read c.args.actors.now (length c.args.actors.now) _ c.index-actors-number.result refl within c.index-actors-number.is in (
      c.from-number.result,
      picked,
      after_turn c.args.words.now c.args.actors.now c.from-number.result c.index-actors-number.result c.advance.new.words c.advance.new.actor at
          (c.advance.ensures.done ∙ ap (stepped any_machine c.args.words.now) (sym c.index-actors-number.is)),
      λ m there. c.advance.ensures.passed m (sym c.index-actors-number.is ∙ same_actor c.args.actors.now c.from-number.result c.index-actors-number.result (any.Mutator m) at there),
      c.advance.ensures.calls ∙ ap (recorded c.args.calls.now) (ap (call_by c.args.words.now) (sym c.index-actors-number.is) ∙ sym (ap (call_if c.args.words.now) at)),
    )

pub returns-then-not-advance-clause-numbers : goal.returns-then-not-advance-clause-numbers
returns-then-not-advance-clause-numbers g c =
    c.remove.ensures ∙ left_out c.args.tracing c.args.actors.now c.args.numbers.now _ c.at.result c.from-number.result c.advance.new.actor c.requires.numbers c.at.ensures c.from-number.ensures (sym c.advance.ensures.goes_on ∙ c.if-not-advance.true)

pub returns-else-not-advance-clause-numbers : goal.returns-else-not-advance-clause-numbers
returns-else-not-advance-clause-numbers g c =
    left_so c.args.tracing c.args.actors.now c.args.numbers.now _ c.at.result c.from-number.result c.advance.new.actor c.requires.numbers c.at.ensures c.from-number.ensures (sym c.advance.ensures.goes_on ∙ c.if-not-advance.false)

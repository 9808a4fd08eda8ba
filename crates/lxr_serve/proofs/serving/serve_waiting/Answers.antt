use Rattle.std.proofs.Common.{arith}
use Rattle.std.proofs.lemmas.Option.{slice_get-get_or, slice_get_within}
use Rattle.lxr_serve.specs.Turns.{CanTakeTurn}
use Rattle.lxr_serve.proofs.ActorLemmas.{has_it, is_there}
use Rattle.lxr_serve.proofs.LoopLemmas.{all_taken, has_begun, left_by, next_one, taken_by}
use Rattle.lxr_serve.proofs.serving.serve_waiting.Goals as goal

pub loop-number-init : goal.loop-number-init
loop-number-init c = let (g, can) = c.requires.serving in has_begun c.args.collected c.args.actors.now c.args.space.now g can

pub bounds-actors-number : goal.bounds-actors-number
bounds-actors-number c =
    let (g, can) = c.requires.serving in
    let (m, next) = next_one c.args.collected c.args.actors.now c.args.space.now c.loop-number.number c.loop-number.actors c.loop-number.space c.loop-number.served c.loop-number.invariant g can (omega arith) in
    slice_get_within c.loop-number.actors c.loop-number.number _ next.there.among

pub serve_actor-requires : goal.serve_actor-requires
serve_actor-requires c =
    let (g, can) = c.requires.serving in
    let (m, next) = next_one c.args.collected c.args.actors.now c.args.space.now c.loop-number.number c.loop-number.actors c.loop-number.space c.loop-number.served c.loop-number.invariant g can (omega arith) in
    let here = slice_get-get_or c.loop-number.actors c.loop-number.number c.index-actors-number.result (slice_get_within c.loop-number.actors c.loop-number.number _ next.there.among) in
    record { turn = has_it (λ x. CanTakeTurn c.loop-number.space x) _ m (is_there c.loop-number.actors c.loop-number.number _ m next.there here) next.can }

pub loop-number-preserved : goal.loop-number-preserved
loop-number-preserved c =
    let (g, can) = c.requires.serving in
    let (m, next) = next_one c.args.collected c.args.actors.now c.args.space.now c.loop-number.number c.loop-number.actors c.loop-number.space c.loop-number.served c.loop-number.invariant g can (omega arith) in
    let here = slice_get-get_or c.loop-number.actors c.loop-number.number c.index-actors-number.result (slice_get_within c.loop-number.actors c.loop-number.number _ next.there.among) in
    taken_by c.args.collected c.args.actors.now c.args.space.now c.loop-number.number c.loop-number.actors c.loop-number.space c.loop-number.served c.loop-number.invariant g can (omega arith) _ c.serve_actor.new.actor here
    c.serve_actor.new.space c.in-Some.more c.in-Some.ensures

pub returns-in-None : goal.returns-in-None
returns-in-None c =
    let (g, can) = c.requires.serving in
    let (m, next) = next_one c.args.collected c.args.actors.now c.args.space.now c.loop-number.number c.loop-number.actors c.loop-number.space c.loop-number.served c.loop-number.invariant g can (omega arith) in
    let here = slice_get-get_or c.loop-number.actors c.loop-number.number c.index-actors-number.result (slice_get_within c.loop-number.actors c.loop-number.number _ next.there.among) in
    let ends = left_by c.args.collected c.args.actors.now c.args.space.now c.loop-number.number c.loop-number.actors c.loop-number.space c.loop-number.served c.loop-number.invariant g can (omega arith) _ c.serve_actor.new.actor here
    c.serve_actor.new.space c.in-None.ensures in
    record { answers = ends.answers; between = ends.between; helpers = ends.helpers }

pub returns : goal.returns
returns c =
    let (g, can) = c.requires.serving in
    let ends = all_taken c.args.collected c.args.actors.now c.args.space.now c.loop-number.number c.loop-number.actors c.loop-number.space c.loop-number.served c.loop-number.invariant g can (omega arith) in
    record { answers = ends.answers; between = ends.between; helpers = ends.helpers }

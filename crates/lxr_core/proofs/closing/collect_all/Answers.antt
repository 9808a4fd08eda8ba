use Rattle.lxr_core.proofs.CollectingLemmas.{next_gives, next_takes, none_given, none_held, one_more_given}
use Rattle.lxr_core.proofs.closing.collect_all.Goals as goal

pub loop-number-init : goal.loop-number-init
loop-number-init c = none_given c.args.space.now c.args.actors.now _ (none_held c.args.space.now c.clear.new.self c.clear.ensures)

pub give_up-requires-clause-gives : goal.give_up-requires-clause-gives
give_up-requires-clause-gives c =
    next_gives c.args.space.now c.args.actors.now c.loop-number.space c.loop-number.actors c.loop-number.number c.index-actors-number.result c.loop-number.invariant c.loop-number-test.true c.requires

pub give_up-requires-clause-takes : goal.give_up-requires-clause-takes
give_up-requires-clause-takes c =
    next_takes c.args.space.now c.args.actors.now c.loop-number.space c.loop-number.actors c.loop-number.number c.index-actors-number.result c.loop-number.invariant c.loop-number-test.true c.requires

pub loop-number-preserved : goal.loop-number-preserved
loop-number-preserved c =
    one_more_given c.args.space.now c.args.actors.now c.loop-number.space c.give_up.new.space c.loop-number.actors c.loop-number.number c.index-actors-number.result c.give_up.new.self c.loop-number.invariant
    c.loop-number-test.true c.requires c.give_up.ensures.space c.give_up.ensures.actor

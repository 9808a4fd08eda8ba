use Rattle.lxr_image.specs.Spaces.{tables_of}
use Rattle.std.proofs.Common.{◌≡◌, arith, subst}
use Rattle.std.specs.Prelude.{length}
use Rattle.lxr_core.specs.Filling.{HaveFilled}
use Rattle.lxr_core.proofs.PocketLemmas.{next_may_fill, none_filled, one_more_filled}
use Rattle.lxr_core.proofs.filling.fill_pockets.Goals as goal

pub loop-number-init : goal.loop-number-init
loop-number-init c = none_filled (tables_of c.args.space.now) c.args.space.now.limits.blocks c.args.actors.now

pub fill-from-requires-clause-empty : goal.fill-from-requires-clause-empty
fill-from-requires-clause-empty c =
    next_may_fill (tables_of c.args.space.now) c.args.space.now.limits.blocks c.loop-number.from c.args.actors.now c.loop-number.actors c.loop-number.number c.index-actors-number.result c.loop-number.invariant c.loop-number-test.true
    c.args.space.now.limits c.requires.empty

pub loop-number-preserved : goal.loop-number-preserved
loop-number-preserved c =
    one_more_filled (tables_of c.args.space.now) c.args.space.now.limits.blocks c.loop-number.from c.args.actors.now c.loop-number.actors c.loop-number.number c.index-actors-number.result c.loop-number.invariant c.loop-number-test.true
    c.fill-from.result c.fill-from.new.self c.fill-from.ensures

pub returns : goal.returns
returns c =
    let all : c.loop-number.number ≡ length c.args.actors.now = omega arith in
    (c.loop-number.from, subst (HaveFilled (tables_of c.args.space.now) c.args.space.now.limits.blocks c.loop-number.from c.args.actors.now c.loop-number.actors) all c.loop-number.invariant)

use Rattle.std.proofs.Common.{◌∙◌, ap, arith}
use Rattle.lxr_image.specs.Spaces.{tables_of}
use Rattle.lxr_trace.specs.Steps.{offered}
use Rattle.lxr_core.proofs.PocketLemmas.{fills_to_end, holds_none, none_yet, refuses, takes}
use Rattle.lxr_core.proofs.filling.fill_pocket.Goals as goal

pub loop-granule-init : goal.loop-granule-init
loop-granule-init c =
    let t = tables_of c.args.space.now in
    record { reached = omega arith; within = c.requires.from; places = holds_none t c.args.from c.args.tracer.now c.requires.empty; few = none_yet t c.args.from }

pub returns-then-not-offer : goal.returns-then-not-offer
returns-then-not-offer c =
    let is = c.loop-granule.invariant in
    refuses (tables_of c.args.space.now) c.args.space.now.limits c.args.from c.loop-granule.next c.in-Some.granule c.args.tracer.now c.loop-granule.tracer c.offer.new.self c.requires.tracer is.reached is.places is.few
    c.in-Some.ensures.next (c.if-not-offer.ensures ∙ ap (offered c.loop-granule.tracer) c.place_at.ensures)

pub loop-granule-preserved : goal.loop-granule-preserved
loop-granule-preserved c =
    let is = c.loop-granule.invariant in
    let next = c.in-Some.ensures.next in
    let taken = takes (tables_of c.args.space.now) c.args.space.now.limits c.args.from c.loop-granule.next c.in-Some.granule c.args.tracer.now c.loop-granule.tracer c.offer.new.self c.requires.tracer is.reached is.places is.few
    next (c.if-not-offer.ensures ∙ ap (offered c.loop-granule.tracer) c.place_at.ensures) in
    let low = is.reached in let high = next.reached in let within = next.within in
    record { reached = omega (arith, low, high); within = omega (arith, within); places = taken.0; few = taken.1 }

pub returns : goal.returns
returns c =
    let is = c.loop-granule.invariant in
    fills_to_end (tables_of c.args.space.now) c.args.space.now.limits.blocks c.args.from c.loop-granule.next c.args.tracer.now c.loop-granule.tracer is.reached is.within is.places is.few c.in_default.ensures.none

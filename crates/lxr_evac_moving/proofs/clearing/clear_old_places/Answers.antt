use Rattle.std.proofs.Common.{◌≡◌, ◌∙◌, ap, arith, subst}
use Rattle.lxr_image.specs.declared.space.Space.{Space}
use Rattle.lxr_image.specs.Spaces.{tables_of}
use Rattle.lxr_evac_moving.specs.Stages.{granules}
use Rattle.lxr_evac_moving.specs.Steps.{IsClearing}
use Rattle.lxr_evac_moving.proofs.ClearingLemmas.{all_cleared, cleared_again, same_heap}
use Rattle.lxr_evac_moving.proofs.clearing.clear_old_places.Goals as goal

pub clear_moved-requires : goal.clear_moved-requires
clear_moved-requires c = let r = c.requires in (r.0, r.1, _, c.loop-granule.invariant.clears r.0 r.1 r.2, c.in-Some.ensures.next)

pub loop-granule-preserved : goal.loop-granule-preserved
loop-granule-preserved c =
    let next = c.in-Some.ensures.next in
    let below = next.within in
    let same : granules c.loop-granule.space ≡ granules c.args.space.now = same_heap c.args.space.now c.loop-granule.space c.loop-granule.invariant.rest in
    record {
      within = omega (arith, below, same);
      clears = λ m st is. c.clear_moved.ensures.clears m st _ (c.loop-granule.invariant.clears m st is) next;
      tables = cleared_again (tables_of c.args.space.now) (tables_of c.loop-granule.space) (tables_of c.clear_moved.new.space) c.loop-granule.invariant.tables c.clear_moved.ensures.tables;
      rest = c.clear_moved.ensures.rest ∙ ap (λ (s : Space). record s { words = c.clear_moved.new.space.words }) c.loop-granule.invariant.rest;
    }

pub returns-clause-clears : goal.returns-clause-clears
returns-clause-clears c = λ m st is.
    let same : granules c.loop-granule.space ≡ granules c.args.space.now = same_heap c.args.space.now c.loop-granule.space c.loop-granule.invariant.rest in
    let within = c.loop-granule.invariant.within in
    subst (IsClearing c.loop-granule.space m st) same
    (all_cleared c.loop-granule.space m st c.loop-granule.from (c.loop-granule.invariant.clears m st is) (omega (arith, within, same)) c.in_default.ensures.none)

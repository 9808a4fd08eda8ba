use Rattle.std.proofs.Common.{◌+◌, ◌*◌, ◌≤◌, arith, subst, []}
use Rattle.lxr_layout.specs.declared.TheConstants.{GRANULES_IN_BLOCK}
use Rattle.lxr_image.specs.Spaces.{tables_of}
use Rattle.lxr_image_search.specs.declared.Wanted.TheVariants.{Unmarked}
use Rattle.lxr_image_search.specs.Search.{NoneWanted}
use Rattle.lxr_sweep_unmarked.specs.Clearing.{clearing}
use Rattle.lxr_sweep_unmarked.proofs.ClearingLemmas.{clearing_limits, clearing_used, first_clearing, found_on, unmarked_next}
use Rattle.lxr_sweep_unmarked.proofs.clearing.clear_all_unmarked.Goals as goal

pub loop-granule-init : goal.loop-granule-init
loop-granule-init c = record { stage = λ m at can. ([], first_clearing c.args.space.now m at can); within = omega arith }

pub next_wanted-requires : goal.next_wanted-requires
next_wanted-requires c =
    let x = c.loop-granule.invariant.stage c.requires.0 c.requires.1 c.requires.2 in
    record { space = x.1.space; free = clearing_used c.loop-granule.space _ x.1 }

pub clear_unmarked-requires : goal.clear_unmarked-requires
clear_unmarked-requires c =
    let x = c.loop-granule.invariant.stage c.requires.0 c.requires.1 c.requires.2 in
    (_, unmarked_next c.loop-granule.space c.args.space.now c.requires.0 c.requires.1 x.0 c.loop-granule.from _ c.in-Some.granule c.in-Some.ensures.next x.1)

pub loop-granule-preserved : goal.loop-granule-preserved
loop-granule-preserved c =
    let first = c.loop-granule.invariant.stage c.requires.0 c.requires.1 c.requires.2 in
    let limits = clearing_limits c.loop-granule.space (clearing c.args.space.now c.requires.0 c.requires.1 first.0 c.loop-granule.from) first.1 in
    record {
      stage = λ m at can.
          let x = c.loop-granule.invariant.stage m at can in
          let y = c.clear_unmarked.ensures _ (unmarked_next c.loop-granule.space c.args.space.now m at x.0 c.loop-granule.from _ c.in-Some.granule c.in-Some.ensures.next x.1) in
          (_, y.1);
      within = subst (λ l. c.in-Some.granule + 1 ≤ GRANULES_IN_BLOCK * l.blocks) limits (let inside = c.in-Some.ensures.next.within in omega (arith, inside));
    }

pub returns : goal.returns
returns c = λ m at can.
    let x = c.loop-granule.invariant.stage m at can in
    let limits = clearing_limits c.loop-granule.space (clearing c.args.space.now m at x.0 c.loop-granule.from) x.1 in (
      x.0,
      found_on c.loop-granule.space c.args.space.now m at x.0 c.loop-granule.from _
          (subst (λ l. NoneWanted (tables_of c.loop-granule.space) Unmarked c.loop-granule.from (GRANULES_IN_BLOCK * l.blocks)) limits c.in_default.ensures.none) x.1,
    )

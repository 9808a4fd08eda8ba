use Rattle.std.proofs.Common.{◌+◌, ◌*◌, ◌≤◌, arith, subst}
use Rattle.lxr_layout.specs.declared.TheConstants.{GRANULES_IN_BLOCK}
use Rattle.lxr_image.specs.Spaces.{tables_of}
use Rattle.lxr_image_search.specs.declared.Wanted.TheVariants.{Object}
use Rattle.lxr_image_search.specs.Search.{NoneWanted}
use Rattle.lxr_renew.proofs.HeadLemmas.{all_heads, begins_used, first_heads, heads_limits, heads_space, is_head, next_heads}
use Rattle.lxr_renew.proofs.heads.renew_heads.Goals as goal

pub loop-granule-init : goal.loop-granule-init
loop-granule-init c = record { heads = λ g ns may. first_heads c.args.space.now g ns; within = omega arith }

pub next_wanted-requires : goal.next_wanted-requires
next_wanted-requires c =
    let g = c.requires.0 in
    let ns = c.requires.1 in
    let may = c.requires.2 in
    let so_far = c.loop-granule.invariant.heads g ns may in
    record { space = heads_space c.args.space.now c.loop-granule.space g ns c.loop-granule.from may so_far; free = begins_used c.args.space.now c.loop-granule.space g ns c.loop-granule.from may so_far }

pub renew_head-requires : goal.renew_head-requires
renew_head-requires c =
    let g = c.requires.0 in
    let ns = c.requires.1 in
    let may = c.requires.2 in
    let so_far = c.loop-granule.invariant.heads g ns may in
    (ns, _, _, is_head c.args.space.now g ns may c.loop-granule.space c.loop-granule.from so_far _ c.in-Some.granule c.in-Some.ensures.next)

pub loop-granule-preserved : goal.loop-granule-preserved
loop-granule-preserved c =
    let limits = heads_limits c.args.space.now c.loop-granule.space c.requires.0 c.requires.1 c.loop-granule.from (c.loop-granule.invariant.heads c.requires.0 c.requires.1 c.requires.2) in
    record {
      heads = λ g ns may.
          let so_far = c.loop-granule.invariant.heads g ns may in
          let head = is_head c.args.space.now g ns may c.loop-granule.space c.loop-granule.from so_far _ c.in-Some.granule c.in-Some.ensures.next in
          next_heads c.args.space.now g ns may c.loop-granule.space c.loop-granule.from so_far _ c.in-Some.granule c.in-Some.ensures.next c.renew_head.new.space (c.renew_head.ensures ns _ _ head);
      within = subst (λ l. c.in-Some.granule + 1 ≤ GRANULES_IN_BLOCK * l.blocks) limits (let inside = c.in-Some.ensures.next.within in omega (arith, inside));
    }

pub returns : goal.returns
returns c = λ g ns may.
    let so_far = c.loop-granule.invariant.heads g ns may in
    let limits = heads_limits c.args.space.now c.loop-granule.space g ns c.loop-granule.from so_far in
    all_heads c.args.space.now g ns may c.loop-granule.space c.loop-granule.from so_far (GRANULES_IN_BLOCK * c.args.space.now.limits.blocks)
    (subst (λ l. NoneWanted (tables_of c.loop-granule.space) Object c.loop-granule.from (GRANULES_IN_BLOCK * l.blocks)) limits c.in_default.ensures.none) c.loop-granule.invariant.within

use Rattle.std.proofs.Common.{◌≡◌, ◌∙◌, ◌*◌, arith, ap, subst, sym}
use Rattle.lxr_layout.specs.declared.TheConstants.{GRANULES_IN_BLOCK}
use Rattle.lxr_image.specs.Spaces.{tables_of}
use Rattle.lxr_image_search.specs.declared.Wanted.TheVariants.{Object}
use Rattle.lxr_image_search.specs.Search.{NoneWanted}
use Rattle.lxr_pause_queue.specs.Entries.{entries_below, with_told}
use Rattle.lxr_pause_queue.proofs.EntryLemmas.{begins_with_none, none_more_told, told_then}
use Rattle.lxr_pause_queue.proofs.counting.add_counts.Goals as goal

pub loop-block-init : goal.loop-block-init
loop-block-init c = record { told = begins_with_none c.args.space.now c.requires.empty; within = omega arith }

pub add_words-requires-clause-told : goal.add_words-requires-clause-told
add_words-requires-clause-told c =
    let s = c.args.space.now in
    let mid = c.loop-block.space in
    let is = c.loop-block.invariant in
    let next = c.in-Some.ensures.next in
    let block = c.in-Some.block in
    let told : mid ≡ with_told s (entries_below (tables_of s) (GRANULES_IN_BLOCK * block)) = none_more_told s mid c.loop-block.from block is.told next.reached next.passed in
    ap (λ z. z.report.told.items) told ∙ ap (λ z. entries_below (tables_of z) (GRANULES_IN_BLOCK * block)) (sym is.told)

pub loop-block-preserved : goal.loop-block-preserved
loop-block-preserved c =
    let is = c.loop-block.invariant in
    let next = c.in-Some.ensures.next in
    record {
      told = told_then c.args.space.now c.loop-block.space c.add_words.new.space _ _ is.told c.add_words.ensures;
      within = let below = next.within in let blocks = ap (λ z. z.limits.blocks) is.told in omega (arith, below, blocks);
    }

pub returns : goal.returns
returns c =
    let s = c.args.space.now in
    let mid = c.loop-block.space in
    let is = c.loop-block.invariant in
    let rest = subst (λ z. NoneWanted (tables_of mid) Object (GRANULES_IN_BLOCK * c.loop-block.from) (GRANULES_IN_BLOCK * z.limits.blocks)) is.told c.in_default.ensures.none in
    none_more_told s mid c.loop-block.from s.limits.blocks is.told is.within rest

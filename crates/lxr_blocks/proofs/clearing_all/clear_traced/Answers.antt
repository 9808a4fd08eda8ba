use Rattle.std.proofs.Common.{◌≡◌, ◌+◌, ap, arith, subst}
use Rattle.lxr_image.specs.Spaces.{tables_of}
use Rattle.lxr_blocks.specs.declared.clearing_all.Bits.TheVariants.{Traced}
use Rattle.lxr_blocks.specs.States.{AreFreeBlocks}
use Rattle.lxr_blocks.proofs.ClearingAllLemmas.{clear_begin, clear_end, clear_passed, clear_space, clear_then, first_more, first_none, in_first}
use Rattle.lxr_blocks.proofs.clearing_all.clear_traced.Goals as goal

pub loop-block-init : goal.loop-block-init
loop-block-init c = record {
  space = c.requires.space;
  turns = clear_begin c.args.space.now Traced (in_first Traced 0) (first_none Traced);
  within = omega arith;
}

pub loop-block-preserved : goal.loop-block-preserved
loop-block-preserved c =
    let is = c.loop-block.invariant in
    let next = c.in-Some.ensures.next in
    let blocks : c.loop-block.space.limits.blocks ≡ c.args.space.now.limits.blocks = ap (λ s. s.limits.blocks) is.turns.rest in
    let block = c.in-Some.block in
    record {
      space = clear_space c.loop-block.space c.clear_block.new.space Traced _ is.space c.clear_block.ensures;
      turns = clear_then c.args.space.now c.loop-block.space c.clear_block.new.space Traced _ _ (in_first Traced (block + 1)) (λ k x. first_more Traced block k x)
          (clear_passed c.args.space.now c.loop-block.space Traced c.loop-block.from block c.requires.free next.reached next.passed is.turns) c.clear_block.ensures;
      within = let below = next.within in omega (arith, below, blocks);
    }

pub returns : goal.returns
returns c =
    let is = c.loop-block.invariant in
    let s = c.args.space.now in
    let blocks : c.loop-block.space.limits.blocks ≡ s.limits.blocks = ap (λ z. z.limits.blocks) is.turns.rest in
    let rest = subst (AreFreeBlocks (tables_of c.loop-block.space) c.loop-block.from) blocks c.in_default.ensures.none in
    clear_end s c.loop-block.space Traced c.requires.space (clear_passed s c.loop-block.space Traced c.loop-block.from s.limits.blocks c.requires.free is.within rest is.turns)

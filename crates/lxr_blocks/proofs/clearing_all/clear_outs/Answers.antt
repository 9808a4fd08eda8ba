use Rattle.std.proofs.Common.{◌≡◌, ◌+◌, ap, arith, subst, sym}
use Rattle.lxr_image.specs.Spaces.{IsSpace, Turns, tables_of}
use Rattle.lxr_blocks.specs.ClearingAll.{with_clear}
use Rattle.lxr_blocks.specs.declared.clearing_all.Bits.TheVariants.{Outs}
use Rattle.lxr_blocks.proofs.ClearingAllLemmas.{clear_begin, clear_end, clear_space, clear_then, first_more, first_none, in_first, none_out, outs_passed}
use Rattle.lxr_blocks.proofs.clearing_all.clear_outs.Goals as goal

pub loop-block-init : goal.loop-block-init
loop-block-init c =
    let s = c.args.space.now in
    let next = c.next_handed-block.ensures in
    record {
      space = c.requires;
      turns = outs_passed s s 0 c.next_handed-block.result (omega arith) (λ k from within. next.passed k (omega arith) within) (clear_begin s Outs (in_first Outs 0) (first_none Outs));
      within = next.range.1;
    }

pub know_none_out-requires-clause-block : goal.know_none_out-requires-clause-block
know_none_out-requires-clause-block c = let turned = ap (λ z. z.limits.blocks) c.clear_block.ensures.rest in let below = c.loop-block-test.true in omega (arith, turned, below)

pub know_none_out-requires-clause-none : goal.know_none_out-requires-clause-none
know_none_out-requires-clause-none c = none_out c.loop-block.space c.clear_block.new.space c.loop-block.block c.clear_block.ensures

pub next_handed-block-requires-in-loop-block : goal.next_handed-block-requires-in-loop-block
next_handed-block-requires-in-loop-block c =
    let turned = ap (λ z. z.limits.blocks) c.clear_block.ensures.rest in
    let noted = ap (λ z. z.limits.blocks) c.know_none_out.ensures in
    let below = c.loop-block-test.true in omega (arith, turned, noted, below)

pub loop-block-preserved : goal.loop-block-preserved
loop-block-preserved c =
    let s = c.args.space.now in
    let is = c.loop-block.invariant in
    let block = c.loop-block.block in
    let noted = c.know_none_out.new.self in
    let cleared : Turns s noted (with_clear (tables_of s) Outs (in_first Outs (block + 1))) =
    subst (λ z. Turns s z (with_clear (tables_of s) Outs (in_first Outs (block + 1)))) (sym c.know_none_out.ensures)
    (clear_then s c.loop-block.space c.clear_block.new.space Outs _ _ (in_first Outs (block + 1)) (λ k x. first_more Outs block k x) is.turns c.clear_block.ensures) in
    let last : noted.limits.blocks ≡ s.limits.blocks = ap (λ z. z.limits.blocks) cleared.rest in
    let next = c.next_handed-block-in-loop-block.ensures in
    let end = next.range.1 in
    record {
      space = subst IsSpace (sym c.know_none_out.ensures) (clear_space c.loop-block.space c.clear_block.new.space Outs _ is.space c.clear_block.ensures);
      turns = outs_passed s noted (block + 1) c.next_handed-block-in-loop-block.result next.range.0 next.passed cleared;
      within = omega (arith, end, last);
    }

pub returns : goal.returns
returns c =
    let s = c.args.space.now in
    let is = c.loop-block.invariant in
    let within = is.within in let past = c.loop-block-test.false in
    let same = ap (λ z. z.limits.blocks) is.turns.rest in
    let end : c.loop-block.block ≡ s.limits.blocks = omega (arith, within, past, same) in
    clear_end s c.loop-block.space Outs c.requires (subst (λ n. Turns s c.loop-block.space (with_clear (tables_of s) Outs (in_first Outs n))) end is.turns)

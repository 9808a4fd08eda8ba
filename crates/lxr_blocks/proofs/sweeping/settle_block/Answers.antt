use Rattle.std.proofs.Common.{◌+◌, ◌≤◌, ◌∙◌, arith, subst, sym}
use Rattle.lxr_image.specs.Settled.{StandsByLines}
use Rattle.lxr_image.specs.Spaces.{tables_of}
use Rattle.lxr_blocks.specs.Lines.{free_in}
use Rattle.lxr_blocks.specs.Masks.{IsMask}
use Rattle.lxr_blocks.proofs.KnownLemmas.{known_of_mask, longest_known}
use Rattle.lxr_blocks.proofs.SweptLemmas.{renewed_stands}
use Rattle.lxr_blocks.proofs.sweeping.settle_block.Goals as goal
use Rattle.lxr_blocks.proofs.sweeping.settle_block.Goals.{then-from-lt-LINES_IN_BLOCK-via-then-from-lt-LINES_IN_BLOCK, then-from-lt-LINES_IN_BLOCK-via-else-from-lt-LINES_IN_BLOCK+then-state_word-number}

pub settle-requires-clause-free : goal.settle-requires-clause-free
settle-requires-clause-free c =
    known_of_mask (tables_of c.put_state_by.new.space) c.args.block c.swept_mask-free.result
    (subst (λ u. IsMask c.swept_mask-free.result (free_in u c.args.block)) (sym c.put_state_by.ensures.tables) c.swept_mask-free.ensures)

pub settle-requires-clause-longest : goal.settle-requires-clause-longest
settle-requires-clause-longest c =
    longest_known (tables_of c.put_state_by.new.space) c.args.block c.swept_mask-free.result c.longest_of-longest.result
    (known_of_mask (tables_of c.put_state_by.new.space) c.args.block c.swept_mask-free.result
    (subst (λ u. IsMask c.swept_mask-free.result (free_in u c.args.block)) (sym c.put_state_by.ensures.tables) c.swept_mask-free.ensures))
    c.longest_of-longest.ensures

pub settle-requires-clause-state : goal.settle-requires-clause-state
settle-requires-clause-state c = subst (λ u. StandsByLines u c.args.block) (sym c.put_state_by.ensures.tables) (renewed_stands (tables_of c.args.space.now) c.args.block)

-- where all lines are free, the longest run has them all, and so the block's state was read
pub settle-requires-clause-whole : goal.settle-requires-clause-whole
settle-requires-clause-whole c all =
    let u = tables_of c.put_state_by.new.space in
    let free = known_of_mask u c.args.block c.swept_mask-free.result (subst (λ x. IsMask c.swept_mask-free.result (free_in x c.args.block)) (sym c.put_state_by.ensures.tables) c.swept_mask-free.ensures) in
    let long : 128 ≤ c.longest_of-longest.result = (longest_known u c.args.block c.swept_mask-free.result c.longest_of-longest.result free c.longest_of-longest.ensures).0 0 128 (omega arith) (λ i h. all (0 + i) (omega (arith, h))) in
    let from = c.from.ensures in
    elim c.then-from-lt-LINES_IN_BLOCK.branch [
      | then-from-lt-LINES_IN_BLOCK-via-then-from-lt-LINES_IN_BLOCK w ↦ let less = w.if-from-lt-LINES_IN_BLOCK.true in absurd (omega (arith, long, from, less))
      | then-from-lt-LINES_IN_BLOCK-via-else-from-lt-LINES_IN_BLOCK+then-state_word-number w ↦ sym w.state_word.ensures ∙ w.if-state_word-number.true ∙ w.number.ensures
    ]

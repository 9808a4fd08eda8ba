use Rattle.std.proofs.Common.{ℕ, subst, sym}
use Rattle.lxr_image.specs.Spaces.{Turns, tables_of}
use Rattle.lxr_blocks.specs.Handing.{handed_out}
use Rattle.lxr_blocks.specs.Lines.{IsFreeRun}
use Rattle.lxr_invariant.specs.Listed.{whole_block}
use Rattle.lxr_core_close.proofs.HandingLemmas.{block_free, block_handed}
use Rattle.lxr_core_close.proofs.handing.hand_out_block.Goals as goal

pub hand_out-requires-clause-run : goal.hand_out-requires-clause-run
hand_out-requires-clause-run c =
    subst (λ (b : ℕ). IsFreeRun (tables_of c.args.space.now) c.args.space.now.limits.blocks (whole_block b)) (sym c.free_at-block.ensures)
    (block_free c.requires.0 c.requires.1 c.args.space.now c.args.number c.requires.2 c.requires.3)

pub returns : goal.returns
returns c listed start is small =
    block_handed listed start c.args.space.now c.hand_out.new.space c.args.number is small
    (subst (λ (b : ℕ). Turns c.args.space.now c.hand_out.new.space (handed_out (tables_of c.args.space.now) (whole_block b))) c.free_at-block.ensures c.hand_out.ensures)

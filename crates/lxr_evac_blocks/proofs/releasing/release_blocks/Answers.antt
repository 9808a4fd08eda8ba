use Rattle.std.proofs.Common.{refl}
use Rattle.lxr_image.specs.Spaces.{tables_of}
use Rattle.lxr_image.proofs.SpaceLemmas.{still_space}
use Rattle.lxr_evac_blocks.specs.Releasing.{with_block_released}
use Rattle.lxr_evac_blocks.proofs.ReleaseLemmas.{more_released, none_released}
use Rattle.lxr_evac_blocks.proofs.releasing.release_blocks.Goals as goal

pub loop-block-init : goal.loop-block-init
loop-block-init c = record {
  space = c.requires;
  turns = record { tables = none_released (tables_of c.args.space.now); rest = refl };
}

pub loop-block-preserved : goal.loop-block-preserved
loop-block-preserved c =
    let before = c.loop-block.invariant in
    record {
      space = still_space c.loop-block.space c.release_block.new.space (with_block_released (tables_of c.loop-block.space) c.loop-block.block) before.space c.release_block.ensures refl;
      turns = more_released c.args.space.now c.loop-block.space c.release_block.new.space c.loop-block.block before.turns c.release_block.ensures;
    }

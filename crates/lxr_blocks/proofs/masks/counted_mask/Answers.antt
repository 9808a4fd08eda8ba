use Rattle.lxr_image.specs.Spaces.{tables_of}
use Rattle.lxr_blocks.proofs.MaskLemmas.{mask_of_free}
use Rattle.lxr_blocks.proofs.masks.counted_mask.Goals as goal

pub returns : goal.returns
returns c =
    mask_of_free (tables_of c.args.space.now) c.args.block c.uncounted_lines.result c.out_lines.result c.out_lines.type_inv c.uncounted_lines.ensures c.out_lines.ensures

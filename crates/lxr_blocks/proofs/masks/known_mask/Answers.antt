use Rattle.lxr_image.specs.Spaces.{tables_of}
use Rattle.lxr_blocks.proofs.KnownLemmas.{mask_where_known}
use Rattle.lxr_blocks.proofs.masks.known_mask.Goals as goal

pub returns : goal.returns
returns c = mask_where_known c.known_free.result (tables_of c.args.space.now) c.args.block c.known_free.ensures

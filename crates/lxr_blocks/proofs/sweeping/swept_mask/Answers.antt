use Rattle.std.proofs.Common.{◌∙◌, sym}
use Rattle.lxr_image.specs.Spaces.{tables_of}
use Rattle.lxr_blocks.proofs.KnownLemmas.{full_of_free}
use Rattle.lxr_blocks.proofs.sweeping.swept_mask.Goals as goal

pub returns-in-Free : goal.returns-in-Free
returns-in-Free c = full_of_free (tables_of c.args.space.now) c.args.block (c.requires.free (sym c.state.ensures ∙ c.in-Free.is))

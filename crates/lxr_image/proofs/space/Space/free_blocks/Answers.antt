use Rattle.std.proofs.Common.{◌∙◌, sym}
use Rattle.lxr_image.proofs.WriteLemmas.{size_is}
use Rattle.lxr_image.proofs.space.Space.free_blocks.Goals as goal

pub free_blocks-requires-clause-size : goal.free_blocks-requires-clause-size
free_blocks-requires-clause-size c = sym (size_is c.args.self.now.limits c.args.self.now.words) ∙ c.requires.size

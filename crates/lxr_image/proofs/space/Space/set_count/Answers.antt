use Rattle.std.proofs.Common.{◌∙◌, sym}
use Rattle.lxr_image.proofs.WriteLemmas.{size_is}
use Rattle.lxr_image.proofs.space.Space.set_count.Goals as goal

pub set_count-requires-clause-size : goal.set_count-requires-clause-size
set_count-requires-clause-size c = sym (size_is c.args.self.now.limits c.args.self.now.words) ∙ c.requires.space.size

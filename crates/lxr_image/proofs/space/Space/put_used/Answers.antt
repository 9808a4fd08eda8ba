use Rattle.std.proofs.Common.{◌∙◌, sym}
use Rattle.lxr_image.proofs.UsedLemmas.{used_page}
use Rattle.lxr_image.proofs.WriteLemmas.{size_is}
use Rattle.lxr_image.proofs.space.Space.put_used.Goals as goal

pub put_used-requires-clause-size : goal.put_used-requires-clause-size
put_used-requires-clause-size c = sym (size_is c.args.self.now.limits c.args.self.now.words) ∙ c.requires.space.size

pub put_used-requires-clause-used : goal.put_used-requires-clause-used
put_used-requires-clause-used c = used_page c.args.self.now c.args.at c.requires.space c.requires.used

use Rattle.std.proofs.Common.{◌∙◌, sym}
use Rattle.lxr_image.proofs.WriteLemmas.{size_is}
use Rattle.lxr_image.proofs.space.Space.put_runs.Goals as goal

pub put_runs-requires-clause-size : goal.put_runs-requires-clause-size
put_runs-requires-clause-size c = sym (size_is c.args.self.now.limits c.args.self.now.words) ∙ c.requires.space.size

use Rattle.lxr_image.proofs.SettledLemmas.{same_known}
use Rattle.lxr_image.proofs.settled.Settled.keep_known.Goals as goal

pub returns-then-blocks-self-clause-knows : goal.returns-then-blocks-self-clause-knows
returns-then-blocks-self-clause-knows c t u k same = c.forget.ensures.knows t u k

pub returns-else-blocks-self-clause-knows : goal.returns-else-blocks-self-clause-knows
returns-else-blocks-self-clause-knows c t u k same = same_known c.args.self.now t u k (same c.if-blocks-self.false)

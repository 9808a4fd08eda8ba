use Rattle.lxr_image.proofs.SettledLemmas.{distrust_known, keeps_known}
use Rattle.lxr_image.proofs.settled.Settled.distrust.Goals as goal

pub returns-then-blocks-self-clause-knows : goal.returns-then-blocks-self-clause-knows
returns-then-blocks-self-clause-knows c t u known keeps = c.forget.ensures.knows t u (distrust_known c.args.self.now t known)

pub returns-else-blocks-self-clause-knows : goal.returns-else-blocks-self-clause-knows
returns-else-blocks-self-clause-knows c t u known keeps = keeps_known c.args.self.now t u known (keeps c.if-blocks-self.false)

use Rattle.lxr_image.proofs.SettledLemmas.{count_disturbs, count_known}
use Rattle.lxr_image.proofs.settled.Settled.note_count.Goals as goal

pub returns-then-blocks-self-clause-knows : goal.returns-then-blocks-self-clause-knows
returns-then-blocks-self-clause-knows c t u k changes = c.forget.ensures.knows t u k

pub returns-then-old-eq0-clause-knows : goal.returns-then-old-eq0-clause-knows
returns-then-old-eq0-clause-knows c t u k changes = c.note.ensures.knows t u k (count_disturbs c.args.granule c.args.old c.args.new t u (changes c.if-blocks-self.false))

pub returns-else-new-eq0-clause-knows : goal.returns-else-new-eq0-clause-knows
returns-else-new-eq0-clause-knows c t u k changes = count_known c.args.self.now c.args.granule c.args.old c.args.new t u c.if-old-eq0.false c.if-new-eq0.false k (changes c.if-blocks-self.false)

use Rattle.lxr_judge.proofs.JudgingLemmas.{one_further}
use Rattle.lxr_judge.proofs.judging.Judging.took_all.Goals as goal

pub loop-before-preserved : goal.loop-before-preserved
loop-before-preserved c = λ h tells pass t low high.
    one_further c.args.sources.now h c.loop-before.before t (c.loop-before.invariant h tells pass) ((c.took_all_of.ensures h tells pass).0 c.if-not-took_all_of.false) low high

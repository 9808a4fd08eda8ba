use Rattle.std.proofs.Common.{◌+◌, refl}
use Rattle.lxr_judge.proofs.JudgingLemmas.{none_further}
use Rattle.lxr_judge.proofs.judging.Judging.some_reason.Goals as goal

pub returns-then-is_reason : goal.returns-then-is_reason
returns-then-is_reason c = λ h keeps. (λ holds. (c.loop-before.before + 1, (c.is_reason.ensures h keeps).0 c.if-is_reason.true), λ found. refl)

pub loop-before-preserved : goal.loop-before-preserved
loop-before-preserved c = λ h keeps t high reason.
    none_further c.args.sources.now h c.loop-before.before t c.is_reason.result (c.loop-before.invariant h keeps) c.if-is_reason.false (c.is_reason.ensures h keeps).1 high reason

use Rattle.std.proofs.Common.{sym}
use Rattle.lxr_judge.proofs.JudgingLemmas.{collects_here, waits_here}
use Rattle.lxr_judge.proofs.judging.Judging.may_collect.Goals as goal

pub returns-then-must_collect : goal.returns-then-must_collect
returns-then-must_collect c = λ h keeps.
    collects_here c.args.sources.now h c.must_collect.result c.if-must_collect.true (c.must_collect.ensures c.args.sources.now.terms h (sym c.threads.ensures.exact) keeps.progress)

pub returns : goal.returns
returns c = λ h keeps.
    waits_here c.args.sources.now h c.must_collect.result c.in_ok-waits.waits c.if-must_collect.false (c.must_collect.ensures c.args.sources.now.terms h (sym c.threads.ensures.exact) keeps.progress) (c.in_ok-waits.ensures h keeps)

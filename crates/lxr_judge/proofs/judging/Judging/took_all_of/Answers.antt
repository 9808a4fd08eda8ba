use Rattle.lxr_judge.proofs.JudgingLemmas.{took_iff}
use Rattle.lxr_judge.proofs.judging.Judging.took_all_of.Goals as goal

pub returns-then-calls_of-operations : goal.returns-then-calls_of-operations
returns-then-calls_of-operations c = λ h tells pass.
    took_iff c.args.sources.now h c.args.thread c.operation_count-operations.result c.calls_of.result c.reply_count.result pass c.operation_count-operations.ensures (c.calls_of.ensures c.args.sources.now.terms h tells) c.reply_count.ensures c.if-calls_of-operations.true

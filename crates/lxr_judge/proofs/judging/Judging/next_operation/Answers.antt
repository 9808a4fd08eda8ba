use Rattle.lxr_judge.proofs.JudgingLemmas.{formed_some, named_some}
use Rattle.lxr_judge.proofs.judging.Judging.next_operation.Goals as goal

pub returns-clause-formed : goal.returns-clause-formed
returns-clause-formed c = λ readable. formed_some c.args.sources.now c.args.thread c.calls_of.result c.operation.result c.operation.ensures c.requires.thread.0 c.requires.thread.1 readable

pub returns-clause-named : goal.returns-clause-named
returns-clause-named c = λ readable. named_some c.args.sources.now c.args.thread c.calls_of.result c.operation.result c.operation.ensures c.requires.thread.0 c.requires.thread.1 readable

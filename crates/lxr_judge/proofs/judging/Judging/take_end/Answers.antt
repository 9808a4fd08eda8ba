use Rattle.std.proofs.Common.{sym, ◌∙◌}
use Rattle.lxr_judge.proofs.TryLemmas.{ends_none, ends_tried}
use Rattle.lxr_judge.proofs.judging.Judging.take_end.Goals as goal

pub returns-in-None-clause-tried : goal.returns-in-None-clause-tried
returns-in-None-clause-tried c = λ h keeps place text some. ends_none c.args.sources.now h c.args.self.now c.args.self.now keeps (sym c.in-None.is ∙ c.trace_began.ensures)

pub returns-in_ok-taken-in-Some-clause-tried : goal.returns-in_ok-taken-in-Some-clause-tried
returns-in_ok-taken-in-Some-clause-tried c = λ h keeps place text some.
    ends_tried c.args.sources.now h c.args.self.now c.take_pause_as.new.self c.in-Some.began c.in_ok-taken-in-Some.taken keeps (sym c.in-Some.is ∙ c.trace_began.ensures) (c.in_ok-taken-in-Some.ensures.tried h keeps place text some)

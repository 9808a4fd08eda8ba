use Rattle.lxr_judge.proofs.JudgingLemmas.{pause_collects, pause_other}
use Rattle.lxr_judge.proofs.judging.Judging.may_pause.Goals as goal

pub returns-in_ok-may-in-Collect : goal.returns-in_ok-may-in-Collect
returns-in_ok-may-in-Collect c = λ h keeps.
    pause_collects c.args.sources.now h c.args.kind c.may_stand.result c.has_reason.result c.in_ok-may-in-Collect.may c.in-Collect.is c.if-not-may_stand.false c.if-not-has_reason.false (c.may_stand.ensures h keeps) (c.has_reason.ensures h keeps) (c.in_ok-may-in-Collect.ensures h keeps)

pub returns-in_default : goal.returns-in_default
returns-in_default c = λ h keeps.
    pause_other c.args.sources.now h c.args.kind c.may_stand.result c.has_reason.result c.in_default.not-Collect c.if-not-may_stand.false c.if-not-has_reason.false (c.may_stand.ensures h keeps) (c.has_reason.ensures h keeps)

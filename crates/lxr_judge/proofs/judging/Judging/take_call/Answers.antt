use Rattle.std.proofs.Common.{sym, ◌∙◌}
use Rattle.lxr_judge.proofs.TryLemmas.{call_tried}
use Rattle.lxr_judge.proofs.judging.Judging.take_call.Goals as goal

pub returns-in_ok-taken-in-Some : goal.returns-in_ok-taken-in-Some
returns-in_ok-taken-in-Some c = λ h keeps place.
    call_tried c.args.sources.now h c.args.thread c.in-Some.op c.take_operation.new.self c.in_ok-taken-in-Some.taken place (c.has_thread.ensures.exact.0 c.if-not-has_thread.false) (sym (c.next_operation.ensures.exact h keeps.progress) ∙ c.in-Some.is)
    (c.in-Some.ensures.named c.requires.readable) ((c.may_go_on.ensures h keeps.progress).0 c.if-not-may_go_on.false) (c.in_ok-taken-in-Some.ensures h keeps)

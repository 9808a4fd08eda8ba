use Rattle.std.proofs.Common.{sym, ◌∙◌, length}
use Rattle.lxr_judge.specs.Passing.{is_call_of}
use Rattle.lxr_judge.proofs.JudgingLemmas.{behind_is}
use Rattle.lxr_judge.proofs.judging.Judging.goes_on.Goals as goal

pub returns-then-has_call_behind : goal.returns-then-has_call_behind
returns-then-has_call_behind c = λ h tells. (
  λ yes. record {
    behind = sym (behind_is (is_call_of c.args.thread) c.args.sources.now.order c.args.self.now.progress.items (length h) c.has_call_behind.result tells.items c.has_call_behind.ensures) ∙ c.if-has_call_behind.true;
    finds = (c.has_next_call.ensures h tells).0 yes;
  },
  λ on. (c.has_next_call.ensures h tells).1 on.finds,
)

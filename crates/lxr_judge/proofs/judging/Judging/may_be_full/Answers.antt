use Rattle.std.proofs.Common.{ap}
use Rattle.lxr_model.specs.Terms.{Terms}
use Rattle.lxr_judge.proofs.JudgingLemmas.{not_full_here, full_here}
use Rattle.lxr_judge.proofs.judging.Judging.may_be_full.Goals as goal

pub returns-then-not-self : goal.returns-then-not-self
returns-then-not-self c = λ h keeps. not_full_here c.args.sources.now h c.args.self.now c.args.shape keeps c.if-not-self.true

pub returns : goal.returns
returns c = λ h keeps.
    full_here c.args.sources.now h c.args.self.now c.args.shape c.in_ok-full.full c.terms-terms.result.blocks c.lines_of.result keeps c.in_ok-full.ensures (ap (λ (t : Terms). t.blocks) c.terms-terms.ensures.0) c.lines_of.ensures c.if-not-self.false

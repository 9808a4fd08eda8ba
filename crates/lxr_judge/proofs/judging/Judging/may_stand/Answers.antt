use Rattle.std.proofs.Common.{◌+◌, ap, sym, arith}
use Rattle.lxr_model.specs.Terms.{Terms}
use Rattle.lxr_judge.proofs.JudgingLemmas.{stands_told}
use Rattle.lxr_judge.proofs.judging.Judging.may_stand.Goals as goal

pub returns : goal.returns
returns c = λ h keeps.
    stands_told c.args.sources.now h c.args.self.now c.stands.result c.must_collect-must_collect.result c.trace_began-began.result (c.from-number.result + 1) c.terms-terms.result.trace c.terms-terms.result.within c.args.kind keeps
    c.stands.ensures (c.must_collect-must_collect.ensures c.args.sources.now.terms h (sym c.threads.ensures.exact) keeps.progress) c.trace_began-began.ensures (let a = c.from-number.ensures in let b = c.number.ensures in omega (arith, a, b))
    (ap (λ (t : Terms). t.trace) c.terms-terms.ensures.0) (ap (λ (t : Terms). t.within) c.terms-terms.ensures.0)

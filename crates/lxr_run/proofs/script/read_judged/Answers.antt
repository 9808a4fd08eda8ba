-- What was read is a case to its end, which can be judged, or was refused for what was read.
use Rattle.std.proofs.Common.{subst, sym, ◌≡◌}
use Rattle.lxr_case.specs.Reading.{IsCaseOf, IsRefusedFor}
use Rattle.lxr_run.specs.Causes.{refusal_of_case}
use Rattle.lxr_run.specs.Runs.{stream}
use Rattle.lxr_run.specs.Script.{GivesNoCase}
use Rattle.lxr_run.proofs.CaseLemmas.{can_be_judged, case_read_from, case_refused_by}
use Rattle.lxr_run.proofs.InputLemmas.{if_err}
use Rattle.lxr_run.proofs.script.read_judged.Goals as goal

pub returns-in_err-case-clause-refused : goal.returns-in_err-case-clause-refused
returns-in_err-case-clause-refused g c =
    let input = stream g.I.Source.left g.I.Source.faults c.args.input.now c.read_all.new.input in
    if_err c.from_residual-in_err-case.result (λ why. why ≡ refusal_of_case c.in_err-case.field-0.0) (λ why. GivesNoCase why input) c.from_residual-in_err-case.ensures.1
    (λ why is. subst (λ z. GivesNoCase z input) (sym is)
    (case_refused_by input c.in_ok-bytes.bytes.items c.in_ok-bytes.ensures.taken c.in_ok-bytes.ensures.end c.in_ok-bytes.ensures.limited c.in_err-case.field-0.0
    (subst (λ z. IsRefusedFor z c.in_err-case.field-0.0) c.deref.ensures.value c.in_err-case.ensures.exact)))

pub returns-clause-read : goal.returns-clause-read
returns-clause-read g c =
    case_read_from (stream g.I.Source.left g.I.Source.faults c.args.input.now c.read_all.new.input) c.in_ok-bytes.bytes.items c.in_ok-case.case c.in_ok-bytes.ensures.taken c.in_ok-bytes.ensures.end
    (subst (λ z. IsCaseOf z c.in_ok-case.case) c.deref.ensures.value c.in_ok-case.ensures.exact)

pub returns-clause-limits : goal.returns-clause-limits
returns-clause-limits g c =
    can_be_judged c.in_ok-bytes.bytes.items c.in_ok-case.case (subst (λ z. IsCaseOf z c.in_ok-case.case) c.deref.ensures.value c.in_ok-case.ensures.exact) c.in_ok-case.ensures.threads c.in_ok-case.ensures.limits

-- What was read is a script with large objects to its end, or was refused for what was read.
use Rattle.std.proofs.Common.{subst, sym, ◌≡◌}
use Rattle.std.specs.Prelude.{Ok}
use Rattle.lxr_text_script.specs.Reading.{Fails}
use Rattle.lxr_large_text.specs.Reading.{large_reading_of}
use Rattle.lxr_run.specs.Causes.{refusal_of_script}
use Rattle.lxr_run.specs.Runs.{stream}
use Rattle.lxr_run.specs.Script.{GivesNone}
use Rattle.lxr_run.proofs.InputLemmas.{if_err, large_accepted_short, read_from, refused_by}
use Rattle.lxr_run.proofs.script.read_operations.Goals as goal

pub returns-in_err-operations-clause-refused : goal.returns-in_err-operations-clause-refused
returns-in_err-operations-clause-refused g c =
    let input = stream g.I.Source.left g.I.Source.faults c.args.input.now c.read_all.new.input in
    if_err c.from_residual-in_err-operations.result (λ why. why ≡ refusal_of_script c.in_err-operations.field-0.0) (λ why. GivesNone large_reading_of why input) c.from_residual-in_err-operations.ensures.1
    (λ why is. subst (λ z. GivesNone large_reading_of z input) (sym is)
    (refused_by large_reading_of input c.in_ok-bytes.bytes.items c.in_err-operations.field-0.0 c.in_ok-bytes.ensures.taken c.in_ok-bytes.ensures.end c.in_ok-bytes.ensures.limited
    (subst (λ z. Fails c.in_err-operations.field-0.0 (large_reading_of z)) c.deref.ensures.value c.in_err-operations.ensures.exact)))

pub returns-clause-read : goal.returns-clause-read
returns-clause-read g c =
    read_from large_reading_of large_accepted_short (stream g.I.Source.left g.I.Source.faults c.args.input.now c.read_all.new.input) c.in_ok-bytes.bytes.items c.in_ok-operations.operations.items c.in_ok-bytes.ensures.taken c.in_ok-bytes.ensures.end
    (subst (λ z. large_reading_of z ≡ Ok c.in_ok-operations.operations.items) c.deref.ensures.value c.in_ok-operations.ensures.exact)

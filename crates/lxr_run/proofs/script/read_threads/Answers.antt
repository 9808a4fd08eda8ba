-- What was read is a script to its end, or was refused for what was read.
use Rattle.std.proofs.Common.{subst, sym, ◌≡◌}
use Rattle.std.specs.Prelude.{Ok}
use Rattle.lxr_text_script.specs.Reading.{Fails, reading_of, threads_in}
use Rattle.lxr_run.specs.Causes.{refusal_of_script}
use Rattle.lxr_run.specs.Runs.{stream}
use Rattle.lxr_run.specs.Script.{GivesNone}
use Rattle.lxr_run.proofs.InputLemmas.{accepted_short, if_err, read_from, refused_by}
use Rattle.lxr_run.proofs.script.read_threads.Goals as goal

pub returns-in_err-script-clause-refused : goal.returns-in_err-script-clause-refused
returns-in_err-script-clause-refused g c =
    let input = stream g.I.Source.left g.I.Source.faults c.args.input.now c.read_all.new.input in
    if_err c.from_residual-in_err-script.result (λ why. why ≡ refusal_of_script c.in_err-script.field-0.0) (λ why. GivesNone reading_of why input) c.from_residual-in_err-script.ensures.1
    (λ why is. subst (λ z. GivesNone reading_of z input) (sym is)
    (refused_by reading_of input c.in_ok-bytes.bytes.items c.in_err-script.field-0.0 c.in_ok-bytes.ensures.taken c.in_ok-bytes.ensures.end c.in_ok-bytes.ensures.limited
    (subst (λ z. Fails c.in_err-script.field-0.0 (reading_of z)) c.deref.ensures.value c.in_err-script.ensures.exact)))

pub returns-clause-read : goal.returns-clause-read
returns-clause-read g c =
    read_from reading_of accepted_short (stream g.I.Source.left g.I.Source.faults c.args.input.now c.read_all.new.input) c.in_ok-bytes.bytes.items (threads_in c.in_ok-script.script) c.in_ok-bytes.ensures.taken c.in_ok-bytes.ensures.end
    (subst (λ z. reading_of z ≡ Ok (threads_in c.in_ok-script.script)) c.deref.ensures.value c.in_ok-script.ensures.exact)

-- The status follows from what the run came to and what was told of it.
use Rattle.std.proofs.Common.{inl, subst, map, refl, List, ℕ, Bor}
use Rattle.lxr_run.specs.Outcome.{HasStopped}
use Rattle.lxr_run.specs.Runs.{run_of, stream, watcher}
use Rattle.lxr_run.specs.declared.Status.TheVariants as status
use Rattle.lxr_run.proofs.OutcomeLemmas.{ended_by, script_told}
use Rattle.lxr_run.proofs.lxr.Goals as goal

pub returns-in-Ok-clause-script : goal.returns-in-Ok-clause-script
returns-in-Ok-clause-script g c =
    let run = run_of (map (λ (word : Bor (List ℕ)). word.now) c.args.words.now) (stream g.I.Source.left g.I.Source.faults c.args.input.now c.attempt.new.input) (stream g.O.Sink.written g.O.Sink.faults c.args.output.now c.attempt.new.output)
    (watcher g.W.Watch.seen c.args.watch.now c.attempt.new.watch) c.attempt.new.space in
    script_told run (stream g.E.Sink.written g.E.Sink.faults c.args.errors.now c.args.errors.now) status.Done (c.in-Ok.ensures.done, refl)

pub returns-in-Err-Output-clause-ended : goal.returns-in-Err-Output-clause-ended
returns-in-Err-Output-clause-ended g c =
    let run = run_of (map (λ (word : Bor (List ℕ)). word.now) c.args.words.now) (stream g.I.Source.left g.I.Source.faults c.args.input.now c.attempt.new.input) (stream g.O.Sink.written g.O.Sink.faults c.args.output.now c.attempt.new.output)
    (watcher g.W.Watch.seen c.args.watch.now c.attempt.new.watch) c.attempt.new.space in
    let stopped = subst (λ z. HasStopped z run) c.in-Err-Output.field-0-is c.in-Err-Output.ensures.stopped in inl (stopped.0, stopped.1, refl)

pub returns-in-Err-Output-clause-script : goal.returns-in-Err-Output-clause-script
returns-in-Err-Output-clause-script g c =
    let run = run_of (map (λ (word : Bor (List ℕ)). word.now) c.args.words.now) (stream g.I.Source.left g.I.Source.faults c.args.input.now c.attempt.new.input) (stream g.O.Sink.written g.O.Sink.faults c.args.output.now c.attempt.new.output)
    (watcher g.W.Watch.seen c.args.watch.now c.attempt.new.watch) c.attempt.new.space in
    let stopped = subst (λ z. HasStopped z run) c.in-Err-Output.field-0-is c.in-Err-Output.ensures.stopped in
    script_told run (stream g.E.Sink.written g.E.Sink.faults c.args.errors.now c.args.errors.now) status.WriteFault (inl (stopped.0, stopped.1, refl))

pub returns-in-Err-Refused-clause-ended : goal.returns-in-Err-Refused-clause-ended
returns-in-Err-Refused-clause-ended g c =
    let run = run_of (map (λ (word : Bor (List ℕ)). word.now) c.args.words.now) (stream g.I.Source.left g.I.Source.faults c.args.input.now c.attempt.new.input) (stream g.O.Sink.written g.O.Sink.faults c.args.output.now c.attempt.new.output)
    (watcher g.W.Watch.seen c.args.watch.now c.attempt.new.watch) c.attempt.new.space in
    ended_by run (stream g.E.Sink.written g.E.Sink.faults c.args.errors.now c.tell.new.errors) c.in-Err-Refused.refusal c.tell.result
    (subst (λ z. HasStopped z run) c.in-Err-Refused.field-0-is c.in-Err-Refused.ensures.stopped) c.tell.ensures

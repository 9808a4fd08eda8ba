-- The outcome of the loop is the run's, and so is that of playing.
use Rattle.std.proofs.Common.{ap, false, map, refl, subst, List, ℕ, Bor, Err}
use Rattle.lxr_text_script.specs.Reading.{lists_in}
use Rattle.lxr_large_run.specs.Played.{IsCutOff, IsPlayed}
use Rattle.lxr_words.specs.Options.{script_commands}
use Rattle.lxr_run.specs.LargeRuns.{large_task_of}
use Rattle.lxr_run.specs.Runs.{run_of, stream, watcher}
use Rattle.lxr_run.specs.Replayed.{IsReplayed, task_of}
use Rattle.lxr_run.specs.Script.{IsAnyGivenBy}
use Rattle.lxr_run.proofs.InputLemmas.{unread_where}
use Rattle.lxr_run.proofs.OutcomeLemmas.{done_by, done_by_playing, not_for_cases, not_for_threads, replayed_by, stopped_at, stopped_at_judging, stopped_at_playing}
use Rattle.lxr_run.proofs.attempt.attempt.Goals as goal

pub run_and_print-requires-clause-opened : goal.run_and_print-requires-clause-opened
run_and_print-requires-clause-opened g c = λ lifetimes bounds. (
  record { options = c.in_ok-options.options; renews = false; script = lists_in c.in-Threads.lists; written = g.O.Sink.written c.args.output.now; seen = g.W.Watch.seen c.args.watch.now },
  refl,
  c.in_ok-actors-in-Threads.ensures.opened (g.O.Sink.written c.args.output.now) (g.W.Watch.seen c.args.watch.now),
)

pub returns-in_ok-run_and_print-in-Threads-clause-done : goal.returns-in_ok-run_and_print-in-Threads-clause-done
returns-in_ok-run_and_print-in-Threads-clause-done g c =
    let run = run_of (map (λ (word : Bor (List ℕ)). word.now) c.args.words.now) (stream g.I.Source.left g.I.Source.faults c.args.input.now c.script_for.new.input) (stream g.O.Sink.written g.O.Sink.faults c.args.output.now c.run_and_print.new.output)
    (watcher g.W.Watch.seen c.args.watch.now c.run_and_print.new.watch) c.run_and_print.new.space in
    done_by run c.in_ok-options.options (lists_in c.in-Threads.lists) (record { accepted = c.in_ok-options.ensures.answers; given = subst (IsAnyGivenBy c.in_ok-options.options run.input) c.in-Threads.is c.in_ok-script.ensures.given })
    (c.in_ok-run_and_print-in-Threads.ensures.done (task_of run c.in_ok-options.options (lists_in c.in-Threads.lists)) refl
    (c.in_ok-actors-in-Threads.ensures.opened (g.O.Sink.written c.args.output.now) (g.W.Watch.seen c.args.watch.now)))

pub returns-in_ok-run_and_print-in-Threads-clause-replayed : goal.returns-in_ok-run_and_print-in-Threads-clause-replayed
returns-in_ok-run_and_print-in-Threads-clause-replayed g c =
    let run = run_of (map (λ (word : Bor (List ℕ)). word.now) c.args.words.now) (stream g.I.Source.left g.I.Source.faults c.args.input.now c.script_for.new.input) (stream g.O.Sink.written g.O.Sink.faults c.args.output.now c.run_and_print.new.output)
    (watcher g.W.Watch.seen c.args.watch.now c.run_and_print.new.watch) c.run_and_print.new.space in
    λ threads. replayed_by run c.in_ok-options.options (lists_in c.in-Threads.lists) (record { accepted = c.in_ok-options.ensures.answers; given = subst (IsAnyGivenBy c.in_ok-options.options run.input) c.in-Threads.is c.in_ok-script.ensures.given })
    (c.in_ok-run_and_print-in-Threads.ensures.done (task_of run c.in_ok-options.options (lists_in c.in-Threads.lists)) refl
    (c.in_ok-actors-in-Threads.ensures.opened (g.O.Sink.written c.args.output.now) (g.W.Watch.seen c.args.watch.now)))

pub returns-in_err-run_and_print-in-Threads-clause-stopped : goal.returns-in_err-run_and_print-in-Threads-clause-stopped
returns-in_err-run_and_print-in-Threads-clause-stopped g c =
    let run = run_of (map (λ (word : Bor (List ℕ)). word.now) c.args.words.now) (stream g.I.Source.left g.I.Source.faults c.args.input.now c.script_for.new.input) (stream g.O.Sink.written g.O.Sink.faults c.args.output.now c.run_and_print.new.output)
    (watcher g.W.Watch.seen c.args.watch.now c.run_and_print.new.watch) c.run_and_print.new.space in
    stopped_at run c.in_ok-options.options (lists_in c.in-Threads.lists) c.in_err-run_and_print-in-Threads.field-0.0 c.from_residual-in_err-run_and_print-in-Threads.result c.from_residual-in_err-run_and_print-in-Threads.ensures
    (record { accepted = c.in_ok-options.ensures.answers; given = subst (IsAnyGivenBy c.in_ok-options.options run.input) c.in-Threads.is c.in_ok-script.ensures.given })
    (λ e. c.in_err-run_and_print-in-Threads.ensures.cause (ap Err e))
    (c.in_err-run_and_print-in-Threads.ensures.cut_short (task_of run c.in_ok-options.options (lists_in c.in-Threads.lists)) refl
    (c.in_ok-actors-in-Threads.ensures.opened (g.O.Sink.written c.args.output.now) (g.W.Watch.seen c.args.watch.now)))

pub returns-in_ok-space-in-Large-clause-done : goal.returns-in_ok-space-in-Large-clause-done
returns-in_ok-space-in-Large-clause-done g c =
    let run = run_of (map (λ (word : Bor (List ℕ)). word.now) c.args.words.now) (stream g.I.Source.left g.I.Source.faults c.args.input.now c.script_for.new.input) (stream g.O.Sink.written g.O.Sink.faults c.args.output.now c.play_large.new.output)
    (watcher g.W.Watch.seen c.args.watch.now c.args.watch.now) c.in_ok-space-in-Large.field-0 in
    done_by_playing run c.in_ok-options.options c.in-Large.operations.items (record { accepted = c.in_ok-options.ensures.answers; given = subst (IsAnyGivenBy c.in_ok-options.options run.input) c.in-Large.is c.in_ok-script.ensures.given })
    (subst (λ z. IsPlayed (large_task_of run c.in_ok-options.options z.items) (run.output.bytes run.output.after) run.space) c.in_ok-run-in-Large.ensures.script
    (c.in_ok-space-in-Large.ensures.done c.in_ok-options.options.blocks c.in_ok-options.options.bodies c.in_ok-run-in-Large.ensures.ready)) refl

pub returns-in_ok-space-in-Large-clause-replayed : goal.returns-in_ok-space-in-Large-clause-replayed
returns-in_ok-space-in-Large-clause-replayed g c =
    let run = run_of (map (λ (word : Bor (List ℕ)). word.now) c.args.words.now) (stream g.I.Source.left g.I.Source.faults c.args.input.now c.script_for.new.input) (stream g.O.Sink.written g.O.Sink.faults c.args.output.now c.play_large.new.output)
    (watcher g.W.Watch.seen c.args.watch.now c.args.watch.now) c.in_ok-space-in-Large.field-0 in
    λ threads. absurd {A = IsReplayed run} (not_for_threads run.words run.input c.in_ok-options.options c.in-Large.operations.items
    (record { accepted = c.in_ok-options.ensures.answers; given = subst (IsAnyGivenBy c.in_ok-options.options run.input) c.in-Large.is c.in_ok-script.ensures.given }) threads)

pub returns-in_err-space-in-Large-clause-stopped : goal.returns-in_err-space-in-Large-clause-stopped
returns-in_err-space-in-Large-clause-stopped g c =
    let run = run_of (map (λ (word : Bor (List ℕ)). word.now) c.args.words.now) (stream g.I.Source.left g.I.Source.faults c.args.input.now c.script_for.new.input) (stream g.O.Sink.written g.O.Sink.faults c.args.output.now c.play_large.new.output)
    (watcher g.W.Watch.seen c.args.watch.now c.args.watch.now) c.args.space.now in
    stopped_at_playing run c.in_ok-options.options c.in-Large.operations.items c.in_err-space-in-Large.field-0.0 c.from_residual-in_err-space-in-Large.result c.from_residual-in_err-space-in-Large.ensures
    (record { accepted = c.in_ok-options.ensures.answers; given = subst (IsAnyGivenBy c.in_ok-options.options run.input) c.in-Large.is c.in_ok-script.ensures.given })
    (λ e. c.in_err-space-in-Large.ensures.cause (ap Err e))
    (subst (λ z. IsCutOff (large_task_of run c.in_ok-options.options z.items) (run.output.bytes run.output.after)) c.in_ok-run-in-Large.ensures.script
    (c.in_err-space-in-Large.ensures.cut_off c.in_ok-options.options.blocks c.in_ok-options.options.bodies c.in_ok-run-in-Large.ensures.ready)) refl c.requires

pub returns-in_ok-space-in-Large-clause-unread : goal.returns-in_ok-space-in-Large-clause-unread
returns-in_ok-space-in-Large-clause-unread g c = λ none. unread_where (map (λ (word : Bor (List ℕ)). word.now) c.args.words.now) c.in_ok-options.options (script_commands c.in_ok-options.options.command) c.args.input.now c.script_for.new.input
    c.in_ok-options.ensures.answers refl c.in_ok-script.ensures.unread none

pub returns-in_err-space-in-Large-clause-unread : goal.returns-in_err-space-in-Large-clause-unread
returns-in_err-space-in-Large-clause-unread g c = λ none. unread_where (map (λ (word : Bor (List ℕ)). word.now) c.args.words.now) c.in_ok-options.options (script_commands c.in_ok-options.options.command) c.args.input.now c.script_for.new.input
    c.in_ok-options.ensures.answers refl c.in_ok-script.ensures.unread none

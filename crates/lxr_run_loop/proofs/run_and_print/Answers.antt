use Rattle.std.proofs.Common.{inl, inr, refl, subst, sym}
use Rattle.std.proofs.lemmas.Result.{on_ok_weaker}
use Rattle.lxr_run_loop.specs.Progress.{IsComplete, IsUnderWay, SomeIsUnderWay}
use Rattle.lxr_rounds.proofs.ResultLemmas.{passed_on, told_at_err}
use Rattle.lxr_run_loop.proofs.run_and_print.Goals as goal

pub run_threads-requires-clause-under_way : goal.run_threads-requires-clause-under_way
run_threads-requires-clause-under_way g c = λ lifetimes bounds.
    subst (SomeIsUnderWay c.args.options c.args.space.now (g.O.Sink.written c.args.output.now) (g.W.Watch.seen c.args.watch.now) c.args.actors.items) (sym c.begin-course.ensures) c.requires.opened

pub returns-in_err-run_threads-clause-cut_short : goal.returns-in_err-run_threads-clause-cut_short
returns-in_err-run_threads-clause-cut_short g c = passed_on _ c.from_residual.result c.in_err-run_threads.field-0.0 c.from_residual.ensures.1
    (λ task with_options opened. inl (c.in_err-run_threads.ensures.err task with_options (subst (IsUnderWay task c.args.space.now (g.O.Sink.written c.args.output.now) (g.W.Watch.seen c.args.watch.now) c.args.actors.items) (sym c.begin-course.ensures) opened)))

pub print_end-requires : goal.print_end-requires
print_end-requires g c =
    let (task, with_options, opened) = c.requires.opened in
    let complete = subst (λ actors. IsComplete task c.run_threads.new.space (g.O.Sink.written c.run_threads.new.output) (g.W.Watch.seen c.run_threads.new.watch) actors c.run_threads.new.course) (sym c.deref.ensures.value)
    (c.in_ok-run_threads.ensures.ok task with_options (subst (IsUnderWay task c.args.space.now (g.O.Sink.written c.args.output.now) (g.W.Watch.seen c.args.watch.now) c.args.actors.items) (sym c.begin-course.ensures) opened)) in
    (task, with_options, g.W.Watch.seen c.run_threads.new.watch, c.run_threads.new.course, refl, refl, complete)

pub returns-clause-done : goal.returns-clause-done
returns-clause-done g c = on_ok_weaker c.print_end.result (λ printed. λ task with_options opened.
    let complete = subst (λ actors. IsComplete task c.run_threads.new.space (g.O.Sink.written c.run_threads.new.output) (g.W.Watch.seen c.run_threads.new.watch) actors c.run_threads.new.course) (sym c.deref.ensures.value)
    (c.in_ok-run_threads.ensures.ok task with_options (subst (IsUnderWay task c.args.space.now (g.O.Sink.written c.args.output.now) (g.W.Watch.seen c.args.watch.now) c.args.actors.items) (sym c.begin-course.ensures) opened)) in
    printed task with_options (g.W.Watch.seen c.run_threads.new.watch) c.run_threads.new.course refl refl complete) c.print_end.ensures.ok

pub returns-clause-cut_short : goal.returns-clause-cut_short
returns-clause-cut_short g c = told_at_err _ c.print_end.result c.print_end.ensures.err (λ why printed. λ task with_options opened.
    let complete = subst (λ actors. IsComplete task c.run_threads.new.space (g.O.Sink.written c.run_threads.new.output) (g.W.Watch.seen c.run_threads.new.watch) actors c.run_threads.new.course) (sym c.deref.ensures.value)
    (c.in_ok-run_threads.ensures.ok task with_options (subst (IsUnderWay task c.args.space.now (g.O.Sink.written c.args.output.now) (g.W.Watch.seen c.args.watch.now) c.args.actors.items) (sym c.begin-course.ensures) opened)) in
    inr (printed task with_options (g.W.Watch.seen c.run_threads.new.watch) c.run_threads.new.course refl refl complete))

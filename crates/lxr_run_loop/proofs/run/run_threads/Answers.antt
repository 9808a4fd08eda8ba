use Rattle.std.proofs.Common.{arith}
use Rattle.lxr_rounds.proofs.ResultLemmas.{passed_on}
use Rattle.lxr_run_loop.proofs.ProgressLemmas.{complete_from, nearer, under_way_from}
use Rattle.lxr_run_loop.proofs.run.run_threads.Goals as goal

pub make_round-requires-clause-under_way : goal.make_round-requires-clause-under_way
make_round-requires-clause-under_way g c = λ lifetimes bounds.
    let (task, with_options, under_way) = c.requires.under_way in
    (task, with_options, c.loop-ended.invariant.under_way task with_options under_way c.loop-ended-test.true)

pub returns-in_err-ended-clause-err : goal.returns-in_err-ended-clause-err
returns-in_err-ended-clause-err g c = passed_on _ c.from_residual.result c.in_err-ended.field-0.0 c.from_residual.ensures.1
    (λ task with_options under_way. c.in_err-ended.ensures.err task with_options (c.loop-ended.invariant.under_way task with_options under_way c.loop-ended-test.true))

pub loop-ended-smaller : goal.loop-ended-smaller
loop-ended-smaller g c =
    let (task, with_options, under_way) = c.requires.under_way in
    nearer task c.make_round.new.space (g.O.Sink.written c.make_round.new.output) (g.W.Watch.seen c.make_round.new.watch) c.loop-ended.actors.items c.make_round.new.actors.items c.make_round.new.course c.loop-ended.ended c.in_ok-ended.ended
    c.loop-ended-test.true (c.in_ok-ended.ensures.ok task with_options (c.loop-ended.invariant.under_way task with_options under_way c.loop-ended-test.true))

pub loop-ended-preserved : goal.loop-ended-preserved
loop-ended-preserved g c = record {
  under_way = λ task with_options under_way more.
      under_way_from task c.make_round.new.space (g.O.Sink.written c.make_round.new.output) (g.W.Watch.seen c.make_round.new.watch) c.loop-ended.actors.items c.make_round.new.actors.items c.make_round.new.course c.in_ok-ended.ended more
      (c.in_ok-ended.ensures.ok task with_options (c.loop-ended.invariant.under_way task with_options under_way c.loop-ended-test.true));
  complete = λ task with_options under_way there.
      complete_from task c.make_round.new.space (g.O.Sink.written c.make_round.new.output) (g.W.Watch.seen c.make_round.new.watch) c.loop-ended.actors.items c.make_round.new.actors.items c.make_round.new.course c.in_ok-ended.ended there
      (c.in_ok-ended.ensures.ok task with_options (c.loop-ended.invariant.under_way task with_options under_way c.loop-ended-test.true));
  faults = let before = c.loop-ended.invariant.faults in let after = c.make_round.ensures.faults in omega arith;
}

pub returns-clause-ok : goal.returns-clause-ok
returns-clause-ok g c = λ task with_options under_way. c.loop-ended.invariant.complete task with_options under_way c.loop-ended-test.false

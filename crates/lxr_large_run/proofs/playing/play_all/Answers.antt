use Rattle.std.proofs.Common.{◌∙◌, arith}
use Rattle.std.proofs.lemmas.Result.{on_err_weaker, on_ok_weaker}
use Rattle.lxr_text_print.proofs.PageLemmas.{OnErr-always}
use Rattle.lxr_large_run.proofs.CallLemmas.{may_be_called}
use Rattle.lxr_large_run.proofs.EndLemmas.{end_comes, next_comes}
use Rattle.lxr_large_run.proofs.playing.play_all.Goals as goal

pub play_one-requires-clause-op : goal.play_one-requires-clause-op
play_one-requires-clause-op g c = may_be_called _ (c.requires.script.each c.loop-i.i _ c.loop-i-test.true)

pub play_one-requires-clause-playing : goal.play_one-requires-clause-playing
play_one-requires-clause-playing g c =
    let (task, same, all, p) = c.requires.playing in
    let (k, q) = c.loop-i.invariant.playing task same all p in
    (task, same, _, k, next_comes task c.args.operations.now c.loop-i.i _ c.loop-i.heap (g.O.Sink.written c.loop-i.output) c.loop-i.replies.items k c.loop-i-test.true q)

pub returns-in_err-play_one-clause-err : goal.returns-in_err-play_one-clause-err
returns-in_err-play_one-clause-err g c = OnErr-always c.from_residual.result (λ task same all p.
    let (k, q) = c.loop-i.invariant.playing task same all p in
    c.in_err-play_one.ensures.err task same _ k (next_comes task c.args.operations.now c.loop-i.i _ c.loop-i.heap (g.O.Sink.written c.loop-i.output) c.loop-i.replies.items k c.loop-i-test.true q))

pub loop-i-preserved : goal.loop-i-preserved
loop-i-preserved g c = record {
  playing = λ task same all p.
      let (k, q) = c.loop-i.invariant.playing task same all p in
      c.in_ok-play_one.ensures.ok task same _ k (next_comes task c.args.operations.now c.loop-i.i _ c.loop-i.heap (g.O.Sink.written c.loop-i.output) c.loop-i.replies.items k c.loop-i-test.true q);
  room = c.in_ok-play_one.ensures.kept.0 ∙ c.loop-i.invariant.room;
  kept = omega (arith, c.in_ok-play_one.ensures.kept.1, c.loop-i.invariant.kept);
  faults = omega (arith, c.in_ok-play_one.ensures.faults, c.loop-i.invariant.faults);
}

pub play_one-requires-2-clause-playing : goal.play_one-requires-2-clause-playing
play_one-requires-2-clause-playing g c =
    let (task, same, all, p) = c.requires.playing in
    let (k, q) = c.loop-i.invariant.playing task same all p in
    (task, same, _, k, end_comes task c.args.operations.now c.loop-i.i c.loop-i.heap (g.O.Sink.written c.loop-i.output) c.loop-i.replies.items k c.loop-i-test.false q)

pub returns-clause-ok : goal.returns-clause-ok
returns-clause-ok g c = on_ok_weaker c.play_one-2.result (λ played. λ task same all p.
    let (k, q) = c.loop-i.invariant.playing task same all p in
    played task same _ k (end_comes task c.args.operations.now c.loop-i.i c.loop-i.heap (g.O.Sink.written c.loop-i.output) c.loop-i.replies.items k c.loop-i-test.false q)) c.play_one-2.ensures.ok

pub returns-clause-err : goal.returns-clause-err
returns-clause-err g c = on_err_weaker c.play_one-2.result (λ cut. λ task same all p.
    let (k, q) = c.loop-i.invariant.playing task same all p in
    cut task same _ k (end_comes task c.args.operations.now c.loop-i.i c.loop-i.heap (g.O.Sink.written c.loop-i.output) c.loop-i.replies.items k c.loop-i-test.false q)) c.play_one-2.ensures.err

pub returns-clause-cause : goal.returns-clause-cause
returns-clause-cause g c = λ fault. let rose = c.play_one-2.ensures.cause fault in omega (arith, c.loop-i.invariant.faults, rose)

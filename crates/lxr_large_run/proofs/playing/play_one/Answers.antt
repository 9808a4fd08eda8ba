use Rattle.std.proofs.Common.{◌∙◌, subst, sym, arith}
use Rattle.std.proofs.lemmas.Result.{on_err_weaker, on_ok_weaker}
use Rattle.lxr_graph.specs.History.{report_of}
use Rattle.lxr_text_print.specs.Reports.{report_text}
use Rattle.lxr_text_stream.specs.Streams.{Appends, AppendsFront}
use Rattle.lxr_large_run.specs.Playing.{TellsPrinted}
use Rattle.lxr_large_run.proofs.EndLemmas.{few_replies}
use Rattle.lxr_large_run.proofs.PlayLemmas.{cut_behind, goes_on, goes_on_behind}
use Rattle.lxr_large_run.proofs.playing.play_one.Goals as goal

pub pause-requires : goal.pause-requires
pause-requires g c =
    let (task, same, rest, h, p) = c.requires.playing in
    let (k, came) = c.in_ok-reply.ensures.ok task same rest h p in
    let few = few_replies task c.args.op rest c.args.heap.now (g.O.Sink.written c.args.output.now) c.args.replies.now.items h p in
    let pauses = came.pauses in
    record { holds = (_, came.holds); number = omega (arith, few, pauses) }

pub returns-in-None-clause-ok : goal.returns-in-None-clause-ok
returns-in-None-clause-ok g c = λ task same rest h p.
    let (k, came) = c.in_ok-reply.ensures.ok task same rest h p in
    rw c.push.ensures (_, goes_on task c.args.op rest c.in_ok-reply.reply c.act.new.heap (g.O.Sink.written c.act.new.output) c.args.replies.now.items k came (sym c.asked_by.ensures ∙ c.in-None.is))

pub returns-in-Some-clause-ok : goal.returns-in-Some-clause-ok
returns-in-Some-clause-ok g c = on_ok_weaker c.pause.result (λ printed. λ task same rest h p.
    let (k, came) = c.in_ok-reply.ensures.ok task same rest h p in
    rw c.push.ensures (
      _,
      goes_on_behind task c.args.op rest c.in_ok-reply.reply c.act.new.heap (g.O.Sink.written c.act.new.output) c.args.replies.now.items k came c.in-Some.collect (sym c.asked_by.ensures ∙ c.in-Some.is) c.pause.new.heap
          (c.pause.ensures.pauses _ came.holds) (g.O.Sink.written c.pause.new.output)
          (subst (λ b. Appends (g.O.Sink.written c.act.new.output) (g.O.Sink.written c.pause.new.output) (report_text b (report_of c.pause.new.heap.space.report))) (sym same) printed)
          (subst (λ b. TellsPrinted b c.pause.new.heap.space.report) (sym same) (c.pause.ensures.told _ came.holds)),
    )) c.pause.ensures.ok

pub returns-in-Some-clause-err : goal.returns-in-Some-clause-err
returns-in-Some-clause-err g c = on_err_weaker c.pause.result (λ front. λ task same rest h p.
    let (k, came) = c.in_ok-reply.ensures.ok task same rest h p in
    cut_behind task c.args.op rest c.in_ok-reply.reply c.act.new.heap (g.O.Sink.written c.act.new.output) c.args.replies.now.items k came c.in-Some.collect (sym c.asked_by.ensures ∙ c.in-Some.is) c.pause.new.heap
    (c.pause.ensures.pauses _ came.holds) (g.O.Sink.written c.pause.new.output)
    (subst (λ b. AppendsFront (g.O.Sink.written c.act.new.output) (g.O.Sink.written c.pause.new.output) (report_text b (report_of c.pause.new.heap.space.report))) (sym same) front)) c.pause.ensures.err

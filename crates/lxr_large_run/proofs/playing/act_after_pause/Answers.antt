use Rattle.std.proofs.Common.{◌∙◌, ◌∷◌, ap, subst, sym, arith}
use Rattle.lxr_graph.specs.History.{report_of}
use Rattle.lxr_text_print.specs.Reports.{report_text}
use Rattle.lxr_text_print.proofs.PageLemmas.{OnErr-always}
use Rattle.lxr_text_stream.specs.Streams.{Appends, AppendsFront}
use Rattle.lxr_large_model.specs.Full.{LargeTerms}
use Rattle.lxr_heap.specs.Acting.{MayBeCalled}
use Rattle.lxr_large_run.specs.Playing.{TellsPrinted}
use Rattle.lxr_large_run.proofs.EndLemmas.{few_replies, registers_are}
use Rattle.lxr_large_run.proofs.PlayLemmas.{came_behind, cut_before}
use Rattle.lxr_heap.proofs.WantingLemmas.{wanted_wants_none}
use Rattle.lxr_large_run.proofs.RoomLemmas.{wanted_made}
use Rattle.lxr_large_run.proofs.playing.act_after_pause.Goals as goal

pub pause-requires : goal.pause-requires
pause-requires g c =
    let (task, same, rest, h, p, wants) = c.requires.wants in
    let few = few_replies task c.args.op rest c.args.heap.now (g.O.Sink.written c.args.output.now) c.args.replies.now.items h p in
    let pauses = p.pauses in
    record { holds = (h, p.holds); number = omega (arith, few, pauses) }

pub returns-in_err-pause-clause-err : goal.returns-in_err-pause-clause-err
returns-in_err-pause-clause-err g c = OnErr-always c.from_residual.result (λ task same rest h p wants.
    let made = wanted_made task.terms c.args.heap.now h p.holds p.none_gone c.args.op c.args.collect c.requires.op p.terms p.log wants in
    cut_before task c.args.op rest c.args.heap.now (g.O.Sink.written c.args.output.now) c.args.replies.now.items h p c.args.collect made c.pause.new.heap (c.pause.ensures.pauses h p.holds) (g.O.Sink.written c.pause.new.output)
    (subst (λ b. AppendsFront (g.O.Sink.written c.args.output.now) (g.O.Sink.written c.pause.new.output) (report_text b (report_of c.pause.new.heap.space.report))) (sym same) c.in_err-pause.ensures.err))

pub act_behind-requires-clause-made : goal.act_behind-requires-clause-made
act_behind-requires-clause-made g c =
    let (task, same, rest, h, p, wants) = c.requires.wants in
    let few = few_replies task c.args.op rest c.args.heap.now (g.O.Sink.written c.args.output.now) c.args.replies.now.items h p in
    let made = p.made in
    let left = (c.pause.ensures.pauses h p.holds).made in
    omega (arith, few, made, left)

pub act_behind-requires-clause-op : goal.act_behind-requires-clause-op
act_behind-requires-clause-op g c =
    let (task, same, rest, h, p, wants) = c.requires.wants in
    let kept = ap (λ (t : LargeTerms). t.registers) (c.pause.ensures.pauses h p.holds).terms in
    subst (λ n. MayBeCalled n c.args.op) (sym (kept ∙ registers_are task (c.args.op ∷ rest) c.args.heap.now (g.O.Sink.written c.args.output.now) c.args.replies.now.items h p)) c.requires.op

pub act_behind-requires-clause-ready : goal.act_behind-requires-clause-ready
act_behind-requires-clause-ready g c =
    let (task, same, rest, h, p, wants) = c.requires.wants in
    (_, wanted_wants_none c.args.heap.now c.pause.new.heap h c.args.op c.args.collect wants (c.pause.ensures.pauses h p.holds))

pub returns-clause-ok : goal.returns-clause-ok
returns-clause-ok g c = λ task same rest h p wants.
    let paused = c.pause.ensures.pauses h p.holds in
    let made = wanted_made task.terms c.args.heap.now h p.holds p.none_gone c.args.op c.args.collect c.requires.op p.terms p.log wants in (
      _,
      came_behind task c.args.op rest c.args.heap.now (g.O.Sink.written c.args.output.now) c.args.replies.now.items h p c.args.collect made c.pause.new.heap paused c.act_behind.new.heap (g.O.Sink.written c.pause.new.output) c.act_behind.result
          c.requires.op (c.act_behind.ensures _ (wanted_wants_none c.args.heap.now c.pause.new.heap h c.args.op c.args.collect wants paused))
          (subst (λ b. Appends (g.O.Sink.written c.args.output.now) (g.O.Sink.written c.pause.new.output) (report_text b (report_of c.pause.new.heap.space.report))) (sym same) c.in_ok-pause.ensures.ok)
          (subst (λ b. TellsPrinted b c.pause.new.heap.space.report) (sym same) (c.pause.ensures.told h p.holds)),
    )

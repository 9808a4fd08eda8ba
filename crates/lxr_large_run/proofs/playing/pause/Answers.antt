use Rattle.std.proofs.Common.{OnErr, subst, sym}
use Rattle.lxr_graph.specs.declared.report.Report.{Report}
use Rattle.lxr_graph.specs.History.{HasToldNames, report_of}
use Rattle.lxr_text_print.specs.Reports.{report_text}
use Rattle.lxr_text_stream.specs.Streams.{AppendsFront}
use Rattle.lxr_large_run.proofs.CallLemmas.{may_print}
use Rattle.lxr_large_run.proofs.playing.pause.Goals as goal

pub print_pause-requires : goal.print_pause-requires
print_pause-requires g c =
    let (h, is) = c.requires.holds in
    record {
      names = subst HasToldNames (sym c.report.ensures) (c.pause_and_tell.ensures.names h is);
      told = may_print c.pause_and_tell.new.heap c.report.result.now c.args.counts c.report.ensures (c.pause_and_tell.ensures.told h is);
    }

pub returns-clause-err : goal.returns-clause-err
returns-clause-err g c =
    subst (λ (r : Report). OnErr c.print_pause.result (AppendsFront (g.O.Sink.written c.args.output.now) (g.O.Sink.written c.print_pause.new.output) (report_text c.args.counts (report_of r)))) c.report.ensures c.print_pause.ensures.err

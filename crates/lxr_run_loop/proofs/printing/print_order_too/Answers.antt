use Rattle.lxr_core.specs.Actors.{mutators_in}
use Rattle.lxr_text_print.specs.Orders.{order_text}
use Rattle.lxr_text_print.proofs.PageLemmas.{OnErr-always}
use Rattle.lxr_text_stream.proofs.StreamLemmas.{Appends-append, AppendsFront-after, AppendsFront-before}
use Rattle.lxr_run_loop.specs.Printing.{mutators_text}
use Rattle.lxr_run_loop.proofs.PrintedLemmas.{on_err, on_ok}
use Rattle.lxr_run_loop.proofs.printing.print_order_too.Goals as goal

pub returns-in_err-print_threads-clause-err : goal.returns-in_err-print_threads-clause-err
returns-in_err-print_threads-clause-err g c =
    OnErr-always c.from_residual.result
    (AppendsFront-before (g.O.Sink.written c.args.output.now) (g.O.Sink.written c.print_threads.new.output) (mutators_text (mutators_in c.args.actors.now)) (order_text c.args.order.now.items) c.in_err-print_threads.ensures.err)

pub returns-clause-ok : goal.returns-clause-ok
returns-clause-ok g c =
    on_ok (λ printed. Appends-append (g.O.Sink.written c.args.output.now) (g.O.Sink.written c.print_threads.new.output) (g.O.Sink.written c.print_order.new.output) (mutators_text (mutators_in c.args.actors.now)) (order_text c.args.order.now.items)
    c.in_ok-print_threads.ensures.ok printed)
    c.print_order.result c.print_order.ensures.ok

pub returns-clause-err : goal.returns-clause-err
returns-clause-err g c =
    on_err (λ printed. AppendsFront-after (g.O.Sink.written c.args.output.now) (g.O.Sink.written c.print_threads.new.output) (g.O.Sink.written c.print_order.new.output) (mutators_text (mutators_in c.args.actors.now)) (order_text c.args.order.now.items)
    c.in_ok-print_threads.ensures.ok printed)
    c.print_order.result c.print_order.ensures.err

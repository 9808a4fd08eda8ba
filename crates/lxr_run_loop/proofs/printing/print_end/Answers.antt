use Rattle.std.proofs.Common.{sym, ap, ◌∙◌, option_map, refl}
use Rattle.lxr_text_stream.proofs.StreamLemmas.{Appends-nil}
use Rattle.lxr_graph.specs.Order.{order_of}
use Rattle.lxr_run_history.specs.Sums.{sums_of}
use Rattle.lxr_run_loop.specs.Tasks.{script_threads}
use Rattle.lxr_words.specs.declared.Command.TheVariants.{Judge, Large, Load, Map, Order, Run}
use Rattle.lxr_words.specs.declared.Options.{Options}
use Rattle.lxr_run_loop.specs.Printed.{SomeIsComplete}
use Rattle.lxr_run_loop.proofs.OrderLemmas.{nothing_written, order_is}
use Rattle.lxr_run_loop.proofs.PrintedLemmas.{mappable, on_err, on_ok, printable, printed_front, printed_whole}
use Rattle.lxr_run_loop.proofs.printing.print_end.Goals as goal

pub print_threads-requires : goal.print_threads-requires
print_threads-requires g c =
    let has : SomeIsComplete c.args.options c.args.space.now (g.O.Sink.written c.args.output.now) c.args.actors.now c.args.course.now.totals c.args.course.now.order = c.requires in
    let (task, with_options, seen, course, same, ordered, complete) = has in
    printable task c.args.space.now (g.O.Sink.written c.args.output.now) seen c.args.actors.now course complete

pub print_heap_too-requires-clause-threads : goal.print_heap_too-requires-clause-threads
print_heap_too-requires-clause-threads g c =
    let has : SomeIsComplete c.args.options c.args.space.now (g.O.Sink.written c.args.output.now) c.args.actors.now c.args.course.now.totals c.args.course.now.order = c.requires in
    let (task, with_options, seen, course, same, ordered, complete) = has in
    printable task c.args.space.now (g.O.Sink.written c.args.output.now) seen c.args.actors.now course complete

pub print_heap_too-requires-clause-heap : goal.print_heap_too-requires-clause-heap
print_heap_too-requires-clause-heap g c =
    let has : SomeIsComplete c.args.options c.args.space.now (g.O.Sink.written c.args.output.now) c.args.actors.now c.args.course.now.totals c.args.course.now.order = c.requires in
    let (task, with_options, seen, course, same, ordered, complete) = has in
    mappable task c.args.space.now (g.O.Sink.written c.args.output.now) seen c.args.actors.now course complete

pub sums-requires : goal.sums-requires
sums-requires g c =
    let has : SomeIsComplete c.args.options c.args.space.now (g.O.Sink.written c.args.output.now) c.args.actors.now c.args.course.now.totals c.args.course.now.order = c.requires in
    let (task, with_options, seen, course, same, ordered, complete) = has in
    (task, g.O.Sink.written c.args.output.now, seen, course, same, complete)

pub returns-in-Run-clause-ok : goal.returns-in-Run-clause-ok
returns-in-Run-clause-ok g c = on_ok (λ printed. λ task with_options seen course same ordered (h, run, drawn, totals, noted, full).
    printed_whole task c.args.space.now (g.O.Sink.written c.args.output.now) (g.O.Sink.written c.print_threads.new.output) seen c.args.actors.now course h run Run (ap (λ (o : Options). o.command) with_options ∙ c.in-Run.is)
    (sums_of (script_threads task) h) refl (order_of h) refl drawn printed)
    c.print_threads.result c.print_threads.ensures.ok

pub returns-in-Run-clause-err : goal.returns-in-Run-clause-err
returns-in-Run-clause-err g c = on_err (λ printed. λ task with_options seen course same ordered (h, run, drawn, totals, noted, full).
    printed_front task c.args.space.now (g.O.Sink.written c.args.output.now) (g.O.Sink.written c.print_threads.new.output) seen c.args.actors.now course h run Run (ap (λ (o : Options). o.command) with_options ∙ c.in-Run.is)
    (sums_of (script_threads task) h) refl (order_of h) refl printed)
    c.print_threads.result c.print_threads.ensures.err

pub returns-in-Map-clause-ok : goal.returns-in-Map-clause-ok
returns-in-Map-clause-ok g c = on_ok (λ printed. λ task with_options seen course same ordered (h, run, drawn, totals, noted, full).
    printed_whole task c.args.space.now (g.O.Sink.written c.args.output.now) (g.O.Sink.written c.print_heap_too.new.output) seen c.args.actors.now course h run Map (ap (λ (o : Options). o.command) with_options ∙ c.in-Map.is)
    (sums_of (script_threads task) h) refl (order_of h) refl drawn printed)
    c.print_heap_too.result c.print_heap_too.ensures.ok

pub returns-in-Map-clause-err : goal.returns-in-Map-clause-err
returns-in-Map-clause-err g c = on_err (λ printed. λ task with_options seen course same ordered (h, run, drawn, totals, noted, full).
    printed_front task c.args.space.now (g.O.Sink.written c.args.output.now) (g.O.Sink.written c.print_heap_too.new.output) seen c.args.actors.now course h run Map (ap (λ (o : Options). o.command) with_options ∙ c.in-Map.is)
    (sums_of (script_threads task) h) refl (order_of h) refl printed)
    c.print_heap_too.result c.print_heap_too.ensures.err

pub print_order_too-requires : goal.print_order_too-requires
print_order_too-requires g c =
    let has : SomeIsComplete c.args.options c.args.space.now (g.O.Sink.written c.args.output.now) c.args.actors.now c.args.course.now.totals c.args.course.now.order = c.requires in
    let (task, with_options, seen, course, same, ordered, complete) = has in
    printable task c.args.space.now (g.O.Sink.written c.args.output.now) seen c.args.actors.now course complete

pub returns-in-Some-clause-ok : goal.returns-in-Some-clause-ok
returns-in-Some-clause-ok g c = on_ok (λ printed. λ task with_options seen course same ordered (h, run, drawn, totals, noted, full).
    printed_whole task c.args.space.now (g.O.Sink.written c.args.output.now) (g.O.Sink.written c.print_order_too.new.output) seen c.args.actors.now course h run Order (ap (λ (o : Options). o.command) with_options ∙ c.in-Order.is)
    (sums_of (script_threads task) h) refl c.in-Some.items.now.items (order_is course.order h c.in-Some.items.now.items (ordered ∙ sym c.items.ensures ∙ ap (option_map (λ items. items.now.items)) c.in-Some.is) noted) drawn printed)
    c.print_order_too.result c.print_order_too.ensures.ok

pub returns-in-Some-clause-err : goal.returns-in-Some-clause-err
returns-in-Some-clause-err g c = on_err (λ printed. λ task with_options seen course same ordered (h, run, drawn, totals, noted, full).
    printed_front task c.args.space.now (g.O.Sink.written c.args.output.now) (g.O.Sink.written c.print_order_too.new.output) seen c.args.actors.now course h run Order (ap (λ (o : Options). o.command) with_options ∙ c.in-Order.is)
    (sums_of (script_threads task) h) refl c.in-Some.items.now.items (order_is course.order h c.in-Some.items.now.items (ordered ∙ sym c.items.ensures ∙ ap (option_map (λ items. items.now.items)) c.in-Some.is) noted) printed)
    c.print_order_too.result c.print_order_too.ensures.err

pub returns-in-None-clause-err : goal.returns-in-None-clause-err
returns-in-None-clause-err g c = λ task with_options seen course same ordered (h, run, drawn, totals, noted, full).
    printed_front task c.args.space.now (g.O.Sink.written c.args.output.now) (g.O.Sink.written c.args.output.now) seen c.args.actors.now course h run Order (ap (λ (o : Options). o.command) with_options ∙ c.in-Order.is)
    (sums_of (script_threads task) h) refl (order_of h) refl (nothing_written (g.O.Sink.written c.args.output.now) _)

pub returns-in-Judge-clause-ok : goal.returns-in-Judge-clause-ok
returns-in-Judge-clause-ok g c = λ task with_options seen course same ordered (h, run, drawn, totals, noted, full).
    printed_whole task c.args.space.now (g.O.Sink.written c.args.output.now) (g.O.Sink.written c.args.output.now) seen c.args.actors.now course h run Judge (ap (λ (o : Options). o.command) with_options ∙ c.in-Judge.is)
    (sums_of (script_threads task) h) refl (order_of h) refl drawn (Appends-nil (g.O.Sink.written c.args.output.now))

pub returns-in-Large-clause-ok : goal.returns-in-Large-clause-ok
returns-in-Large-clause-ok g c = λ task with_options seen course same ordered (h, run, drawn, totals, noted, full).
    printed_whole task c.args.space.now (g.O.Sink.written c.args.output.now) (g.O.Sink.written c.args.output.now) seen c.args.actors.now course h run Large (ap (λ (o : Options). o.command) with_options ∙ c.in-Large.is)
    (sums_of (script_threads task) h) refl (order_of h) refl drawn (Appends-nil (g.O.Sink.written c.args.output.now))

pub returns-in-Load-clause-ok : goal.returns-in-Load-clause-ok
returns-in-Load-clause-ok g c = on_ok (λ printed. λ task with_options seen course same ordered (h, run, drawn, totals, noted, full).
    printed_whole task c.args.space.now (g.O.Sink.written c.args.output.now) (g.O.Sink.written c.print_summary.new.output) seen c.args.actors.now course h run (Load c.in-Load.field-0) (ap (λ (o : Options). o.command) with_options ∙ c.in-Load.is)
    c.sums.result (c.sums.ensures task (g.O.Sink.written c.args.output.now) seen h run (sym same ∙ totals)) (order_of h) refl drawn printed)
    c.print_summary.result c.print_summary.ensures.ok

pub returns-in-Load-clause-err : goal.returns-in-Load-clause-err
returns-in-Load-clause-err g c = on_err (λ printed. λ task with_options seen course same ordered (h, run, drawn, totals, noted, full).
    printed_front task c.args.space.now (g.O.Sink.written c.args.output.now) (g.O.Sink.written c.print_summary.new.output) seen c.args.actors.now course h run (Load c.in-Load.field-0) (ap (λ (o : Options). o.command) with_options ∙ c.in-Load.is)
    c.sums.result (c.sums.ensures task (g.O.Sink.written c.args.output.now) seen h run (sym same ∙ totals)) (order_of h) refl printed)
    c.print_summary.result c.print_summary.ensures.err

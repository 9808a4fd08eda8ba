use Rattle.std.proofs.Common.{inl, inr, refl, sym}
use Rattle.lxr_text_print.proofs.PageLemmas.{OnErr-always}
use Rattle.lxr_large_run.specs.Playing.{LargeTask, large_terms}
use Rattle.lxr_large_run.proofs.EndLemmas.{begins, cut_late, played, printable}
use Rattle.lxr_large_run.proofs.play_large.Goals as goal

pub play_all-requires-clause-playing : goal.play_all-requires-clause-playing
play_all-requires-clause-playing g c =
    let (blocks, bodies, r) = c.requires.ready in
    let task : LargeTask = record { terms = large_terms blocks bodies; counts = c.args.counts; operations = c.args.run.operations.items; written = g.O.Sink.written c.args.output.now } in
    (task, refl, sym c.as_slice.ensures, begins task c.args.run.heap blocks bodies c.as_slice.result.now c.as_slice.ensures r.script r.opened refl)

pub returns-in_err-play_all-clause-cut_off : goal.returns-in_err-play_all-clause-cut_off
returns-in_err-play_all-clause-cut_off g c = OnErr-always c.from_residual.result (λ blocks bodies r.
    let task : LargeTask = record { terms = large_terms blocks bodies; counts = c.args.counts; operations = c.args.run.operations.items; written = g.O.Sink.written c.args.output.now } in
    inl (c.in_err-play_all.ensures.err task refl (sym c.as_slice.ensures) (begins task c.args.run.heap blocks bodies c.as_slice.result.now c.as_slice.ensures r.script r.opened refl)))

pub print_large-requires : goal.print_large-requires
print_large-requires g c =
    let (blocks, bodies, r) = c.requires.ready in
    let task : LargeTask = record { terms = large_terms blocks bodies; counts = c.args.counts; operations = c.args.run.operations.items; written = g.O.Sink.written c.args.output.now } in
    let (k, p) = c.in_ok-play_all.ensures.ok task refl (sym c.as_slice.ensures) (begins task c.args.run.heap blocks bodies c.as_slice.result.now c.as_slice.ensures r.script r.opened refl) in
    rw (c.as_slice-2.ensures, c.as_slice-3.ensures) (printable task c.play_all.new.heap (g.O.Sink.written c.play_all.new.output) c.play_all.new.replies.items k p)

pub returns-in_err-print_large-clause-cut_off : goal.returns-in_err-print_large-clause-cut_off
returns-in_err-print_large-clause-cut_off g c = OnErr-always c.from_residual-in_err-print_large.result (λ blocks bodies r.
    let task : LargeTask = record { terms = large_terms blocks bodies; counts = c.args.counts; operations = c.args.run.operations.items; written = g.O.Sink.written c.args.output.now } in
    let (k, p) = c.in_ok-play_all.ensures.ok task refl (sym c.as_slice.ensures) (begins task c.args.run.heap blocks bodies c.as_slice.result.now c.as_slice.ensures r.script r.opened refl) in
    inr (cut_late task c.play_all.new.heap (g.O.Sink.written c.play_all.new.output) (g.O.Sink.written c.print_large.new.output) c.play_all.new.replies.items k p
    c.as_slice-2.result.now c.as_slice-3.result.now c.as_slice-2.ensures c.as_slice-3.ensures c.in_err-print_large.ensures.err))

pub returns-clause-done : goal.returns-clause-done
returns-clause-done g c = λ blocks bodies r.
    let task : LargeTask = record { terms = large_terms blocks bodies; counts = c.args.counts; operations = c.args.run.operations.items; written = g.O.Sink.written c.args.output.now } in
    let (k, p) = c.in_ok-play_all.ensures.ok task refl (sym c.as_slice.ensures) (begins task c.args.run.heap blocks bodies c.as_slice.result.now c.as_slice.ensures r.script r.opened refl) in
    rw c.into_space.ensures (played task c.play_all.new.heap (g.O.Sink.written c.play_all.new.output) (g.O.Sink.written c.print_large.new.output) c.play_all.new.replies.items k p
    c.as_slice-2.result.now c.as_slice-3.result.now c.as_slice-2.ensures c.as_slice-3.ensures c.in_ok-print_large.ensures.ok)

-- Each call moves one piece of the report more; where one stops, the pieces behind it are the rest of the text.
use Rattle.std.proofs.Common.{[], ◌∷◌, codes}
use Rattle.std.proofs.lemmas.Result.{on_err_weaker, on_ok_weaker}
use Rattle.lxr_graph.specs.History.{report_of}
use Rattle.lxr_text_print.specs.Reports.{counts_text, names_text, pause_text}
use Rattle.lxr_text_print.specs.Pages.{Moves}
use Rattle.lxr_text_print.proofs.PageLemmas.{Appends-moved, AppendsFront-behind, AppendsFront-moved, Moves-behind, Moves-none, OnErr-always}
use Rattle.lxr_text_print.proofs.TextLemmas.{AppendsFront-pieces}
use Rattle.lxr_text_print.proofs.pauses.print_pause.Goals as goal

pub returns-in_err-put_names-clause-err : goal.returns-in_err-put_names-clause-err
returns-in_err-put_names-clause-err g c =
    let first = pause_text c.args.report.now.number c.args.report.now.kind in
    let moved : Moves (g.O.Sink.written c.args.output.now) (g.O.Sink.written c.args.output.now) first c.push_pause.new.page = rw (c.push_pause.ensures, c.new-page.ensures) (Moves-none (g.O.Sink.written c.args.output.now) first) in
    OnErr-always _ (AppendsFront-pieces _ _ _ ((names_text (codes "dead") c.args.report.now.dead.items) ∷ (names_text (codes "stuck") c.args.report.now.stuck.items) ∷ (names_text (codes "swept") c.args.report.now.swept.items) ∷ (counts_text c.args.counts (report_of c.args.report.now)) ∷ []) (AppendsFront-behind (names_text (codes "promoted") c.args.report.now.promoted.items) moved c.in_err-put_names.ensures.err))

pub returns-in_err-put_names-2-clause-err : goal.returns-in_err-put_names-2-clause-err
returns-in_err-put_names-2-clause-err g c =
    let first = pause_text c.args.report.now.number c.args.report.now.kind in
    let moved : Moves (g.O.Sink.written c.args.output.now) (g.O.Sink.written c.args.output.now) first c.push_pause.new.page = rw (c.push_pause.ensures, c.new-page.ensures) (Moves-none (g.O.Sink.written c.args.output.now) first) in
    let moved_promoted = Moves-behind (names_text (codes "promoted") c.args.report.now.promoted.items) moved c.in_ok-put_names.ensures.ok in
    OnErr-always _ (AppendsFront-pieces _ _ _ ((names_text (codes "stuck") c.args.report.now.stuck.items) ∷ (names_text (codes "swept") c.args.report.now.swept.items) ∷ (counts_text c.args.counts (report_of c.args.report.now)) ∷ []) (AppendsFront-behind (names_text (codes "dead") c.args.report.now.dead.items) moved_promoted c.in_err-put_names-2.ensures.err))

pub returns-in_err-put_names-3-clause-err : goal.returns-in_err-put_names-3-clause-err
returns-in_err-put_names-3-clause-err g c =
    let first = pause_text c.args.report.now.number c.args.report.now.kind in
    let moved : Moves (g.O.Sink.written c.args.output.now) (g.O.Sink.written c.args.output.now) first c.push_pause.new.page = rw (c.push_pause.ensures, c.new-page.ensures) (Moves-none (g.O.Sink.written c.args.output.now) first) in
    let moved_promoted = Moves-behind (names_text (codes "promoted") c.args.report.now.promoted.items) moved c.in_ok-put_names.ensures.ok in
    let moved_dead = Moves-behind (names_text (codes "dead") c.args.report.now.dead.items) moved_promoted c.in_ok-put_names-2.ensures.ok in
    OnErr-always _ (AppendsFront-pieces _ _ _ ((names_text (codes "swept") c.args.report.now.swept.items) ∷ (counts_text c.args.counts (report_of c.args.report.now)) ∷ []) (AppendsFront-behind (names_text (codes "stuck") c.args.report.now.stuck.items) moved_dead c.in_err-put_names-3.ensures.err))

pub returns-in_err-put_names-4-clause-err : goal.returns-in_err-put_names-4-clause-err
returns-in_err-put_names-4-clause-err g c =
    let first = pause_text c.args.report.now.number c.args.report.now.kind in
    let moved : Moves (g.O.Sink.written c.args.output.now) (g.O.Sink.written c.args.output.now) first c.push_pause.new.page = rw (c.push_pause.ensures, c.new-page.ensures) (Moves-none (g.O.Sink.written c.args.output.now) first) in
    let moved_promoted = Moves-behind (names_text (codes "promoted") c.args.report.now.promoted.items) moved c.in_ok-put_names.ensures.ok in
    let moved_dead = Moves-behind (names_text (codes "dead") c.args.report.now.dead.items) moved_promoted c.in_ok-put_names-2.ensures.ok in
    let moved_stuck = Moves-behind (names_text (codes "stuck") c.args.report.now.stuck.items) moved_dead c.in_ok-put_names-3.ensures.ok in
    OnErr-always _ (AppendsFront-pieces _ _ _ ((counts_text c.args.counts (report_of c.args.report.now)) ∷ []) (AppendsFront-behind (names_text (codes "swept") c.args.report.now.swept.items) moved_stuck c.in_err-put_names-4.ensures.err))

pub returns-in_err-put_asked_counts-clause-err : goal.returns-in_err-put_asked_counts-clause-err
returns-in_err-put_asked_counts-clause-err g c =
    let first = pause_text c.args.report.now.number c.args.report.now.kind in
    let moved : Moves (g.O.Sink.written c.args.output.now) (g.O.Sink.written c.args.output.now) first c.push_pause.new.page = rw (c.push_pause.ensures, c.new-page.ensures) (Moves-none (g.O.Sink.written c.args.output.now) first) in
    let moved_promoted = Moves-behind (names_text (codes "promoted") c.args.report.now.promoted.items) moved c.in_ok-put_names.ensures.ok in
    let moved_dead = Moves-behind (names_text (codes "dead") c.args.report.now.dead.items) moved_promoted c.in_ok-put_names-2.ensures.ok in
    let moved_stuck = Moves-behind (names_text (codes "stuck") c.args.report.now.stuck.items) moved_dead c.in_ok-put_names-3.ensures.ok in
    let moved_swept = Moves-behind (names_text (codes "swept") c.args.report.now.swept.items) moved_stuck c.in_ok-put_names-4.ensures.ok in
    OnErr-always _ (AppendsFront-behind (counts_text c.args.counts (report_of c.args.report.now)) moved_swept c.in_err-put_asked_counts.ensures.err)

pub returns-clause-ok : goal.returns-clause-ok
returns-clause-ok g c =
    let first = pause_text c.args.report.now.number c.args.report.now.kind in
    let moved : Moves (g.O.Sink.written c.args.output.now) (g.O.Sink.written c.args.output.now) first c.push_pause.new.page = rw (c.push_pause.ensures, c.new-page.ensures) (Moves-none (g.O.Sink.written c.args.output.now) first) in
    let moved_promoted = Moves-behind (names_text (codes "promoted") c.args.report.now.promoted.items) moved c.in_ok-put_names.ensures.ok in
    let moved_dead = Moves-behind (names_text (codes "dead") c.args.report.now.dead.items) moved_promoted c.in_ok-put_names-2.ensures.ok in
    let moved_stuck = Moves-behind (names_text (codes "stuck") c.args.report.now.stuck.items) moved_dead c.in_ok-put_names-3.ensures.ok in
    let moved_swept = Moves-behind (names_text (codes "swept") c.args.report.now.swept.items) moved_stuck c.in_ok-put_names-4.ensures.ok in
    let all = Moves-behind (counts_text c.args.counts (report_of c.args.report.now)) moved_swept c.in_ok-put_asked_counts.ensures.ok in
    on_ok_weaker c.flush.result (Appends-moved all) c.flush.ensures.ok

pub returns-clause-err : goal.returns-clause-err
returns-clause-err g c =
    let first = pause_text c.args.report.now.number c.args.report.now.kind in
    let moved : Moves (g.O.Sink.written c.args.output.now) (g.O.Sink.written c.args.output.now) first c.push_pause.new.page = rw (c.push_pause.ensures, c.new-page.ensures) (Moves-none (g.O.Sink.written c.args.output.now) first) in
    let moved_promoted = Moves-behind (names_text (codes "promoted") c.args.report.now.promoted.items) moved c.in_ok-put_names.ensures.ok in
    let moved_dead = Moves-behind (names_text (codes "dead") c.args.report.now.dead.items) moved_promoted c.in_ok-put_names-2.ensures.ok in
    let moved_stuck = Moves-behind (names_text (codes "stuck") c.args.report.now.stuck.items) moved_dead c.in_ok-put_names-3.ensures.ok in
    let moved_swept = Moves-behind (names_text (codes "swept") c.args.report.now.swept.items) moved_stuck c.in_ok-put_names-4.ensures.ok in
    let all = Moves-behind (counts_text c.args.counts (report_of c.args.report.now)) moved_swept c.in_ok-put_asked_counts.ensures.ok in
    on_err_weaker c.flush.result (AppendsFront-moved all) c.flush.ensures.err

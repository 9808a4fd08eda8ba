use Rattle.std.proofs.Common.{◌∙◌, ap, refl, subst, sym}
use Rattle.std.proofs.lemmas.Result.{IfErr-at_err, IfErr-weaker, IfOk-weaker}
use Rattle.lxr_one_pause.specs.Deciding.{IsPace}
use Rattle.lxr_words.specs.declared.Options.{Options}
use Rattle.lxr_placing.specs.Listing.{Lists}
use Rattle.lxr_placing.specs.declared.listing.ToList.TheVariants.{All}
use Rattle.lxr_rounds_invariant.specs.LoopInvariant.{pace_of}
use Rattle.lxr_rounds.specs.Observing.{Tells}
use Rattle.lxr_rounds.proofs.ResultLemmas.{either_way, ok_both}
use Rattle.lxr_one_pause.specs.Telling.{TellsWanted}
use Rattle.lxr_run_history.specs.Run.{plan_of}
use Rattle.lxr_run_history.specs.Texts.{prints_counts}
use Rattle.lxr_run_loop.specs.Courses.{AreFew}
use Rattle.lxr_run_loop.specs.Orders.{IsOrderOf}
use Rattle.lxr_run_loop.specs.Progress.{HasMadeRound}
use Rattle.lxr_run_loop.specs.Tasks.{rounds_of}
use Rattle.lxr_run_loop.specs.Telling.{CountsPlaced, NotesServed, StandsBehind, TellsReport}
use Rattle.lxr_run_loop.proofs.ProgressLemmas.{cut_off_by, lost_at}
use Rattle.lxr_run_loop.proofs.RoundLemmas.{course_is, round, told_behind, was_cut_off}
use Rattle.lxr_run_loop.proofs.TellerLemmas.{fails_rise, faults_on, stands_on}
use Rattle.lxr_run_loop.proofs.run.make_round.Goals as goal

pub make_epoch-requires-clause-may : goal.make_epoch-requires-clause-may
make_epoch-requires-clause-may g c = λ lifetimes bounds.
    let (task, with_options, (h, m, amid, drawn, reported)) = c.requires.under_way in
    (task, with_options, g.O.Sink.written c.args.output.now, g.W.Watch.seen c.args.watch.now, h, m, amid)

pub returns-in_default-clause-err : goal.returns-in_default-clause-err
returns-in_default-clause-err g c = λ task with_options (h, m, amid, drawn, reported).
    lost_at task c.args.space.now c.make_epoch.new.space (g.O.Sink.written c.args.output.now) (g.W.Watch.seen c.args.watch.now) c.args.actors.now.items h m amid c.in_default.ensures.err

pub follow_epoch-followed-requires-clause-pace : goal.follow_epoch-followed-requires-clause-pace
follow_epoch-followed-requires-clause-pace g c = subst IsPace (sym c.pace_of.ensures) (record { trace = c.requires.range.trace.1; within = c.requires.range.within })

pub follow_epoch-followed-requires-clause-ran : goal.follow_epoch-followed-requires-clause-ran
follow_epoch-followed-requires-clause-ran g c =
    let (task, with_options, (h, m, amid, drawn, reported)) = c.requires.under_way in
    let (made, follows) = c.in-Ok.ensures.ok task with_options (g.O.Sink.written c.args.output.now) (g.W.Watch.seen c.args.watch.now) h m amid in
    (rounds_of task, ap (λ (o : Options). pace_of (plan_of o)) with_options ∙ sym c.pace_of.ensures, c.args.actors.now.items, made.history, made.abstract_state, made.ran)

pub follow_epoch-followed-requires-clause-room : goal.follow_epoch-followed-requires-clause-room
follow_epoch-followed-requires-clause-room g c =
    let (task, with_options, (h, m, amid, drawn, reported)) = c.requires.under_way in
    let (made, follows) = c.in-Ok.ensures.ok task with_options (g.O.Sink.written c.args.output.now) (g.W.Watch.seen c.args.watch.now) h m amid in
    subst (λ t. AreFew t c.make_epoch.new.space.pauses) (sym c.take_teller-teller.ensures.totals) (subst (AreFew c.args.course.now.totals) (sym made.pauses) reported.few)

pub returns-clause-ok : goal.returns-clause-ok
returns-clause-ok g c = IfOk-weaker c.follow_epoch-followed.result _ _
    (λ ended (followed, few) task with_options (h, m, amid, drawn, reported).
    let (made, follows) = c.in-Ok.ensures.ok task with_options (g.O.Sink.written c.args.output.now) (g.W.Watch.seen c.args.watch.now) h m amid in
    let stands : StandsBehind task c.take_teller-teller.result (g.O.Sink.written c.args.output.now) made.history = record {
      options = c.take_teller-teller.ensures.options ∙ sym with_options;
      totals = c.take_teller-teller.ensures.totals ∙ reported.are ∙ sym made.totals;
      order = subst (λ o. IsOrderOf o made.history) (sym c.take_teller-teller.ensures.order) (follows reported.order);
      text = made.text;
    } in
    let paced = ap (λ (o : Options). pace_of (plan_of o)) with_options ∙ sym c.pace_of.ensures in
    subst (λ course. HasMadeRound task c.follow_epoch-followed.new.space (g.O.Sink.written c.follow_epoch-followed.new.output) (g.W.Watch.seen c.follow_epoch-followed.new.watch) c.args.actors.now.items c.follow_epoch-followed.new.actors.items course ended)
    (course_is c.take_teller-teller.new.self c.put_teller.new.self c.follow_epoch-followed.new.observer c.make_epoch.new.generator c.take_teller-teller.ensures.generator c.put_teller.ensures)
    (round task c.args.space.now c.make_epoch.new.space (g.O.Sink.written c.args.output.now) (g.W.Watch.seen c.args.watch.now) c.args.actors.now.items c.make_epoch.new.actors.items h m c.args.course.now.generator c.make_epoch.new.generator amid drawn made
    (λ before after. Lists All before after c.follow_epoch-followed.new.to_list) (λ before after lists. lists.0)
    (λ j k. Tells CountsPlaced NotesServed (TellsReport g.O.Sink.written g.O.Sink.faults) c.take_teller-teller.result c.args.output.now j c.follow_epoch-followed.new.observer c.follow_epoch-followed.new.output k)
    ended c.follow_epoch-followed.new.space (g.O.Sink.written c.follow_epoch-followed.new.output) (g.W.Watch.seen c.follow_epoch-followed.new.watch) c.follow_epoch-followed.new.actors.items c.take_teller-teller.result c.follow_epoch-followed.new.observer
    (followed (rounds_of task) paced c.args.actors.now.items made.history made.abstract_state made.ran) stands
    (λ k tells. stands_on g.O.Sink.written g.O.Sink.faults task c.take_teller-teller.result c.args.output.now made.history c.follow_epoch-followed.new.observer c.follow_epoch-followed.new.output k tells) few
    (subst (λ (o : Options). TellsWanted (prints_counts o.command o.counts c.follow_epoch-followed.new.space.report.kind) c.follow_epoch-followed.new.space.report) stands.options c.follow_epoch-followed.ensures.listed)))
    (ok_both _ _ c.follow_epoch-followed.result c.follow_epoch-followed.ensures.ok c.follow_epoch-followed.ensures.room)

pub returns-clause-err : goal.returns-clause-err
returns-clause-err g c = IfErr-weaker c.follow_epoch-followed.result _ _
    (λ why cuts task with_options (h, m, amid, drawn, reported).
    let (made, follows) = c.in-Ok.ensures.ok task with_options (g.O.Sink.written c.args.output.now) (g.W.Watch.seen c.args.watch.now) h m amid in
    let stands : StandsBehind task c.take_teller-teller.result (g.O.Sink.written c.args.output.now) made.history = record {
      options = c.take_teller-teller.ensures.options ∙ sym with_options;
      totals = c.take_teller-teller.ensures.totals ∙ reported.are ∙ sym made.totals;
      order = subst (λ o. IsOrderOf o made.history) (sym c.take_teller-teller.ensures.order) (follows reported.order);
      text = made.text;
    } in
    let paced = ap (λ (o : Options). pace_of (plan_of o)) with_options ∙ sym c.pace_of.ensures in
    cut_off_by why task c.follow_epoch-followed.new.space (g.O.Sink.written c.follow_epoch-followed.new.output) (g.W.Watch.seen c.follow_epoch-followed.new.watch)
    (was_cut_off g.O.Sink.written g.O.Sink.faults task c.take_teller-teller.result c.args.output.now c.follow_epoch-followed.new.output made.history why c.follow_epoch-followed.new.space (g.W.Watch.seen c.follow_epoch-followed.new.watch)
    (cuts (rounds_of task) paced c.args.actors.now.items made.history made.abstract_state made.ran) stands
    (subst (λ (o : Options). TellsWanted (prints_counts o.command o.counts c.follow_epoch-followed.new.space.report.kind) c.follow_epoch-followed.new.space.report) stands.options c.follow_epoch-followed.ensures.listed)))
    c.follow_epoch-followed.ensures.err

pub returns-clause-faults : goal.returns-clause-faults
returns-clause-faults g c =
    let (task, with_options, (h, m, amid, drawn, reported)) = c.requires.under_way in
    let (made, follows) = c.in-Ok.ensures.ok task with_options (g.O.Sink.written c.args.output.now) (g.W.Watch.seen c.args.watch.now) h m amid in
    let paced = ap (λ (o : Options). pace_of (plan_of o)) with_options ∙ sym c.pace_of.ensures in
    either_way _ c.follow_epoch-followed.result
    (IfOk-weaker c.follow_epoch-followed.result _ _
    (λ ended followed.
    let (k, tells) = told_behind (λ before after. Lists All before after c.follow_epoch-followed.new.to_list) (λ j k. Tells CountsPlaced NotesServed (TellsReport g.O.Sink.written g.O.Sink.faults) c.take_teller-teller.result c.args.output.now j c.follow_epoch-followed.new.observer c.follow_epoch-followed.new.output k) ended (rounds_of task) c.make_epoch.new.space c.follow_epoch-followed.new.space (g.W.Watch.seen c.follow_epoch-followed.new.watch) c.args.actors.now.items c.make_epoch.new.actors.items c.follow_epoch-followed.new.actors.items made.history
    (followed (rounds_of task) paced c.args.actors.now.items made.history made.abstract_state made.ran) in
    faults_on g.O.Sink.written g.O.Sink.faults c.take_teller-teller.result c.args.output.now made.history c.follow_epoch-followed.new.observer c.follow_epoch-followed.new.output k tells)
    c.follow_epoch-followed.ensures.ok)
    (IfErr-weaker c.follow_epoch-followed.result _ _
    (λ why cuts.
    let cut = cuts (rounds_of task) paced c.args.actors.now.items made.history made.abstract_state made.ran in
    (fails_rise g.O.Sink.written g.O.Sink.faults c.take_teller-teller.result c.args.output.now c.follow_epoch-followed.new.output made.history cut.history cut.report why cut.cut_off).0)
    c.follow_epoch-followed.ensures.err)

pub returns-clause-cause : goal.returns-clause-cause
returns-clause-cause g c = λ fault.
    let (task, with_options, (h, m, amid, drawn, reported)) = c.requires.under_way in
    let (made, follows) = c.in-Ok.ensures.ok task with_options (g.O.Sink.written c.args.output.now) (g.W.Watch.seen c.args.watch.now) h m amid in
    let paced = ap (λ (o : Options). pace_of (plan_of o)) with_options ∙ sym c.pace_of.ensures in
    let cut = IfErr-at_err _ fault c.follow_epoch-followed.ensures.err (rounds_of task) paced c.args.actors.now.items made.history made.abstract_state made.ran in
    (fails_rise g.O.Sink.written g.O.Sink.faults c.take_teller-teller.result c.args.output.now c.follow_epoch-followed.new.output made.history cut.history cut.report _ cut.cut_off).1 refl

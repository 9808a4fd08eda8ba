use Rattle.std.proofs.Common.{◌+◌, ◌∙◌, ◌≡◌, ap, false, refl, subst, sym, true}
use Rattle.std.specs.Prelude.{Err, IsOk}
use Rattle.std.proofs.lemmas.Result.{on_ok_weaker}
use Rattle.lxr_graph.specs.History.{report_of}
use Rattle.lxr_rounds.proofs.ResultLemmas.{at_err}
use Rattle.lxr_run_history.specs.Sums.{with_report}
use Rattle.lxr_run_loop.specs.Courses.{AreFew}
use Rattle.lxr_run_loop.proofs.TellerLemmas.{totals_few, totals_fit}
use Rattle.lxr_run_loop.proofs.teller.TellerObserver.after_pause.Goals as goal

pub add-requires-clause-room : goal.add-requires-clause-room
add-requires-clause-room g c =
    let (pauses, is, few) = c.requires.next in
    totals_fit (with_report c.args.self.now.totals (report_of c.args.report.now)).promoted (pauses + 1) (totals_few c.args.self.now.totals pauses (report_of c.args.report.now) few is).promoted is.fits

pub add-requires-clause-dead_room : goal.add-requires-clause-dead_room
add-requires-clause-dead_room g c =
    let (pauses, is, few) = c.requires.next in
    totals_fit (with_report c.args.self.now.totals (report_of c.args.report.now)).dead (pauses + 1) (totals_few c.args.self.now.totals pauses (report_of c.args.report.now) few is).dead is.fits

pub add-requires-clause-swept_room : goal.add-requires-clause-swept_room
add-requires-clause-swept_room g c =
    let (pauses, is, few) = c.requires.next in
    totals_fit (with_report c.args.self.now.totals (report_of c.args.report.now)).swept (pauses + 1) (totals_few c.args.self.now.totals pauses (report_of c.args.report.now) few is).swept is.fits

pub add-requires-clause-stuck_room : goal.add-requires-clause-stuck_room
add-requires-clause-stuck_room g c =
    let (pauses, is, few) = c.requires.next in
    totals_fit (with_report c.args.self.now.totals (report_of c.args.report.now)).stuck (pauses + 1) (totals_few c.args.self.now.totals pauses (report_of c.args.report.now) few is).stuck is.fits

pub tell-requires : goal.tell-requires
tell-requires g c = record { names = c.requires.names; told = c.requires.counts }

pub returns-clause-told : goal.returns-clause-told
returns-clause-told g c = on_ok_weaker c.tell.result
    (λ text. record { sums = record { totals = c.add.ensures; order = c.note.ensures; options = refl }; text = text; faults_rise = c.tell.ensures.faults })
    c.tell.ensures.ok

pub returns-clause-room : goal.returns-clause-room
returns-clause-room g c =
    let (pauses, is, few) = c.requires.next in
    on_ok_weaker c.tell.result
    (λ text. subst (AreFew c.add.new.self) (sym is.number) (subst (λ t. AreFew t (pauses + 1)) (sym c.add.ensures) (totals_few c.args.self.now.totals pauses (report_of c.args.report.now) few is)))
    c.tell.ensures.ok

never : false ≡ true → ⊥
never e = cc

pub returns-clause-failed : goal.returns-clause-failed
returns-clause-failed g c = at_err _ c.tell.result c.tell.ensures.err
    (λ why is text. record {
      loud = λ nothing. never (subst IsOk is (c.tell.ensures.quiet nothing));
      text = text;
      faults_rise = c.tell.ensures.faults;
      cause = λ fault. c.tell.ensures.cause (is ∙ ap Err fault);
    })

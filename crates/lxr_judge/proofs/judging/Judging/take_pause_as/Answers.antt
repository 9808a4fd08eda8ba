use Rattle.std.proofs.Common.{Bool, ap, sym, ◌∙◌}
use Rattle.lxr_graph.specs.History.{Pause, report_of}
use Rattle.lxr_text_print.specs.Reports.{report_text}
use Rattle.lxr_model.specs.Moments.{moment}
use Rattle.lxr_judge.specs.declared.judging.Judging.{Judging}
use Rattle.lxr_judge.proofs.JudgingLemmas.{keep_pause, never, number_small, short_here}
use Rattle.lxr_judge.proofs.TryLemmas.{can_be, pause_passed, pause_passes}
use Rattle.lxr_judge.proofs.judging.Judging.take_pause_as.Goals as goal

pub returns-then-not-branch-clause-tried : goal.returns-then-not-branch-clause-tried
returns-then-not-branch-clause-tried c = λ h keeps place text some report is passes.
    never c.in_ok-may_pause.field-0 c.if-not-branch.true (c.in_ok-may_pause.ensures h keeps).1 (pause_passed c.args.sources.now h c.args.kind report is passes).may

pub report-requires : goal.report-requires
report-requires c = number_small c.args.sources.now c.args.self.now c.requires

pub returns-then-not-branch-2-clause-tried : goal.returns-then-not-branch-2-clause-tried
returns-then-not-branch-2-clause-tried c = λ h keeps place text some report is passes.
    let e = c.args.sources.now in
    let r = report_of c.in_ok-report.report in
    let p = pause_passed e h c.args.kind report is passes in
    let at = c.in_ok-report.ensures.report (moment e.terms.threads h) keeps.position in
    never c.in_ok-is_report.field-0 c.if-not-branch-2.true c.in_ok-is_report.ensures.1
    (ap (λ (b : Bool). report_text b r) c.terms.ensures.1 ∙ (ap (report_text e.counts) (at ∙ sym p.is_at) ∙ (p.text ∙ sym text)))

pub returns-clause-tried : goal.returns-clause-tried
returns-clause-tried c = λ h keeps place text some.
    let e = c.args.sources.now in
    let r = report_of c.in_ok-report.report in
    let after : Judging = record { position = c.pause.new.self; progress = c.note_pause.new.self; page = c.args.self.now.page } in
    let at = c.in_ok-report.ensures.report (moment e.terms.threads h) keeps.position in
    let may = (c.in_ok-may_pause.ensures h keeps).0 c.if-not-branch.false in
    let printed = sym (ap (λ (b : Bool). report_text b r) c.terms.ensures.1) ∙ c.in_ok-is_report.ensures.0 c.if-not-branch-2.false in (
      Pause r,
      pause_passes e h c.args.kind r c.args.text.now place some text may at printed,
      keep_pause e c.args.self.now after h r c.args.kind c.threads.result c.in_ok-pause.ensures.moves (can_be e h c.args.kind may) at c.note_pause.ensures c.threads.ensures.exact keeps.page (short_here e c.args.self.now h c.requires keeps) keeps,
    )

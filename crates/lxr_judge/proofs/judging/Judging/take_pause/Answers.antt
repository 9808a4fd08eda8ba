use Rattle.std.proofs.Common.{ℕ, ap, ◌∙◌}
use Rattle.lxr_judge.specs.Evidence.{report_lines}
use Rattle.lxr_judge.specs.Taking.{text_of}
use Rattle.lxr_graph.specs.declared.report.Kind.TheVariants as kind
use Rattle.lxr_judge.proofs.JudgingLemmas.{stays_keeps}
use Rattle.lxr_judge.proofs.TryLemmas.{ends_all, pause_failed}
use Rattle.lxr_judge.proofs.judging.Judging.take_pause.Goals as goal

pub returns : goal.returns
returns c = λ h keeps place.
    let e = c.args.sources.now in
    let text = c.as_slice-text.ensures.value ∙ (c.in_ok-bytes.ensures ∙ ap (λ (i : ℕ). text_of (report_lines e i)) keeps.progress.pauses) in
    let some = (c.finds_report.ensures h keeps.progress).0 c.if-not-finds_report.false in
    let one = stays_keeps e c.args.self.now c.take_pause_as.new.self h c.in_ok-plain.plain c.if-plain.false c.in_ok-plain.ensures.stays keeps in
    let two = stays_keeps e c.take_pause_as.new.self c.take_pause_as-2.new.self h c.in_ok-begin.begin c.if-begin.false c.in_ok-begin.ensures.stays one in
    let three = stays_keeps e c.take_pause_as-2.new.self c.take_pause_as-3.new.self h c.in_ok-collect.collect c.if-collect.false c.in_ok-collect.ensures.stays two in
    ends_all e h c.take_end.new.self c.in_ok-end.end place
    (pause_failed e h kind.Plain c.take_pause_as.new.self c.in_ok-plain.plain c.if-plain.false (c.in_ok-plain.ensures.tried h keeps place text some))
    (pause_failed e h kind.Begin c.take_pause_as-2.new.self c.in_ok-begin.begin c.if-begin.false (c.in_ok-begin.ensures.tried h one place text some))
    (pause_failed e h kind.Collect c.take_pause_as-3.new.self c.in_ok-collect.collect c.if-collect.false (c.in_ok-collect.ensures.tried h two place text some))
    (c.in_ok-end.ensures.tried h three place text some)

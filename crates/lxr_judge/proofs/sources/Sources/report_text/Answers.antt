use Rattle.lxr_judge.specs.Evidence.{report_lines}
use Rattle.lxr_judge.proofs.GroupLemmas.{text_step}
use Rattle.lxr_judge.proofs.sources.Sources.report_text.Goals as goal

pub loop-at-preserved : goal.loop-at-preserved
loop-at-preserved c = text_step (report_lines c.args.self.now c.args.report) c.loop-at.at c.loop-at.text.items c.push_line.new.text.items c.loop-at.invariant c.in_ok-push_line.ensures

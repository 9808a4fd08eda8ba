use Rattle.std.proofs.Common.{◌≡◌, take}
use Rattle.lxr_judge.specs.Evidence.{report_lines}
use Rattle.lxr_judge.specs.Taking.{text_of}
use Rattle.lxr_judge.proofs.sources.Sources.report_text.Given as goal

abbrev pub invariant-loop-at : goal.invariant-loop-at
invariant-loop-at l = l.text.items ≡ text_of (take l.at (report_lines l.self l.report))

use Rattle.std.proofs.Common.{length, ◌-◌}
use Rattle.lxr_judge_output.specs.Gathering.{gathered_in, texts_in}
use Rattle.lxr_judge_output.proofs.FormLemmas.{ReadsOn}
use Rattle.lxr_judge_output.proofs.gathering.read_output.Given as goal

abbrev pub invariant-loop-length : goal.invariant-loop-length
invariant-loop-length l = ReadsOn l.counts l.threads l.text l.reading.place (texts_in l.text (gathered_in l.reading.output)) l.from

abbrev pub decreases-loop-length : goal.decreases-loop-length
decreases-loop-length l = length l.text - l.from

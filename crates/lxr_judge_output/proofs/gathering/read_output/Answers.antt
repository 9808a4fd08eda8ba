use Rattle.std.proofs.Common.{sym, ◌∙◌}
use Rattle.lxr_judge_output.specs.Gathering.{gathered_in}
use Rattle.lxr_judge_output.proofs.FormLemmas.{opens_at, taken_on, refused_on, all_read}
use Rattle.lxr_judge_output.proofs.gathering.read_output.Goals as goal

pub loop-length-init : goal.loop-length-init
loop-length-init c = opens_at c.args.counts c.args.threads c.args.text.now (gathered_in c.new.result) c.new.ensures

pub loop-length-preserved : goal.loop-length-preserved
loop-length-preserved c = taken_on c.args.counts c.args.threads c.args.text.now c.loop-length.reading c.take_line.new.self c.loop-length.from c.in-Some.length c.in_ok-taken.taken c.if-not-taken.false (sym c.line_end.ensures ∙ c.in-Some.is) c.in_ok-taken.ensures c.loop-length.invariant

pub returns-then-not-taken : goal.returns-then-not-taken
returns-then-not-taken c = refused_on c.args.counts c.args.threads c.args.text.now c.loop-length.reading c.take_line.new.self c.loop-length.from c.in-Some.length c.in_ok-taken.taken c.if-not-taken.true (sym c.line_end.ensures ∙ c.in-Some.is) c.in_ok-taken.ensures c.loop-length.invariant

pub returns-then-is_whole : goal.returns-then-is_whole
returns-then-is_whole c = rw c.if-is_whole.true at (all_read c.args.counts c.args.threads c.args.text.now c.loop-length.reading.place _ c.loop-length.from c.is_whole.result (sym c.line_end.ensures ∙ c.in_default.is) c.loop-length.invariant c.is_whole.ensures)

pub returns-else-is_whole : goal.returns-else-is_whole
returns-else-is_whole c = rw c.if-is_whole.false at (all_read c.args.counts c.args.threads c.args.text.now c.loop-length.reading.place _ c.loop-length.from c.is_whole.result (sym c.line_end.ensures ∙ c.in_default.is) c.loop-length.invariant c.is_whole.ensures)

use Rattle.std.proofs.Common.{◌∙◌, sym}
use Rattle.lxr_c_arrays.specs.Plans.{filling}
use Rattle.lxr_c_arrays.specs.Sides.{range_of}
use Rattle.lxr_c_arrays.proofs.PlanLemmas.{pair_there}
use Rattle.lxr_c_arrays.proofs.TakenLemmas.{side_left, side_there, taken, taken_not}
use Rattle.lxr_c_arrays.proofs.filling.fill_range.Goals as goal

pub returns-in-Err-clause-fills : goal.returns-in-Err-clause-fills
returns-in-Err-clause-fills c =
    taken_not c.args.heap.now c.first_own-part.result (λ s p. range_of s p c.args.pair.array c.args.first c.args.count) c.range_of.result (filling c.args.pair c.args.first c.args.count) c.first_own-part.ensures.first c.range_of.ensures.told c.in-Err.code (sym c.in-Err.is)

pub check_and_fill-code-requires-clause-side : goal.check_and_fill-code-requires-clause-side
check_and_fill-code-requires-clause-side c = side_there c.args.heap.now c.args.pair c.first_own-part.result c.in-Ok.side c.requires.serving c.requires.pair c.first_own-part.ensures.there c.in-Ok.ensures.registers

pub check_and_fill-code-requires-clause-source : goal.check_and_fill-code-requires-clause-source
check_and_fill-code-requires-clause-source c = (pair_there c.args.heap.now c.args.pair c.requires.serving.holds c.requires.pair).1

pub leave-requires-clause-side : goal.leave-requires-clause-side
leave-requires-clause-side c =
    side_left c.args.heap.now c.args.pair c.first_own-part.result c.in-Ok.side c.requires.serving c.requires.pair c.first_own-part.ensures.there c.in-Ok.ensures.registers c.check_and_fill-code.new.heap c.check_and_fill-code.ensures.same

pub returns-in-Ok-clause-fills : goal.returns-in-Ok-clause-fills
returns-in-Ok-clause-fills c =
    taken c.args.heap.now c.first_own-part.result (λ s p. range_of s p c.args.pair.array c.args.first c.args.count) c.range_of.result (filling c.args.pair c.args.first c.args.count) c.first_own-part.ensures.first c.range_of.ensures.told
    c.check_and_fill-code.new.heap c.leave.new.heap c.in-Ok.side c.check_and_fill-code.result (sym c.in-Ok.is) c.check_and_fill-code.ensures.runs c.leave.ensures.runs

pub returns-in-Ok-clause-registers : goal.returns-in-Ok-clause-registers
returns-in-Ok-clause-registers c = c.leave.ensures.same.named ∙ c.check_and_fill-code.ensures.same.named

use Rattle.std.proofs.Common.{◌^◌, ◌<◌, ◌∙◌, arith, rules, sym}
use Rattle.lxr_blocks.proofs.EdgeLemmas.{later_edge, no_edges, run_between}
use Rattle.lxr_blocks.proofs.HalvesLemmas.{no_place, some_place}
use Rattle.lxr_blocks.proofs.masks.next_run.Goals as goal

pub returns-then-line-eq-LINES_IN_BLOCK-clause-none : goal.returns-then-line-eq-LINES_IN_BLOCK-clause-none
returns-then-line-eq-LINES_IN_BLOCK-clause-none c free from within is =
    let none = no_place c.args.edges c.ranges.edges.fits (sym c.take_lowest-line.ensures.place ∙ c.if-line-eq-LINES_IN_BLOCK.true) in
    no_edges c.args.edges free from none within is

pub overflow_sub-run : goal.overflow_sub-run
overflow_sub-run c =
    let first = c.take_lowest-line.ensures in let second = c.take_lowest-end.ensures in
    let some : 0 < c.args.edges = some_place c.args.edges (λ behind. c.if-line-eq-LINES_IN_BLOCK.false (first.place ∙ behind)) in
    let fits : c.take_lowest-line.result.1 < 2 ^ 128 = search rules in
    let later = later_edge c.args.edges c.take_lowest-line.result.1 some c.ranges.edges.fits fits (first.lowest, first.others) in
    omega (arith, later, first.place, second.place)

pub returns-clause-run : goal.returns-clause-run
returns-clause-run c free from is =
    let first = c.take_lowest-line.ensures in let second = c.take_lowest-end.ensures in
    let some : 0 < c.args.edges = some_place c.args.edges (λ behind. c.if-line-eq-LINES_IN_BLOCK.false (first.place ∙ behind)) in
    let fits : c.take_lowest-line.result.1 < 2 ^ 128 = search rules in
    rw (first.place, second.place) (run_between c.args.edges c.take_lowest-line.result.1 c.take_lowest-end.result.1 c.args.block some c.ranges.edges.fits fits
    (first.lowest, first.others) (second.lowest, second.others) free from is)

use Rattle.lxr_case.proofs.PartLemmas.{apart, order_ends}
use Rattle.lxr_case.proofs.parts.cut.Goals as goal

pub slice_bounds-result-count : goal.slice_bounds-result-count
slice_bounds-result-count c = apart c.args.bytes.now c.in_ok-output.output c.in_ok-output.order c.in_ok-output.ensures

pub slice_bounds-result-start : goal.slice_bounds-result-start
slice_bounds-result-start c = apart c.args.bytes.now c.in_ok-output.output c.in_ok-output.order c.in_ok-output.ensures

pub slice_bounds-result-count-2 : goal.slice_bounds-result-count-2
slice_bounds-result-count-2 c = order_ends c.args.bytes.now c.in_ok-output.output c.in_ok-output.order c.in_ok-output.ensures

pub slice_bounds-result-start-2 : goal.slice_bounds-result-start-2
slice_bounds-result-start-2 c = order_ends c.args.bytes.now c.in_ok-output.output c.in_ok-output.order c.in_ok-output.ensures

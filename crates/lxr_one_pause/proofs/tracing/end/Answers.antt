use Rattle.lxr_one_pause.proofs.EndingLemmas.{ends, few_kept, few_moved, last, left, may_evacuate, may_finish_trace, may_sweep, space_tallied}
use Rattle.lxr_one_pause.proofs.TracingLemmas.{can_finish}
use Rattle.lxr_one_pause.proofs.tracing.end.Goals as goal

pub finish_decrements-requires : goal.finish_decrements-requires
finish_decrements-requires c = (c.requires.0.moment, c.requires.0.at, can_finish c.args.space.now c.requires.0 c.requires.1.drains)

pub finish_trace-requires : goal.finish_trace-requires
finish_trace-requires c = (
  left c.args.space.now c.requires.0 c.requires.1 c.finish_decrements.new.space c.finish_decrements.ensures,
  c.requires.0.at,
  may_finish_trace c.args.space.now c.requires.0 c.requires.1 c.finish_decrements.new.space c.finish_decrements.ensures,
)

pub sweep_unmarked-requires : goal.sweep_unmarked-requires
sweep_unmarked-requires c = (
  left c.args.space.now c.requires.0 c.requires.1 c.finish_decrements.new.space c.finish_decrements.ensures,
  c.requires.0.at,
  may_sweep c.args.space.now c.requires.0 c.requires.1 c.finish_decrements.new.space c.finish_decrements.ensures c.finish_trace.new.space c.finish_trace.ensures,
)

pub evacuate-evacuated-requires : goal.evacuate-evacuated-requires
evacuate-evacuated-requires c = (
  last c.args.space.now c.requires.0 c.requires.1 c.finish_decrements.new.space c.finish_decrements.ensures c.finish_trace.new.space c.finish_trace.ensures c.sweep_unmarked.new.space c.sweep_unmarked.ensures,
  c.requires.0.at,
  may_evacuate c.args.space.now c.requires.0 c.requires.1 c.finish_decrements.new.space c.finish_decrements.ensures c.finish_trace.new.space c.finish_trace.ensures c.sweep_unmarked.new.space c.sweep_unmarked.ensures,
)

pub count_evacuated-requires-clause-moved : goal.count_evacuated-requires-clause-moved
count_evacuated-requires-clause-moved c =
    few_moved c.args.space.now c.requires.0 c.requires.1 c.finish_decrements.new.space c.finish_decrements.ensures c.finish_trace.new.space c.finish_trace.ensures c.sweep_unmarked.new.space c.sweep_unmarked.ensures
    c.evacuate-evacuated.new.space c.evacuate-evacuated.result c.evacuate-evacuated.ensures

pub count_evacuated-requires-clause-kept : goal.count_evacuated-requires-clause-kept
count_evacuated-requires-clause-kept c =
    few_kept c.args.space.now c.requires.0 c.requires.1 c.finish_decrements.new.space c.finish_decrements.ensures c.finish_trace.new.space c.finish_trace.ensures c.sweep_unmarked.new.space c.sweep_unmarked.ensures
    c.evacuate-evacuated.new.space c.evacuate-evacuated.result c.evacuate-evacuated.ensures

pub release_blocks-requires : goal.release_blocks-requires
release_blocks-requires c =
    space_tallied c.args.space.now c.requires.0 c.requires.1 c.finish_decrements.new.space c.finish_decrements.ensures c.finish_trace.new.space c.finish_trace.ensures c.sweep_unmarked.new.space c.sweep_unmarked.ensures
    c.evacuate-evacuated.new.space c.evacuate-evacuated.result c.evacuate-evacuated.ensures c.count_evacuated.new.space c.count_evacuated.ensures

pub returns : goal.returns
returns c g can =
    ends c.args.space.now g can c.finish_decrements.new.space c.finish_decrements.ensures c.finish_trace.new.space c.finish_trace.ensures c.sweep_unmarked.new.space c.sweep_unmarked.ensures
    c.evacuate-evacuated.new.space c.evacuate-evacuated.result c.evacuate-evacuated.ensures c.count_evacuated.new.space c.count_evacuated.ensures
    c.release_blocks.new.space c.set_trace.new.space c.release_blocks.ensures.tables c.set_trace.ensures

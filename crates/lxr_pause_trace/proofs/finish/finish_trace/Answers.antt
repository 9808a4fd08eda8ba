use Rattle.lxr_pause_trace.proofs.TraceLemmas.{opening_stage, trace_finished}
use Rattle.lxr_pause_trace.proofs.finish.finish_trace.Goals as goal

pub find_grays-requires : goal.find_grays-requires
find_grays-requires c = (c.args.space.now, opening_stage c.args.space.now c.requires.0 c.requires.1 c.requires.2)

pub empty_worklist-requires : goal.empty_worklist-requires
empty_worklist-requires c = (c.args.space.now, c.find_grays.ensures c.args.space.now (opening_stage c.args.space.now c.requires.0 c.requires.1 c.requires.2))

pub returns : goal.returns
returns c = λ m at can.
    trace_finished c.args.space.now c.empty_worklist.new.space m at can
    (c.empty_worklist.ensures c.args.space.now (c.find_grays.ensures c.args.space.now (opening_stage c.args.space.now m at can)))

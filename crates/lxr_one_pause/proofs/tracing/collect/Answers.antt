use Rattle.lxr_one_pause.specs.Tracing.{drained}
use Rattle.lxr_one_pause.proofs.TracingLemmas.{can_finish, can_finish_begun, can_trace_released, may_sweep}
use Rattle.lxr_one_pause.proofs.tracing.collect.Goals as goal

pub finish_decrements-requires : goal.finish_decrements-requires
finish_decrements-requires c = (c.requires.0.moment, c.requires.0.at, can_finish c.args.space.now c.requires.0 c.requires.1)

pub release_blocks-requires : goal.release_blocks-requires
release_blocks-requires c =
    let g = c.requires.0 in
    let f = c.finish_decrements.ensures g.moment g.at (can_finish c.args.space.now g c.requires.1) in
    f.1.holds.space

pub begin_trace-requires : goal.begin_trace-requires
begin_trace-requires c =
    let g = c.requires.0 in
    let f = c.finish_decrements.ensures g.moment g.at (can_finish c.args.space.now g c.requires.1) in
    (drained g f.0, g.at, can_trace_released c.args.space.now g c.requires.1 c.finish_decrements.new.space f.0 f.1 c.release_blocks.new.space c.release_blocks.ensures.tables)

pub finish_trace-requires : goal.finish_trace-requires
finish_trace-requires c =
    let s = c.args.space.now in
    let g = c.requires.0 in
    let f = c.finish_decrements.ensures g.moment g.at (can_finish s g c.requires.1) in
    let b = c.begin_trace.ensures (drained g f.0) g.at (can_trace_released s g c.requires.1 c.finish_decrements.new.space f.0 f.1 c.release_blocks.new.space c.release_blocks.ensures.tables) in
    (drained g f.0, g.at, can_finish_begun s g c.requires.1 c.finish_decrements.new.space f.0 f.1 c.release_blocks.new.space c.release_blocks.ensures.tables c.begin_trace.new.space b)

pub sweep_unmarked-requires : goal.sweep_unmarked-requires
sweep_unmarked-requires c =
    let s = c.args.space.now in
    let g = c.requires.0 in
    let can = c.requires.1 in
    let f = c.finish_decrements.ensures g.moment g.at (can_finish s g can) in
    let b = c.begin_trace.ensures (drained g f.0) g.at (can_trace_released s g can c.finish_decrements.new.space f.0 f.1 c.release_blocks.new.space c.release_blocks.ensures.tables) in
    let t = c.finish_trace.ensures (drained g f.0) g.at (can_finish_begun s g can c.finish_decrements.new.space f.0 f.1 c.release_blocks.new.space c.release_blocks.ensures.tables c.begin_trace.new.space b) in
    (drained g f.0, g.at, may_sweep s g can c.finish_decrements.new.space c.release_blocks.new.space c.begin_trace.new.space c.finish_trace.new.space f.0 f.1 c.release_blocks.ensures.tables b t)

pub set_trace-requires : goal.set_trace-requires
set_trace-requires c =
    let s = c.args.space.now in
    let g = c.requires.0 in
    let can = c.requires.1 in
    let f = c.finish_decrements.ensures g.moment g.at (can_finish s g can) in
    let b = c.begin_trace.ensures (drained g f.0) g.at (can_trace_released s g can c.finish_decrements.new.space f.0 f.1 c.release_blocks.new.space c.release_blocks.ensures.tables) in
    let t = c.finish_trace.ensures (drained g f.0) g.at (can_finish_begun s g can c.finish_decrements.new.space f.0 f.1 c.release_blocks.new.space c.release_blocks.ensures.tables c.begin_trace.new.space b) in
    let w = c.sweep_unmarked.ensures (drained g f.0) g.at (may_sweep s g can c.finish_decrements.new.space c.release_blocks.new.space c.begin_trace.new.space c.finish_trace.new.space f.0 f.1 c.release_blocks.ensures.tables b t) in
    w.2.holds.space

pub returns : goal.returns
returns c g can =
    let s = c.args.space.now in
    let f = c.finish_decrements.ensures g.moment g.at (can_finish s g can) in
    let b = c.begin_trace.ensures (drained g f.0) g.at (can_trace_released s g can c.finish_decrements.new.space f.0 f.1 c.release_blocks.new.space c.release_blocks.ensures.tables) in
    let t = c.finish_trace.ensures (drained g f.0) g.at (can_finish_begun s g can c.finish_decrements.new.space f.0 f.1 c.release_blocks.new.space c.release_blocks.ensures.tables c.begin_trace.new.space b) in
    let w = c.sweep_unmarked.ensures (drained g f.0) g.at (may_sweep s g can c.finish_decrements.new.space c.release_blocks.new.space c.begin_trace.new.space c.finish_trace.new.space f.0 f.1 c.release_blocks.ensures.tables b t) in
    record {
      gone = f.0;
      swept = w.0;
      third = w.1;
      found = c.finish_decrements.new.space;
      released = c.release_blocks.new.space;
      begun = c.begin_trace.new.space;
      traced = c.finish_trace.new.space;
      cleared = c.sweep_unmarked.new.space;
      finishes = f.1;
      releases = c.release_blocks.ensures.tables;
      begins = b;
      traces = t;
      sweeps = w.2;
      sets = c.set_trace.ensures;
    }

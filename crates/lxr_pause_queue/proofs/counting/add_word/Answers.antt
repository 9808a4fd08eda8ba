use Rattle.std.proofs.Common.{◌+◌}
use Rattle.lxr_pause_queue.proofs.EntryLemmas.{all_are_told, begins_told, one_more_told, room_for_next}
use Rattle.lxr_pause_queue.proofs.counting.add_word.Goals as goal

pub loop-bit-init : goal.loop-bit-init
loop-bit-init c = (0, begins_told c.args.space.now c.args.at c.start_word-starts.result c.requires.told)

pub add_count-requires-clause-room : goal.add_count-requires-clause-room
add_count-requires-clause-room c =
    let so_far = c.loop-bit.invariant in
    room_for_next c.args.space.now c.loop-bit.space c.args.at c.start_word-starts.result c.loop-bit.starts so_far.0 so_far.1 _ c.in-Some.bit c.requires.at c.requires.room c.in-Some.ensures.taken

pub loop-bit-preserved : goal.loop-bit-preserved
loop-bit-preserved c =
    let so_far = c.loop-bit.invariant in (
      c.in-Some.bit + 1,
      one_more_told c.args.space.now c.loop-bit.space c.args.at c.start_word-starts.result c.loop-bit.starts so_far.0 so_far.1 c.start_word-starts.ensures _ c.in-Some.bit c.add_count.new.space
          c.in-Some.ensures.taken c.add_count.ensures,
    )

pub returns : goal.returns
returns c =
    let so_far = c.loop-bit.invariant in
    all_are_told c.args.space.now c.loop-bit.space c.args.at c.start_word-starts.result c.loop-bit.starts so_far.0 so_far.1 c.start_word-starts.ensures c.in_default.ensures.none.0

use Rattle.std.proofs.Common.{◌≡◌, ◌++◌, ◌∙◌, ap, take, drop, length, arith, length-drop}
use Rattle.std.proofs.lemmas.List.{take_at}
use Rattle.lxr_text_stream.proofs.StreamLemmas.{Takes-append, take_take}
use Rattle.lxr_text_stream.proofs.transfer.read_all.Goals as goal

pub loop-filled-preserved : goal.loop-filled-preserved
loop-filled-preserved g c =
    let now = c.read_behind.new.room in
    let filled = c.loop-filled.filled in
    let n = c.in-Bytes.n in
    let read = c.in-Bytes.ensures.reads in
    let same : take c.make_room.new.room.len (now ++ drop (length now) c.make_room.new.room.items) ≡ now = take_at now (drop (length now) c.make_room.new.room.items) c.make_room.new.room.len (omega (arith, c.deref_mut.ensures.len)) in
    let kept : take filled now ≡ take filled c.loop-filled.room.items = c.read_behind.ensures.kept ∙ ap (take filled) c.deref_mut.ensures.value ∙ c.in_ok-make_room.ensures.kept in
    rw same (record {
      within = omega (arith, length-drop filled now, read.1);
      limited = omega (arith, c.in_ok-make_room.ensures.limited);
      taken = rw (take_take now filled n) at (Takes-append (g.I.Source.left c.args.input.now) (g.I.Source.left c.loop-filled.input) (g.I.Source.left c.read_behind.new.input) (take filled now) (take n (drop filled now)) (rw kept c.loop-filled.invariant.taken) read.2);
      faults = omega (arith, c.in-Bytes.ensures.faults);
    })

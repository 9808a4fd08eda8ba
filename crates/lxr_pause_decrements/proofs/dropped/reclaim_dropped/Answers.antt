use Rattle.lxr_pause_decrements.proofs.SpaceLemmas.{keeps_both, keeps_none, reclaimed_keeps}
use Rattle.lxr_pause_decrements.proofs.DropLemmas.{is_there, look_placed, look_place, look_reclaimed, look_room, not_there}
use Rattle.lxr_pause_decrements.proofs.dropped.reclaim_dropped.Goals as goal

pub is_dropped-requires : goal.is_dropped-requires
is_dropped-requires c =
    let h = look_place c.args.space.now c.args.place c.args.floor c.requires.0 c.requires.1 c.requires.2 c.requires.3 in
    record { space = c.requires.3.looking.stage.space; place = h.0; heap = h.1 }

pub reclaim-requires : goal.reclaim-requires
reclaim-requires c =
    let s = c.args.space.now in
    let there = is_there s c.args.place c.args.floor c.requires.0 c.requires.1 c.requires.2 c.requires.3 c.is_dropped.result c.is_dropped.ensures c.if-is_dropped.true in
    let h = look_placed s c.args.place c.args.floor c.requires.0 c.requires.1 c.requires.2 c.requires.3 in
    let room = look_room s c.args.place c.args.floor c.requires.0 c.requires.1 c.requires.2 c.requires.3 there.0 in
    record {
      space = c.requires.3.looking.stage.space;
      place = (look_place s c.args.place c.args.floor c.requires.0 c.requires.1 c.requires.2 c.requires.3).0;
      header = (c.requires.1, _, h.header, h.fits);
      work = room.0;
      dead = room.1;
    }

pub drain-requires : goal.drain-requires
drain-requires c =
    let s = c.args.space.now in
    let is = c.requires.3 in
    let there = is_there s c.args.place c.args.floor c.requires.0 c.requires.1 c.requires.2 is c.is_dropped.result c.is_dropped.ensures c.if-is_dropped.true in
    let h = look_placed s c.args.place c.args.floor c.requires.0 c.requires.1 c.requires.2 is in
    (_, record { stage = look_reclaimed s c.args.place c.args.floor c.requires.0 c.requires.1 c.requires.2 is c.reclaim.new.space there (c.reclaim.ensures c.requires.1 _ h.header); under = is.looking.under; between = is.looking.between })

pub returns-then-is_dropped-clause-drops : goal.returns-then-is_dropped-clause-drops
returns-then-is_dropped-clause-drops c = λ st r rest is.
    let s = c.args.space.now in
    let there = is_there s c.args.place c.args.floor st r rest is c.is_dropped.result c.is_dropped.ensures c.if-is_dropped.true in
    let h = look_placed s c.args.place c.args.floor st r rest is in
    c.drain.ensures.drains _ (record { stage = look_reclaimed s c.args.place c.args.floor st r rest is c.reclaim.new.space there (c.reclaim.ensures r _ h.header); under = is.looking.under; between = is.looking.between })

pub returns-then-is_dropped-clause-keeps : goal.returns-then-is_dropped-clause-keeps
returns-then-is_dropped-clause-keeps c =
    let s = c.args.space.now in
    let h = look_placed s c.args.place c.args.floor c.requires.0 c.requires.1 c.requires.2 c.requires.3 in
    keeps_both s c.reclaim.new.space c.drain.new.space (reclaimed_keeps s c.reclaim.new.space c.args.place c.requires.1 _ (c.reclaim.ensures c.requires.1 _ h.header)) c.drain.ensures.keeps

pub returns-else-is_dropped-clause-drops : goal.returns-else-is_dropped-clause-drops
returns-else-is_dropped-clause-drops c = λ st r rest is. not_there c.args.space.now c.args.place c.args.floor st r rest is c.is_dropped.result c.is_dropped.ensures c.if-is_dropped.false

pub returns-else-is_dropped-clause-keeps : goal.returns-else-is_dropped-clause-keeps
returns-else-is_dropped-clause-keeps c = keeps_none c.args.space.now

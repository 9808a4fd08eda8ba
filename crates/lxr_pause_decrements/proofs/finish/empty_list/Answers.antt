use Rattle.lxr_pause_decrements.proofs.DrainLemmas.{both_cursors, emptied_leaves, list_emptied}
use Rattle.lxr_pause_decrements.proofs.finish.empty_list.Goals as goal

pub returns : goal.returns
returns c =
    let turns = both_cursors c.args.space.now c.put_cursor.new.self c.put_cursor-2.new.self c.put_cursor.ensures c.put_cursor-2.ensures in
    record {
      empties = λ st is. list_emptied c.args.space.now c.put_cursor-2.new.self st is c.requires.drawn turns;
      leaves = emptied_leaves c.args.space.now c.put_cursor-2.new.self turns;
    }

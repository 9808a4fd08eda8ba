use Rattle.lxr_case.proofs.ItemLemmas.{more}
use Rattle.lxr_case.proofs.items.read_items.Goals as goal

pub loop-rest-preserved : goal.loop-rest-preserved
loop-rest-preserved c = more c.args.threads c.args.text.now c.loop-rest.rest.now c.split_line.result.0.now c.split_line.result.1.now c.loop-rest.number c.loop-rest.items.items c.take_line.new.items.items
    c.split_line.ensures.lines c.split_line.ensures.shorter c.in_ok-take_line.ensures.ok c.loop-rest.invariant

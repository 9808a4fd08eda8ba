use Rattle.lxr_hints.specs.Joined.{own_deque}
use Rattle.lxr_hints.specs.Sharing.{way_deque}
use Rattle.lxr_hints.proofs.Ways.{ways_lead}
use Rattle.lxr_hints.proofs.set.ways_from.Goals as goal

pub returns-clause-others : goal.returns-clause-others
returns-clause-others g c = ways_lead own_deque way_deque c.args.set.now c.args.number _ c.add_ways.new.ways.items c.add_ways-2.new.ways.items c.in_ok-ways.ensures.items c.requires c.in_ok-add_ways.ensures.others c.in_ok-add_ways-2.ensures.others

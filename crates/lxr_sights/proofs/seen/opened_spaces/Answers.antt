use Rattle.lxr_sights.proofs.CopyLemmas.{one_more_opened, opened_is_spare}
use Rattle.lxr_sights.proofs.seen.opened_spaces.Goals as goal

pub loop-preserved : goal.loop-preserved
loop-preserved c = one_more_opened c.args.limits c.loop.spaces c.push.new.self c.open.new.self c.loop.counter c.args.count c.loop.invariant c.push.ensures
    (opened_is_spare c.open.new.self c.args.limits c.in_ok-open.ensures.space c.in_ok-open.ensures.opened)

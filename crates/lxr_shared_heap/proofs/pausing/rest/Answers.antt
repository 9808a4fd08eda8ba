use Rattle.std.proofs.Common.{subst, sym}
use Rattle.lxr_one_pause.specs.Deciding.{IsPace}
use Rattle.lxr_shared_heap.specs.Settings.{run_of}
use Rattle.lxr_shared_heap.proofs.RestingLemmas.{lists_behind, rests_each}
use Rattle.lxr_shared_heap.proofs.pausing.rest.Goals as goal

pub follow_epoch-requires-clause-pace : goal.follow_epoch-requires-clause-pace
follow_epoch-requires-clause-pace g c = subst IsPace (sym c.pace.ensures) (record { trace = c.requires.settings.trace; within = c.requires.settings.within })

pub follow_epoch-requires-clause-ran : goal.follow_epoch-requires-clause-ran
follow_epoch-requires-clause-ran g c =
    let (script, before, calls, m, ran) = c.requires.made in
    (run_of c.args.settings script, sym c.pace.ensures, before, calls, m, ran)

pub returns-clause-untold : goal.returns-clause-untold
returns-clause-untold g c = c.follow_epoch.ensures.listed

pub returns-clause-rests : goal.returns-clause-rests
returns-clause-rests g c =
    rests_each c.args.begins c.args.to_list.now c.follow_epoch.new.to_list _ c.args.settings c.pace.result c.args.space.now c.follow_epoch.new.space c.args.actors.now.items c.follow_epoch.new.actors.items c.in-Ok.ended c.pace.ensures c.in-Ok.ensures.ok

pub returns-clause-lists : goal.returns-clause-lists
returns-clause-lists g c =
    lists_behind c.args.begins c.args.to_list.now c.follow_epoch.new.to_list _ c.args.settings c.pace.result c.args.space.now c.follow_epoch.new.space c.args.actors.now.items c.follow_epoch.new.actors.items c.in-Ok.ended c.pace.ensures c.in-Ok.ensures.ok c.in-Ok.ensures.kept c.requires.made

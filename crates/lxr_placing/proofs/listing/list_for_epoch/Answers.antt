use Rattle.lxr_placing.proofs.QuiescentLemmas.{quiescent_later}
use Rattle.lxr_placing.proofs.ListedLemmas.{listed_now}
use Rattle.lxr_placing.proofs.WholeLemmas.{all_listed_now}
use Rattle.lxr_placing.proofs.listing.list_for_epoch.Goals as goal

pub returns-clause-between : goal.returns-clause-between
returns-clause-between c g is = quiescent_later c.args.space.now c.list_runs.new.space _ _ c.list_runs.ensures.lists g is

pub returns-clause-listed : goal.returns-clause-listed
returns-clause-listed c =
    let (g, between) = c.requires in
    record {
      listed = listed_now c.args.space.now c.list_runs.new.space between.safepoint.holds.space between.states c.list_runs.ensures.lists;
      whole = all_listed_now c.args.space.now c.list_runs.new.space _ c.list_runs.ensures.lists;
    }

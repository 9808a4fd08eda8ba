use Rattle.lxr_pause_increments.proofs.TracedLemmas.{gray_fits, grays_next}
use Rattle.lxr_pause_increments.proofs.tracing.gray_entries.Goals as goal

pub gray_place-requires-clause-place : goal.gray_place-requires-clause-place
gray_place-requires-clause-place c = gray_fits c.args.space.now c.loop-index.space c.loop-index.index c.at-entry.result c.loop-index.invariant c.requires.fit c.at-entry.ensures

pub loop-index-preserved : goal.loop-index-preserved
loop-index-preserved c =
    grays_next c.args.space.now c.loop-index.space c.gray_place.new.space c.loop-index.index c.at-entry.result c.loop-index.invariant c.at-entry.ensures c.gray_place.ensures

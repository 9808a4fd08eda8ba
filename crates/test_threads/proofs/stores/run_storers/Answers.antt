use Rattle.lxr_barrier.proofs.StorerLemmas.{storers_fit}
use Rattle.test_threads.proofs.stores.run_storers.Goals as goal

pub run_passes-requires-clause-fits : goal.run_passes-requires-clause-fits
run_passes-requires-clause-fits g c κs within = storers_fit _ c.requires.have

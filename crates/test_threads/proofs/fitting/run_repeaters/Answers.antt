use Rattle.test_threads.proofs.Wide.{repeaters-fit}
use Rattle.test_threads.proofs.fitting.run_repeaters.Goals as goal

pub run_passes-requires-clause-fits : goal.run_passes-requires-clause-fits
run_passes-requires-clause-fits g c κs within = repeaters-fit _ c.requires.words

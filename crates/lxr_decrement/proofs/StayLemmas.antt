-- What holds of a decrementer holds of it from the first on.
use Rattle.lxr_helper.proofs.HelperLemmas as lemma
use Rattle.lxr_decrement.specs.Laws.{StaysSo}
use Rattle.lxr_decrement.specs.Lawful.{decrementer_lawful}
use Rattle.lxr_decrement.specs.Steps.{decrementer_work}

pub stay_so : StaysSo
stay_so = lemma.stay_so decrementer_work decrementer_lawful

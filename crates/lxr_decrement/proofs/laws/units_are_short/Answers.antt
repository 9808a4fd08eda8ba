use Rattle.lxr_helper.proofs.HelperLemmas.{units_short}
use Rattle.lxr_decrement.specs.Steps.{decrementer_work}
use Rattle.lxr_decrement.specs.Lawful.{decrementer_lawful}
use Rattle.lxr_decrement.proofs.laws.units_are_short.Goals as goal

pub returns : goal.returns
returns c = units_short decrementer_work decrementer_lawful

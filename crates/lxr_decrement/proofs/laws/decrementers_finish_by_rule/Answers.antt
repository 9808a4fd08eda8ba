use Rattle.lxr_helper.proofs.HelperLemmas.{finished_by_rule}
use Rattle.lxr_decrement.specs.Steps.{decrementer_work}
use Rattle.lxr_decrement.specs.Lawful.{decrementer_lawful}
use Rattle.lxr_decrement.proofs.laws.decrementers_finish_by_rule.Goals as goal

pub returns : goal.returns
returns c = finished_by_rule decrementer_work decrementer_lawful

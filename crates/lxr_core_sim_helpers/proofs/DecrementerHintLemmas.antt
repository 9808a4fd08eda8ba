-- What hints leave: a place that is offered or given up changes the pocket alone.
use Rattle.lxr_decrement.specs.Steps.{decrementer_work}
use Rattle.lxr_decrement.specs.Lawful.{decrementer_lawful}
use Rattle.lxr_core_sim_helpers.specs.DecrementerShowing.{decrementing_in}
use Rattle.lxr_core_sim_helpers.specs.DecrementerStepping.{HintsChangeNothing}
use Rattle.lxr_core_sim_helpers.proofs.HelperLemmas as lemma

pub hints_stay : HintsChangeNothing
hints_stay = lemma.hints_stay decrementer_work decrementing_in decrementer_lawful

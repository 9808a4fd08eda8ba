-- What holds of every schedule of any number of storers.
use Rattle.std.specs.Prelude.{ℕ, List}
use Rattle.lxr_layout.specs.declared.limits.Regions.{Regions}
use Rattle.lxr_actor.specs.declared.Core.{Core}
use Rattle.lxr_actor.specs.declared.Event.{Event}
use Rattle.lxr_actor.specs.Run.{run}
use Rattle.lxr_barrier.specs.Storers.{Logging, storer_machine}
use Rattle.lxr_barrier.specs.Unlogged.{AreStorersIn, KeepFirstValues}

-- words and logs that keep the first values keep them after every schedule
abbrev pub StoresKeepFirstValues : Type 0
StoresKeepFirstValues = (r : Regions) (opening : List ℕ) (core : Core Logging) (schedule : List Event)
    → AreStorersIn r core.words core.actors
    → KeepFirstValues r opening core.words core.actors
    → KeepFirstValues r opening (run storer_machine core schedule).words (run storer_machine core schedule).actors

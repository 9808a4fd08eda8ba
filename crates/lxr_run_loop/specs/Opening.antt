-- What a run begins with.
use Rattle.std.specs.Prelude.{ℕ, false, Option, List}
use Rattle.lxr_image.specs.declared.space.Space.{Space}
use Rattle.lxr_model.specs.Belongs.{Script}
use Rattle.lxr_core.specs.declared.actors.AnyActor.{AnyActor}
use Rattle.lxr_sights.specs.Sights.{Sight}
use Rattle.lxr_words.specs.declared.Options.{Options}
use Rattle.lxr_run_loop.specs.Courses.{opening_course}
use Rattle.lxr_run_loop.specs.Progress.{IsUnderWay}

-- the space and the actors are opened for a run with these options of this script, where this was written and seen before it
abbrev pub IsOpenedRun : Options → Script → Space → Option (List ℕ) → Option (List Sight) → List AnyActor → Type 0
IsOpenedRun options script space written seen actors = IsUnderWay (record { options = options; renews = false; script = script; written = written; seen = seen }) space written seen actors (opening_course options)

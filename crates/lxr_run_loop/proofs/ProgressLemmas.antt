-- How a run is stopped, and that less is left from round to round.
use Rattle.std.proofs.Common.{◌≡◌, ℕ, ◌+◌, ◌<◌, inl, inr, arith, Bool, true, false, List, [], cond}
use Rattle.std.specs.Prelude.{Option}
use Rattle.lxr_graph.specs.History.{Item}
use Rattle.lxr_image.specs.declared.space.Space.{Space}
use Rattle.lxr_invariant.specs.AbstractState.{AbstractState}
use Rattle.lxr_sights.specs.Sights.{Sight}
use Rattle.lxr_text_stream.specs.declared.transfer.WriteError.{WriteError}
use Rattle.lxr_text_stream.specs.declared.transfer.WriteError.TheVariants as error
use Rattle.lxr_core.specs.declared.actors.AnyActor.{AnyActor}
use Rattle.lxr_core.specs.Actors.{mutators_in}
use Rattle.lxr_rounds_history.specs.Tally.{evacuated_in}
use Rattle.lxr_rounds_invariant.specs.LoopInvariant.{left_of}
use Rattle.lxr_run_loop.specs.Tasks.{RunTask, WasCutOff, WasStopped}
use Rattle.lxr_run_loop.specs.declared.course.Course.{Course}
use Rattle.lxr_run_loop.specs.Progress.{HasMadeRound, IsBetweenRounds, IsComplete, IsUnderWay}

-- ---- a run that is stopped

-- whatever stopped it where a report was written cut it off
pub cut_off_by : (why : WriteError) (task : RunTask) (space : Space) (written : Option (List ℕ)) (seen : Option (List Sight)) → WasCutOff task space written seen → WasStopped why task space written seen
cut_off_by error.Fault task space written seen cut = cut
cut_off_by error.Memory task space written seen cut = inl cut

-- a run between two rounds that lost its space had written its reports so far
pub lost_at : (task : RunTask) (before after : Space) (written : Option (List ℕ)) (seen : Option (List Sight)) (actors : List AnyActor) (h : List Item) (g : AbstractState) → IsBetweenRounds task before written seen actors h g
    → after.words ≡ [] → WasStopped error.Memory task after written seen
lost_at task before after written seen actors h g amid gone = inr (h, let come = amid.epochs.come in record { history = come.history; text = amid.text; gone = gone; evacuated = evacuated_in before.tally; sights = (come.places, come.sights) })

-- ---- by whether all have ended

pub under_way_from : (task : RunTask) (space : Space) (written : Option (List ℕ)) (seen : Option (List Sight)) (before after : List AnyActor) (course : Course) (ended : Bool) → ended ≡ false
    → HasMadeRound task space written seen before after course ended → IsUnderWay task space written seen after course
under_way_from task space written seen before after course false e made = made.under_way
under_way_from task space written seen before after course true e made = absurd (cc)

pub complete_from : (task : RunTask) (space : Space) (written : Option (List ℕ)) (seen : Option (List Sight)) (before after : List AnyActor) (course : Course) (ended : Bool) → ended ≡ true
    → HasMadeRound task space written seen before after course ended → IsComplete task space written seen after course
complete_from task space written seen before after course true e made = made.complete
complete_from task space written seen before after course false e made = absurd (cc)

-- in each round less is left, and in the last one the test that ends the loop
pub nearer : (task : RunTask) (space : Space) (written : Option (List ℕ)) (seen : Option (List Sight)) (before after : List AnyActor) (course : Course) (was ended : Bool) → was ≡ false
    → HasMadeRound task space written seen before after course ended → left_of (mutators_in after) + cond {A = ℕ} ended 0 1 < left_of (mutators_in before) + cond {A = ℕ} was 0 1
nearer task space written seen before after course false true e made = let no_more = made.no_more in omega arith
nearer task space written seen before after course false false e made = let less = made.less in omega arith
nearer task space written seen before after course true ended e made = absurd (cc)

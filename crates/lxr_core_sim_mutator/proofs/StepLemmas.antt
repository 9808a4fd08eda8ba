-- Each step of a mutator in an epoch is an event, by its phase.
use Rattle.std.proofs.Common.{ℕ, List}
use Rattle.std.specs.Prelude.{IsSome}
use Rattle.lxr_mutator.specs.declared.phases.MutatorPhase.{MutatorPhase}
use Rattle.lxr_mutator.specs.declared.phases.MutatorPhase.TheVariants as phase
use Rattle.lxr_mutator.specs.Mutating.{Mutating}
use Rattle.lxr_mutator.specs.Steps.{action}
use Rattle.lxr_core_invariant.specs.EpochStates.{Beginning, EpochState}
use Rattle.lxr_core_inv_memory.proofs.ClosingLemmas.{cursors_are_far}
use Rattle.lxr_core_sim_mutator.specs.Showing.{thread_state_of}
use Rattle.lxr_core_sim_mutator.specs.Stepping.{ShowsAs, StepIsEvent, StepsAreEvents}
use Rattle.lxr_core_sim_mutator.proofs.OutcomeLemmas.{in_phase}
use Rattle.lxr_core_sim_mutator.proofs.NamingLemmas.{named}
use Rattle.lxr_core_sim_mutator.proofs.ReadySteps.{ready_step}
use Rattle.lxr_core_sim_mutator.proofs.BaseSteps.{base_step}
use Rattle.lxr_core_sim_mutator.proofs.FieldSteps.{adding_step, datum_step, putting_step, reference_step, referent_step}
use Rattle.lxr_core_sim_mutator.proofs.StoringSteps.{storing_step}
use Rattle.lxr_core_sim_mutator.proofs.DrawingSteps.{block_number_step, block_step, draws_block_step, draws_run_step, run_number_step, run_step}
use Rattle.lxr_core_sim_mutator.proofs.MakingSteps.{heading_step, wiping_step}
use Rattle.lxr_core_sim_mutator.proofs.LeavingSteps.{asking_step, leaving_step}

-- a step in a phase is an event
step_in : (b : Beginning) (s : EpochState) (words : List ℕ) (i : ℕ) (m : Mutating) (p : MutatorPhase) → ShowsAs b s words i (in_phase m p) → IsSome (action (in_phase m p)) → StepIsEvent b s words i (in_phase m p)
step_in b s words i m phase.Ready shows some = ready_step b s words i m shows
step_in b s words i m phase.Finished shows some = absurd (cc)
step_in b s words i m (phase.Base base) shows some = base_step b s words i m base shows
step_in b s words i m (phase.Reference base) shows some = reference_step b s words i m base shows
step_in b s words i m (phase.Referent place) shows some = referent_step b s words i m place shows
step_in b s words i m (phase.Datum base refs) shows some = datum_step b s words i m base refs shows
step_in b s words i m (phase.Putting base refs) shows some = putting_step b s words i m base refs shows
step_in b s words i m (phase.Adding base refs) shows some = adding_step b s words i m base refs shows
step_in b s words i m (phase.Storing st) shows some = storing_step b s words i m st shows
step_in b s words i m phase.DrawsRun shows some = draws_run_step cursors_are_far b s words i m shows
step_in b s words i m (phase.RunNumber number) shows some = run_number_step b s words i m number shows
step_in b s words i m (phase.Run number) shows some = run_step b s words i m number shows
step_in b s words i m phase.DrawsBlock shows some = draws_block_step cursors_are_far b s words i m shows
step_in b s words i m (phase.BlockNumber number) shows some = block_number_step b s words i m number shows
step_in b s words i m (phase.Block number) shows some = block_step b s words i m number shows
step_in b s words i m (phase.Wiping place next) shows some = wiping_step b s words i m place next shows
step_in b s words i m (phase.Heading place) shows some =
    let n = in_phase m (phase.Heading place) in
    heading_step b s words i m place shows (named b s i n shows.epoch shows.thread_state (shows.epoch.called.each i (thread_state_of n) shows.thread_state).replies)
step_in b s words i m phase.Asking shows some = asking_step b s words i m shows
step_in b s words i m (phase.GivingUp how) shows some = leaving_step b s words i m how shows

-- each step is an event
pub each_step : StepsAreEvents
each_step b s words i m shows some = step_in b s words i m m.phase shows some

-- The end of a run: its history is whole, and what it has of each thread is what its mutator keeps.
use Rattle.std.proofs.Common.{◌≡◌, ℕ, ◌+◌, ◌∙◌, arith, subst, true, List, ◌∷◌}
use Rattle.std.specs.Prelude.{Option, Some, slice_get}
use Rattle.std.proofs.lemmas.Option.{slice_get_within}
use Rattle.lxr_graph.specs.History.{Item, Pause, PauseReport, calls_of, replies_of}
use Rattle.lxr_image.specs.declared.space.Space.{Space}
use Rattle.lxr_invariant.specs.AbstractState.{AbstractState}
use Rattle.lxr_sights.specs.Sights.{Sight}
use Rattle.lxr_one_pause.specs.declared.Ask.{Ask}
use Rattle.lxr_mutator.specs.Mutating.{Mutating}
use Rattle.lxr_mutator.specs.Naming.{all_told_as}
use Rattle.lxr_core_invariant.specs.ThreadStates.{all_of}
use Rattle.lxr_core.specs.declared.actors.AnyActor.{AnyActor}
use Rattle.lxr_core.specs.Actors.{mutators_in}
use Rattle.lxr_rounds_history.proofs.HistoryLemmas.{history_whole}
use Rattle.lxr_rounds_invariant.specs.LoopInvariant.{HasPaused, HasRunEpoch, HasRunTo, HaveEnded, Task}
use Rattle.lxr_rounds_invariant.specs.Laws.{RunsEnd}
use Rattle.lxr_rounds_invariant.proofs.ActorLemmas.{as_many, ends_are_all, operations_at, threads_are_done}
use Rattle.lxr_rounds_invariant.proofs.PauseLemmas.{actors_paused}

-- the pause after the epoch in which the last thread ended is the last
pub run_to : (task : Task) (safepoint space : Space) (seen seen' : Option (List Sight)) (before actors : List AnyActor) (h : List Item) (g m : AbstractState) (asked : Ask) (report : PauseReport)
    → HasRunEpoch task safepoint seen before actors h g → HaveEnded (mutators_in actors) → HasPaused task space seen' h asked report m → HasRunTo task space seen' actors (Pause report ∷ h)
run_to task safepoint space seen seen' before actors h g m asked report ran ended paused = record {
  history = history_whole task.renews task.plan task.script h report paused.come.history (record {
    calls = threads_are_done task h (mutators_in actors) ran.come.history.0 ran.actors_rest.mutators ended;
    ended = ends_are_all task h (mutators_in actors) ran.come.history.0 ran.actors_rest.mutators ended;
  });
  left = (m, record { stands = paused.come.stands; between = paused.between; limits = paused.come.limits; tally = paused.come.tally });
  sights = (paused.come.places, paused.come.sights);
  actors_rest = actors_paused task h report actors ran.actors_rest;
}

pub runs_end : RunsEnd
runs_end task safepoint space seen seen' before actors h g asked ran ended (report, m, paused) =
    (Pause report ∷ h, run_to task safepoint space seen seen' before actors h g m asked report ran ended paused)

-- ---- its threads

-- what a whole history has of a thread that tells names
pub record HasThread (h : List Item) (t : ℕ) (a : Mutating) : Type 0 where
  pub calls : calls_of t h ≡ all_of a.operations
  pub replies : replies_of t h ≡ a.replies.items

-- it has all operations and the end of each, and the replies that its mutator keeps
pub thread_of_run : (task : Task) (space : Space) (seen : Option (List Sight)) (actors : List AnyActor) (h : List Item) → HasRunTo task space seen actors h → task.names ≡ true
    → (i : ℕ) (a : Mutating) → slice_get (mutators_in actors) i ≡ Some a → HasThread h (i + 1) a
thread_of_run task space seen actors h run told i a at =
    let within = slice_get_within (mutators_in actors) i a at in
    let many = as_many task h (mutators_in actors) run.actors_rest.mutators in
    record {
      calls = run.history.belongs.calls (i + 1) (omega arith) (omega arith) ∙ operations_at task.script (mutators_in actors) i a run.actors_rest.mutators.script at;
      replies = subst (λ b. all_told_as b (replies_of (i + 1) h) ≡ a.replies.items) (run.actors_rest.mutators.names i a at ∙ told) (run.actors_rest.mutators.rest.each i a at).replies;
    }

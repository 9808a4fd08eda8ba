-- An epoch of a run: once it is opened its actors can go on, and once they have it is closed behind a history that has more calls alone.
use Rattle.std.proofs.Common.{◌≡◌, ℕ, refl, sym, ap, subst, ◌∙◌, arith, true, List, length}
use Rattle.std.specs.Prelude.{Option}
use Rattle.std.proofs.lemmas.List.{length-map}
use Rattle.lxr_graph.specs.History.{Item}
use Rattle.lxr_graph.specs.declared.Item as kept
use Rattle.lxr_image.specs.declared.space.Space.{Space}
use Rattle.lxr_invariant.specs.AbstractState.{AbstractState}
use Rattle.lxr_model_laws.proofs.ScriptLemmas.{goes_on_itself}
use Rattle.lxr_actor.specs.declared.Core.{Core}
use Rattle.lxr_actor.specs.Run.{core_of}
use Rattle.lxr_actor.proofs.Runs.{run-lengths}
use Rattle.lxr_core.specs.declared.actors.AnyActor.{AnyActor}
use Rattle.lxr_core.specs.Actors.{any_machine, mutators_in, script_of, tracers_in}
use Rattle.lxr_core.specs.Closing.{AreFinished, Closes, MayClose}
use Rattle.lxr_core.specs.Collecting.{actor_given_up}
use Rattle.lxr_core.specs.Executions.{Execution, HoldsExecution, tell_all}
use Rattle.lxr_core.specs.Filling.{unfilled}
use Rattle.lxr_core.specs.Opening.{Opens, execution_at}
use Rattle.lxr_core.specs.Ordering.{AreFull, KeepsScript, TellNames}
use Rattle.lxr_core.proofs.ClosingLemmas.{given_full}
use Rattle.lxr_core.proofs.LastingLemmas.{names_opened, names_run}
use Rattle.lxr_core.proofs.OrderLemmas.{lengths_add}
use Rattle.lxr_core.proofs.ScriptLemmas.{opened_full, opened_script, scripts_stay}
use Rattle.lxr_core.proofs.TracerLemmas.{tracers_run}
use Rattle.lxr_run_replay.proofs.ClosingLemmas.{may_close}
use Rattle.lxr_run_threads.specs.Running.{CanRun}
use Rattle.lxr_shared.proofs.StartedLemmas.{started_helpers}
use Rattle.lxr_text_stream.specs.Streams.{Appends}
use Rattle.lxr_run_threads.proofs.OpenedLemmas.{opened_can_run}
use Rattle.lxr_sights.specs.Sights.{Sight}
use Rattle.lxr_words.specs.declared.Options.{Options}
use Rattle.lxr_words.specs.Ranges.{AreInRange}
use Rattle.lxr_run_loop.specs.Tasks.{RunTask, rounds_of}
use Rattle.lxr_rounds_invariant.specs.Laws.{beginning_of}
use Rattle.lxr_rounds_invariant.proofs.ActorLemmas.{as_many}
use Rattle.lxr_rounds_invariant.proofs.EpochLemmas.{epochs_run, may_open as epoch_begins}
use Rattle.lxr_run_loop.specs.Drawing.{GoesOn}
use Rattle.lxr_run_loop.specs.Orders.{NotesCalls}
use Rattle.lxr_run_loop.specs.Progress.{HasMadeEpochInOrder, IsBetweenRounds}
use Rattle.lxr_run_loop.proofs.OrderLemmas.{calls_follow}
use Rattle.lxr_run_loop.proofs.TextLemmas.{told_extends, totals_extend}
use Rattle.lxr_run_loop.proofs.ThreadLemmas.{as_many_helpers}

-- ---- an epoch of a run

module _ (task : RunTask) (space : Space) (written : Option (List ℕ)) (seen : Option (List Sight)) (actors : List AnyActor) (h : List Item) (g : AbstractState) (amid : IsBetweenRounds task space written seen actors h g)
    (opened : Space) (started : List AnyActor) (opens : Opens space opened actors started) (holds : HoldsExecution (beginning_of (rounds_of task) space h g) (execution_at (beginning_of (rounds_of task) space h g) opened started)) where
  -- there are as many actors as before
  pub started_many : length started ≡ length actors
  started_many = sym (length-map started unfilled) ∙ opens.actors.as_many

  -- with the operations of the script
  started_script : script_of (mutators_in started) ≡ task.script
  started_script = opened_script space opened actors started opens ∙ amid.epochs.actors_rest.mutators.script

  -- and with room for no others
  started_full : AreFull (mutators_in started)
  started_full = opened_full space opened actors started opens amid.full

  -- and each tells names
  started_names : TellNames true (mutators_in started)
  started_names = names_opened true space opened actors started opens amid.epochs.actors_rest.mutators.names

  same_tracers : length (tracers_in started) ≡ length (tracers_in actors)
  same_tracers = (started_helpers space.registers.items actors started opens.actors).tracers

  -- so the epoch can run
  pub can_run : (options : Options) → task.options ≡ options → AreInRange options → CanRun options opened started
  can_run options with_options range = opened_can_run options (beginning_of (rounds_of task) space h g) space opened actors started (record {
    few =
        let all = lengths_add actors in
        let mutators = as_many (rounds_of task) h (mutators_in actors) amid.epochs.actors_rest.mutators in
        let threads = amid.threads in
        let workers = amid.epochs.actors_rest.workers in
        let few = amid.epochs.actors_rest.few in
        let tracers = amid.epochs.actors_rest.tracers in
        omega arith;
    workers = range.workers;
    decrementers = amid.epochs.actors_rest.workers ∙ ap (λ (o : Options). o.workers) with_options;
    tracers = amid.epochs.actors_rest.tracers ∙ ap (λ (o : Options). o.workers) with_options;
  }) refl opens holds

  module _ (gone : Space) (moved : List AnyActor) (x x' : Option ℕ) (on : GoesOn opened gone started moved x x') where
    -- what it has come to
    abbrev pub execution_on : Execution
    execution_on = tell_all (beginning_of (rounds_of task) space h g) (execution_at (beginning_of (rounds_of task) space h g) opened started) on.events

    -- and may be closed
    pub may_be_closed : MayClose (beginning_of (rounds_of task) space h g) execution_on gone moved
    may_be_closed = may_close (beginning_of (rounds_of task) space h g) (execution_at (beginning_of (rounds_of task) space h g) opened started) on.events opened gone started moved (record {
      holds = holds;
      core = refl;
      space_is = opens.space.rest;
      gone_on = on.run;
      finished = on.finished;
      resting = on.resting;
      rest = on.rest;
    })

    -- its actors are those that it began with
    core_is : execution_on.core ≡ core_of gone.words moved
    core_is = may_be_closed.core

    -- orders are taken by none
    stays : KeepsScript (core_of opened.words started) on.events
    stays = scripts_stay (core_of opened.words started) on.events started_full

    script_on : script_of (mutators_in execution_on.core.actors) ≡ task.script
    script_on = ap (λ (k : Core AnyActor). script_of (mutators_in k.actors)) (core_is ∙ on.run) ∙ stays.script ∙ started_script

    full_on : AreFull (mutators_in execution_on.core.actors)
    full_on = subst (λ (k : Core AnyActor). AreFull (mutators_in k.actors)) (sym (core_is ∙ on.run)) stays.full

    names_on : TellNames true (mutators_in execution_on.core.actors)
    names_on = subst (λ (k : Core AnyActor). TellNames true (mutators_in k.actors)) (sym (core_is ∙ on.run)) (names_run true (core_of opened.words started) on.events started_names)

    many_on : length execution_on.core.actors ≡ length actors
    many_on = ap (λ (k : Core AnyActor). length k.actors) (core_is ∙ on.run) ∙ (run-lengths any_machine (core_of opened.words started) on.events).1 ∙ started_many

    tracers_on : length (tracers_in execution_on.core.actors) ≡ length (tracers_in actors)
    tracers_on = ap (λ (k : Core AnyActor). length (tracers_in k.actors)) (core_is ∙ on.run) ∙ tracers_run (core_of opened.words started) on.events ∙ same_tracers

    -- closing leaves as many actors
    pub closed_many : (after : Space) (actors' : List AnyActor) → Closes (beginning_of (rounds_of task) space h g) execution_on gone after actors' → length actors' ≡ length moved
    closed_many after actors' closes = ap length closes.gave ∙ length-map execution_on.core.actors actor_given_up ∙ ap (λ (k : Core AnyActor). length k.actors) core_is

    -- once it is closed the run has made an epoch
    pub has_made_epoch : (after : Space) (actors' : List AnyActor) → Closes (beginning_of (rounds_of task) space h g) execution_on gone after actors' → (order order' : Option (List kept.Item)) → NotesCalls (core_of opened.words started) on.events order order'
        → HasMadeEpochInOrder task space after written seen actors actors' h x x' order order'
    has_made_epoch after actors' closes order order' notes =
        let words : gone ≡ record space { words = gone.words } = on.rest ∙ ap (λ (s : Space). record s { words = gone.words }) opens.space.rest in
        let finished : AreFinished (mutators_in execution_on.core.actors) = subst AreFinished (sym (ap (λ (k : Core AnyActor). mutators_in k.actors) core_is)) on.finished in
        let workers = as_many_helpers actors execution_on.core.actors task.script many_on tracers_on amid.epochs.actors_rest.mutators.script script_on ∙ amid.epochs.actors_rest.workers in
        let (m, ran, extends) = epochs_run (rounds_of task) task.script space gone after seen actors actors' h g execution_on amid.epochs (goes_on_itself task.script) (record {
          words = words;
          script = script_on;
          names = names_on;
          workers = workers;
          tracers = tracers_on ∙ amid.epochs.actors_rest.tracers;
          closes = closes;
          due = record { cause = closes.cause finished; progress = closes.progress finished };
        }) in (
          record {
            history = execution_on.history;
            abstract_state = m;
            ran = ran;
            text = subst (Appends task.written written) (sym (told_extends task.options.command task.options.counts (length task.script) task.options.every h execution_on.history extends)) amid.text;
            makes = record {
              script = amid.epochs.actors_rest.mutators.script;
              workers = amid.epochs.actors_rest.workers;
              tracers = amid.epochs.actors_rest.tracers;
              abstract_state = g;
              begins = epoch_begins (rounds_of task) space seen actors h g amid.epochs;
              all_listed = amid.epochs.all_listed;
              unwaiting = amid.epochs.served.unwaiting;
              opened = opened;
              started = started;
              opens = opens;
              gone = gone;
              moved = moved;
              on = on;
              closes = closes;
              history = refl;
            };
            full = subst (λ z. AreFull (mutators_in z)) (sym closes.gave) (given_full execution_on.core.actors full_on);
            totals = totals_extend (length task.script) task.options.every h execution_on.history extends;
            pauses = ap (λ (s : Space). s.pauses) closes.rest ∙ ap (λ (s : Space). s.pauses) words;
          },
          calls_follow (core_of opened.words started) on.events order order' notes (beginning_of (rounds_of task) space h g) (execution_at (beginning_of (rounds_of task) space h g) opened started) refl,
        )

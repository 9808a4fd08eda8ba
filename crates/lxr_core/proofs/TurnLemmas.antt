-- The turn of an actor: a step of an actor of any kind is one of the machine of its kind, and one that makes no step changes nothing.
use Rattle.std.proofs.Common.{◌≡◌, ℕ, ◌+◌, refl, ap, ◌∙◌, arith, true, false, List, ◌∷◌, [], length, nat_eq}
use Rattle.std.specs.Prelude.{Option, Some, None, slice_get, slice_set, if◌then◌else◌}
use Rattle.lxr_layout.specs.declared.Name.{Name}
use Rattle.lxr_graph.specs.History.{Item, Call}
use Rattle.lxr_graph.specs.Step.{step}
use Rattle.lxr_actor.specs.declared.Action.{Action}
use Rattle.lxr_actor.specs.declared.Event.TheVariants.{Step}
use Rattle.lxr_actor.specs.Run.{acted, core_of, happened, stepped}
use Rattle.lxr_invariant.proofs.EntryLemmas.{unlike_number}
use Rattle.lxr_barrier.specs.declared.machines.StorePhase.{StorePhase}
use Rattle.lxr_barrier.specs.declared.machines.StorePhase.TheVariants as store_phase
use Rattle.lxr_barrier.specs.Storing.{Storing, swaps_in}
use Rattle.lxr_mutator.specs.declared.phases.MutatorPhase.{MutatorPhase}
use Rattle.lxr_mutator.specs.declared.phases.MutatorPhase.TheVariants as phase
use Rattle.lxr_mutator.specs.Mutating.{Mutating, op_now}
use Rattle.lxr_mutator.specs.Steps.{action, action_in, mutator_machine}
use Rattle.lxr_decrement.specs.Decrementing.{DecrementerState}
use Rattle.lxr_decrement.specs.Steps.{decrementer_machine}
use Rattle.lxr_trace.specs.Tracing.{TracerState}
use Rattle.lxr_trace.specs.Steps.{tracer_machine}
use Rattle.lxr_core_invariant.specs.EpochStates.{Beginning, EpochState, moment_of}
use Rattle.lxr_core_sim_mutator.specs.Stepping.{history_after, places_after, places_in, stands_in}
use Rattle.lxr_core.specs.declared.actors.AnyActor.{AnyActor}
use Rattle.lxr_core.specs.declared.actors.AnyActor.TheVariants as any
use Rattle.lxr_core.specs.Actors.{any_machine}
use Rattle.lxr_core.specs.Executions.{Execution, after_step, epoch_state_of, tell}
use Rattle.lxr_core.proofs.MappedLemmas.{set_itself}

-- ---- a step of an actor is one of its kind

-- the words and a mutator after an action, as those of an actor of any kind
same_acted : (words : List ℕ) (m : Mutating) (o : Option Action) → acted any_machine words (any.Mutator m) o ≡ ((acted mutator_machine words m o).0, any.Mutator (acted mutator_machine words m o).1)
same_acted words m None = refl
same_acted words m (Some act) = refl

-- so after its next step
same_step : (words : List ℕ) (m : Mutating) → stepped any_machine words (any.Mutator m) ≡ ((stepped mutator_machine words m).0, any.Mutator (stepped mutator_machine words m).1)
same_step words m = same_acted words m (action m)

-- and those of a helper
helper_acted : (words : List ℕ) (d : DecrementerState) (o : Option Action)
    → acted any_machine words (any.Decrementer d) o ≡ ((acted decrementer_machine words d o).0, any.Decrementer (acted decrementer_machine words d o).1)
helper_acted words d None = refl
helper_acted words d (Some act) = refl

helper_step : (words : List ℕ) (d : DecrementerState) → stepped any_machine words (any.Decrementer d) ≡ ((stepped decrementer_machine words d).0, any.Decrementer (stepped decrementer_machine words d).1)
helper_step words d = helper_acted words d (decrementer_machine.action d)

tracer_acted : (words : List ℕ) (d : TracerState) (o : Option Action) → acted any_machine words (any.Tracer d) o ≡ ((acted tracer_machine words d o).0, any.Tracer (acted tracer_machine words d o).1)
tracer_acted words d None = refl
tracer_acted words d (Some act) = refl

tracer_step : (words : List ℕ) (d : TracerState) → stepped any_machine words (any.Tracer d) ≡ ((stepped tracer_machine words d).0, any.Tracer (stepped tracer_machine words d).1)
tracer_step words d = tracer_acted words d (tracer_machine.action d)

-- the execution once the mutator of a number has made a step
abbrev pub moved : Beginning → Execution → ℕ → Mutating → Execution
moved b execution n m = record {
  core = core_of (stepped mutator_machine execution.core.words m).0 (slice_set execution.core.actors n (any.Mutator (stepped mutator_machine execution.core.words m).1));
  history = history_after b (epoch_state_of b execution []) m (stepped mutator_machine execution.core.words m).1;
  at = places_after b (epoch_state_of b execution []) m;
}

-- the execution once the helper of a number has
abbrev pub helper_moved : Execution → ℕ → DecrementerState → Execution
helper_moved execution n d = record execution {
  core = core_of (stepped decrementer_machine execution.core.words d).0 (slice_set execution.core.actors n (any.Decrementer (stepped decrementer_machine execution.core.words d).1));
}

-- the execution once the tracer of a number has
abbrev pub tracer_moved : Execution → ℕ → TracerState → Execution
tracer_moved execution n d = record execution {
  core = core_of (stepped tracer_machine execution.core.words d).0 (slice_set execution.core.actors n (any.Tracer (stepped tracer_machine execution.core.words d).1));
}

-- the execution by the actor of a number, where there is one
abbrev pub told_with : Beginning → Execution → ℕ → Option AnyActor → Execution
told_with b execution n o = record { core = happened any_machine execution.core (Step n) o; history = (after_step b execution o).0; at = (after_step b execution o).1 }

-- which is what is told of its turn
pub tell_step : (b : Beginning) (execution : Execution) (n : ℕ) (m : Mutating) → slice_get execution.core.actors n ≡ Some (any.Mutator m) → tell b execution (Step n) ≡ moved b execution n m
tell_step b execution n m there =
    ap (told_with b execution n) there
    ∙ ap (λ (p : List ℕ × AnyActor). record (moved b execution n m) { core = core_of p.0 (slice_set execution.core.actors n p.1) }) (same_step execution.core.words m)

pub tell_helper : (b : Beginning) (execution : Execution) (n : ℕ) (d : DecrementerState) → slice_get execution.core.actors n ≡ Some (any.Decrementer d) → tell b execution (Step n) ≡ helper_moved execution n d
tell_helper b execution n d there =
    ap (told_with b execution n) there
    ∙ ap (λ (p : List ℕ × AnyActor). record execution { core = core_of p.0 (slice_set execution.core.actors n p.1) }) (helper_step execution.core.words d)

pub tell_tracer : (b : Beginning) (execution : Execution) (n : ℕ) (d : TracerState) → slice_get execution.core.actors n ≡ Some (any.Tracer d) → tell b execution (Step n) ≡ tracer_moved execution n d
tell_tracer b execution n d there =
    ap (told_with b execution n) there
    ∙ ap (λ (p : List ℕ × AnyActor). record execution { core = core_of p.0 (slice_set execution.core.actors n p.1) }) (tracer_step execution.core.words d)

-- ---- an actor that makes no further step

-- a list is not one longer than itself
longer : (n : ℕ) → nat_eq n (n + 1) ≡ false
longer n = unlike_number n (n + 1) (λ e. omega (arith, e))

-- a store that is through doesn't swap
none_swaps : (m : Mutating) (store : Storing) (p : StorePhase) → action_in m (phase.Storing (record store { phase = p })) ≡ None
    → (if swaps_in store.last p then true else nat_eq (length m.replies.items) (length m.replies.items + 1)) ≡ false
none_swaps m store (store_phase.Ended how) e = longer (length m.replies.items)
none_swaps m store store_phase.Begun e = cc
none_swaps m store store_phase.Unlogged e = cc
none_swaps m store (store_phase.Loaded old) e = cc
none_swaps m store store_phase.Logged e = cc

-- nothing comes to stand in the history, and no object is placed
none_stands : (m : Mutating) (p : MutatorPhase) → action_in m p ≡ None → stands_in p m m ≡ false
none_stands m (phase.Reference base) e = cc
none_stands m (phase.Referent place) e = refl
none_stands m (phase.Storing store) e = none_swaps m store store.phase e
none_stands m p e = longer (length m.replies.items)

-- no object is placed
none_placed : (b : Beginning) (s : EpochState) (m : Mutating) (p : MutatorPhase) → action_in m p ≡ None → places_in p b s m ≡ s.at
none_placed b s m (phase.Heading place) e = cc
none_placed b s m p e = refl

-- the execution stays
pub at_rest : (b : Beginning) (execution : Execution) (n : ℕ) (m : Mutating) → slice_get execution.core.actors n ≡ Some (any.Mutator m) → action m ≡ None → moved b execution n m ≡ execution
at_rest b execution n m there e =
    let still : stepped mutator_machine execution.core.words m ≡ (execution.core.words, m) = ap (acted mutator_machine execution.core.words m) e in
    let history : history_after b (epoch_state_of b execution []) m m ≡ execution.history = ap (λ c. if c then (Call m.thread (op_now m) (step (moment_of b (epoch_state_of b execution [])).state m.thread (op_now m)).1 ∷ execution.history) else execution.history) (none_stands m m.phase e) in
    ap (λ (p : List ℕ × Mutating). record (moved b execution n m) {
      core = core_of p.0 (slice_set execution.core.actors n (any.Mutator p.1));
      history = history_after b (epoch_state_of b execution []) m p.1;
    }) still
    ∙ (ap (λ (actors : List AnyActor). record (moved b execution n m) { core = core_of execution.core.words actors; history = history_after b (epoch_state_of b execution []) m m }) (set_itself execution.core.actors n (any.Mutator m) there)
    ∙ (ap (λ (h : List Item). record (moved b execution n m) { core = execution.core; history = h }) history
    ∙ ap (λ (at : Name → ℕ). record execution { at = at }) (none_placed b (epoch_state_of b execution []) m m.phase e)))

-- so it does at the turn of a helper that is finished
pub helper_at_rest : (execution : Execution) (n : ℕ) (d : DecrementerState) → slice_get execution.core.actors n ≡ Some (any.Decrementer d) → decrementer_machine.action d ≡ None → helper_moved execution n d ≡ execution
helper_at_rest execution n d there e =
    let still : stepped decrementer_machine execution.core.words d ≡ (execution.core.words, d) = ap (acted decrementer_machine execution.core.words d) e in
    ap (λ (p : List ℕ × DecrementerState). record execution { core = core_of p.0 (slice_set execution.core.actors n (any.Decrementer p.1)) }) still
    ∙ ap (λ (actors : List AnyActor). record execution { core = core_of execution.core.words actors }) (set_itself execution.core.actors n (any.Decrementer d) there)

pub tracer_at_rest : (execution : Execution) (n : ℕ) (d : TracerState) → slice_get execution.core.actors n ≡ Some (any.Tracer d) → tracer_machine.action d ≡ None → tracer_moved execution n d ≡ execution
tracer_at_rest execution n d there e =
    let still : stepped tracer_machine execution.core.words d ≡ (execution.core.words, d) = ap (acted tracer_machine execution.core.words d) e in
    ap (λ (p : List ℕ × TracerState). record execution { core = core_of p.0 (slice_set execution.core.actors n (any.Tracer p.1)) }) still
    ∙ ap (λ (actors : List AnyActor). record execution { core = core_of execution.core.words actors }) (set_itself execution.core.actors n (any.Tracer d) there)

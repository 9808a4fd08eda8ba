-- A run begins between two epochs, with the empty history.
use Rattle.std.proofs.Common.{◌≡◌, ℕ, ◌+◌, ◌≤◌, refl, sym, ap, subst, ◌∙◌, arith, List, [], length}
use Rattle.std.specs.Prelude.{Bool, Some, slice_get}
use Rattle.std.proofs.lemmas.List.{length-map}
use Rattle.lxr_layout.specs.declared.limits.Limits.{Limits}
use Rattle.lxr_image.specs.declared.space.Space.{Space}
use Rattle.lxr_image.specs.declared.space.Tally.{Tally}
use Rattle.lxr_image.specs.Image.{opening_at}
use Rattle.lxr_image.specs.Opened.{no_tally}
use Rattle.lxr_model.specs.Belongs.{operations_of}
use Rattle.lxr_model.specs.Moments.{opening_moment}
use Rattle.lxr_invariant.specs.AbstractState.{AbstractState, no_report}
use Rattle.lxr_invariant.specs.Quiescent.{IsQuiescent}
use Rattle.lxr_invariant.specs.Listed.{FreeBlocksAreListed, IsListed}
use Rattle.lxr_mutator.specs.Mutating.{Mutating}
use Rattle.lxr_mutator.specs.Mutators.{IsMutator, first_of}
use Rattle.lxr_mutator.proofs.NamingLemmas.{told_nothing}
use Rattle.lxr_core.specs.declared.actors.AnyActor.{AnyActor}
use Rattle.lxr_core.specs.Actors.{decrementers_in, mutators_in, script_of, tracers_in}
use Rattle.lxr_core.specs.Resting.{HelpersRest, RestsAfter}
use Rattle.lxr_graph.specs.declared.Op.{Op}
use Rattle.lxr_rounds_history.specs.Sights.{SeesTo}
use Rattle.lxr_rounds_history.specs.Tally.{evacuated_in}
use Rattle.lxr_rounds_history.proofs.SightLemmas.{sees_none}
use Rattle.lxr_rounds_history.proofs.TallyLemmas.{has_numbers}
use Rattle.lxr_rounds_invariant.proofs.ActorLemmas.{found}
use Rattle.lxr_rounds_invariant.proofs.EvacuatedLemmas.{none_evacuated}
use Rattle.lxr_rounds_invariant.specs.LoopInvariant.{HaveActors, HaveMutators, IsBetweenEpochs, Task, task_limits, threads_of}

-- a space that was just opened, for so many threads: what it stands for, and what is listed
pub record IsOpenedFor (task : Task) (space : Space) (g : AbstractState) : Type 0 where
  pub moment : g.moment ≡ opening_moment (threads_of task)
  pub at : g.at ≡ opening_at
  pub reported : g.reported ≡ no_report
  pub between : IsQuiescent space g
  pub listed : IsListed space
  pub all_listed : FreeBlocksAreListed space
  pub limits : space.limits ≡ task_limits task
  pub tally : space.tally ≡ no_tally
  pub pauses : space.pauses ≡ 0

-- a mutator as it is made rests for the empty history
pub first_rests : (l : Limits) (every t most : ℕ) (names : Bool) (operations : List Op) → IsMutator (first_of t operations l every most names) → RestsAfter l every [] t (first_of t operations l every most names)
first_rests l every t most names operations is = record {
  mutator = record { sound = is; regions = refl; width = refl; steady = (λ e. absurd (cc), λ e. absurd (cc)) };
  thread = refl;
  every = refl;
  log = refl;
  spans = refl;
  rests = refl;
  calls = refl;
  replies = told_nothing names;
  unnamed = λ e. refl;
  began = refl;
  ended = λ e. absurd (cc);
}

-- each mutator is that of its thread as it is made, with some room, and tells names or not as all do
pub record AreFirst (task : Task) (mutators : List Mutating) : Type 0 where
  pub script : script_of mutators ≡ task.script
  pub each : (i : ℕ) (m : Mutating) → slice_get mutators i ≡ Some m → (most : ℕ) × (m ≡ first_of (i + 1) m.operations (task_limits task) task.plan.every most task.names)
  pub sound : (i : ℕ) (m : Mutating) → slice_get mutators i ≡ Some m → IsMutator m

-- so do all of them
first_mutators : (task : Task) (mutators : List Mutating) → AreFirst task mutators → HaveMutators task [] mutators
first_mutators task mutators are = record {
  rest = record {
    as_many = sym (length-map mutators (λ (m : Mutating). m.operations)) ∙ ap length are.script;
    each = λ i m at.
        let (most, is) = are.each i m at in
        subst (RestsAfter (task_limits task) task.plan.every [] (i + 1)) (sym is)
        (first_rests (task_limits task) task.plan.every (i + 1) most task.names m.operations (subst IsMutator is (are.sound i m at)));
  };
  script = are.script;
  names = λ i m at. ap (λ (x : Mutating). x.names) (are.each i m at).1;
}

-- and behind them stand as many decrementers as the plan asks for, and as many tracers, each as it is made
pub record AreAsMade (task : Task) (actors : List AnyActor) : Type 0 where
  pub mutators : AreFirst task (mutators_in actors)
  pub helpers : HelpersRest (task_limits task) actors
  pub workers : length (decrementers_in actors) ≡ task.plan.workers
  pub tracers : length (tracers_in actors) ≡ task.plan.workers
  pub few : task.plan.workers ≤ 8

first_have : (task : Task) (actors : List AnyActor) → AreAsMade task actors → HaveActors task [] actors
first_have task actors are = record { mutators = first_mutators task (mutators_in actors) are.mutators; helpers = are.helpers; workers = are.workers; tracers = are.tracers; few = are.few }

-- the run is between epochs, with the empty history
pub between_opened : (task : Task) (space : Space) (g : AbstractState) (actors : List AnyActor) → 1 ≤ threads_of task → IsOpenedFor task space g → AreAsMade task actors
    → IsBetweenEpochs task space task.seen actors [] g
between_opened task space g actors some opened are = record {
  come = record {
    history = (tt, record { calls = λ t low high. (operations_of task.script t, refl); asked = tt; turns = tt; causes = tt; early = tt });
    stands = record { moment = opened.moment; reported = opened.reported };
    safepoint = opened.between.safepoint;
    limits = opened.limits;
    tally = has_numbers (threads_of task) [] space.tally 0 0 opened.tally;
    evacuated = none_evacuated space (ap (λ (t : Tally). t.moved) opened.tally) (ap (λ (t : Tally). t.kept) opened.tally);
    places = opening_at;
    sights = subst (SeesTo (threads_of task) [] task.seen task.seen opening_at) (sym (ap evacuated_in opened.tally)) (sees_none (threads_of task) task.seen);
    kept = λ n member. ap (λ f. f n) opened.at;
  };
  between = opened.between;
  listed = opened.listed;
  all_listed = opened.all_listed;
  actors_rest = first_have task actors are;
  served = record {
    unwaiting = λ i a at waits. let e = sym (ap (λ (m : Mutating). m.end) (are.mutators.each i a at).1) ∙ waits.0 in cc;
    few = λ t. omega arith;
    unasked = λ t. refl;
  };
  owes_none = tt;
  few = let none = opened.pauses in omega arith;
  more =
      let many : length (mutators_in actors) ≡ threads_of task = sym (length-map (mutators_in actors) (λ (m : Mutating). m.operations)) ∙ ap length are.mutators.script in
      let (a, at) = found (mutators_in actors) 0 (omega arith) in
      (0, a, at, λ through. let e = sym (ap (λ (m : Mutating). m.end) (are.mutators.each 0 a at).1) ∙ through.1 in cc);
}

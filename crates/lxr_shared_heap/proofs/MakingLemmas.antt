-- The actors of a new heap are those of a run of live mutators that is between two epochs, with the empty history.
use Rattle.std.proofs.Common.{◌≡◌, ℕ, suc, ◌+◌, ◌≤◌, refl, sym, ap, subst, ◌∙◌, ⊎_elim, arith, List, [], ◌∷◌, ◌++◌, map, length}
use Rattle.std.specs.Prelude.{Bool, None, Some, replicate, slice_get}
use Rattle.std.proofs.lemmas.List.{length-map, length-replicate, map-append}
use Rattle.lxr_layout.specs.declared.limits.Limits.{Limits}
use Rattle.lxr_layout.specs.Spaces.{AreLimits}
use Rattle.lxr_graph.specs.declared.Op.{Op}
use Rattle.lxr_image.specs.declared.space.Space.{Space}
use Rattle.lxr_image.specs.Opened.{IsOpened}
use Rattle.lxr_model.specs.Moments.{opening_moment}
use Rattle.lxr_invariant.specs.Listed.{IsListedWhole}
use Rattle.lxr_invariant.specs.Quiescent.{IsQuiescent}
use Rattle.lxr_mutator.specs.Dialogues.{most_operations}
use Rattle.lxr_mutator.specs.Mutating.{Mutating}
use Rattle.lxr_mutator.specs.Mutators.{IsMutator, first_live, first_of}
use Rattle.lxr_decrement.specs.Decrementers.{first as first_decrementer}
use Rattle.lxr_trace.specs.Tracers.{first as first_tracer}
use Rattle.lxr_core.specs.declared.actors.AnyActor.{AnyActor}
use Rattle.lxr_core.specs.declared.actors.AnyActor.TheVariants as any
use Rattle.lxr_core.specs.Actors.{in_order, mutators_in, script_of}
use Rattle.lxr_core.specs.Resting.{HelpersRest}
use Rattle.lxr_core.proofs.OrderLemmas.{mutators_of_both, mutators_of_order}
use Rattle.lxr_placing.specs.Opening.{opening_abstract_state}
use Rattle.lxr_rounds_invariant.specs.LoopInvariant.{IsBetweenEpochs, task_limits, threads_of}
use Rattle.lxr_rounds_invariant.proofs.OpeningLemmas.{AreFirst, between_opened}
use Rattle.lxr_rounds.specs.Helpers.{HelpersStandBehind}
use Rattle.lxr_rounds.proofs.HelperLemmas.{behind_in_order, helpers_made, pushed_at, same_more}
use Rattle.lxr_shared_heap.specs.declared.settings.Settings.{Settings}
use Rattle.lxr_stations.specs.Living.{AreLive, IsLive}
use Rattle.lxr_shared_heap.specs.Making.{AreNew}
use Rattle.lxr_shared_heap.specs.Telling.{EndByNewest, EndsByNewest}
use Rattle.lxr_shared_heap.specs.Settings.{AreSettings, limits_in, run_of}

-- ---- the mutators

-- none is made at first
pub none_new : (l : Limits) (every : ℕ) (names : Bool) (actors : List AnyActor) → actors ≡ [] → AreNew l every names 0 actors
none_new l every names actors nothing = subst (AreNew l every names 0) (sym nothing) (record { alone = refl; script = refl; each = λ i m at. absurd (cc); sound = λ i m at. absurd (cc) })

-- there are so many
new_many : (l : Limits) (every : ℕ) (names : Bool) (n : ℕ) (actors : List AnyActor) → AreNew l every names n actors → length (mutators_in actors) ≡ n
new_many l every names n actors new = sym (length-map (mutators_in actors) (λ (m : Mutating). m.operations)) ∙ ap length new.script ∙ length-replicate n []

-- the mutators of so many threads, and that of the next
pub new_pushed : (l : Limits) (every : ℕ) (names : Bool) (n : ℕ) (actors actors' : List AnyActor) (m : Mutating) → AreNew l every names n actors → m ≡ first_live (n + 1) l every names → IsMutator m → actors' ≡ actors ++ any.Mutator m ∷ []
    → AreNew l every names (n + 1) actors'
new_pushed l every names n actors actors' m new is sound pushed =
    let ms = mutators_in actors in
    let more : mutators_in actors' ≡ ms ++ m ∷ [] = ap mutators_in pushed ∙ mutators_of_both actors (any.Mutator m ∷ []) in
    let unasked : m.operations ≡ [] = ap (λ (x : Mutating). x.operations) is in
    let next : suc n ≡ n + 1 = omega arith in
    let many = new_many l every names n actors new in
    record {
      alone = pushed ∙ ap (λ (xs : List AnyActor). xs ++ any.Mutator m ∷ []) new.alone ∙ sym (map-append any.Mutator ms (m ∷ [])) ∙ ap (map any.Mutator) (sym more);
      script =
          ap script_of more
          ∙ map-append (λ (x : Mutating). x.operations) ms (m ∷ [])
          ∙ ap (λ (s : List (List Op)). s ++ m.operations ∷ []) new.script
          ∙ ap (λ (o : List Op). replicate n [] ++ o ∷ []) unasked
          ∙ same_more n []
          ∙ ap (λ k. replicate k []) next;
      each = λ i x at.
          ⊎_elim
          (λ (before : slice_get ms i ≡ Some x). new.each i x before)
          (λ (last : (i ≡ length ms) × (m ≡ x)).
          let this : n + 1 ≡ i + 1 = omega arith in
          subst (λ (y : Mutating). y ≡ first_live (i + 1) l every names) last.1 (is ∙ ap (λ k. first_live k l every names) this))
          (pushed_at ms m x i (subst (λ xs. slice_get xs i ≡ Some x) more at));
      sound = λ i x at.
          ⊎_elim
          (λ (before : slice_get ms i ≡ Some x). new.sound i x before)
          (λ (last : (i ≡ length ms) × (m ≡ x)). subst IsMutator last.1 sound)
          (pushed_at ms m x i (subst (λ xs. slice_get xs i ≡ Some x) more at));
    }

-- ---- the heap

-- the limits of its space
pub settings_fit : (settings : Settings) → AreSettings settings → AreLimits (limits_in settings)
settings_fit settings ranges = record { blocks = ranges.blocks; threads = ranges.mutators; log = ranges.log; remember = ranges.remember; registers = ranges.registers; evacuate = ranges.evacuate }

-- it is between two epochs
pub new_between : (settings : Settings) (space : Space) (mutators actors : List AnyActor) → AreSettings settings → AreNew (limits_in settings) settings.every settings.names settings.mutators mutators
    → HelpersStandBehind (limits_in settings) settings.helpers mutators actors → IsOpened space (limits_in settings) → IsQuiescent space (opening_abstract_state settings.mutators) → IsListedWhole space
    → IsBetweenEpochs (run_of settings (replicate settings.mutators [])) space None actors [] (opening_abstract_state settings.mutators)
new_between settings space mutators actors ranges new stand opened between listed =
    let task = run_of settings (replicate settings.mutators []) in
    let l = limits_in settings in
    let w = settings.helpers in
    let ms = mutators_in mutators in
    let ordered = behind_in_order l w ms mutators actors new.alone stand in
    let same : mutators_in actors ≡ ms = ap mutators_in ordered ∙ mutators_of_order ms (replicate w (first_decrementer l)) (replicate w (first_tracer l)) in
    let threads : settings.mutators ≡ threads_of task = sym (length-replicate settings.mutators []) in
    let of_task : l ≡ task_limits task = ap (λ n. record l { threads = n }) threads in
    let helpers = helpers_made l w w actors (settings_fit settings ranges) (ordered ∙ ap (λ (xs : List Mutating). in_order xs (replicate w (first_decrementer l)) (replicate w (first_tracer l))) (sym same)) in
    let some : 1 ≤ threads_of task = subst (λ n. 1 ≤ n) threads ranges.mutators.0 in
    between_opened task space (opening_abstract_state settings.mutators) actors some
    (record {
      moment = ap opening_moment threads;
      at = refl;
      reported = refl;
      between = between;
      listed = listed.listed;
      all_listed = listed.whole;
      limits = opened.limits ∙ of_task;
      tally = opened.tally;
      pauses = opened.pauses;
    })
    (record {
      mutators = subst (λ xs. AreFirst task xs) (sym same)
          (record {
            script = new.script;
            each = λ i m at.
                let is = new.each i m at ∙ ap (λ (k : Limits). first_live (i + 1) k settings.every settings.names) of_task in
                (most_operations (i + 1) + 1, is ∙ ap (λ (o : List Op). first_of (i + 1) o (task_limits task) settings.every (most_operations (i + 1) + 1) settings.names) (sym (ap (λ (x : Mutating). x.operations) is)));
            sound = new.sound;
          });
      helpers = subst (λ k. HelpersRest k actors) of_task helpers.rest;
      workers = helpers.decrementers;
      tracers = helpers.tracers;
      few = ranges.helpers.1;
    })

-- and its mutators are live
pub new_live : (l : Limits) (every : ℕ) (names : Bool) (n w : ℕ) (mutators actors : List AnyActor) → AreNew l every names n mutators → HelpersStandBehind l w mutators actors → AreLive (mutators_in actors)
new_live l every names n w mutators actors new stand =
    let ms = mutators_in mutators in
    let same : mutators_in actors ≡ ms = ap mutators_in (behind_in_order l w ms mutators actors new.alone stand) ∙ mutators_of_order ms (replicate w (first_decrementer l)) (replicate w (first_tracer l)) in
    subst AreLive (sym same) (λ i m at. subst IsLive (sym (new.each i m at)) (omega arith, omega arith))

-- nor have they ended a unit
pub new_newest : (l : Limits) (every : ℕ) (names : Bool) (n w : ℕ) (mutators actors : List AnyActor) → AreNew l every names n mutators → HelpersStandBehind l w mutators actors → EndByNewest [] (mutators_in actors)
new_newest l every names n w mutators actors new stand =
    let ms = mutators_in mutators in
    let same : mutators_in actors ≡ ms = ap mutators_in (behind_in_order l w ms mutators actors new.alone stand) ∙ mutators_of_order ms (replicate w (first_decrementer l)) (replicate w (first_tracer l)) in
    subst (EndByNewest []) (sym same) (λ i m at. subst (EndsByNewest (i + 1) []) (sym (new.each i m at)) (λ r is. absurd (cc)))

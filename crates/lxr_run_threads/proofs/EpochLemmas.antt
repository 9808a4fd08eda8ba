-- An epoch whose passes came back in order, each done: it has run.
use Rattle.std.proofs.Common.{◌≡◌, ℕ, zero, suc, ◌+◌, true, false, List, [], ◌∷◌, length, map, arith, refl, sym, subst, ap, ◌∙◌, All, get_or, is_some}
use Rattle.std.specs.Prelude.{Option, Some, ◌||◌, slice_get}
use Rattle.std.proofs.lemmas.Option.{slice_get-get_or}
use Rattle.atomic_table.specs.Seated.{TableId}
use Rattle.lxr_actor.specs.declared.Core.{Core}
use Rattle.lxr_actor.specs.Run.{core_of, run}
use Rattle.lxr_barrier.proofs.ViewLemmas.{all_at}
use Rattle.lxr_image.specs.declared.space.Space.{Space}
use Rattle.lxr_decrement.specs.declared.phases.DecEnd.TheVariants as dec_end
use Rattle.lxr_trace.specs.declared.phases.TraceEnd.TheVariants as trace_end
use Rattle.lxr_decrement.specs.Decrementing.{DecrementerState}
use Rattle.lxr_trace.specs.Tracing.{TracerState}
use Rattle.lxr_core.specs.declared.actors.AnyActor.{AnyActor}
use Rattle.lxr_core.specs.declared.actors.AnyActor.TheVariants as any
use Rattle.lxr_core.specs.Actors.{any_machine, decrementers_in, mutators_in, tracers_in}
use Rattle.lxr_core.specs.Closing.{AreResting}
use Rattle.lxr_shared_passes.specs.Passing.{Passing, IsEnd, dealt}
use Rattle.lxr_shared.specs.Sharing.{Sharing}
use Rattle.lxr_shared.proofs.Openings.{dealt_length}
use Rattle.lxr_run_replay.specs.Replaying.{CanBeReplayed, some_act}
use Rattle.lxr_run_replay.proofs.PickLemmas.{all_finished}
use Rattle.lxr_run_threads.specs.declared.dealing.Dealing.{Dealing}
use Rattle.lxr_run_threads.specs.declared.dealing.Hand.{Hand}
use Rattle.lxr_run_threads.specs.Dealing.{AreDealt, OfEach, numbers_from, numbers_of}
use Rattle.lxr_run_threads.specs.Working.{HasHelped, HasServed, IsDoneOf, IsPassOf, table_of}
use Rattle.lxr_run_threads.proofs.DealingLemmas.{still_dealt}
use Rattle.lxr_run_threads.specs.Running.{HasRun}

-- ---- passes that are opened

-- passes are numbered in order
dealt_numbers : (id : TableId) (core : Core AnyActor) (first : ℕ) (actors : List AnyActor) → numbers_of (dealt id core first actors) ≡ numbers_from first (length actors)
dealt_numbers id core first [] = refl
dealt_numbers id core first (a ∷ actors) =
    let e : suc first ≡ first + 1 = omega arith in
    ap (λ ns. first ∷ ns) (dealt_numbers id core (suc first) actors ∙ ap (λ n. numbers_from n (length actors)) e)

-- all are of the epoch, and their actors rest
pub dealt_of : (epoch : Sharing) (first : ℕ) (actors : List AnyActor) → AreResting actors → All (IsPassOf (table_of epoch)) (dealt epoch.id epoch.opening first actors)
dealt_of epoch first [] rests k d within = absurd (omega arith)
dealt_of epoch first (a ∷ actors) rests zero d within = record { epoch_is = refl; opening_is = refl; rests = rests 0 a refl }
dealt_of epoch first (a ∷ actors) rests (suc k) d within = dealt_of epoch (suc first) actors (λ i b at. rests (suc i) b at) k d (omega arith)

-- What opening gives.
pub record IsOpened (space : Space) (actors : List AnyActor) (epoch : Sharing) (passes : List (Passing AnyActor)) : Type 0 where
  pub opening : epoch.opening ≡ core_of space.words actors
  pub passes_are : passes ≡ dealt epoch.id (core_of space.words actors) 0 actors

pub opened_many : (space : Space) (actors : List AnyActor) (epoch : Sharing) (passes : List (Passing AnyActor)) → IsOpened space actors epoch passes → length passes ≡ length actors
opened_many space actors epoch passes opened = ap length opened.passes_are ∙ dealt_length epoch.id (core_of space.words actors) 0 actors

pub opened_numbers : (space : Space) (actors : List AnyActor) (epoch : Sharing) (passes : List (Passing AnyActor)) (count : ℕ) → IsOpened space actors epoch passes → count ≡ length passes → numbers_of passes ≡ numbers_from 0 count
opened_numbers space actors epoch passes count opened is =
    ap numbers_of opened.passes_are
    ∙ (dealt_numbers epoch.id (core_of space.words actors) 0 actors ∙ ap (numbers_from 0) (sym (is ∙ opened_many space actors epoch passes opened)))

pub opened_of : (space : Space) (actors : List AnyActor) (epoch : Sharing) (passes : List (Passing AnyActor)) → IsOpened space actors epoch passes → AreResting actors → All (IsPassOf (table_of epoch)) passes
opened_of space actors epoch passes opened resting =
    subst (All (IsPassOf (table_of epoch))) (ap (λ (o : Core AnyActor). dealt epoch.id o 0 actors) opened.opening ∙ sym opened.passes_are) (dealt_of epoch 0 actors resting)

-- passes in order have the numbers of those that were dealt
pub closed_numbers : (space : Space) (actors : List AnyActor) (epoch : Sharing) (passes gathered : List (Passing AnyActor)) (count : ℕ) → IsOpened space actors epoch passes → count ≡ length passes
    → numbers_of gathered ≡ numbers_from 0 count → numbers_of gathered ≡ numbers_of (dealt epoch.id epoch.opening 0 epoch.opening.actors)
closed_numbers space actors epoch passes gathered count opened is order =
    let many : count ≡ length epoch.opening.actors = is ∙ (opened_many space actors epoch passes opened ∙ sym (ap (λ (o : Core AnyActor). length o.actors) opened.opening)) in
    order ∙ (ap (numbers_from 0) many ∙ sym (dealt_numbers epoch.id epoch.opening 0 epoch.opening.actors))

-- ---- hands

-- what holds of each pass of each worker, in two ways to say it
pub each_all : (P : Passing AnyActor → Type 0) (hands : List Hand) → OfEach P hands → All (λ (h : Hand). All P h.passes.items) hands
each_all P hands each k d within = each k (get_or hands k d) (slice_get-get_or hands k d within)

pub all_each : (P : Passing AnyActor → Type 0) (hands : List Hand) → All (λ (h : Hand). All P h.passes.items) hands → OfEach P hands
all_each P hands all worker hand at = all_at (λ (h : Hand). All P h.passes.items) hands worker hand at all

-- what was dealt, lent to workers that left the numbers, and given back, is to be gathered
pub given_back : (d : Dealing) (count count' : ℕ) (hands lent worked back : List Hand) → AreDealt d (numbers_from 0 count) hands → lent ≡ hands
    → map (λ (h : Hand). numbers_of h.passes.items) worked ≡ map (λ (h : Hand). numbers_of h.passes.items) lent → back ≡ worked → count' ≡ count → AreDealt d (numbers_from 0 count') back
given_back d count count' hands lent worked back dealt lent_is numbers back_is count_is =
    subst (λ n. AreDealt d (numbers_from 0 n) back) (sym count_is)
    (subst (AreDealt d (numbers_from 0 count)) (sym back_is)
    (still_dealt d (numbers_from 0 count) lent worked (subst (AreDealt d (numbers_from 0 count)) (sym lent_is) dealt) numbers))

-- ---- actors that have served

-- how many there are
pub as_many_actors : (actors : List AnyActor) → length actors ≡ length (mutators_in actors) + (length (decrementers_in actors) + length (tracers_in actors))
as_many_actors [] = refl
as_many_actors (any.Mutator m ∷ actors) = omega (arith, as_many_actors actors)
as_many_actors (any.Decrementer d ∷ actors) = omega (arith, as_many_actors actors)
as_many_actors (any.Tracer d ∷ actors) = omega (arith, as_many_actors actors)

-- each of these has
abbrev HaveServed : List AnyActor → Type 0
HaveServed actors = (i : ℕ) (a : AnyActor) → slice_get actors i ≡ Some a → HasServed a

-- no mutator has a next action
none_act : (actors : List AnyActor) → HaveServed actors → some_act (mutators_in actors) ≡ false
none_act [] served = refl
none_act (any.Mutator m ∷ actors) served =
    ap (λ (o : Option _). is_some o || some_act (mutators_in actors)) (served 0 (any.Mutator m) refl) ∙ none_act actors (λ i a at. served (suc i) a at)
none_act (any.Decrementer d ∷ actors) served = none_act actors (λ i a at. served (suc i) a at)
none_act (any.Tracer d ∷ actors) served = none_act actors (λ i a at. served (suc i) a at)

-- each helper has made a unit, and worked on what it was offered
decrementers_helped : (actors : List AnyActor) → HaveServed actors → (i : ℕ) (d : DecrementerState) → slice_get (decrementers_in actors) i ≡ Some d → HasHelped dec_end.Nothing d.end d.pocket.items
decrementers_helped [] served i d at = absurd (cc)
decrementers_helped (any.Mutator m ∷ actors) served i d at = decrementers_helped actors (λ j a there. served (suc j) a there) i d at
decrementers_helped (any.Tracer e ∷ actors) served i d at = decrementers_helped actors (λ j a there. served (suc j) a there) i d at
decrementers_helped (any.Decrementer e ∷ actors) served zero d at =
    let same : e ≡ d = cc in
    subst (λ (x : DecrementerState). HasHelped dec_end.Nothing x.end x.pocket.items) same (served 0 (any.Decrementer e) refl)
decrementers_helped (any.Decrementer e ∷ actors) served (suc i) d at = decrementers_helped actors (λ j a there. served (suc j) a there) i d at

tracers_helped : (actors : List AnyActor) → HaveServed actors → (i : ℕ) (d : TracerState) → slice_get (tracers_in actors) i ≡ Some d → HasHelped trace_end.Nothing d.end d.pocket.items
tracers_helped [] served i d at = absurd (cc)
tracers_helped (any.Mutator m ∷ actors) served i d at = tracers_helped actors (λ j a there. served (suc j) a there) i d at
tracers_helped (any.Decrementer e ∷ actors) served i d at = tracers_helped actors (λ j a there. served (suc j) a there) i d at
tracers_helped (any.Tracer e ∷ actors) served zero d at =
    let same : e ≡ d = cc in
    subst (λ (x : TracerState). HasHelped trace_end.Nothing x.end x.pocket.items) same (served 0 (any.Tracer e) refl)
tracers_helped (any.Tracer e ∷ actors) served (suc i) d at = tracers_helped actors (λ j a there. served (suc j) a there) i d at

-- an actor of passes is that of one of them
pub actor_at : (passes : List (Passing AnyActor)) (i : ℕ) (a : AnyActor) → slice_get (map (λ (p : Passing AnyActor). p.actor) passes) i ≡ Some a → (p : Passing AnyActor) × (slice_get passes i ≡ Some p) × (p.actor ≡ a)
actor_at [] i a at = absurd (cc)
actor_at (p ∷ passes) zero a at = (p, refl, cc)
actor_at (p ∷ passes) (suc i) a at = actor_at passes i a at

-- ---- the whole

-- What closing leaves, of passes that are done.
pub record HasClosed (epoch : Sharing) (after : Space) (actors' : List AnyActor) (passes : List (Passing AnyActor)) : Type 0 where
  pub done : All (IsDoneOf (table_of epoch)) passes
  pub whose : actors' ≡ map (λ (p : Passing AnyActor). p.actor) passes
  pub run : IsEnd any_machine epoch.opening after.words actors' passes
  pub rest : after ≡ record epoch.space { words = after.words }

pub has_run : (space after : Space) (actors actors' : List AnyActor) (epoch : Sharing) (passes : List (Passing AnyActor)) → CanBeReplayed (core_of space.words actors) → epoch.opening ≡ core_of space.words actors → epoch.space ≡ space
    → HasClosed epoch after actors' passes → HasRun space after actors actors'
has_run space after actors actors' epoch passes can opening space_is closed =
    let (schedule, words_are, actors_are, seen) = closed.run in
    let of_run : core_of after.words actors' ≡ run any_machine epoch.opening schedule = λ i. core_of (words_are i) (actors_are i) in
    let ran : core_of after.words actors' ≡ run any_machine (core_of space.words actors) schedule = of_run ∙ ap (λ (c : Core AnyActor). run any_machine c schedule) opening in
    let served : HaveServed actors' = λ i a at.
    let (p, there, is) = actor_at passes i a (ap (λ (all : List AnyActor). slice_get all i) (sym closed.whose) ∙ at) in
    subst HasServed is (all_at (IsDoneOf (table_of epoch)) passes i p there closed.done).1 in
    record {
      schedule = schedule;
      run = ran;
      finished = all_finished (mutators_in actors') (none_act actors' served)
          (λ i m at. can.mutators schedule i m (subst (λ (c : Core AnyActor). slice_get (mutators_in c.actors) i ≡ Some m) ran at));
      resting = λ i a at.
          let (p, there, is) = actor_at passes i a (ap (λ (all : List AnyActor). slice_get all i) (sym closed.whose) ∙ at) in
          subst (λ (b : AnyActor). any_machine.rests b ≡ true) is (all_at (IsDoneOf (table_of epoch)) passes i p there closed.done).0.rests;
      ends = record { decrementers = λ i d at. (decrementers_helped actors' served i d at).some; tracers = λ i d at. (tracers_helped actors' served i d at).some };
      offers = record { decrementers = λ i d at. (decrementers_helped actors' served i d at).worked; tracers = λ i d at. (tracers_helped actors' served i d at).worked };
      rest = closed.rest ∙ ap (λ (s : Space). record s { words = after.words }) space_is;
    }

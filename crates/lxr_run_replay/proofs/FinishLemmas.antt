-- How units are finished, step by step: mutators that are through rest, so that a helper makes each of these steps.
use Rattle.std.proofs.Common.{◌≡◌, ℕ, ◌+◌, ◌<◌, ◌≤◌, true, false, List, [], ◌∷◌, ◌++◌, map, length, arith, refl, sym, subst, ap, ◌∙◌, ⊎_elim}
use mathlib.Core.List.{map-append}
use Rattle.std.specs.Prelude.{Option, Some, None, if◌then◌else◌, slice_get, slice_set}
use Rattle.std.proofs.Math.ListN.{length-set}
use Rattle.std.proofs.lemmas.Bool.{cases_lt}
use Rattle.std.proofs.lemmas.Option.{slice_get_within}
use Rattle.lxr_actor.specs.declared.Core.{Core}
use Rattle.lxr_actor.specs.declared.Event.TheVariants.{Step}
use Rattle.lxr_actor.specs.Machine.{to_go}
use Rattle.lxr_actor.specs.Run.{core_of, event, run, stepped}
use Rattle.lxr_actor.proofs.Runs.{event-is, run-append, slice_get-set_other, slice_get-set_same}
use Rattle.lxr_mutator.specs.Mutating.{rests_in}
use Rattle.lxr_core.specs.declared.actors.AnyActor.{AnyActor}
use Rattle.lxr_core.specs.declared.actors.AnyActor.TheVariants as any
use Rattle.lxr_core.specs.Actors.{AreInOrder, any_machine, mutators_in}
use Rattle.lxr_core.specs.Closing.{AreFinished, AreResting}
use Rattle.lxr_core.proofs.OrderLemmas.{mutator_at}
use Rattle.lxr_run_replay.specs.Replaying.{CanBeReplayed, IsFirstBusy}
use Rattle.lxr_run_replay.specs.Finishing.{IsFinishing, RestBefore, StepsOfFirst}
use Rattle.lxr_run_replay.proofs.PickLemmas.{helper_leaves, tracer_leaves}
use Rattle.lxr_run_replay.proofs.ReplayLemmas.{can_go_on}

-- ---- a step

-- one more step of the first that doesn't rest
firsts_more : (core : Core AnyActor) (numbers : List ℕ) (number : ℕ) → StepsOfFirst core numbers → IsFirstBusy (run any_machine core (map Step numbers)).actors number → StepsOfFirst core (numbers ++ number ∷ [])
firsts_more core [] number firsts busy = (busy, tt)
firsts_more core (k ∷ ks) number firsts busy = (firsts.0, firsts_more (event any_machine core (Step k)) ks number firsts.1 busy)

-- it begins with none
pub begins_finishing : (core : Core AnyActor) → IsFinishing core core
begins_finishing core = record { schedule = []; firsts = tt; core_is = refl; mutators = refl; as_many = refl }

-- it goes on behind another
pub firsts_append : (core : Core AnyActor) (xs ys : List ℕ) → StepsOfFirst core xs → StepsOfFirst (run any_machine core (map Step xs)) ys → StepsOfFirst core (xs ++ ys)
firsts_append core [] ys before after = after
firsts_append core (x ∷ xs) ys before after = (before.0, firsts_append (event any_machine core (Step x)) xs ys before.1 after)

pub finishing_both : (core amid core' : Core AnyActor) → IsFinishing core amid → IsFinishing amid core' → IsFinishing core core'
finishing_both core amid core' first second = record {
  schedule = first.schedule ++ second.schedule;
  firsts = firsts_append core first.schedule second.schedule first.firsts (subst (λ (d : Core AnyActor). StepsOfFirst d second.schedule) first.core_is second.firsts);
  core_is = second.core_is
      ∙ (ap (λ (d : Core AnyActor). run any_machine d (map Step second.schedule)) first.core_is
      ∙ (sym (run-append any_machine core (map Step first.schedule) (map Step second.schedule))
      ∙ ap (run any_machine core) (sym (map-append Step first.schedule second.schedule))));
  mutators = second.mutators ∙ first.mutators;
  as_many = second.as_many ∙ first.as_many;
}

-- an actor that doesn't rest where all mutators are through is a helper, whose step leaves them
pub busy_leaves : (core : Core AnyActor) (number : ℕ) (a : AnyActor) → AreInOrder core.actors → AreFinished (mutators_in core.actors) → slice_get core.actors number ≡ Some a → any_machine.rests a ≡ false
    → mutators_in (event any_machine core (Step number)).actors ≡ mutators_in core.actors
busy_leaves core number (any.Mutator m) order finished at busy =
    let rests : rests_in m.phase ≡ true = ap rests_in (finished number m (mutator_at core.actors number m order at)) in
    absurd (cc)
busy_leaves core number (any.Decrementer d) order finished at busy = helper_leaves core number d at
busy_leaves core number (any.Tracer d) order finished at busy = tracer_leaves core number d at

-- what can be replayed still can once units are finished
pub can_finish : (core core' : Core AnyActor) → CanBeReplayed core → IsFinishing core core' → CanBeReplayed core'
can_finish core core' can finishing = subst CanBeReplayed (sym finishing.core_is) (can_go_on core (map Step finishing.schedule) can)

-- what holds where a step of the actor of a number was made, which is the first that doesn't rest
pub record HasStepped (words : List ℕ) (actors : List AnyActor) (number : ℕ) (a : AnyActor) (words' : List ℕ) (a' : AnyActor) : Type 0 where
  pub order : AreInOrder actors
  pub finished : AreFinished (mutators_in actors)
  pub at : slice_get actors number ≡ Some a
  pub busy : any_machine.rests a ≡ false
  pub before : RestBefore number actors
  pub done : (words', a') ≡ stepped any_machine words a

-- where a loop has come to it
pub steps_on : (core : Core AnyActor) (words : List ℕ) (actors : List AnyActor) (number : ℕ) (a : AnyActor) (words' : List ℕ) (a' : AnyActor) → CanBeReplayed core → AreFinished (mutators_in core.actors)
    → IsFinishing core (core_of words actors) → slice_get actors number ≡ Some a → any_machine.rests a ≡ false → RestBefore number actors → (words', a') ≡ stepped any_machine words a
    → HasStepped words actors number a words' a'
steps_on core words actors number a words' a' can finished finishing at busy before done = record {
  order = (can_finish core (core_of words actors) can finishing).order [];
  finished = subst AreFinished (sym finishing.mutators) finished;
  at = at;
  busy = busy;
  before = before;
  done = done;
}

-- then finishing has gone on by it
pub stepped_once : (words : List ℕ) (actors : List AnyActor) (number : ℕ) (a : AnyActor) (words' : List ℕ) (a' : AnyActor) → HasStepped words actors number a words' a'
    → IsFinishing (core_of words actors) (core_of words' (slice_set actors number a'))
stepped_once words actors number a words' a' has =
    let to : core_of words' (slice_set actors number a') ≡ event any_machine (core_of words actors) (Step number) =
    ap (λ (z : List ℕ × AnyActor). core_of z.0 (slice_set actors number z.1)) has.done ∙ sym (event-is any_machine (core_of words actors) (Step number) a has.at) in
    record {
      schedule = number ∷ [];
      firsts = (record { actor = a; at = has.at; busy = has.busy; before = has.before }, tt);
      core_is = to;
      mutators = ap (λ (d : Core AnyActor). mutators_in d.actors) to ∙ busy_leaves (core_of words actors) number a has.order has.finished has.at has.busy;
      as_many = length-set actors number a';
    }

-- those before it rest still
pub still_rest : (actors : List AnyActor) (number : ℕ) (a' : AnyActor) → RestBefore number actors → RestBefore number (slice_set actors number a')
still_rest actors number a' before i a at below = before i a (sym (slice_get-set_other actors number i a' (λ e. absurd (omega arith))) ∙ at) below

-- and once it rests too, one more does
pub one_more_rests : (actors : List AnyActor) (number : ℕ) (a : AnyActor) → slice_get actors number ≡ Some a → any_machine.rests a ≡ true → RestBefore number actors → RestBefore (number + 1) actors
one_more_rests actors number a at rests before i b here below =
    ⊎_elim
    (λ (earlier : i < number). before i b here earlier)
    (λ (late : number ≤ i).
    let same : i ≡ number = omega arith in
    let both : Some b ≡ Some a = sym here ∙ (ap (slice_get actors) same ∙ at) in
    let is : a ≡ b = cc in
    subst (λ (x : AnyActor). any_machine.rests x ≡ true) is rests)
    (cases_lt i number)

-- where all before the end rest, all rest
pub all_rest : (actors : List AnyActor) (number : ℕ) → number ≡ length actors → RestBefore number actors → AreResting actors
all_rest actors number all before i a at = before i a at (let within = slice_get_within actors i a at in omega arith)

-- what is known of an actor is known of what stands where it does
pub same_actor : (actors : List AnyActor) (number : ℕ) (a b : AnyActor) → slice_get actors number ≡ Some a → slice_get actors number ≡ Some b → a ≡ b
same_actor actors number a b at at' = let both : Some a ≡ Some b = sym at ∙ at' in cc

-- ---- how much is left of a unit

abbrev pub left_to_go : Option AnyActor → ℕ
left_to_go None = 0
left_to_go (Some a) = to_go any_machine a

pub goes_nearer : (actors : List AnyActor) (number : ℕ) (a a' : AnyActor) → slice_get actors number ≡ Some a → any_machine.rests a ≡ false → to_go any_machine a' < any_machine.left a
    → left_to_go (slice_get (slice_set actors number a') number) < left_to_go (slice_get actors number)
goes_nearer actors number a a' at busy nearer =
    let was : left_to_go (slice_get actors number) ≡ any_machine.left a = ap left_to_go at ∙ ap (λ b. if b then 0 else any_machine.left a) busy in
    let now : left_to_go (slice_get (slice_set actors number a') number) ≡ to_go any_machine a' = ap left_to_go (slice_get-set_same actors number a' (slice_get_within actors number a at)) in
    omega arith

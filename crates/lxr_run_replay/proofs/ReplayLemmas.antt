-- The draws of a replay, one by one, and then its whole.
use Rattle.std.proofs.Common.{◌≡◌, ℕ, Bool, true, false, List, [], ◌∷◌, ◌++◌, map, refl, sym, subst, ap, ◌∙◌}
use mathlib.Core.List.{map-append}
use Rattle.std.specs.Prelude.{Some, slice_get}
use Rattle.lxr_base.specs.Draws.{step}
use Rattle.lxr_actor.specs.declared.Core.{Core}
use Rattle.lxr_actor.specs.declared.Event.{Event}
use Rattle.lxr_actor.specs.declared.Event.TheVariants.{Step}
use Rattle.lxr_actor.specs.Run.{AlwaysFits, FitsAt, event, run}
use Rattle.lxr_actor.proofs.Runs.{fits-at, run-append, run-snoc}
use Rattle.lxr_core.specs.declared.actors.AnyActor.{AnyActor}
use Rattle.lxr_core.specs.Actors.{AreInOrder, any_machine, mutators_in}
use Rattle.lxr_core.specs.Closing.{AreResting}
use Rattle.lxr_run_replay.specs.Replaying.{CanBeReplayed, Draws, Finishes, IsPicked, Replays, some_act}
use Rattle.lxr_run_replay.specs.Finishing.{IsFinishing, StepsOfFirst}
use Rattle.lxr_run_replay.proofs.PickLemmas.{IsTurn}

-- ---- draws

-- while some mutator has a next action, the generator picks these actors from x on, one after another, and comes to x'
abbrev pub Picks : Bool → ℕ → Core AnyActor → List ℕ → ℕ → Type 0
Picks tracing x core [] x' = x ≡ x'
Picks tracing x core (number ∷ numbers) x' =
    (some_act (mutators_in core.actors) ≡ true) × IsPicked tracing (step x) core.actors number × Picks tracing (step x) (event any_machine core (Step number)) numbers x'

-- it picks one more
pub picks_more : (tracing : Bool) (x : ℕ) (core : Core AnyActor) (numbers : List ℕ) (y number : ℕ) → Picks tracing x core numbers y → some_act (mutators_in (run any_machine core (map Step numbers)).actors) ≡ true
    → IsPicked tracing (step y) (run any_machine core (map Step numbers)).actors number → Picks tracing x core (numbers ++ number ∷ []) (step y)
picks_more tracing x core [] y number e some p = (some, subst (λ (z : ℕ). IsPicked tracing (step z) core.actors number) (sym e) p, ap step e)
picks_more tracing x core (k ∷ ks) y number h some p = (h.0, h.1, picks_more tracing (step x) (event any_machine core (Step k)) ks y number h.2 some p)

-- these are all draws once no mutator has a next action
pub all_drawn : (tracing : Bool) (x : ℕ) (core : Core AnyActor) (numbers : List ℕ) (y : ℕ) → Picks tracing x core numbers y → some_act (mutators_in (run any_machine core (map Step numbers)).actors) ≡ false → Draws tracing x core numbers y
all_drawn tracing x core [] y e none = (none, e)
all_drawn tracing x core (k ∷ ks) y h none = (h.0, h.1, all_drawn tracing (step x) (event any_machine core (Step k)) ks y h.2 none)

-- where all are drawn, no mutator has a next action
pub none_left : (tracing : Bool) (x : ℕ) (core : Core AnyActor) (numbers : List ℕ) (y : ℕ) → Draws tracing x core numbers y → some_act (mutators_in (run any_machine core (map Step numbers)).actors) ≡ false
none_left tracing x core [] y d = d.0
none_left tracing x core (k ∷ ks) y d = none_left tracing (step x) (event any_machine core (Step k)) ks y d.2

-- A replay is under way: from a generator's x and a core it has come to x' and this core.
pub record IsUnderWay (tracing : Bool) (x : ℕ) (core : Core AnyActor) (x' : ℕ) (core' : Core AnyActor) : Type 0 where
  pub schedule : List ℕ
  pub picks : Picks tracing x core schedule x'
  pub core_is : core' ≡ run any_machine core (map Step schedule)

-- it begins with no step
abbrev pub begins : (tracing : Bool) (x : ℕ) (core : Core AnyActor) → IsUnderWay tracing x core x core
begins tracing x core = record { schedule = []; picks = refl; core_is = refl }

-- it goes on by one step
abbrev pub goes_on : (tracing : Bool) (x : ℕ) (core : Core AnyActor) (y : ℕ) (c : Core AnyActor) (y' : ℕ) (c' : Core AnyActor) (number : ℕ)
    → IsUnderWay tracing x core y c → some_act (mutators_in c.actors) ≡ true → y' ≡ step y → IsPicked tracing y' c.actors number → c' ≡ event any_machine c (Step number) → IsUnderWay tracing x core y' c'
goes_on tracing x core y c y' c' number under some y_is picked c_is = record {
  schedule = under.schedule ++ number ∷ [];
  picks = subst (Picks tracing x core (under.schedule ++ number ∷ [])) (sym y_is) (picks_more tracing x core under.schedule y number under.picks
      (subst (λ (d : Core AnyActor). some_act (mutators_in d.actors) ≡ true) under.core_is some)
      (subst (λ (d : Core AnyActor). IsPicked tracing (step y) d.actors number) under.core_is (subst (λ (z : ℕ). IsPicked tracing z c.actors number) y_is picked)));
  core_is = c_is ∙ (ap (λ (d : Core AnyActor). event any_machine d (Step number)) under.core_is
      ∙ (sym (run-snoc any_machine core (map Step under.schedule) (Step number))
      ∙ ap (run any_machine core) (sym (map-append Step under.schedule (number ∷ [])))));
}

-- ---- what can be replayed

-- what can be replayed still can behind a schedule
pub can_go_on : (core : Core AnyActor) (schedule : List Event) → CanBeReplayed core → CanBeReplayed (run any_machine core schedule)
unfolding AlwaysFits
can_go_on core schedule can = record {
  fits = λ events number. subst (λ (d : Core AnyActor). FitsAt any_machine d number) (run-append any_machine core schedule events) (can.fits (schedule ++ events) number);
  order = λ events. subst (λ (d : Core AnyActor). AreInOrder d.actors) (run-append any_machine core schedule events) (can.order (schedule ++ events));
  mutators = λ events i m at. can.mutators (schedule ++ events) i m (subst (λ (d : Core AnyActor). slice_get (mutators_in d.actors) i ≡ Some m) (sym (run-append any_machine core schedule events)) at);
}

-- so it can wherever a replay has come to
pub can_under_way : (tracing : Bool) (x : ℕ) (core : Core AnyActor) (y : ℕ) (c : Core AnyActor) → CanBeReplayed core → IsUnderWay tracing x core y c → CanBeReplayed c
can_under_way tracing x core y c can under = subst CanBeReplayed (sym under.core_is) (can_go_on core (map Step under.schedule) can)

-- what is known of a turn
pub turn_under_way : (tracing : Bool) (x : ℕ) (core : Core AnyActor) (y y' : ℕ) (c : Core AnyActor) (number : ℕ) → CanBeReplayed core → IsUnderWay tracing x core y c → some_act (mutators_in c.actors) ≡ true
    → y' ≡ step y → IsPicked tracing y' c.actors number → IsTurn tracing y c number
turn_under_way tracing x core y y' c number can under some y_is picked =
    let now = can_under_way tracing x core y c can under in
    record { order = now.order []; some = some; picked = subst (λ (z : ℕ). IsPicked tracing z c.actors number) y_is picked; sound = λ i m at. now.mutators [] i m at }

-- each next step fits
pub fits_next : (core : Core AnyActor) → CanBeReplayed core → (number : ℕ) → FitsAt any_machine core number
fits_next core can number = fits-at any_machine core [] number can.fits

-- ---- the whole

-- the steps of those that don't rest are all that finish units once all rest
pub all_finish : (core : Core AnyActor) (numbers : List ℕ) → StepsOfFirst core numbers → AreResting (run any_machine core (map Step numbers)).actors → Finishes core numbers
all_finish core [] firsts resting = resting
all_finish core (k ∷ ks) firsts resting = (firsts.0, all_finish (event any_machine core (Step k)) ks firsts.1 resting)

-- after the draws units were finished
pub record HasReplayedTo (tracing : Bool) (x : ℕ) (core : Core AnyActor) (x' : ℕ) (core' : Core AnyActor) : Type 0 where
  pub schedule : List ℕ
  pub replays : Replays tracing x core schedule x'
  pub core_is : core' ≡ run any_machine core (map Step schedule)

abbrev pub replayed : (tracing : Bool) (x : ℕ) (core : Core AnyActor) (y : ℕ) (drawn : List ℕ) (amid core' : Core AnyActor) → Draws tracing x core drawn y → amid ≡ run any_machine core (map Step drawn)
    → IsFinishing amid core' → AreResting core'.actors → HasReplayedTo tracing x core y core'
replayed tracing x core y drawn amid core' draws amid_is finishing resting = record {
  schedule = drawn ++ finishing.schedule;
  replays = record {
    drawn = drawn;
    finishing = finishing.schedule;
    steps = refl;
    draws = draws;
    finishes = subst (λ (d : Core AnyActor). Finishes d finishing.schedule) amid_is
        (all_finish amid finishing.schedule finishing.firsts (subst (λ (d : Core AnyActor). AreResting d.actors) finishing.core_is resting));
  };
  core_is = finishing.core_is
      ∙ (ap (λ (d : Core AnyActor). run any_machine d (map Step finishing.schedule)) amid_is
      ∙ (sym (run-append any_machine core (map Step drawn) (map Step finishing.schedule))
      ∙ ap (run any_machine core) (sym (map-append Step drawn finishing.schedule))));
}

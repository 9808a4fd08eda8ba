-- How far a call has come over the threads, one turn after another.
use Rattle.std.proofs.Common.{◌≡◌, ℕ, ◌+◌, ◌<◌, refl, sym, ap, subst, ◌∙◌, arith, Bool, false, List, [], length}
use Rattle.std.specs.Prelude.{Option, Some, None, slice_get, slice_set}
use Rattle.lxr_graph.specs.History.{Item}
use Rattle.lxr_image.specs.declared.space.Space.{Space}
use Rattle.lxr_model.specs.Moments.{moment}
use Rattle.lxr_invariant.specs.AbstractState.{AbstractState}
use Rattle.lxr_mutator.specs.Mutating.{Mutating}
use Rattle.lxr_core.specs.declared.actors.AnyActor.{AnyActor}
use Rattle.lxr_core.specs.declared.actors.AnyActor.TheVariants as any
use Rattle.lxr_core.specs.Actors.{mutators_in}
use Rattle.lxr_core.proofs.MappedLemmas.{set_itself}
use Rattle.lxr_serve.specs.declared.Served.{Served}
use Rattle.lxr_serve.specs.declared.Served.TheVariants as outcome
use Rattle.lxr_serve.specs.Answering.{Answers, TakeTurns, TakesTurn, WantsCollection, begins, next}
use Rattle.lxr_serve.specs.Serving.{CanServe, CanServeOn, HasServed, KeepsHelpers}
use Rattle.lxr_serve.specs.Turns.{AreMutatorsWith, CanTakeTurn, ComesOut, StillWaits}
use Rattle.lxr_serve.proofs.ActorLemmas.{IsMutatorAt, becomes, helpers_kept, is_there, mutator_there, put_among}
use Rattle.lxr_serve.proofs.SpaceLemmas.{keeps_on}
use Rattle.lxr_serve.proofs.TurnLemmas.{ChangesLittle, turn_changes, turn_comes, turn_keeps}

-- Where turns have come to from a state and a history: the history now, and the state that the space stands for, with the actors now.
pub record HasCome (collected : Bool) (actors : List AnyActor) (space : Space) (number : ℕ) (now : List AnyActor) (amid : Space) (served : Bool) (g : AbstractState) (h : List Item) : Type 0 where
  pub history : List Item
  pub abstract_state : AbstractState
  pub turns : TakeTurns collected (mutators_in actors) space h number (mutators_in now) amid served history
  pub on : CanServeOn amid abstract_state now
  pub leads : (threads : ℕ) → g.moment ≡ moment threads h → abstract_state.moment ≡ moment threads history

-- So many threads have taken their turn in a call that began with these actors and this space: the actors now, the space amid the call, and whether
-- some `new` was served.
pub record HasTaken (collected : Bool) (actors : List AnyActor) (space : Space) (number : ℕ) (now : List AnyActor) (amid : Space) (served : Bool) : Type 0 where
  pub on : (g : AbstractState) (h : List Item) → CanServe space g actors collected → HasCome collected actors space number now amid served g h
  pub turns : (h : List Item) → (h' : List Item) × TakeTurns collected (mutators_in actors) space h number (mutators_in now) amid served h'
  pub helpers : KeepsHelpers actors now
  pub changes : ChangesLittle space amid number

pub has_begun : (collected : Bool) (actors : List AnyActor) (space : Space) (g : AbstractState) → CanServe space g actors collected → HasTaken collected actors space 0 actors space false
has_begun collected actors space g can = record {
  on = λ g h can. record {
    history = h;
    abstract_state = g;
    turns = begins;
    on = record { between = can.between; fit = can.fit };
    leads = λ threads led. led;
  };
  turns = λ h. (h, begins);
  helpers = record { order = can.fit.helpers.order; same = refl; tracers = refl };
  changes = record { others = refl; news = omega arith; counted = omega arith };
}

-- how a call ends
pub record EndsWith (collected : Bool) (actors actors' : List AnyActor) (space space' : Space) (result : Served) : Type 0 where
  pub answers : (h : List Item) → (h' : List Item) × Answers result collected (mutators_in actors) (mutators_in actors') space space' h h'
  pub between : (g : AbstractState) (h : List Item) → CanServe space g actors collected → HasServed result collected space space' actors actors' g h
  pub helpers : KeepsHelpers actors actors'

module _ (collected : Bool) (actors : List AnyActor) (space : Space) (number : ℕ) (now : List AnyActor) (amid : Space) (served : Bool) (taken : HasTaken collected actors space number now amid served) where
  -- the mutator whose turn it is
  pub record IsNext (m : Mutating) : Type 0 where
    pub there : IsMutatorAt now number m
    pub thread : m.thread ≡ number + 1
    pub can : CanTakeTurn amid m

  -- there is one while not all have had their turn
  pub next_one : (g : AbstractState) → CanServe space g actors collected → number < space.limits.threads → (m : Mutating) × IsNext m
  next_one g can more =
      let come = taken.on g [] can in
      let on = come.on in
      let few = can.between.safepoint.holds.space.limits.threads.1 in
      let limits : amid.limits.threads ≡ space.limits.threads = ap (λ (s : Space). s.limits.threads) taken.changes.others in
      let threads = on.fit.as_many in
      let below : number < length (mutators_in now) = omega arith in
      let (m, there) = mutator_there now number taken.helpers.order below in
      let counted = can.counted in
      let news = taken.changes.news in
      (m, record { there = there; thread = (on.fit.each number m there.at).thread; can = turn_comes now number m amid come.abstract_state there on (omega arith) })

  -- it takes its turn
  has_taken : (m m' : Mutating) (after : Space) (more : Bool) → IsNext m → ComesOut collected served amid after m m' (Some more)
      → HasTaken collected actors space (number + 1) (slice_set now number (any.Mutator m')) after more
  has_taken m m' after more is comes_out = record {
    on = λ g h can.
        let come = taken.on g h can in
        let (k, turn) = turn_at come.history in
        let goes_on = turn_keeps collected now number m m' amid after come.abstract_state served more come.history k is.there come.on turn in
        record {
          history = k;
          abstract_state = goes_on.abstract_state;
          turns = turns_on h come.history k come.turns turn;
          on = goes_on.on;
          leads = λ threads led. goes_on.leads threads (come.leads threads led);
        };
    turns = λ h.
        let (k, turns) = taken.turns h in
        let (k', turn) = turn_at k in
        (k', turns_on h k k' turns turn);
    helpers = helpers_kept actors now number m m' is.there taken.helpers;
    changes =
        let (h', turn) = comes_out [] in
        let one = turn_changes collected m m' amid after served more [] h' m.thread turn in
        let before = taken.changes.news in
        let news = one.news in
        let grown = taken.changes.counted in
        let grows = one.counted in
        record { others = keeps_on space amid after taken.changes.others one.others; news = omega arith; counted = omega arith };
  }
    where
      -- the turn by the number of its thread
      turn_at : (k : List Item) → (k' : List Item) × TakesTurn collected (number + 1) m m' amid after served more k k'
      turn_at k = let (k', turn) = comes_out k in (k', subst (λ t. TakesTurn collected t m m' amid after served more k k') is.thread turn)

      turns_on : (h k k' : List Item) → TakeTurns collected (mutators_in actors) space h number (mutators_in now) amid served k → TakesTurn collected (number + 1) m m' amid after served more k k'
          → TakeTurns collected (mutators_in actors) space h (number + 1) (mutators_in (slice_set now number (any.Mutator m'))) after more k'
      turns_on h k k' turns turn =
          subst (λ ms. TakeTurns collected (mutators_in actors) space h (number + 1) ms after more k') (sym (put_among now number m m' is.there taken.helpers.order))
          (next number (mutators_in now) amid after served more k k' m m' turns is.there.at turn)

  -- where its `new` waits still, the call asks for a collecting pause
  left_waiting : (m m' : Mutating) (after : Space) → IsNext m → StillWaits collected served amid after m m' → (h h' : List Item) → TakeTurns collected (mutators_in actors) space h number (mutators_in now) amid served h'
      → WantsCollection collected (mutators_in actors) (mutators_in now) space amid h h'
  left_waiting m m' after is still h h' turns = record {
    number = number;
    served = served;
    turns = turns;
    mutator = m;
    waiting = still.waiting;
    turn = is.there.at;
    waits = still.waits;
    full = still.full;
    not_yet = still.not_yet;
  }

  -- a call that ends there, or once all have had their turn, comes to this
  ends_with : (result : Served) → ((h h' : List Item) → TakeTurns collected (mutators_in actors) space h number (mutators_in now) amid served h' → Answers result collected (mutators_in actors) (mutators_in now) space amid h h')
      → EndsWith collected actors now space amid result
  ends_with result answers = record {
    answers = λ h. let (h', turns) = taken.turns h in (h', answers h h' turns);
    between = λ g h can.
        let come = taken.on g h can in
        record { history = come.history; abstract_state = come.abstract_state; answers = answers h come.history come.turns; on = come.on; leads = come.leads };
    helpers = taken.helpers;
  }

  -- and all is as it was
  nothing_put : (m m' : Mutating) (after : Space) → IsNext m → StillWaits collected served amid after m m' → slice_set now number (any.Mutator m') ≡ now
  nothing_put m m' after is still = ap (λ (x : Mutating). slice_set now number (any.Mutator x)) still.mutator ∙ set_itself now number (any.Mutator m) is.there.among

  module _ (g : AbstractState) (can : CanServe space g actors collected) (more : number < space.limits.threads) (a a' : AnyActor) (here : slice_get now number ≡ Some a) (after : Space) where
    -- the actor whose turn it is has become another
    abbrev comes_to : Option Bool → Type 0
    comes_to result = AreMutatorsWith (λ m m'. ComesOut collected served amid after m m' result) a a'

    -- where it has taken its turn, the call goes on
    pub taken_by : (some : Bool) → comes_to (Some some) → HasTaken collected actors space (number + 1) (slice_set now number a') after some
    taken_by some comes =
        let (m, is) = next_one g can more in
        let to = becomes (λ m m'. ComesOut collected served amid after m m' (Some some)) a a' m (is_there now number a m is.there here) comes in
        subst (λ (x : AnyActor). HasTaken collected actors space (number + 1) (slice_set now number x) after some) (sym to.is) (has_taken m to.mutator after some is to.related)

    -- where it hasn't, the call ends there
    pub left_by : comes_to None → EndsWith collected actors (slice_set now number a') space after outcome.Collect
    left_by comes =
        let (m, is) = next_one g can more in
        let to = becomes (λ m m'. ComesOut collected served amid after m m' None) a a' m (is_there now number a m is.there here) comes in
        let same : slice_set now number a' ≡ now = ap (λ (x : AnyActor). slice_set now number x) to.is ∙ nothing_put m to.mutator after is to.related in
        subst (λ (x : List AnyActor). EndsWith collected actors x space after outcome.Collect) (sym same)
        (subst (λ (s : Space). EndsWith collected actors now space s outcome.Collect) (sym to.related.space)
        (ends_with outcome.Collect (left_waiting m to.mutator after is to.related)))

  -- once all have had their turn, the call ends
  pub all_taken : (g : AbstractState) → CanServe space g actors collected → number ≡ space.limits.threads → EndsWith collected actors now space amid outcome.All
  all_taken g can all = ends_with outcome.All (λ h h' turns. record { served = served; turns = subst (λ n. TakeTurns collected (mutators_in actors) space h n (mutators_in now) amid served h') (all ∙ sym can.fit.as_many) turns })

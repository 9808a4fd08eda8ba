-- After each turn the space is between epochs for some state, and the actors fit it.
use Rattle.std.proofs.Common.{◌≡◌, ℕ, ◌+◌, ◌<◌, ◌≤◌, refl, sym, ap, subst, ◌∙◌, inl, inr, arith, Bool, List, ◌∷◌, length}
use Rattle.std.specs.Prelude.{◌^◌, Some, slice_set}
use Rattle.std.proofs.lemmas.Option.{slice_get_within}
use Rattle.lxr_layout.specs.declared.limits.Limits.{Limits}
use Rattle.lxr_layout.specs.declared.Name.{Name}
use Rattle.lxr_graph.specs.declared.Op.TheVariants as op
use Rattle.lxr_graph.specs.declared.Reply.TheVariants as reply
use Rattle.lxr_graph.specs.History.{Item, Call}
use Rattle.lxr_graph.specs.State.{Graph, next_name, with_new}
use Rattle.lxr_graph.specs.Step.{fresh}
use Rattle.lxr_image.specs.declared.space.Space.{Space}
use Rattle.lxr_model.specs.Moments.{Moment, after_call, moment}
use Rattle.lxr_invariant.specs.AbstractState.{AbstractState}
use Rattle.lxr_invariant.proofs.RestLemmas.{quiescent_rests}
use Rattle.lxr_placing.specs.Placing.{served_abstract_state}
use Rattle.lxr_placing.proofs.ServedLemmas.{row_of_thread}
use Rattle.lxr_mutator.specs.declared.phases.Waiting.{Waiting}
use Rattle.lxr_mutator.specs.Mutating.{IsWaiting, Mutating, next_name as next_made, op_now, waiting_by}
use Rattle.lxr_mutator.specs.Mutators.{IsAnswered}
use Rattle.lxr_core.specs.declared.actors.AnyActor.{AnyActor}
use Rattle.lxr_core.specs.declared.actors.AnyActor.TheVariants as any
use Rattle.lxr_core.specs.Actors.{mutators_in}
use Rattle.lxr_core.specs.Resting.{FitSpace, FitsThread}
use Rattle.lxr_core.proofs.MappedLemmas.{set_itself}
use Rattle.lxr_serve.specs.Answering.{RefusesNew, ServesNew, TakesTurn, passes, refuses, serves}
use Rattle.lxr_serve.specs.Serving.{CanServeOn}
use Rattle.lxr_serve.specs.Turns.{CanTakeTurn}
use Rattle.lxr_serve.proofs.ActorLemmas.{IsMutatorAt}
use Rattle.lxr_serve.proofs.FitLemmas.{fit_answered, fits_answered, new_waits, next_other, next_own}
use Rattle.lxr_serve.proofs.MutatorLemmas.{named_after_full, named_after_new, waits_by}
use Rattle.lxr_serve.proofs.SpaceLemmas.{KeepsAllElse, new_served, serves_keeps, serves_one}

-- What a turn has come to: the space may still be served, with one mutator other than it was, and stands for the state that the longer history leads to.
pub record GoesOn (after : Space) (actors : List AnyActor) (number : ℕ) (m' : Mutating) (g : AbstractState) (h h' : List Item) : Type 0 where
  pub abstract_state : AbstractState
  pub on : CanServeOn after abstract_state (slice_set actors number (any.Mutator m'))
  pub leads : (threads : ℕ) → g.moment ≡ moment threads h → abstract_state.moment ≡ moment threads h'

-- the `new` of the mutator of a number is served
served_on : (actors : List AnyActor) (number : ℕ) (m m' : Mutating) (w : Waiting) (before after : Space) (g : AbstractState) (h : List Item) → IsMutatorAt actors number m → CanServeOn before g actors → waiting_by m m.end ≡ Some w
    → ServesNew before after m m' w → GoesOn after actors number m' g h (Call (number + 1) (op_now m) (reply.New (next_made m)) ∷ h)
served_on actors number m m' w before after g h there can waits makes =
    let t : ℕ = number + 1 in
    let fits : FitsThread before.limits g.moment.state.graph t m = can.fit.each number m there.at in
    let is_waiting : IsWaiting m = waits_by m w waits in
    let graph : Graph = g.moment.state.graph in
    let (dest, shape, is) = new_waits before.limits graph t m fits is_waiting in
    let named : next_made m ≡ next_name graph m.thread = sym fits.name ∙ ap (next_name graph) (sym fits.thread) in
    let new = new_served before after m m' w dest shape g (record { between = can.between; next = named }) waits is makes in
    let g' : AbstractState = served_abstract_state g (next_made m) dest shape makes.place in
    let graph' : Graph = with_new graph m.thread (fresh shape) in
    let within = slice_get_within (mutators_in actors) number m there.at in
    let threads = can.fit.as_many in
    let own_thread = fits.thread in
    let row : m.thread < length graph = row_of_thread before g m.thread (quiescent_rests before g can.between) (omega arith) (omega arith) in
    let own_name : next_name graph' m.thread ≡ next_made m' =
    next_own graph m.thread (fresh shape) row ∙ ap (λ (n : Name). record { thread = m.thread; serial = n.serial + 1 }) (sym named) ∙ sym (named_after_new m (next_made m)) ∙ ap next_made (sym makes.mutator) in
    let answers : IsAnswered m m' (reply.New (next_made m)) = inr (makes.place, refl, makes.mutator) in
    let own : FitsThread before.limits graph' t m' =
    fits_answered before.limits graph graph' t m m' (reply.New (next_made m)) fits is_waiting answers (subst (λ n. next_name graph' n ≡ next_made m') fits.thread own_name) in
    let fit : FitSpace before.limits graph' (slice_set actors number (any.Mutator m')) =
    fit_answered before.limits graph graph' actors number m m' there can.fit own (λ u other. next_other graph m.thread u (fresh shape) row (λ e. other (e ∙ fits.thread))) in
    let limits : after.limits ≡ before.limits = ap (λ (s : Space). s.limits) new.others in
    record {
      abstract_state = g';
      on = record {
        between = new.between;
        fit = subst (λ (l : Limits). FitSpace l graph' (slice_set actors number (any.Mutator m'))) (sym limits) fit;
      };
      leads = λ threads led.
          ap (λ (u : ℕ). after_call g.moment u (op.New dest shape) (reply.New (next_made m))) fits.thread
          ∙ ap (λ o. after_call g.moment t o (reply.New (next_made m))) (sym is)
          ∙ ap (λ (x : Moment). after_call x t (op_now m) (reply.New (next_made m))) led;
    }

-- the `new` of the mutator of a number is refused, which changes nothing
refused_on : (actors : List AnyActor) (number : ℕ) (m m' : Mutating) (w : Waiting) (before after : Space) (g : AbstractState) (h : List Item) → IsMutatorAt actors number m → CanServeOn before g actors → waiting_by m m.end ≡ Some w
    → RefusesNew before after m m' w.shape → GoesOn after actors number m' g h (Call (number + 1) (op_now m) reply.Full ∷ h)
refused_on actors number m m' w before after g h there can waits refused =
    let graph : Graph = g.moment.state.graph in
    let fits : FitsThread before.limits graph (number + 1) m = can.fit.each number m there.at in
    let is_waiting : IsWaiting m = waits_by m w waits in
    let (dest, shape, is) = new_waits before.limits graph (number + 1) m fits is_waiting in
    let answers : IsAnswered m m' reply.Full = inl (refl, refused.mutator) in
    let own : FitsThread before.limits graph (number + 1) m' =
    fits_answered before.limits graph graph (number + 1) m m' reply.Full fits is_waiting answers (fits.name ∙ sym (named_after_full m) ∙ ap next_made (sym refused.mutator)) in
    record {
      abstract_state = g;
      on = subst (λ (s : Space). CanServeOn s g (slice_set actors number (any.Mutator m'))) (sym refused.space) (record {
        between = can.between;
        fit = fit_answered before.limits graph graph actors number m m' there can.fit own (λ u other. refl);
      });
      leads = λ threads led. led ∙ ap (λ o. after_call (moment threads h) (number + 1) o reply.Full) (sym is);
    }

-- so it is after each turn
pub turn_keeps : (collected : Bool) (actors : List AnyActor) (number : ℕ) (m m' : Mutating) (before after : Space) (g : AbstractState) (served served' : Bool) (h h' : List Item) → IsMutatorAt actors number m → CanServeOn before g actors
    → TakesTurn collected (number + 1) m m' before after served served' h h' → GoesOn after actors number m' g h h'
turn_keeps collected actors number _ _ _ _ g _ _ _ _ there can (passes m space served h idle) = record {
  abstract_state = g;
  on = subst (CanServeOn space g) (sym (set_itself actors number (any.Mutator m) there.among)) can;
  leads = λ threads led. led;
}
turn_keeps collected actors number _ _ _ _ g _ _ _ _ there can (serves m m' w before after served h waits makes) = served_on actors number m m' w before after g h there can waits makes
turn_keeps collected actors number _ _ _ _ g _ _ _ _ there can (refuses m m' w before after h waits is refused) = refused_on actors number m m' w before after g h there can waits refused

-- nothing but the words, the registers, the rest and the number of `new`s has changed, which has gone up by one at most
pub record ChangesLittle (before after : Space) (most : ℕ) : Type 0 where
  pub others : KeepsAllElse before after
  pub news : after.tally.news ≤ before.tally.news + most
  pub counted : before.tally.news ≤ after.tally.news

pub turn_changes : (collected : Bool) (m m' : Mutating) (before after : Space) (served served' : Bool) (h h' : List Item) (t : ℕ) → TakesTurn collected t m m' before after served served' h h' → ChangesLittle before after 1
turn_changes collected _ _ _ _ _ _ _ _ t (passes m space served h idle) = record { others = refl; news = omega arith; counted = omega arith }
turn_changes collected _ _ _ _ _ _ _ _ t (serves m m' w before after served h waits makes) = let one = serves_one before after m m' w makes in record { others = serves_keeps before after m m' w makes; news = omega arith; counted = omega arith }
turn_changes collected _ _ _ _ _ _ _ _ t (refuses m m' w before after h waits is refused) =
    subst (λ (s : Space). ChangesLittle before s 1) (sym refused.space) (record { others = refl; news = omega arith; counted = omega arith })

-- the turn of the thread behind so many has come
pub turn_comes : (actors : List AnyActor) (number : ℕ) (m : Mutating) (space : Space) (g : AbstractState) → IsMutatorAt actors number m → CanServeOn space g actors → space.tally.news + 1 < 2 ^ 64 → CanTakeTurn space m
turn_comes actors number m space g there can counted =
    let within = slice_get_within (mutators_in actors) number m there.at in
    let threads = can.fit.as_many in (
      g,
      number + 1,
      record {
        between = can.between;
        thread = (omega arith, omega arith);
        fits = can.fit.each number m there.at;
        counted = counted;
      },
    )

-- The actors that fit a space fit it once one mutator's `new` is served or refused.
use Rattle.std.proofs.Common.{◌≡◌, ◌≢◌, ℕ, ◌+◌, ◌<◌, refl, sym, ap, subst, ◌∙◌, inl, inr, arith, true, false, cond, List, [], ◌∷◌, ◌++◌, length, nat_eq}
use Rattle.std.specs.Prelude.{Some, slice_get, slice_set}
use Rattle.std.proofs.lemmas.Bool.{eq-eqb}
use Rattle.std.proofs.lemmas.Bool.Decides.{eqb_tells, nat_tests}
use Rattle.std.proofs.lemmas.List.{length-set, length_push}
use Rattle.std.proofs.lemmas.Option.{slice_get_within}
use Rattle.lxr_layout.specs.declared.limits.Limits.{Limits}
use Rattle.lxr_graph.specs.declared.Reply.{Reply}
use Rattle.lxr_graph.specs.State.{Graph, Object, first_serial, next_name, row_of, with_new}
use Rattle.lxr_graph.proofs.RowLemmas.{row_of-set, slice_get-set}
use Rattle.lxr_mutator.specs.Mutating.{IsWaiting, Mutating, next_name as next_made}
use Rattle.lxr_mutator.specs.Mutators.{IsAnswered, answered}
use Rattle.lxr_core_sim_mutator.specs.Showing.{IsNew}
use Rattle.lxr_core.specs.declared.actors.AnyActor.{AnyActor}
use Rattle.lxr_core.specs.declared.actors.AnyActor.TheVariants as any
use Rattle.lxr_core.specs.Actors.{mutators_in}
use Rattle.lxr_core.specs.Resting.{FitSpace, FitsThread, HelperRests, TracerRests}
use Rattle.lxr_core.proofs.OpenedLemmas.{waits_for_new}
use Rattle.lxr_core.proofs.OrderLemmas.{helpers_stay, put_order, tracers_stay, two_mutators}
use Rattle.lxr_serve.specs.Serving.{NewsWait}
use Rattle.lxr_serve.proofs.ActorLemmas.{IsMutatorAt, put_among}
use Rattle.lxr_serve.proofs.MutatorLemmas.{answered_mutator, answers_with, with_registers}

-- ---- next names

-- one object more in a thread's row: the next serial of the thread goes up by one, and other threads' stay
pub next_own : (graph : Graph) (t : ℕ) (o : Object) → t < length graph → next_name (with_new graph t o) t ≡ record { thread = t; serial = (next_name graph t).serial + 1 }
next_own graph t o row =
    let own : row_of (with_new graph t o) t ≡ row_of graph t ++ o ∷ [] = row_of-set graph t (row_of graph t ++ o ∷ []) t row ∙ ap (λ b. cond b (row_of graph t ++ o ∷ []) (row_of graph t)) (eq-eqb t t refl) in
    let longer : length (row_of (with_new graph t o) t) ≡ length (row_of graph t) + 1 = ap length own ∙ length_push (row_of graph t) o in
    let serial : length (row_of (with_new graph t o) t) + first_serial t ≡ length (row_of graph t) + first_serial t + 1 = omega arith in
    λ j. record { thread = t; serial = serial j }

pub next_other : (graph : Graph) (t u : ℕ) (o : Object) → t < length graph → u ≢ t → next_name (with_new graph t o) u ≡ next_name graph u
next_other graph t u o row other =
    let unlike : nat_eq u t ≡ false = grind (arith, nat_tests) in
    let same : row_of (with_new graph t o) u ≡ row_of graph u = row_of-set graph t (row_of graph t ++ o ∷ []) u row ∙ ap (λ b. cond b (row_of graph t ++ o ∷ []) (row_of graph u)) unlike in
    λ j. record { thread = u; serial = length (same j) + first_serial u }

-- ---- one mutator

-- once its `new` is answered, it fits a graph in which its next name is the one that it gives
pub fits_answered : (l : Limits) (graph graph' : Graph) (t : ℕ) (m m' : Mutating) (r : Reply) → FitsThread l graph t m → IsWaiting m → IsAnswered m m' r → next_name graph' t ≡ next_made m' → FitsThread l graph' t m'
fits_answered l graph graph' t m m' r fits waits answers name =
    let with_reply = answers_with m m' r fits.mutator.sound answers in
    let named : next_name graph' t ≡ next_made (answered (with_registers m with_reply.registers) r) = name ∙ ap next_made with_reply.mutator in
    subst (FitsThread l graph' t) (sym with_reply.mutator) (record {
      mutator = answered_mutator l m with_reply.registers r fits.mutator waits with_reply.are;
      thread = fits.thread;
      log = fits.log;
      spans = fits.spans;
      rests = fits.rests;
      name = named;
    })

-- another mutator fits one in which its next name is as it was
pub fits_beside : (l : Limits) (graph graph' : Graph) (t : ℕ) (m : Mutating) → FitsThread l graph t m → next_name graph' t ≡ next_name graph t → FitsThread l graph' t m
fits_beside l graph graph' t m fits same = record {
  mutator = fits.mutator;
  thread = fits.thread;
  log = fits.log;
  spans = fits.spans;
  rests = fits.rests;
  name = same ∙ fits.name;
}

-- ---- all actors

-- what holds of the answered mutator and of each other one holds of all
pub set_each : (mutators : List Mutating) (number : ℕ) (b : Mutating) (P : ℕ → Mutating → Type 0) → number < length mutators → P number b
    → ((i : ℕ) (a : Mutating) → i ≢ number → slice_get mutators i ≡ Some a → P i a) → (i : ℕ) (a : Mutating) → slice_get (slice_set mutators number b) i ≡ Some a → P i a
set_each mutators number b P within own others i a at =
    let told = slice_get-set mutators number b i within in
    elim (eqb_tells i number) as (λ _. P i a) [
      | inl q ↦
          let here : slice_get (slice_set mutators number b) i ≡ Some b = told ∙ ap (λ x. cond x (Some b) (slice_get mutators i)) q.0 in
          let both : Some a ≡ Some b = sym at ∙ here in
          let is : b ≡ a = cc in
          subst (λ n. P n a) (sym q.1) (subst (P number) is own)
      | inr q ↦
          let other : i ≢ number = λ e. let same : nat_eq i number ≡ true = grind (arith, nat_tests) in absurd (let both : true ≡ false = sym same ∙ q.0 in cc) in
          others i a other (sym (told ∙ ap (λ x. cond x (Some b) (slice_get mutators i)) q.0) ∙ at)
    ]

-- all fit where the mutator of a number fits with its answer, and the next names of others are as they were
pub fit_answered : (l : Limits) (graph graph' : Graph) (actors : List AnyActor) (number : ℕ) (m m' : Mutating) → IsMutatorAt actors number m → FitSpace l graph actors → FitsThread l graph' (number + 1) m'
    → ((u : ℕ) → u ≢ number + 1 → next_name graph' u ≡ next_name graph u) → FitSpace l graph' (slice_set actors number (any.Mutator m'))
fit_answered l graph graph' actors number m m' there fit own others =
    let put : mutators_in (slice_set actors number (any.Mutator m')) ≡ slice_set (mutators_in actors) number m' = put_among actors number m m' there fit.helpers.order in
    let within = slice_get_within (mutators_in actors) number m there.at in
    record {
      as_many = ap length put ∙ length-set (mutators_in actors) number m' ∙ fit.as_many;
      each = subst (λ ms. (i : ℕ) (a : Mutating) → slice_get ms i ≡ Some a → FitsThread l graph' (i + 1) a) (sym put)
          (set_each (mutators_in actors) number m' (λ i a. FitsThread l graph' (i + 1) a) within own
          (λ i a other at. fits_beside l graph graph' (i + 1) a (fit.each i a at) (others (i + 1) (λ e. other (omega arith)))));
      helpers = record {
        order = put_order actors number (any.Mutator m) (any.Mutator m') there.among (two_mutators m m') fit.helpers.order;
        each = subst (λ ds. (i : ℕ) (d : _) → slice_get ds i ≡ Some d → HelperRests l d) (sym (helpers_stay actors number m m' there.among)) fit.helpers.each;
        tracers = subst (λ ds. (i : ℕ) (d : _) → slice_get ds i ≡ Some d → TracerRests l d) (sym (tracers_stay actors number m m' there.among)) fit.helpers.tracers;
      };
    }

-- what waits is a `new`
pub new_waits : (l : Limits) (graph : Graph) (t : ℕ) (m : Mutating) → FitsThread l graph t m → IsWaiting m → IsNew m
new_waits l graph t m fits waits = waits_for_new m m.phase waits.1 fits.mutator.steady waits.0

pub news_wait : (l : Limits) (graph : Graph) (actors : List AnyActor) → FitSpace l graph actors → NewsWait (mutators_in actors)
news_wait l graph actors fit i m at waits = new_waits l graph (i + 1) m (fit.each i m at) waits

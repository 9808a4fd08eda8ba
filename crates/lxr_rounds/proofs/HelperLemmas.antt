-- Actors that are added behind others, and the helpers behind the mutators: each as it is made, so they rest.
use Rattle.std.proofs.Common.{⊎_elim, inl, inr, ◌⊎◌, ◌≡◌, ℕ, zero, suc, ◌+◌, refl, sym, ap, subst, ◌∙◌, arith, List, [], ◌∷◌, ◌++◌, map, length, append_assoc}
use Rattle.std.specs.Prelude.{Some, replicate, slice_get}
use Rattle.std.proofs.lemmas.List.{length-replicate, map-append}
use Rattle.lxr_layout.specs.declared.limits.Limits.{Limits}
use Rattle.lxr_layout.specs.Spaces.{AreLimits}
use Rattle.lxr_mutator.specs.Mutating.{Mutating}
use Rattle.lxr_mutator.specs.Mutators.{first}
use Rattle.lxr_core.specs.declared.actors.AnyActor.{AnyActor}
use Rattle.lxr_core.specs.declared.actors.AnyActor.TheVariants as any
use Rattle.lxr_core.specs.Actors.{decrementers_in, in_order, mutators_in, tracers_in}
use Rattle.lxr_core.specs.Resting.{HelperRests, HelpersRest, TracerRests}
use Rattle.lxr_core.proofs.OrderLemmas.{decrementers_of_order, tracers_of_order}
use Rattle.lxr_decrement.specs.Decrementers.{first as first_decrementer}
use Rattle.lxr_decrement.proofs.StayLemmas.{stay_so}
use Rattle.lxr_trace.specs.Tracers.{first as first_tracer}
use Rattle.lxr_trace.proofs.StayLemmas.{stay_so as tracers_stay}
use Rattle.lxr_rounds.specs.Helpers.{HelpersStandBehind}

-- ---- one more

-- what stands in a list with one element more: an element of the list, or the one more
pub pushed_at : {X : Type 0} (xs : List X) (x y : X) (i : ℕ) → slice_get (xs ++ x ∷ []) i ≡ Some y → (slice_get xs i ≡ Some y) ⊎ ((i ≡ length xs) × (x ≡ y))
pushed_at [] x y zero at = inr (refl, cc)
pushed_at [] x y (suc i) at = absurd (cc)
pushed_at (z ∷ xs) x y zero at = inl at
pushed_at (z ∷ xs) x y (suc i) at =
    ⊎_elim
    (λ (before : slice_get xs i ≡ Some y). inl before)
    (λ (last : (i ≡ length xs) × (x ≡ y)). inr (omega arith, last.1))
    (pushed_at xs x y i at)

-- ---- helpers behind the mutators

-- one element more of the same
pub same_more : {X : Type 0} (n : ℕ) (x : X) → replicate n x ++ x ∷ [] ≡ replicate (suc n) x
same_more zero x = refl
same_more (suc n) x = ap (λ z. x ∷ z) (same_more n x)

-- one actor more of the same behind these
pub one_behind : {X : Type 0} (actor : X → AnyActor) (n k : ℕ) (x y : X) (before actors actors' : List AnyActor) → actors ≡ before ++ map actor (replicate n x) → y ≡ x → k ≡ n + 1 → actors' ≡ actors ++ actor y ∷ []
    → actors' ≡ before ++ map actor (replicate k x)
one_behind {X} actor n k x y before actors actors' are is next pushed =
    let one : suc n ≡ k = omega arith in
    pushed
    ∙ ap (λ z. actors ++ actor z ∷ []) is
    ∙ ap (λ (xs : List AnyActor). xs ++ actor x ∷ []) are
    ∙ append_assoc before (map actor (replicate n x)) (actor x ∷ [])
    ∙ ap (λ xs. before ++ xs) (sym (map-append actor (replicate n x) (x ∷ [])) ∙ ap (map actor) (same_more n x ∙ ap (λ j. replicate j x) one))

-- helpers that stand behind mutators alone stand behind them in order
pub behind_in_order : (l : Limits) (w : ℕ) (mutators : List Mutating) (actors actors' : List AnyActor) → actors ≡ map any.Mutator mutators → HelpersStandBehind l w actors actors'
    → actors' ≡ in_order mutators (replicate w (first_decrementer l)) (replicate w (first_tracer l))
behind_in_order l w mutators actors actors' alone stand =
    let ds = map any.Decrementer (replicate w (first_decrementer l)) in
    let ts = map any.Tracer (replicate w (first_tracer l)) in
    stand ∙ ap (λ (xs : List AnyActor). xs ++ ds ++ ts) alone ∙ append_assoc (map any.Mutator mutators) ds ts

-- ---- the helpers rest

-- what stands in a list of the same
same_each : {X : Type 0} (n i : ℕ) (x y : X) → slice_get (replicate n x) i ≡ Some y → y ≡ x
same_each zero i x y at = absurd (cc)
same_each (suc n) zero x y at = cc
same_each (suc n) (suc i) x y at = same_each n i x y at

-- such helpers, in order behind the mutators, are those among the actors, and they rest
pub record HelpersAreMade (l : Limits) (w n : ℕ) (actors : List AnyActor) : Type 0 where
  pub rest : HelpersRest l actors
  pub decrementers : length (decrementers_in actors) ≡ w
  pub tracers : length (tracers_in actors) ≡ n

pub helpers_made : (l : Limits) (w n : ℕ) (actors : List AnyActor) → AreLimits l → actors ≡ in_order (mutators_in actors) (replicate w (first_decrementer l)) (replicate n (first_tracer l)) → HelpersAreMade l w n actors
helpers_made l w n actors limits ordered =
    let ds = replicate w (first_decrementer l) in
    let ts = replicate n (first_tracer l) in
    let decrementers : decrementers_in actors ≡ ds = ap decrementers_in ordered ∙ decrementers_of_order (mutators_in actors) ds ts in
    let tracers : tracers_in actors ≡ ts = ap tracers_in ordered ∙ tracers_of_order (mutators_in actors) ds ts in
    record {
      rest = record {
        order = ordered ∙ (ap (λ xs. in_order (mutators_in actors) xs ts) (sym decrementers) ∙ ap (in_order (mutators_in actors) (decrementers_in actors)) (sym tracers));
        each = λ i d at.
            let is = same_each w i (first_decrementer l) d (subst (λ xs. slice_get xs i ≡ Some d) decrementers at) in
            subst (HelperRests l) (sym is) (record { decrementer = record { sound = stay_so.first l limits; regions = refl }; rests = refl });
        tracers = λ i d at.
            let is = same_each n i (first_tracer l) d (subst (λ xs. slice_get xs i ≡ Some d) tracers at) in
            subst (TracerRests l) (sym is) (record { tracer = record { sound = tracers_stay.first l limits; regions = refl }; rests = refl });
      };
      decrementers = ap length decrementers ∙ length-replicate w (first_decrementer l);
      tracers = ap length tracers ∙ length-replicate n (first_tracer l);
    }

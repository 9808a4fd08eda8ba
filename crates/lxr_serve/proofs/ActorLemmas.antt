-- The mutator of the thread whose turn it is, among the actors.
use Rattle.std.proofs.Common.{◌≡◌, ℕ, zero, suc, ◌<◌, refl, sym, subst, ◌∙◌, List, [], ◌∷◌, length, arith}
use Rattle.std.specs.Prelude.{Some, slice_get, slice_set}
use Rattle.lxr_mutator.specs.Mutating.{Mutating}
use Rattle.lxr_core.specs.declared.actors.AnyActor.{AnyActor}
use Rattle.lxr_core.specs.declared.actors.AnyActor.TheVariants as any
use Rattle.lxr_core.specs.Actors.{AreInOrder, mutators_in}
use Rattle.lxr_core.proofs.OrderLemmas.{helpers_stay, mutator_from, mutators_put, put_order, tracers_stay, two_mutators}
use Rattle.lxr_serve.specs.Serving.{KeepsHelpers}
use Rattle.lxr_serve.specs.Turns.{AreMutatorsWith, IsMutatorWith}

-- ---- one actor

-- the actor of a number is the mutator of that number
pub record IsMutatorAt (actors : List AnyActor) (number : ℕ) (m : Mutating) : Type 0 where
  pub at : slice_get (mutators_in actors) number ≡ Some m
  pub among : slice_get actors number ≡ Some (any.Mutator m)

-- what stands at a number in a list within its length
found : {X : Type 0} (xs : List X) (i : ℕ) → i < length xs → (x : X) × (slice_get xs i ≡ Some x)
found [] i within = absurd (omega arith)
found (x ∷ xs) zero within = (x, refl)
found (x ∷ xs) (suc i) within = found xs i (omega arith)

pub mutator_there : (actors : List AnyActor) (number : ℕ) → AreInOrder actors → number < length (mutators_in actors) → (m : Mutating) × IsMutatorAt actors number m
mutator_there actors number order below =
    let (m, at) = found (mutators_in actors) number below in
    (m, record { at = at; among = mutator_from actors number m order at })

-- what stands at its number is it
pub is_there : (actors : List AnyActor) (number : ℕ) (a : AnyActor) (m : Mutating) → IsMutatorAt actors number m → slice_get actors number ≡ Some a → a ≡ any.Mutator m
is_there actors number a m there at = let both : Some a ≡ Some (any.Mutator m) = sym at ∙ there.among in cc

-- it has what holds of the mutator
pub has_it : (P : Mutating → Type 0) (a : AnyActor) (m : Mutating) → a ≡ any.Mutator m → P m → IsMutatorWith P a
has_it P a m is p = subst (IsMutatorWith P) (sym is) p

-- what it has become
pub record Becomes (R : Mutating → Mutating → Type 0) (m : Mutating) (a' : AnyActor) : Type 0 where
  pub mutator : Mutating
  pub is : a' ≡ any.Mutator mutator
  pub related : R m mutator

becomes_by : (R : Mutating → Mutating → Type 0) (m : Mutating) (a' : AnyActor) → AreMutatorsWith R (any.Mutator m) a' → Becomes R m a'
becomes_by R m (any.Mutator n) r = record { mutator = n; is = refl; related = r }
becomes_by R m (any.Decrementer d) r = absurd r
becomes_by R m (any.Tracer d) r = absurd r

pub becomes : (R : Mutating → Mutating → Type 0) (a a' : AnyActor) (m : Mutating) → a ≡ any.Mutator m → AreMutatorsWith R a a' → Becomes R m a'
becomes R a a' m is r = becomes_by R m a' (subst (λ (x : AnyActor). AreMutatorsWith R x a') is r)

-- ---- all actors

-- helpers stay behind mutators of which one has become another
pub helpers_kept : (before actors : List AnyActor) (number : ℕ) (m m' : Mutating) → IsMutatorAt actors number m → KeepsHelpers before actors → KeepsHelpers before (slice_set actors number (any.Mutator m'))
helpers_kept before actors number m m' there keeps = record {
  order = put_order actors number (any.Mutator m) (any.Mutator m') there.among (two_mutators m m') keeps.order;
  same = helpers_stay actors number m m' there.among ∙ keeps.same;
  tracers = tracers_stay actors number m m' there.among ∙ keeps.tracers;
}

-- and the mutators are those with it
pub put_among : (actors : List AnyActor) (number : ℕ) (m m' : Mutating) → IsMutatorAt actors number m → AreInOrder actors → mutators_in (slice_set actors number (any.Mutator m')) ≡ slice_set (mutators_in actors) number m'
put_among actors number m m' there order = mutators_put actors number m m' order there.among

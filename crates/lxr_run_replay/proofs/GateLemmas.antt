-- The gate is called wherever a mutator that is picked rests, so mutators have replies to operations alone that it let pass.
use Rattle.std.proofs.Common.{◌≡◌, ◌≢◌, ℕ, Bool, true, false, List, arith, refl, sym, subst, ap, ◌∙◌, nat_eq}
use Rattle.std.specs.Prelude.{Option, Some, None, slice_get, slice_index, slice_set}
use Rattle.std.proofs.lemmas.Option.{slice_get_within}
use Rattle.lxr_actor.specs.declared.Action.{Action}
use Rattle.lxr_actor.specs.declared.Core.{Core}
use Rattle.lxr_actor.specs.declared.Event.TheVariants.{Step}
use Rattle.lxr_actor.specs.Run.{acted, event}
use Rattle.lxr_actor.proofs.Runs.{event-is, slice_get-set_other, slice_get-set_same}
use Rattle.lxr_mutator.specs.Mutating.{Mutating, rests_in}
use Rattle.lxr_mutator.specs.Steps.{after}
use Rattle.lxr_core.specs.declared.actors.AnyActor.{AnyActor}
use Rattle.lxr_core.specs.declared.actors.AnyActor.TheVariants as any
use Rattle.lxr_core.specs.Actors.{AreInOrder, any_machine, mutators_in}
use Rattle.lxr_core.proofs.OrderLemmas.{mutator_at, mutators_put}
use Rattle.lxr_sights.specs.Gates.{HavePassed, IsLetPass, IsLetPassSince}
use Rattle.lxr_sights.proofs.GateLemmas.{passed_none, passed_step}
use Rattle.lxr_run_replay.specs.Replaying.{LetsPass}
use Rattle.lxr_run_replay.proofs.PickLemmas.{helper_leaves, tracer_leaves}

-- ---- the step of one mutator

-- what an action makes of it
abbrev pub mutator_acted : List ℕ → Mutating → Option Action → Mutating
mutator_acted words n None = n
mutator_acted words n (Some act) = after n (slice_index words act.word)

pub acted_is : (words : List ℕ) (n : Mutating) (o : Option Action) → (acted any_machine words (any.Mutator n) o).1 ≡ any.Mutator (mutator_acted words n o)
acted_is words n None = refl
acted_is words n (Some act) = refl

-- where the gate let its operation pass, it still has replies to such operations alone
pub acted_passed : (passed : ℕ → ℕ → Type 0) (m n : Mutating) (words : List ℕ) (o : Option Action) → IsLetPassSince passed m n → IsLetPass passed n → IsLetPassSince passed m (mutator_acted words n o)
acted_passed passed m n words None since now = since
acted_passed passed m n words (Some act) since now = passed_step passed m n since now (slice_index words act.word)

-- ---- all mutators

-- those that rested before have replies to operations alone that were let pass
abbrev pub AreLetPass : (ℕ → ℕ → Type 0) → List Mutating → List Mutating → Type 0
AreLetPass passed before after = (i : ℕ) (m n : Mutating) → slice_get before i ≡ Some m → slice_get after i ≡ Some n → rests_in m.phase ≡ true → IsLetPassSince passed m n

some_same : {X : Type 0} (x y : X) → Some x ≡ Some y → x ≡ y
some_same x y e = cc

-- before the first step
pub let_pass_none : (passed : ℕ → ℕ → Type 0) (mutators : List Mutating) → AreLetPass passed mutators mutators
let_pass_none passed mutators i m n at there rests = subst (IsLetPassSince passed m) (some_same m n (sym at ∙ there)) (passed_none passed m rests)

-- in the end
pub have_passed : (passed : ℕ → ℕ → Type 0) (before after : List Mutating) → AreLetPass passed before after → HavePassed passed before after
have_passed passed before after are i m n at there rests = (are i m n at there rests).gained

-- one of them is another then
let_pass_set : (passed : ℕ → ℕ → Type 0) (before mutators : List Mutating) (number : ℕ) (n n' : Mutating) → AreLetPass passed before mutators → slice_get mutators number ≡ Some n
    → ((m : Mutating) → IsLetPassSince passed m n → IsLetPassSince passed m n') → AreLetPass passed before (slice_set mutators number n')
let_pass_set passed before mutators number n n' are at on i m x was got rests = by (nat_eq i number) refl
  where
    by : (b : Bool) → nat_eq i number ≡ b → IsLetPassSince passed m x
    by true e =
        let here : i ≡ number = grind arith in
        let both : Some n' ≡ Some x = sym (slice_get-set_same mutators number n' (slice_get_within mutators number n at)) ∙ (ap (slice_get (slice_set mutators number n')) (sym here) ∙ got) in
        subst (IsLetPassSince passed m) (some_same n' x both) (on m (are i m n was (ap (slice_get mutators) here ∙ at) rests))
    by false e =
        let other : i ≢ number = grind arith in
        are i m x was (sym (slice_get-set_other mutators number i n' other) ∙ got) rests

-- a step of the actor of a number
pub let_pass_step : (passed : ℕ → ℕ → Type 0) (before : List Mutating) (core : Core AnyActor) (number : ℕ) (a : AnyActor) → AreInOrder core.actors → slice_get core.actors number ≡ Some a
    → LetsPass passed core.actors number → AreLetPass passed before (mutators_in core.actors) → AreLetPass passed before (mutators_in (event any_machine core (Step number)).actors)
let_pass_step passed before core number (any.Mutator n) order at lets are =
    let o = any_machine.action (any.Mutator n) in
    let to : mutators_in (event any_machine core (Step number)).actors ≡ slice_set (mutators_in core.actors) number (mutator_acted core.words n o) =
    ap (λ (c : Core AnyActor). mutators_in c.actors) (event-is any_machine core (Step number) (any.Mutator n) at)
    ∙ (ap (λ (a : AnyActor). mutators_in (slice_set core.actors number a)) (acted_is core.words n o) ∙ mutators_put core.actors number n (mutator_acted core.words n o) order at) in
    subst (AreLetPass passed before) (sym to)
    (let_pass_set passed before (mutators_in core.actors) number n (mutator_acted core.words n o) are (mutator_at core.actors number n order at) (λ m since. acted_passed passed m n core.words o since (lets n at)))
let_pass_step passed before core number (any.Decrementer d) order at lets are = subst (AreLetPass passed before) (sym (helper_leaves core number d at)) are
let_pass_step passed before core number (any.Tracer d) order at lets are = subst (AreLetPass passed before) (sym (tracer_leaves core number d at)) are

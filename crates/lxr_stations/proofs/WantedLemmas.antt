-- Whether a pause is wanted, told by tests of the passes.
use Rattle.std.proofs.Common.{◌≡◌, ℕ, zero, suc, refl, sym, ap, subst, ◌∙◌, inl, inr, Bool, true, false, List, [], ◌∷◌}
use Rattle.std.specs.Prelude.{Option, Some, None, ◌↔◌, ◌||◌, ◌&&◌, ◌⊎◌, is_none, not, slice_get}
use Rattle.std.specs.List.{list_any}
use Rattle.lxr_mutator.specs.declared.phases.MutEnd.{MutEnd}
use Rattle.lxr_mutator.specs.declared.phases.MutEnd.TheVariants as ends
use Rattle.lxr_mutator.specs.declared.phases.MutatorPhase.{MutatorPhase}
use Rattle.lxr_mutator.specs.declared.phases.MutatorPhase.TheVariants as phase
use Rattle.lxr_mutator.specs.Mutating.{Mutating, rests_in, wants_pause}
use Rattle.lxr_mutator.specs.Steps.{action_in}
use Rattle.lxr_core.specs.declared.actors.AnyActor.{AnyActor}
use Rattle.lxr_core.specs.declared.actors.AnyActor.TheVariants as any
use Rattle.lxr_shared_passes.specs.Passing.{Passing}
use Rattle.lxr_stations.specs.Gathering.{actors_in}
use Rattle.lxr_stations.specs.Wanting.{AllHaveEnded, HasAsked, HasEnded, IsHeldUp, IsPauseWanted, IsUnended, is_ended, is_finished, is_unended, pass_is_unended, pass_wants, wants}

-- ---- one mutator

-- where it rests it has no further step exactly where it is finished
pub none_finished : (m : Mutating) (p : MutatorPhase) → rests_in p ≡ true → is_none (action_in m p) ≡ is_finished p
none_finished m phase.Finished rests = refl
none_finished m phase.Ready rests = refl
none_finished m p rests = absurd (cc)

pub busy_unfinished : (p : MutatorPhase) → rests_in p ≡ false → is_finished p ≡ false
busy_unfinished phase.Finished busy = absurd (cc)
busy_unfinished p busy = refl

finished_so : (p : MutatorPhase) → is_finished p ≡ true ↔ (p ≡ phase.Finished)
finished_so phase.Finished = (λ e. refl, λ e. refl)
finished_so p = (λ e. absurd (cc), λ e. absurd (cc))

ended_so : (e : Option MutEnd) → is_ended e ≡ true ↔ (e ≡ Some ends.Ended)
ended_so (Some ends.Ended) = (λ e. refl, λ e. refl)
ended_so (Some ends.NoRun) = (λ e. absurd (cc), λ e. absurd (cc))
ended_so (Some ends.LogFull) = (λ e. absurd (cc), λ e. absurd (cc))
ended_so (Some ends.Asked) = (λ e. absurd (cc), λ e. absurd (cc))
ended_so (Some ends.Turns) = (λ e. absurd (cc), λ e. absurd (cc))
ended_so (Some (ends.OpDone r)) = (λ e. absurd (cc), λ e. absurd (cc))
ended_so None = (λ e. absurd (cc), λ e. absurd (cc))

-- what tests tell together
both_so : {P Q : Type 0} (a c : Bool) → a ≡ true ↔ P → c ≡ true ↔ Q → (a && c) ≡ true ↔ (P × Q)
both_so true true p q = (λ e. (p.0 refl, q.0 refl), λ both. refl)
both_so true false p q = (λ e. absurd (cc), λ both. q.1 both.1)
both_so false c p q = (λ e. absurd (cc), λ both. p.1 both.0)

not_so : {P : Type 0} (a : Bool) → a ≡ true ↔ P → not a ≡ true ↔ (¬ P)
not_so true p = (λ e. absurd (cc), λ none. absurd (none (p.0 refl)))
not_so false p = (λ e holds. let bad : false ≡ true = p.1 holds in cc, λ none. refl)

one_so : {P Q : Type 0} (a c : Bool) → a ≡ true ↔ P → c ≡ true ↔ Q → (a || c) ≡ true ↔ (P ⊎ Q)
one_so true c p q = (λ e. inl (p.0 refl), λ one. refl)
one_so false c p q = (λ e. inr (q.0 e), λ one. elim one [ inl holds ↦ (let bad : false ≡ true = p.1 holds in absurd (cc)) | inr holds ↦ q.1 holds ])

-- nothing is told of a helper
nothing_so : (P : Type 0) → ¬ P → false ≡ true ↔ P
nothing_so P none = (λ e. absurd (cc), λ holds. absurd (none holds))

-- ---- one actor

pub held_so : (m : Mutating) → (is_finished m.phase && not (is_ended m.end)) ≡ true ↔ IsHeldUp (any.Mutator m)
held_so m = both_so (is_finished m.phase) (not (is_ended m.end)) (finished_so m.phase) (not_so (is_ended m.end) (ended_so m.end))

pub through_so : (m : Mutating) → (is_finished m.phase && is_ended m.end) ≡ true ↔ HasEnded (any.Mutator m)
through_so m = both_so (is_finished m.phase) (is_ended m.end) (finished_so m.phase) (ended_so m.end)

wants_so : (a : AnyActor) → wants a ≡ true ↔ (IsHeldUp a ⊎ HasAsked a)
wants_so (any.Mutator m) = one_so (is_finished m.phase && not (is_ended m.end)) (wants_pause m) (held_so m) (λ e. e, λ e. e)
wants_so (any.Decrementer d) = nothing_so _ (λ one. elim one [ inl held ↦ held | inr asked ↦ asked ])
wants_so (any.Tracer d) = nothing_so _ (λ one. elim one [ inl held ↦ held | inr asked ↦ asked ])

unended_so : (a : AnyActor) → is_unended a ≡ true ↔ IsUnended a
unended_so (any.Mutator m) = not_so (is_finished m.phase && is_ended m.end) (through_so m)
unended_so (any.Decrementer d) = nothing_so _ (λ x. x)
unended_so (any.Tracer d) = nothing_so _ (λ x. x)

-- ---- all actors

-- there is such an actor among those of passes
abbrev Stands : (AnyActor → Type 0) → List (Passing AnyActor) → Type 0
Stands P passes = (i : ℕ) × (a : AnyActor) × (slice_get (actors_in passes) i ≡ Some a) × P a

-- there is where some actor passes the test
some_so : (test : AnyActor → Bool) (P : AnyActor → Type 0) → ((a : AnyActor) → test a ≡ true ↔ P a) → (passes : List (Passing AnyActor))
    → list_any (λ (p : Passing AnyActor). test p.actor) passes ≡ true ↔ Stands P passes
some_so test P each [] = (λ e. absurd (cc), λ (i, a, at, holds). absurd (cc))
some_so test P each (p ∷ passes) = (forth (some_so test P each passes) (test p.actor) refl, back (some_so test P each passes))
  where
    or_right : (a c : Bool) → c ≡ true → (a || c) ≡ true
    or_right true c holds = refl
    or_right false c holds = holds

    forth : (list_any (λ (q : Passing AnyActor). test q.actor) passes ≡ true ↔ Stands P passes) → (c : Bool) → test p.actor ≡ c → (test p.actor || list_any (λ (q : Passing AnyActor). test q.actor) passes) ≡ true → Stands P (p ∷ passes)
    forth rest true e some = (0, p.actor, refl, (each p.actor).0 e)
    forth rest false e some = let (i, a, at, holds) = rest.0 (sym (ap (λ c. c || list_any (λ (q : Passing AnyActor). test q.actor) passes) e) ∙ some) in (suc i, a, at, holds)

    back : (list_any (λ (q : Passing AnyActor). test q.actor) passes ≡ true ↔ Stands P passes) → Stands P (p ∷ passes) → (test p.actor || list_any (λ (q : Passing AnyActor). test q.actor) passes) ≡ true
    back rest (zero, a, at, holds) = let same : a ≡ p.actor = cc in ap (λ c. c || list_any (λ (q : Passing AnyActor). test q.actor) passes) ((each p.actor).1 (subst P same holds))
    back rest (suc i, a, at, holds) = or_right (test p.actor) (list_any (λ (q : Passing AnyActor). test q.actor) passes) (rest.1 (i, a, at, holds))

-- so it is told whether a pause is wanted
pub wanted_so : (passes : List (Passing AnyActor)) → (list_any pass_wants passes || not (list_any pass_is_unended passes)) ≡ true ↔ IsPauseWanted (actors_in passes)
wanted_so passes = one_so (list_any pass_wants passes) (not (list_any pass_is_unended passes)) (some_so wants (λ a. IsHeldUp a ⊎ HasAsked a) wants_so passes) all
  where
    some : list_any pass_is_unended passes ≡ true ↔ Stands IsUnended passes
    some = some_so is_unended IsUnended unended_so passes

    told : not (list_any pass_is_unended passes) ≡ true ↔ (¬ Stands IsUnended passes)
    told = not_so (list_any pass_is_unended passes) some

    all : not (list_any pass_is_unended passes) ≡ true ↔ AllHaveEnded (actors_in passes)
    all = (λ e i a at unended. told.0 e (i, a, at, unended), λ ended. told.1 (λ (i, a, at, unended). ended i a at unended))

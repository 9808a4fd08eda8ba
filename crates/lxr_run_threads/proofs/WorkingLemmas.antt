-- A turn: a mutator that isn't finished has less work before it then, and a helper has made a unit.
use Rattle.std.proofs.Common.{◌≡◌, ℕ, ◌+◌, ◌≤◌, ◌⊎◌, inl, inr, Bool, true, false, List, [], ◌∷◌, ◌++◌, lt_trans, arith, refl, sym, subst, ap, ◌∙◌}
use Rattle.std.specs.Prelude.{Option, Some, None, is_none, is_some, slice_get}
use Rattle.std.proofs.lemmas.Option.{none-some}
use Rattle.lxr_actor.specs.declared.Action.{Action}
use Rattle.lxr_actor.specs.declared.Core.{Core}
use Rattle.lxr_actor.specs.declared.Event.{Event}
use Rattle.lxr_actor.specs.Run.{one_if, run, stepped}
use Rattle.lxr_decrement.specs.Decrementing.{DecrementerState}
use Rattle.lxr_trace.specs.Tracing.{TracerState}
use Rattle.lxr_core.specs.declared.actors.AnyActor.{AnyActor}
use Rattle.lxr_core.specs.declared.actors.AnyActor.TheVariants as any
use Rattle.lxr_core.specs.Actors.{any_machine}
use Rattle.lxr_core.proofs.OrderLemmas.{mutator_at}
use Rattle.lxr_shared_passes.specs.Passing.{DoesStep, GoesOn, Passing, Turned}
use Rattle.lxr_run_replay.specs.Replaying.{CanBeReplayed}
use Rattle.lxr_run_replay.specs.Working.{work}
use Rattle.lxr_run_replay.proofs.PickLemmas.{HasWorked, acted_helper, acted_mutator, acted_tracer}
use Rattle.lxr_run_threads.specs.Working.{HasServed, goes_on, is_finished, is_helper, work_of}

-- ---- steps

-- what steps make of an actor: a mutator with less work, a helper of the same kind
abbrev IsNearer : AnyActor → AnyActor → Type 0
IsNearer (any.Mutator m) b = HasWorked b m
IsNearer (any.Decrementer d) b = (e : DecrementerState) × (b ≡ any.Decrementer e)
IsNearer (any.Tracer d) b = (e : TracerState) × (b ≡ any.Tracer e)

-- from one to another and on to a third
nearer_both : (a b c : AnyActor) → IsNearer a b → IsNearer b c → IsNearer a c
nearer_both (any.Mutator m) b c first second =
    let then : HasWorked c first.after = subst (λ (x : AnyActor). IsNearer x c) first.is second in
    record { after = then.after; is = then.is; less = lt_trans then.less first.less }
nearer_both (any.Decrementer d) b c (e, is) second = subst (λ (x : AnyActor). IsNearer x c) is second
nearer_both (any.Tracer d) b c (e, is) second = subst (λ (x : AnyActor). IsNearer x c) is second

-- a step of an actor that a schedule has led to
step_nearer : (core : Core AnyActor) (schedule : List Event) (number : ℕ) (words : List ℕ) (a : AnyActor) (act : Action) → CanBeReplayed core → slice_get (run any_machine core schedule).actors number ≡ Some a
    → any_machine.action a ≡ Some act → IsNearer a (stepped any_machine words a).1
step_nearer core schedule number words (any.Mutator m) act can at does =
    acted_mutator words m (any_machine.action (any.Mutator m)) (can.mutators schedule number m (mutator_at (run any_machine core schedule).actors number m (can.order schedule) at))
    (λ none. none-some act (sym none ∙ does)) (ap is_some does)
step_nearer core schedule number words (any.Decrementer d) act can at does = acted_helper words d (any_machine.action (any.Decrementer d))
step_nearer core schedule number words (any.Tracer d) act can at does = acted_tracer words d (any_machine.action (any.Tracer d))

-- so it is with a step of a pass, whose opening can be replayed before and after
record IsStep (p q : Passing AnyActor) : Type 0 where
  nearer : IsNearer p.actor q.actor
  can : CanBeReplayed q.opening

does_nearer : (p q : Passing AnyActor) (old : ℕ) → CanBeReplayed p.opening → DoesStep any_machine p old q → IsStep p q
does_nearer p q old can (act, others, does, old_is, came) = record {
  nearer = subst (λ (r : Passing AnyActor). IsNearer p.actor r.actor) (sym came.2) (step_nearer p.opening (p.seen ++ others) p.number (run any_machine p.opening (p.seen ++ others)).words p.actor act can came.1 does);
  can = subst (λ (r : Passing AnyActor). CanBeReplayed r.opening) (sym came.2) can;
}

-- and with the further steps of a unit
goes_nearer : (a : AnyActor) (olds : List ℕ) (p q : Passing AnyActor) → IsNearer a p.actor → CanBeReplayed p.opening → GoesOn any_machine p olds q → IsNearer a q.actor
goes_nearer a [] p q near can is = subst (λ (r : Passing AnyActor). IsNearer a r.actor) (sym is) near
goes_nearer a (old ∷ olds) p q near can (busy, more) =
    let (r, does, rest) = more in
    let s = does_nearer p r old can does in
    goes_nearer a olds r q (nearer_both a p.actor r.actor near s.nearer) s.can rest

-- a turn makes no step of a finished actor, and else a unit
turn_nearer : (olds : List ℕ) (p q : Passing AnyActor) → CanBeReplayed p.opening → Turned any_machine p olds q → ((any_machine.action p.actor ≡ None) × (q.actor ≡ p.actor)) ⊎ IsNearer p.actor q.actor
turn_nearer [] p q can (none, is) = inl (none, ap (λ (r : Passing AnyActor). r.actor) is)
turn_nearer (old ∷ olds) p q can (r, does, rest, rests) =
    let s = does_nearer p r old can does in
    inr (goes_nearer p.actor olds r q s.nearer s.can rest)

-- ---- what a turn leaves

one_if_few : (b : Bool) → one_if b ≤ 1
one_if_few true = omega arith
one_if_few false = omega arith

-- less is left, by what a turn has made of an actor that wasn't finished
less_left : (a b : AnyActor) → is_finished a ≡ false → ((any_machine.action a ≡ None) × (b ≡ a)) ⊎ IsNearer a b → work_of b + one_if (goes_on b) ≤ work_of a
less_left (any.Mutator m) b going (inl (none, same)) = absurd (let no : is_none (any_machine.action (any.Mutator m)) ≡ true = ap is_none none in cc)
less_left (any.Mutator m) b going (inr has) =
    let few = one_if_few (goes_on (any.Mutator has.after)) in
    let less = has.less in
    let out : work has.after + one_if (goes_on (any.Mutator has.after)) ≤ work m = omega arith in
    subst (λ (x : AnyActor). work_of x + one_if (goes_on x) ≤ work m) (sym has.is) out
less_left (any.Decrementer d) b going (inl (none, same)) = subst (λ (x : AnyActor). work_of x + one_if (goes_on x) ≤ 0) (sym same) (omega arith)
less_left (any.Decrementer d) b going (inr (e, is)) = subst (λ (x : AnyActor). work_of x + one_if (goes_on x) ≤ 0) (sym is) (omega arith)
less_left (any.Tracer d) b going (inl (none, same)) = subst (λ (x : AnyActor). work_of x + one_if (goes_on x) ≤ 0) (sym same) (omega arith)
less_left (any.Tracer d) b going (inr (e, is)) = subst (λ (x : AnyActor). work_of x + one_if (goes_on x) ≤ 0) (sym is) (omega arith)

-- a turn of an actor that wasn't finished leaves less
pub turn_leaves : (olds : List ℕ) (p q : Passing AnyActor) → CanBeReplayed p.opening → Turned any_machine p olds q → is_finished p.actor ≡ false → work_of q.actor + one_if (goes_on q.actor) ≤ work_of p.actor
turn_leaves olds p q can turned going = less_left p.actor q.actor going (turn_nearer olds p q can turned)

-- a finished actor doesn't go on
finished_stays : (a : AnyActor) → is_finished a ≡ true → goes_on a ≡ false
finished_stays (any.Mutator m) done = some_none (any_machine.action (any.Mutator m)) done
  where
    some_none : {X : Type 0} (o : Option X) → is_none o ≡ true → is_some o ≡ false
    some_none None e = refl
    some_none (Some x) e = absurd (cc)
finished_stays (any.Decrementer d) done = absurd (cc)
finished_stays (any.Tracer d) done = absurd (cc)

-- and has no step
finished_rests : (a : AnyActor) (act : Action) → is_finished a ≡ true → any_machine.action a ≡ Some act → true ≡ false
finished_rests (any.Mutator m) act done does = sym done ∙ ap is_none does
finished_rests (any.Decrementer d) act done does = absurd (cc)
finished_rests (any.Tracer d) act done does = absurd (cc)

finished_leaves : (olds : List ℕ) (p q : Passing AnyActor) → is_finished p.actor ≡ true → Turned any_machine p olds q → work_of q.actor + one_if (goes_on q.actor) ≤ work_of p.actor
finished_leaves [] p q done (none, same) =
    let stays : goes_on p.actor ≡ false = finished_stays p.actor done in
    subst (λ (r : Passing AnyActor). work_of r.actor + one_if (goes_on r.actor) ≤ work_of p.actor) (sym same)
    (subst (λ (b : Bool). work_of p.actor + one_if b ≤ work_of p.actor) (sym stays) (omega arith))
finished_leaves (old ∷ olds) p q done (r, does, rest, rests) = let both = finished_rests p.actor does.0 done does.2 in absurd (cc)

-- and so does one of a finished mutator, which stays as it is
pub any_turn_leaves : (olds : List ℕ) (p q : Passing AnyActor) → CanBeReplayed p.opening → Turned any_machine p olds q → work_of q.actor + one_if (goes_on q.actor) ≤ work_of p.actor
any_turn_leaves olds p q can turned = by (is_finished p.actor) refl
  where
    by : (b : Bool) → is_finished p.actor ≡ b → work_of q.actor + one_if (goes_on q.actor) ≤ work_of p.actor
    by false going = turn_leaves olds p q can turned going
    by true done = finished_leaves olds p q done turned

-- a turn makes no helper of a mutator, and no mutator of a helper
kind_left : (a b : AnyActor) → ((any_machine.action a ≡ None) × (b ≡ a)) ⊎ IsNearer a b → is_helper b ≡ is_helper a
kind_left a b (inl (none, same)) = ap is_helper same
kind_left (any.Mutator m) b (inr has) = ap is_helper has.is
kind_left (any.Decrementer d) b (inr (e, is)) = ap is_helper is
kind_left (any.Tracer d) b (inr (e, is)) = ap is_helper is

pub turn_kind : (olds : List ℕ) (p q : Passing AnyActor) → CanBeReplayed p.opening → Turned any_machine p olds q → is_helper q.actor ≡ is_helper p.actor
turn_kind olds p q can turned = kind_left p.actor q.actor (turn_nearer olds p q can turned)

-- a mutator that doesn't go on has no next action
none_of : {X : Type 0} (o : Option X) → is_some o ≡ false → o ≡ None
none_of None stops = refl
none_of (Some x) stops = absurd (cc)

pub stopped_served : (a : AnyActor) → is_helper a ≡ false → goes_on a ≡ false → HasServed a
stopped_served (any.Mutator m) is stops = none_of (any_machine.action (any.Mutator m)) stops
stopped_served (any.Decrementer d) is stops = absurd (cc)
stopped_served (any.Tracer d) is stops = absurd (cc)

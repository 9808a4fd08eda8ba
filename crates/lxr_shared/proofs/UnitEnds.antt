-- A unit that has come to rest has told how it ended, since each step that leads to rest tells it; and a mutator's end says whether it goes on.
use Rattle.std.proofs.Common.{◌≡◌, ◌∙◌, ℕ, List, [], ◌∷◌, ◌++◌, ◌+◌, Bool, true, false, Option, Some, None, refl, sym, ap, subst}
use Rattle.std.specs.Prelude.{IsSome, if◌then◌else◌, is_some, nat_le, option_map, slice_index}
use Rattle.lxr_layout.specs.declared.Place.{Place}
use Rattle.lxr_base.specs.Roomy.{pushed}
use Rattle.lxr_graph.specs.declared.Op.{Op}
use Rattle.lxr_graph.specs.declared.Reply.{Reply}
use Rattle.lxr_actor.specs.declared.Action.{Action}
use Rattle.lxr_actor.specs.Run.{acted, run, stepped}
use Rattle.lxr_mutator.specs.declared.phases.MutEnd.TheVariants as ends
use Rattle.lxr_mutator.specs.declared.phases.MutEnd.{MutEnd}
use Rattle.lxr_mutator.specs.declared.phases.Stop.TheVariants as stop
use Rattle.lxr_mutator.specs.declared.phases.MutatorPhase.{MutatorPhase}
use Rattle.lxr_mutator.specs.declared.phases.MutatorPhase.TheVariants as phase
use Rattle.lxr_mutator.specs.Mutating.{Mutating, rests_in as mut_rests_in}
use Rattle.lxr_mutator.specs.Orders.{ordered_if, takes_order, with_order}
use Rattle.lxr_mutator.specs.Steps as mutator
use Rattle.lxr_mutator.specs.Laws.{StepsByRule}
use Rattle.lxr_mutator.specs.Laws.StepsByRule.{does_one, finds_asked, finds_end, gave_up, goes_on, stands_still}
use Rattle.lxr_mutator.proofs.StepLemmas.{step_by_rule}
use Rattle.lxr_helper.specs.Helpers as helper
use Rattle.lxr_helper.proofs.HelperLemmas as lemma
use Rattle.lxr_decrement.specs.declared.phases.DecEnd.{DecEnd}
use Rattle.lxr_decrement.specs.Decrementing.{DecrementerState}
use Rattle.lxr_decrement.specs.Steps.{decrementer_work}
use Rattle.lxr_decrement.specs.Lawful.{decrementer_lawful}
use Rattle.lxr_trace.specs.declared.phases.TraceEnd.{TraceEnd}
use Rattle.lxr_trace.specs.Tracing.{TracerState}
use Rattle.lxr_trace.specs.Steps.{tracer_work}
use Rattle.lxr_trace.specs.Lawful.{tracer_lawful}
use Rattle.lxr_shared_passes.specs.Passing.{Passing, DoesStep, GoesOn, Turned}
use Rattle.lxr_core.specs.declared.actors.AnyActor.{AnyActor}
use Rattle.lxr_core.specs.declared.actors.AnyActor.TheVariants as any
use Rattle.lxr_core.specs.Actors.{any_machine}
use Rattle.lxr_shared.specs.declared.turns.Turn.TheVariants as turn
use Rattle.lxr_shared.specs.Ends.{GoesOnByEnd, IsBetweenUnits, KnowsEnd, end_of}

-- ---- mutators

-- a mutator's unit ended so, and there is a further one behind it where its operation was done and wasn't the last
record HasEnded (m : Mutating) : Type 0 where
  how : MutEnd
  end : m.end ≡ Some how
  further : GoesOnByEnd (any.Mutator m)

-- if it rests, its unit has ended so
record MutTells (m : Mutating) : Type 0 where
  told : mut_rests_in m.phase ≡ true → HasEnded m

through : (m : Mutating) → HasEnded m → MutTells m
through m has = record { told = λ e. has }

busy : (m : Mutating) → mut_rests_in m.phase ≡ false → MutTells m
busy m e = record { told = λ r. absurd (cc) }

-- an operation is done, the last one in this epoch or not
done_either : (m : Mutating) (r : Reply) (last : Bool) → HasEnded (record m { phase = if last then phase.Finished else phase.Ready; end = Some (if last then ends.Turns else ends.OpDone r) })
done_either m r true = record { how = ends.Turns; end = refl; further = refl }
done_either m r false = record { how = ends.OpDone r; end = refl; further = refl }

done : (m : Mutating) (r : Reply) → MutTells (mutator.done_with m r)
done m r = through (mutator.done_with m r) (done_either (record m { replies = pushed m.replies r; since = m.since + 1 }) r (nat_le m.every (m.since + 1)))

-- each step tells it that leads to rest
mut_after : (m : Mutating) (old : ℕ) (to : Mutating) → IsSome (mutator.action m) → StepsByRule m old to → MutTells to
mut_after m old to acts (goes_on log registers spans p still) = busy (record m { log = log; registers = registers; spans = spans; phase = p }) still
mut_after m old to acts (finds_asked ready is) = through (mutator.finished m ends.Asked) (record { how = ends.Asked; end = refl; further = refl })
mut_after m old to acts (finds_end ready unasked is) = through (mutator.ended m) (record { how = ends.Ended; end = refl; further = refl })
mut_after m old to acts (gave_up stop.NoRun is) = through (mutator.finished m ends.NoRun) (record { how = ends.NoRun; end = refl; further = refl })
mut_after m old to acts (gave_up stop.LogFull is) = through (mutator.finished m ends.LogFull) (record { how = ends.LogFull; end = refl; further = refl })
mut_after m old to acts (does_one log registers r) = done (record m { log = log; registers = registers }) r
mut_after m old to acts (stands_still is) = absurd (let some : IsSome (mutator.action_in m phase.Finished) = subst (λ (p : MutatorPhase). IsSome (mutator.action_in m p)) is acts in cc)

-- ---- actors

some_mapped : {X Y : Type 0} (f : X → Y) (o : Option X) → IsSome o → IsSome (option_map f o)
some_mapped f None some = absurd (cc)
some_mapped f (Some x) some = refl

-- behind a unit it is told how that ended
pub record HasTold (a : AnyActor) : Type 0 where
  pub some : IsSome (end_of a)
  pub further : GoesOnByEnd a

-- a step that leads to rest tells it
after_tells : (a : AnyActor) (old : ℕ) → IsSome (any_machine.action a) → any_machine.rests (any_machine.after a old) ≡ true → HasTold (any_machine.after a old)
after_tells (any.Mutator m) old acts rests =
    let has = (mut_after m old (mutator.after m old) acts (step_by_rule m old)).told rests in
    record { some = some_mapped turn.Mutator (mutator.after m old).end (ap is_some has.end); further = has.further }
after_tells (any.Decrementer d) old acts rests = record { some = some_mapped turn.Decrementer (helper.after decrementer_work d old).end (lemma.after_tells decrementer_work decrementer_lawful d old rests); further = record {} }
after_tells (any.Tracer t) old acts rests = record { some = some_mapped turn.Tracer (helper.after tracer_work t old).end (lemma.after_tells tracer_work tracer_lawful t old rests); further = record {} }

pub dec_knows : (d : DecrementerState) → KnowsEnd (any.Decrementer d)
dec_knows d none = ap (λ (e : Option DecEnd). is_some (option_map turn.Decrementer e)) (((lemma.finished_by_rule decrementer_work decrementer_lawful).finished d).0 none).found_nothing

pub trace_knows : (t : TracerState) → KnowsEnd (any.Tracer t)
trace_knows t none = ap (λ (e : Option TraceEnd). is_some (option_map turn.Tracer e)) (((lemma.finished_by_rule tracer_work tracer_lawful).finished t).0 none).found_nothing

-- who makes no step once it has an order made none before
no_action_in : (m : Mutating) (o : Op) (p : MutatorPhase) → mutator.action_in (with_order m o) p ≡ None → mutator.action_in m p ≡ None
no_action_in m o phase.Finished h = refl
no_action_in m o (phase.Storing s) h = h
no_action_in m o p h = absurd (cc)

ordered_mutator : (m : Mutating) (o : Op) (c : Bool) → IsBetweenUnits (any.Mutator m) → IsBetweenUnits (any.Mutator (ordered_if m o c).0)
ordered_mutator m o true is = record { rests = is.rests; ended = λ none. is.ended (no_action_in m o m.phase none) }
ordered_mutator m o false is = is

-- an operation is ordered
pub ordered_between : (a : AnyActor) (o : Op) → IsBetweenUnits a → IsBetweenUnits (any_machine.ordered a o).0
ordered_between (any.Mutator m) o is = ordered_mutator m o (takes_order m o) is
ordered_between (any.Decrementer d) o is = is
ordered_between (any.Tracer t) o is = is

-- a place is offered
pub offered_between : (a : AnyActor) (place : Place) → IsBetweenUnits a → IsBetweenUnits (any_machine.offered a place).0
offered_between (any.Mutator m) place is = is
offered_between (any.Decrementer d) place is = record { rests = lemma.offered_rests decrementer_work d place ∙ is.rests; ended = dec_knows (helper.offered decrementer_work d place).0 }
offered_between (any.Tracer t) place is = record { rests = lemma.offered_rests tracer_work t place ∙ is.rests; ended = trace_knows (helper.offered tracer_work t place).0 }

-- one is given up
pub spared_between : (a : AnyActor) → IsBetweenUnits a → IsBetweenUnits (any_machine.spared a).0
spared_between (any.Mutator m) is = is
spared_between (any.Decrementer d) is = record { rests = is.rests; ended = dec_knows (helper.spared decrementer_work d).0 }
spared_between (any.Tracer t) is = record { rests = is.rests; ended = trace_knows (helper.spared tracer_work t).0 }

-- ---- units

-- after its next action an actor is as the action leaves it
pub acted_actor : (words : List ℕ) (a : AnyActor) (act : Action) → any_machine.action a ≡ Some act → (stepped any_machine words a).1 ≡ any_machine.after a (slice_index words act.word)
acted_actor words a act is = ap (λ (o : Option Action). (acted any_machine words a o).1) is

-- a step of a pass that leads to rest tells how the unit ended
step_tells : (p q : Passing AnyActor) (old : ℕ) → DoesStep any_machine p old q → any_machine.rests q.actor ≡ true → HasTold q.actor
step_tells p q old d rests =
    let words = (run any_machine p.opening (p.seen ++ d.1)).words in
    let after : q.actor ≡ any_machine.after p.actor (slice_index words d.0.word) = ap (λ (r : Passing AnyActor). r.actor) d.4.2 ∙ acted_actor words p.actor d.0 d.2 in
    let acts : IsSome (any_machine.action p.actor) = ap (λ (o : Option Action). is_some o) d.2 in
    subst (λ (a : AnyActor). any_machine.rests a ≡ true → HasTold a) (sym after) (after_tells p.actor (slice_index words d.0.word) acts) rests

goes_tells : (olds : List ℕ) (p q : Passing AnyActor) → GoesOn any_machine p olds q → (any_machine.rests p.actor ≡ true → HasTold p.actor) → any_machine.rests q.actor ≡ true → HasTold q.actor
goes_tells [] p q t tells rests = subst (λ (r : Passing AnyActor). any_machine.rests r.actor ≡ true → HasTold r.actor) (sym t) tells rests
goes_tells (old ∷ olds) p q t tells rests = goes_tells olds t.1.0 q t.1.2 (step_tells p t.1.0 old t.1.1) rests

-- After a turn an actor is between two units, and knows how the last one ended.
pub turn_ends : (olds : List ℕ) (p q : Passing AnyActor) → IsBetweenUnits p.actor → Turned any_machine p olds q → (any_machine.rests q.actor ≡ true) × IsSome (end_of q.actor)
turn_ends [] p q is t = subst (λ (r : Passing AnyActor). (any_machine.rests r.actor ≡ true) × IsSome (end_of r.actor)) (sym t.1) (is.rests, is.ended t.0)
turn_ends (old ∷ olds) p q is t = (t.3, (goes_tells olds t.0 q t.2 (step_tells p t.0 old t.1) t.3).some)

-- and where it wasn't finished, that end says whether it has a further one
pub turn_tells : (olds : List ℕ) (p q : Passing AnyActor) → IsSome (any_machine.action p.actor) → Turned any_machine p olds q → GoesOnByEnd q.actor
turn_tells [] p q acts t = absurd (let none : is_some (any_machine.action p.actor) ≡ false = ap is_some t.0 in cc)
turn_tells (old ∷ olds) p q acts t = (goes_tells olds t.0 q t.2 (step_tells p t.0 old t.1) t.3).further

-- so it is between two units
pub turn_between : (a : AnyActor) → any_machine.rests a ≡ true → IsSome (end_of a) → IsBetweenUnits a
turn_between a rests some = record { rests = rests; ended = λ none. some }

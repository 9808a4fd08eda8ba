-- Whether all threads have ended after an epoch, what its pause is asked for then, and how much is left.
use Rattle.std.proofs.Common.{◌≡◌, ℕ, zero, suc, ◌≤◌, ◌⊎◌, refl, sym, ap, subst, ◌∙◌, inl, inr, ⊎_elim, arith, Bool, true, false, ◌↔◌, ◌&&◌, ◌||◌, IsTrue, List, [], ◌∷◌}
use Rattle.std.specs.Prelude.{Option, Some, None, nat_eq, slice_get}
use Rattle.std.specs.List.{All, list_any}
use Rattle.std.proofs.lemmas.Bool.{eqb-true}
use Rattle.std.proofs.lemmas.List.Elements.{All-nil, All-cons, All-head, All-tail}
use Rattle.lxr_graph.specs.History.{Item}
use Rattle.lxr_image.specs.declared.space.Space.{Space}
use Rattle.lxr_invariant.specs.AbstractState.{AbstractState}
use Rattle.lxr_model.specs.Kinds.{MustCollect}
use Rattle.lxr_one_pause.specs.declared.Ask.{Ask}
use Rattle.lxr_one_pause.specs.declared.Ask.TheVariants as ask
use Rattle.lxr_one_pause.specs.declared.Pace.{Pace}
use Rattle.lxr_sights.specs.Sights.{Sight}
use Rattle.lxr_mutator.specs.declared.phases.MutEnd.{MutEnd}
use Rattle.lxr_mutator.specs.declared.phases.MutEnd.TheVariants as ends
use Rattle.lxr_mutator.specs.Mutating.{Mutating, has_collected}
use Rattle.lxr_core.specs.declared.actors.AnyActor.{AnyActor}
use Rattle.lxr_core.specs.declared.actors.AnyActor.TheVariants as any
use Rattle.lxr_core.specs.Actors.{mutators_in, script_of}
use Rattle.lxr_rounds_invariant.specs.LoopInvariant.{HasMore, HasRunEpoch, HaveActors, HaveEnded, HaveMutators, IsAskedWhereDue, Task, asked_by, done_of, left_of, pace_of, terms_of}
use Rattle.lxr_rounds_invariant.proofs.ActorLemmas.{are_within, done_and_left, ends_are_all, ends_are_fewer, steps_of}
use Rattle.lxr_rounds_invariant.proofs.KindLemmas.{asked_right}
use Rattle.lxr_rounds.specs.Following.{asked_for}
use Rattle.lxr_rounds.specs.Pausing.{HasComeToPause}
use Rattle.lxr_rounds.specs.Ending.{HasEnded, NoneGoesOn, actor_collected}

-- ---- whether all have ended

-- it can be told whether a thread has
ended_or_not : (e : Option MutEnd) → (e ≡ Some ends.Ended) ⊎ ¬ (e ≡ Some ends.Ended)
ended_or_not (Some ends.Ended) = inl refl
ended_or_not None = inr (λ e. cc)
ended_or_not (Some (ends.OpDone r)) = inr (λ e. cc)
ended_or_not (Some ends.Turns) = inr (λ e. cc)
ended_or_not (Some ends.NoRun) = inr (λ e. cc)
ended_or_not (Some ends.LogFull) = inr (λ e. cc)
ended_or_not (Some ends.Asked) = inr (λ e. cc)

-- where not all have, some thread hasn't
pub some_has_not : (actors : List AnyActor) → ¬ All NoneGoesOn actors → (i : ℕ) × (m : Mutating) × (slice_get (mutators_in actors) i ≡ Some m) × ¬ HasEnded m
some_has_not [] not_all = absurd (not_all (All-nil NoneGoesOn))
some_has_not (any.Mutator m ∷ actors) not_all =
    ⊎_elim
    (λ here.
    let (i, n, at, unended) = some_has_not actors (λ rest. not_all (All-cons NoneGoesOn (any.Mutator m) actors here rest)) in
    (suc i, n, at, unended))
    (λ unended. (0, m, refl, unended))
    (ended_or_not m.end)
some_has_not (any.Decrementer d ∷ actors) not_all = some_has_not actors (λ rest. not_all (All-cons NoneGoesOn (any.Decrementer d) actors tt rest))
some_has_not (any.Tracer d ∷ actors) not_all = some_has_not actors (λ rest. not_all (All-cons NoneGoesOn (any.Tracer d) actors tt rest))

-- so there is more to do
pub has_more : (actors : List AnyActor) → ¬ All NoneGoesOn actors → HasMore (mutators_in actors)
has_more actors not_all =
    let (i, m, at, unended) = some_has_not actors not_all in
    (i, m, at, λ through. unended through.1)

-- where all have, each thread has
each_has : (actors : List AnyActor) → All NoneGoesOn actors → (i : ℕ) (m : Mutating) → slice_get (mutators_in actors) i ≡ Some m → HasEnded m
each_has [] all i m at = absurd (cc)
each_has (any.Mutator x ∷ actors) all zero m at =
    let is : x ≡ m = cc in
    subst HasEnded is (All-head NoneGoesOn (any.Mutator x) actors all)
each_has (any.Mutator x ∷ actors) all (suc i) m at = each_has actors (All-tail NoneGoesOn (any.Mutator x) actors all) i m at
each_has (any.Decrementer d ∷ actors) all i m at = each_has actors (All-tail NoneGoesOn (any.Decrementer d) actors all) i m at
each_has (any.Tracer d ∷ actors) all i m at = each_has actors (All-tail NoneGoesOn (any.Tracer d) actors all) i m at

-- and all are through
pub have_all_ended : (task : Task) (h : List Item) (actors : List AnyActor) → HaveActors task h actors → All NoneGoesOn actors → HaveEnded (mutators_in actors)
have_all_ended task h actors have all = λ i m at.
    let rests = have.mutators.rest.each i m at in
    let many = rests.ended (each_has actors all i m at) in
    ⊎_elim (λ through. through) (λ few. absurd (omega arith)) rests.mutator.sound.replies

-- what a test told
pub not_told : {P : Type 0} (b : Bool) → (IsTrue b ↔ P) → b ≡ false → ¬ P
not_told b means e p = let t : b ≡ true = means.1 p in let both : true ≡ false = sym t ∙ e in cc

-- the mutators among the actors tell whether `collect` was called
collected_among : (actors : List AnyActor) → list_any actor_collected actors ≡ list_any has_collected (mutators_in actors)
collected_among [] = refl
collected_among (any.Mutator m ∷ actors) = ap (λ b. has_collected m || b) (collected_among actors)
collected_among (any.Decrementer d ∷ actors) = collected_among actors
collected_among (any.Tracer d ∷ actors) = collected_among actors

-- the pause after an epoch is asked to collect exactly where it must
pub asks_right : (task : Task) (space : Space) (seen : Option (List Sight)) (before actors : List AnyActor) (h : List Item) (g : AbstractState) (ended collects begins : Bool) (asked : Ask)
    → HasRunEpoch task space seen before actors h g → (IsTrue ended ↔ All NoneGoesOn actors) → collects ≡ (ended || list_any actor_collected actors) → asked ≡ asked_by collects begins
    → (asked ≡ ask.Collect) ↔ MustCollect (terms_of task) h
asks_right task space seen before actors h g ended collects begins asked ran means shall is =
    subst (λ a. (a ≡ ask.Collect) ↔ MustCollect (terms_of task) h) (sym (is ∙ ap (λ c. asked_by c begins) shall))
    (subst (λ b. (asked_by (ended || b) begins ≡ ask.Collect) ↔ MustCollect (terms_of task) h) (sym (collected_among actors))
    (asked_right (terms_of task) h ended (list_any has_collected (mutators_in actors))
    (λ e. ends_are_all task h (mutators_in actors) ran.come.history.0 ran.actors_rest.mutators (have_all_ended task h actors ran.actors_rest (means.0 e)))
    (λ e. ends_are_fewer task h (mutators_in actors) ran.come.history.0 ran.actors_rest.mutators (has_more actors (not_told ended means e)))
    ran.collects begins))

-- it is asked to begin a trace only where the plan leaves that free
pub traces_right : (task : Task) (begins collects : Bool) (asked : Ask) → asked ≡ asked_for task begins collects → asked ≡ ask.Trace → task.plan.trace ≡ 0
traces_right task begins collects asked is traces = eqb-true task.plan.trace 0 (free collects (begins && nat_eq task.plan.trace 0) (sym is ∙ traces) begins (nat_eq task.plan.trace 0) refl)
  where
    free : (collects b : Bool) → asked_by collects b ≡ ask.Trace → (begins none : Bool) → b ≡ (begins && none) → none ≡ true
    free true b e begins none is = absurd (cc)
    free false true e true true is = refl
    free false true e true false is = absurd (cc)
    free false true e false none is = absurd (cc)
    free false false e begins none is = absurd (cc)

-- and it is due
pub comes : (task : Task) (space : Space) (seen : Option (List Sight)) (before actors : List AnyActor) (h : List Item) (g : AbstractState) (pace : Pace) (asked : Ask)
    → pace_of task.plan ≡ pace → HasRunEpoch task space seen before actors h g → IsAskedWhereDue task h asked
    → HasComeToPause asked pace task space seen h g
comes task space seen before actors h g pace asked paced ran right = record { come = ran.come; due = ran.due; right = inl right; paced = paced }

-- ---- what is left

pub left_no_more : (task : Task) (h h' : List Item) (before after : List Mutating) → HaveMutators task h before → HaveMutators task h' after → done_of before ≤ done_of after → left_of after ≤ left_of before
left_no_more task h h' before after have have' grows =
    let e = done_and_left before (are_within task h before have) in
    let e' = done_and_left after (are_within task h' after have') in
    let same : steps_of (script_of before) ≡ steps_of (script_of after) = ap steps_of (have.script ∙ sym have'.script) in
    omega arith

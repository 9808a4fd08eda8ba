-- The calls of a replay: each step records the one that it brings into the history, in room that falls with it; those that finish units bring none.
use Rattle.std.proofs.Common.{◌≡◌, ℕ, zero, suc, ◌+◌, ◌-◌, ◌≤◌, Bool, true, false, List, [], ◌∷◌, ◌++◌, append_assoc, append-nil, length, length-append, map, nat_lt, arith, refl, sym, subst, ap, ap₂, ◌∙◌}
use Rattle.std.specs.Prelude.{Option, Some, None, IsSome, if◌then◌else◌, slice_get, slice_index, slice_set}
use Rattle.lxr_base.specs.Roomy.{Roomy}
use Rattle.lxr_graph.specs.History.{Call}
use Rattle.lxr_graph.specs.Order.{order_of}
use Rattle.lxr_base.specs.Draws.{step}
use Rattle.lxr_graph.specs.Step.{step as stepped_state}
use Rattle.lxr_graph.specs.declared.Item.{Item}
use Rattle.lxr_graph.specs.declared.Item.TheVariants as item
use Rattle.lxr_actor.specs.declared.Action.{Action}
use Rattle.lxr_actor.specs.declared.Core.{Core}
use Rattle.lxr_actor.specs.declared.Event.TheVariants.{Step}
use Rattle.lxr_actor.specs.Run.{acted, event, happened, one_if, run, stepped}
use Rattle.lxr_actor.proofs.Runs.{event-is}
use Rattle.lxr_barrier.specs.declared.machines.StorePhase.{StorePhase}
use Rattle.lxr_barrier.specs.declared.machines.StorePhase.TheVariants as store_phase
use Rattle.lxr_barrier.specs.Storing.{Storing, action_in as store_action_in, end_in}
use Rattle.lxr_mutator.specs.declared.phases.MutatorPhase.{MutatorPhase}
use Rattle.lxr_mutator.specs.declared.phases.MutatorPhase.TheVariants as phase
use Rattle.lxr_mutator.specs.Mutating.{Mutating, op_now, placed_count, placed_in, rests_in}
use Rattle.lxr_mutator.specs.Mutators.{IsMutator, MayBeIn}
use Rattle.lxr_mutator.specs.Steps.{action, action_in, mutator_machine}
use Rattle.lxr_mutator.proofs.StayLemmas.{stay_so}
use Rattle.lxr_core_invariant.specs.EpochStates.{Beginning, moment_of}
use Rattle.lxr_core_sim_mutator.specs.Stepping.{stands_in}
use Rattle.lxr_core.specs.declared.actors.AnyActor.{AnyActor}
use Rattle.lxr_core.specs.declared.actors.AnyActor.TheVariants as any
use Rattle.lxr_core.specs.Actors.{any_machine, mutators_in}
use Rattle.lxr_core.specs.Closing.{AreFinished}
use Rattle.lxr_core.specs.Executions.{Execution, after_step, epoch_state_of, tell, tell_all}
use Rattle.lxr_core.proofs.OrderLemmas.{mutator_at}
use Rattle.lxr_run_replay.specs.Replaying.{CanBeReplayed, IsPicked, some_act}
use Rattle.lxr_run_replay.specs.Finishing.{StepsOfFirst}
use Rattle.lxr_run_replay.specs.Recording.{AreCallsOf, HasRoom, IsSound, all_left, call_at, call_by, call_if, calls_in, calls_since, left_to_place, placed_by, recorded}
use Rattle.lxr_run_replay.proofs.GateLemmas.{acted_is, mutator_acted}
use Rattle.lxr_run_replay.proofs.PickLemmas.{acted_helper, acted_tracer}
use Rattle.lxr_run_replay.proofs.PlacingLemmas.{Places, none_more, step_places}
use Rattle.lxr_run_replay.proofs.FinishLemmas.{busy_leaves}
use Rattle.lxr_run_replay.proofs.ReplayLemmas.{IsUnderWay, begins, can_go_on, goes_on}

-- ---- what comes into the history

-- by a step of an actor, if there is one
step_told : (b : Beginning) (execution : Execution) (o : Option AnyActor) → order_of (after_step b execution o).0 ≡ order_of execution.history ++ call_if execution.core.words o
step_told b execution None = sym (append-nil (order_of execution.history))
step_told b execution (Some (any.Mutator m)) = by (stands_in m.phase m (stepped mutator_machine execution.core.words m).1)
  where
    by : (stands : Bool)
        → order_of (if stands then Call m.thread (op_now m) (stepped_state (moment_of b (epoch_state_of b execution [])).state m.thread (op_now m)).1 ∷ execution.history else execution.history)
        ≡ order_of execution.history ++ (if stands then item.Call m.thread ∷ [] else [])
    by true = refl
    by false = sym (append-nil (order_of execution.history))
step_told b execution (Some (any.Decrementer d)) = sym (append-nil (order_of execution.history))
step_told b execution (Some (any.Tracer d)) = sym (append-nil (order_of execution.history))

-- by steps, one after another
pub calls_told : (core : Core AnyActor) (numbers : List ℕ) → AreCallsOf core (map Step numbers) (calls_in core numbers)
calls_told core [] b execution is = sym (append-nil (order_of execution.history))
calls_told core (number ∷ numbers) b execution is =
    calls_told (event any_machine core (Step number)) numbers b (tell b execution (Step number)) (ap (λ (c : Core AnyActor). event any_machine c (Step number)) is)
    ∙ ap (λ xs. xs ++ calls_in (event any_machine core (Step number)) numbers)
    (step_told b execution (slice_get execution.core.actors number) ∙ ap (λ (c : Core AnyActor). order_of execution.history ++ call_at c number) is)
    ∙ append_assoc (order_of execution.history) (call_at core number) (calls_in (event any_machine core (Step number)) numbers)

-- one step more, and more steps
pub calls_snoc : (core : Core AnyActor) (numbers : List ℕ) (number : ℕ) → calls_in core (numbers ++ number ∷ []) ≡ calls_in core numbers ++ call_at (run any_machine core (map Step numbers)) number
calls_snoc core [] number = append-nil (call_at core number)
calls_snoc core (k ∷ ks) number =
    ap (λ xs. call_at core k ++ xs) (calls_snoc (event any_machine core (Step k)) ks number)
    ∙ sym (append_assoc (call_at core k) (calls_in (event any_machine core (Step k)) ks) (call_at (run any_machine (event any_machine core (Step k)) (map Step ks)) number))

calls_both : (core : Core AnyActor) (xs ys : List ℕ) → calls_in core (xs ++ ys) ≡ calls_in core xs ++ calls_in (run any_machine core (map Step xs)) ys
calls_both core [] ys = refl
calls_both core (x ∷ xs) ys =
    ap (λ zs. call_at core x ++ zs) (calls_both (event any_machine core (Step x)) xs ys)
    ∙ sym (append_assoc (call_at core x) (calls_in (event any_machine core (Step x)) xs) (calls_in (run any_machine (event any_machine core (Step x)) (map Step xs)) ys))

-- who is busy where all mutators are through is a helper, and brings none
busy_brings_none : (core : Core AnyActor) (number : ℕ) (a : AnyActor) → CanBeReplayed core → AreFinished (mutators_in core.actors) → slice_get core.actors number ≡ Some a → any_machine.rests a ≡ false → call_by core.words a ≡ []
busy_brings_none core number (any.Mutator m) can finished at busy =
    let rests : rests_in m.phase ≡ true = ap rests_in (finished number m (mutator_at core.actors number m (can.order []) at)) in
    absurd (cc)
busy_brings_none core number (any.Decrementer d) can finished at busy = refl
busy_brings_none core number (any.Tracer d) can finished at busy = refl

-- so the steps that finish units bring none
finishing_brings_none : (core : Core AnyActor) (numbers : List ℕ) → CanBeReplayed core → AreFinished (mutators_in core.actors) → StepsOfFirst core numbers → calls_in core numbers ≡ []
finishing_brings_none core [] can finished firsts = refl
finishing_brings_none core (k ∷ ks) can finished firsts =
    let first = firsts.0 in
    let none : call_at core k ≡ [] = ap (call_if core.words) first.at ∙ busy_brings_none core k first.actor can finished first.at first.busy in
    let rest = finishing_brings_none (event any_machine core (Step k)) ks (can_go_on core (Step k ∷ []) can)
    (subst AreFinished (sym (busy_leaves core k first.actor (can.order []) finished first.at first.busy)) finished) firsts.1 in
    ap₂ (λ xs ys. xs ++ ys) none rest

-- all calls of a replay come by its draws
pub calls_drawn : (core : Core AnyActor) (drawn finishing : List ℕ) → CanBeReplayed (run any_machine core (map Step drawn)) → AreFinished (mutators_in (run any_machine core (map Step drawn)).actors)
    → StepsOfFirst (run any_machine core (map Step drawn)) finishing → calls_in core (drawn ++ finishing) ≡ calls_in core drawn
calls_drawn core drawn finishing can finished firsts =
    calls_both core drawn finishing
    ∙ ap (λ ys. calls_in core drawn ++ ys) (finishing_brings_none (run any_machine core (map Step drawn)) finishing can finished firsts)
    ∙ append-nil (calls_in core drawn)

-- ---- one mutator

-- a store that has no next step has ended
store_ended : (s : Storing) (q : StorePhase) → store_action_in s q ≡ None → end_in q ≡ None → ⊥
store_ended s store_phase.Begun none on = cc
store_ended s store_phase.Unlogged none on = cc
store_ended s (store_phase.Loaded first) none on = cc
store_ended s store_phase.Logged none on = cc
store_ended s (store_phase.Ended how) none on = cc

-- a mutator without a next step stays as it is
stays : (m : Mutating) (p : MutatorPhase) → m.phase ≡ p → action_in m p ≡ None → MayBeIn m p → Places m p m
stays m phase.Finished e none may = (refl, refl, ap (placed_in m) e ∙ none_more (length m.replies.items))
stays m (phase.Storing s) e none may = absurd (store_ended s s.phase none may.1)
stays m p e none may = absurd (cc)

acted_places : (words : List ℕ) (m : Mutating) (o : Option Action) → action m ≡ o → IsMutator m → Places m m.phase (mutator_acted words m o)
acted_places words m None e is = stays m m.phase refl e is.phase
acted_places words m (Some act) e is = step_places m m.phase (slice_index words act.word) refl is.phase

acted_one : (words : List ℕ) (m : Mutating) (o : Option Action) → (acted mutator_machine words m o).1 ≡ mutator_acted words m o
acted_one words m None = refl
acted_one words m (Some act) = refl

-- what a step makes of it
after_step_of : (words : List ℕ) (m : Mutating) → IsMutator m → Places m m.phase (stepped mutator_machine words m).1
after_step_of words m is = subst (Places m m.phase) (sym (acted_one words m (action m))) (acted_places words m (action m) refl is)

-- and that is a mutator
acted_sound : (words : List ℕ) (m : Mutating) (o : Option Action) → action m ≡ o → IsMutator m → IsMutator (mutator_acted words m o)
acted_sound words m None e is = is
acted_sound words m (Some act) e is = stay_so m (slice_index words act.word) is (subst IsSome (sym e) refl)

-- at most all its operations and its end stand in the history
pub placed_few : (m : Mutating) (p : MutatorPhase) → m.phase ≡ p → IsMutator m → placed_in m p ≤ length m.operations + 1
placed_few m (phase.Referent place) e is = let busy = is.busy (ap rests_in e) in omega arith
placed_few m p e is = is.few_replies

-- a test by which one number is one more
rises : (x y : ℕ) (b : Bool) → y ≡ x + one_if b → nat_lt x y ≡ b
rises x y true e = let one : y ≡ x + 1 = e in grind arith
rises x y false e = let same : y ≡ x = (let none : y ≡ x + 0 = e in omega arith) in grind arith

-- its call is noted
mutator_noted : (words : List ℕ) (m : Mutating) → IsMutator m → calls_since (placed_count m) (any.Mutator (stepped mutator_machine words m).1) ≡ call_by words (any.Mutator m)
mutator_noted words m is =
    let n : Mutating = (stepped mutator_machine words m).1 in
    let places : Places m m.phase n = after_step_of words m is in
    ap (λ (t : ℕ). if nat_lt (placed_count m) (placed_count n) then item.Call t ∷ [] else []) places.0
    ∙ ap (λ (b : Bool). if b then item.Call m.thread ∷ [] else []) (rises (placed_count m) (placed_count n) (stands_in m.phase m n) places.2)

-- so it is of each actor
pub noted : (words : List ℕ) (a : AnyActor) (words' : List ℕ) (a' : AnyActor) (before : ℕ) → (words', a') ≡ stepped any_machine words a → before ≡ placed_by a → IsSound a → calls_since before a' ≡ call_by words a
noted words (any.Mutator m) words' a' before done is sound =
    ap (calls_since before) (ap (λ (z : List ℕ × AnyActor). z.1) done ∙ acted_is words m (action m))
    ∙ ap (λ (k : Mutating). calls_since before (any.Mutator k)) (sym (acted_one words m (action m)))
    ∙ ap (λ (k : ℕ). calls_since k (any.Mutator (stepped mutator_machine words m).1)) is
    ∙ mutator_noted words m sound
noted words (any.Decrementer d) words' a' before done is sound =
    let (e, there) = acted_helper words d (any_machine.action (any.Decrementer d)) in
    ap (calls_since before) (ap (λ (z : List ℕ × AnyActor). z.1) done ∙ there)
noted words (any.Tracer d) words' a' before done is sound =
    let (e, there) = acted_tracer words d (any_machine.action (any.Tracer d)) in
    ap (calls_since before) (ap (λ (z : List ℕ × AnyActor). z.1) done ∙ there)

-- ---- room

-- what one mutator has left falls by what it brings
left_falls : (k x y : ℕ) (b : Bool) (t : ℕ) → y ≡ x + one_if b → y ≤ k + 1 → k + 1 - y + length (if b then item.Call t ∷ [] else []) ≡ k + 1 - x
left_falls k x y true t e few = let one : y ≡ x + 1 = e in omega arith
left_falls k x y false t e few = let same : y ≡ x + 0 = e in omega arith

-- what any actor has left
left_by : (words : List ℕ) (a : AnyActor) → IsSound a → left_to_place (stepped any_machine words a).1 + length (call_by words a) ≡ left_to_place a
left_by words (any.Mutator m) sound =
    let n : Mutating = (stepped mutator_machine words m).1 in
    let places : Places m m.phase n = after_step_of words m sound in
    let same : (stepped any_machine words (any.Mutator m)).1 ≡ any.Mutator n = acted_is words m (action m) ∙ ap any.Mutator (sym (acted_one words m (action m))) in
    let is : IsMutator n = subst IsMutator (sym (acted_one words m (action m))) (acted_sound words m (action m) refl sound) in
    let few : placed_count n ≤ length m.operations + 1 = subst (λ os. placed_count n ≤ length os + 1) places.1 (placed_few n n.phase refl is) in
    ap (λ (a : AnyActor). left_to_place a + length (call_by words (any.Mutator m))) same
    ∙ ap (λ os. length os + 1 - placed_count n + length (call_by words (any.Mutator m))) places.1
    ∙ left_falls (length m.operations) (placed_count m) (placed_count n) (stands_in m.phase m n) m.thread places.2 few
left_by words (any.Decrementer d) sound =
    let (e, there) = acted_helper words d (any_machine.action (any.Decrementer d)) in
    ap (λ (a : AnyActor). left_to_place a + 0) there
left_by words (any.Tracer d) sound =
    let (e, there) = acted_tracer words d (any_machine.action (any.Tracer d)) in
    ap (λ (a : AnyActor). left_to_place a + 0) there

-- one of the actors is another
left_set : (actors : List AnyActor) (n : ℕ) (a a' : AnyActor) → slice_get actors n ≡ Some a → all_left (slice_set actors n a') + left_to_place a ≡ all_left actors + left_to_place a'
left_set [] n a a' at = absurd (cc)
left_set (x ∷ actors) zero a a' at =
    let same : x ≡ a = cc in
    let e : left_to_place x ≡ left_to_place a = ap left_to_place same in
    omega (arith, e)
left_set (x ∷ actors) (suc n) a a' at = let rest = left_set actors n a a' at in omega (arith, rest)

-- what all have left falls by what a step brings
left_after : (core : Core AnyActor) (number : ℕ) (o : Option AnyActor) → ((a : AnyActor) → slice_get core.actors number ≡ Some a → IsSound a) → slice_get core.actors number ≡ o
    → all_left (event any_machine core (Step number)).actors + length (call_if core.words o) ≡ all_left core.actors
left_after core number None sound at =
    let still : (event any_machine core (Step number)) ≡ core = ap (happened any_machine core (Step number)) at in
    let e : all_left (event any_machine core (Step number)).actors ≡ all_left core.actors = ap (λ (c : Core AnyActor). all_left c.actors) still in
    omega (arith, e)
left_after core number (Some a) sound at =
    let a' : AnyActor = (stepped any_machine core.words a).1 in
    let e : all_left (event any_machine core (Step number)).actors ≡ all_left (slice_set core.actors number a') = ap (λ (c : Core AnyActor). all_left c.actors) (event-is any_machine core (Step number) a at) in
    let set = left_set core.actors number a a' at in
    let one = left_by core.words a (sound a at) in
    omega (arith, e, set, one)

-- each actor that can be replayed is sound
pub sound_at : (core : Core AnyActor) → CanBeReplayed core → (number : ℕ) (a : AnyActor) → slice_get core.actors number ≡ Some a → IsSound a
sound_at core can number (any.Mutator m) at = can.mutators [] number m (mutator_at core.actors number m (can.order []) at)
sound_at core can number (any.Decrementer d) at = tt
sound_at core can number (any.Tracer d) at = tt

pub left_step : (core : Core AnyActor) (number : ℕ) → CanBeReplayed core → all_left (event any_machine core (Step number)).actors + length (call_at core number) ≡ all_left core.actors
left_step core number can = left_after core number (slice_get core.actors number) (sound_at core can number) refl

-- ---- records

pub recorded_none : (kept : Option (Roomy Item)) → kept ≡ recorded kept []
recorded_none None = refl
recorded_none (Some l) = ap (λ (xs : List Item). Some (record l { items = xs })) (sym (append-nil l.items))

pub recorded_both : (kept : Option (Roomy Item)) (xs ys : List Item) → recorded (recorded kept xs) ys ≡ recorded kept (xs ++ ys)
recorded_both None xs ys = refl
recorded_both (Some l) xs ys = ap (λ (zs : List Item). Some (record l { items = zs })) (append_assoc l.items xs ys)

-- room for more is room for less
pub room_less : (kept : Option (Roomy Item)) (n k : ℕ) → k ≤ n → HasRoom kept n → HasRoom kept k
room_less None n k less room = tt
room_less (Some l) n k less room = omega arith

-- what is recorded takes room
pub room_after : (kept : Option (Roomy Item)) (xs : List Item) (n k : ℕ) → k + length xs ≡ n → HasRoom kept n → HasRoom (recorded kept xs) k
room_after None xs n k e room = tt
room_after (Some l) xs n k e room = let many : length (l.items ++ xs) ≡ length l.items + length xs = length-append l.items xs in omega (arith, many)

-- ---- under way

-- a replay has recorded the calls of its steps so far, and has room for all that are left
pub record IsRecording (tracing : Bool) (x : ℕ) (core : Core AnyActor) (kept : Option (Roomy Item)) (x' : ℕ) (core' : Core AnyActor) (kept' : Option (Roomy Item)) : Type 0 where
  pub under_way : IsUnderWay tracing x core x' core'
  pub calls : kept' ≡ recorded kept (calls_in core under_way.schedule)
  pub room : HasRoom kept' (all_left core'.actors)

-- before the first step
pub begins_recording : (tracing : Bool) (x : ℕ) (core : Core AnyActor) (kept : Option (Roomy Item)) → HasRoom kept (all_left core.actors) → IsRecording tracing x core kept x core kept
begins_recording tracing x core kept room = record { under_way = begins tracing x core; calls = recorded_none kept; room = room }

-- it goes on by one step, which was recorded
pub records_on : (tracing : Bool) (x : ℕ) (core : Core AnyActor) (kept : Option (Roomy Item)) (y : ℕ) (c : Core AnyActor) (kept' : Option (Roomy Item)) (y' : ℕ) (c' : Core AnyActor) (kept'' : Option (Roomy Item)) (number : ℕ)
    → CanBeReplayed c → IsRecording tracing x core kept y c kept' → some_act (mutators_in c.actors) ≡ true → y' ≡ step y → IsPicked tracing y' c.actors number → c' ≡ event any_machine c (Step number)
    → kept'' ≡ recorded kept' (call_at c number) → IsRecording tracing x core kept y' c' kept''
records_on tracing x core kept y c kept' y' c' kept'' number can is some y_is picked c_is noted_it = record {
  under_way = goes_on tracing x core y c y' c' number is.under_way some y_is picked c_is;
  calls = noted_it
      ∙ ap (λ k. recorded k (call_at c number)) is.calls
      ∙ recorded_both kept (calls_in core is.under_way.schedule) (call_at c number)
      ∙ ap (λ (d : Core AnyActor). recorded kept (calls_in core is.under_way.schedule ++ call_at d number)) is.under_way.core_is
      ∙ ap (recorded kept) (sym (calls_snoc core is.under_way.schedule number));
  room = subst (λ k. HasRoom k (all_left c'.actors)) (sym noted_it)
      (room_after kept' (call_at c number) (all_left c.actors) (all_left c'.actors)
      (ap (λ (d : Core AnyActor). all_left d.actors + length (call_at c number)) c_is ∙ left_step c number can) is.room);
}

-- there is room for the call of each next step
pub room_for_call : (core : Core AnyActor) (kept : Option (Roomy Item)) → CanBeReplayed core → HasRoom kept (all_left core.actors) → (number : ℕ) → HasRoom kept (length (call_at core number))
room_for_call core kept can room number =
    let falls = left_step core number can in
    room_less kept (all_left core.actors) (length (call_at core number)) (omega (arith, falls)) room

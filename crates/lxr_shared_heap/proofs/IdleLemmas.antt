-- Where nobody waits, nothing is served behind a pause, so the pause is the newest item still.
use Rattle.std.proofs.Common.{◌≡◌, ℕ, zero, suc, ◌+◌, refl, sym, ap, subst, ◌∙◌, inl, inr, Bool, true, false, cond, List, [], ◌∷◌, length}
use Rattle.std.specs.Prelude.{◌||◌, Option, Some, None, is_some, slice_get, slice_set}
use Rattle.std.specs.List.{list_any}
use Rattle.lxr_graph.specs.History.{Item, Pause, PauseReport}
use Rattle.lxr_image.specs.declared.space.Space.{Space}
use Rattle.lxr_mutator.specs.declared.phases.MutEnd.{MutEnd}
use Rattle.lxr_mutator.specs.declared.phases.MutEnd.TheVariants as ends
use Rattle.lxr_mutator.specs.declared.phases.Waiting.{Waiting}
use Rattle.lxr_mutator.specs.Mutating.{IsWaiting, Mutating, op_now, rests_in, waiting_by}
use Rattle.lxr_mutator.specs.Operating.{dest_of, shape_made}
use Rattle.lxr_core_invariant.specs.Through.{JustPaused}
use Rattle.lxr_core.specs.declared.actors.AnyActor.{AnyActor}
use Rattle.lxr_core.specs.declared.actors.AnyActor.TheVariants as any
use Rattle.lxr_core.specs.Actors.{mutators_in}
use Rattle.lxr_one_pause.specs.declared.Pace.{Pace}
use Rattle.lxr_serve.specs.Answering.{TakesTurn, TakeTurns, begins, next, passes, refuses, serves}
use Rattle.lxr_rounds_invariant.specs.LoopInvariant.{Task, pace_of}
use Rattle.lxr_rounds.specs.Answering.{AnswersWaiting, all, collects}
use Rattle.lxr_shared_heap.specs.Renewing.{waits}
use Rattle.lxr_shared_heap.specs.Resting.{GoesOnBehind}
use Rattle.lxr_shared_heap.proofs.RenewingLemmas.{or_right_false}

-- no mutator waits, where none is found that does
pub none_wait : (actors : List AnyActor) → list_any waits actors ≡ false → (i : ℕ) (m : Mutating) → slice_get (mutators_in actors) i ≡ Some m → ¬ IsWaiting m
none_wait [] none i m at waiting = cc
none_wait (any.Mutator x ∷ actors) none zero m at waiting =
    let same : x ≡ m = cc in
    let here : is_some (waiting_by x x.end) ≡ true = ap (λ (z : Mutating). is_some (waiting_by z z.end)) same ∙ waits_some m waiting in
    let both : true ≡ false = sym (ap (λ b. b || list_any waits actors) here) ∙ none in
    cc
  where
    waits_some : (m : Mutating) → IsWaiting m → is_some (waiting_by m m.end) ≡ true
    waits_some m (end, rests) = ap (λ e. is_some (waiting_by m e)) end ∙ ap (λ b. is_some {T = Waiting} (cond b (Some (record { dest = dest_of (op_now m); shape = shape_made (op_now m) })) None)) rests
none_wait (any.Mutator x ∷ actors) none (suc i) m at waiting = none_wait actors (or_right_false (is_some (waiting_by x x.end)) (list_any waits actors) none) i m at waiting
none_wait (any.Decrementer d ∷ actors) none i m at waiting = none_wait actors none i m at waiting
none_wait (any.Tracer d ∷ actors) none i m at waiting = none_wait actors none i m at waiting

-- who is answered waits
pub some_waiting : (m : Mutating) (w : Waiting) → waiting_by m m.end ≡ Some w → IsWaiting m
some_waiting m w is = by_end m.end refl is
  where
    by_rests : (b : Bool) → rests_in m.phase ≡ b → m.end ≡ Some ends.NoRun → cond b (Some (record { dest = dest_of (op_now m); shape = shape_made (op_now m) })) None ≡ Some w → IsWaiting m
    by_rests true e end is = (end, e)
    by_rests false e end is = absurd (cc)

    by_end : (end : Option MutEnd) → m.end ≡ end → waiting_by m end ≡ Some w → IsWaiting m
    by_end (Some ends.NoRun) e is = by_rests (rests_in m.phase) refl e is
    by_end e q is = absurd (cc)

set_same : (ms : List Mutating) (n : ℕ) (m : Mutating) → slice_get ms n ≡ Some m → slice_set ms n m ≡ ms
set_same [] n m at = absurd (cc)
set_same (x ∷ ms) zero m at = let same : x ≡ m = cc in ap (λ z. z ∷ ms) (sym same)
set_same (x ∷ ms) (suc n) m at = ap (λ z. x ∷ z) (set_same ms n m at)

-- the turn of one that doesn't wait changes nothing
idle_turn : (collected : Bool) (t : ℕ) (m m' : Mutating) (before after : Space) (served served' : Bool) (k k' : List Item) → ¬ IsWaiting m → TakesTurn collected t m m' before after served served' k k' → (m' ≡ m) × (k' ≡ k) × (after ≡ before)
idle_turn collected t m m' before after served served' k k' none (passes x y z w free) = (refl, refl, refl)
idle_turn collected t m m' before after served served' k k' none (serves x x' w b a v g is made) = absurd (none (some_waiting m w is))
idle_turn collected t m m' before after served served' k k' none (refuses x x' w b a g is told made) = absurd (none (some_waiting m w is))

-- where nobody waits, turns change nothing
idle_turns : (collected : Bool) (ms : List Mutating) (space : Space) (h : List Item) (n : ℕ) (now : List Mutating) (after : Space) (served : Bool) (k : List Item) → ((i : ℕ) (m : Mutating) → slice_get ms i ≡ Some m → ¬ IsWaiting m)
    → TakeTurns collected ms space h n now after served k → (now ≡ ms) × (k ≡ h) × (after ≡ space)
idle_turns collected ms space h n now after served k idle (begins) = (refl, refl, refl)
idle_turns collected ms space h n now after served k idle (next n' was before after' s s' k' k'' m m' taken at turn) =
    let old = idle_turns collected ms space h n' was before s k' idle taken in
    let stays = idle_turn collected (n' + 1) m m' before after' s s' k' k'' (idle n' m (sym (ap (λ z. slice_get z n') old.0) ∙ at)) turn in
    (ap (slice_set was n') stays.0 ∙ set_same was n' m at ∙ old.0, stays.1 ∙ old.1, stays.2 ∙ old.2)

-- nor does answering
pub idle_answers : (pace : Pace) (collected : Bool) (ms ms' : List Mutating) (space space' : Space) (h h' : List Item) → ((i : ℕ) (m : Mutating) → slice_get ms i ≡ Some m → ¬ IsWaiting m)
    → AnswersWaiting pace collected ms space h ms' space' h' → (h' ≡ h) × (space' ≡ space)
idle_answers pace collected ms ms' space space' h h' idle (all c a b s s' k k' answers) = let stays = idle_turns collected ms space h (length ms) ms' space' answers.served h' idle answers.turns in (stays.1, stays.2)
idle_answers pace collected ms ms' space space' h h' idle (collects c a middle b s full then s' k k' k'' answers pause rest) =
    let same = idle_turns collected ms space h answers.number middle full answers.served k' idle answers.turns in
    absurd (idle answers.number answers.mutator (sym (ap (λ z. slice_get z answers.number) same.0) ∙ answers.turn) (some_waiting answers.mutator answers.waiting answers.waits))

-- where nobody waited, that pause is the last item
pub idle_last : (task : Task) (report : PauseReport) (calls : List Item) (actors : List AnyActor) (mutators' : List Mutating) (h : List Item) → GoesOnBehind task report calls (mutators_in actors) mutators' h
    → list_any waits actors ≡ false → h ≡ Pause report ∷ calls
idle_last task report calls actors mutators' h (inl (ended, last)) none = last
idle_last task report calls actors mutators' h (inr behind) none =
    (idle_answers (pace_of task.plan) behind.collected (mutators_in actors) mutators' behind.paused behind.answered (Pause report ∷ calls) h (none_wait actors none) behind.answers).0

-- nothing stands behind it
pub idle_behind : (task : Task) (report : PauseReport) (calls : List Item) (actors : List AnyActor) (mutators' : List Mutating) (h : List Item) → GoesOnBehind task report calls (mutators_in actors) mutators' h
    → list_any waits actors ≡ false → JustPaused h
idle_behind task report calls actors mutators' h behind none = subst JustPaused (sym (idle_last task report calls actors mutators' h behind none)) tt

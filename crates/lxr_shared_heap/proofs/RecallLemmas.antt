-- The reply by which a mutator's last unit ended is its thread's newest, for a unit that ends with a reply adds it to the replies, and nothing else changes either.
use Rattle.std.proofs.Common.{Bool, true, false, ◌≡◌, ◌≢◌, ◌∙◌, ℕ, suc, ◌+◌, ◌-◌, ◌≤◌, ◌⊎◌, zero, inl, inr, refl, sym, ap, subst, arith, List, [], ◌∷◌, ◌++◌, length, map, nat_eq}
use Rattle.std.specs.Prelude.{⊤, Option, Some, None, if◌then◌else◌, nat_le, slice_get, slice_index, slice_set}
use Rattle.std.specs.Option.{option_or}
use Rattle.std.proofs.lemmas.Bool.{cases_eq, eq-eqb}
use Rattle.std.proofs.lemmas.Bool.Decides.{nat_tests}
use Rattle.std.proofs.lemmas.List.{length-append}
use Rattle.std.proofs.lemmas.Option.{slice_get_within}
use Rattle.lxr_layout.specs.declared.Name.{Name}
use Rattle.lxr_graph.specs.declared.Op.{Op}
use Rattle.lxr_graph.specs.declared.Reply.{Reply}
use Rattle.lxr_graph.specs.declared.Reply.TheVariants as reply
use Rattle.lxr_graph.specs.History.{Call, Item, Pause, PauseReport, Renew, replies_of, report_of}
use Rattle.lxr_image.specs.declared.space.Space.{Space}
use Rattle.lxr_actor.specs.declared.Action.{Action}
use Rattle.lxr_actor.specs.declared.Core.{Core}
use Rattle.lxr_actor.specs.declared.Event.{Event}
use Rattle.lxr_actor.specs.declared.Event.TheVariants.{Give, Order, Out, Step}
use Rattle.lxr_actor.specs.Run.{acted, change, event, happened, of_event, run}
use Rattle.lxr_mutator.specs.declared.phases.MutEnd.TheVariants as ends
use Rattle.lxr_mutator.specs.declared.phases.Stop.TheVariants as stop
use Rattle.lxr_mutator.specs.Mutating.{Mutating, last_reply, next_name, op_now, reply_in}
use Rattle.lxr_mutator.specs.Mutators.{answered, held_place, renewed}
use Rattle.lxr_mutator.specs.Naming.{all_told_as, told_as}
use Rattle.lxr_mutator.proofs.NamingLemmas.{told_full, told_length, told_new}
use Rattle.lxr_mutator.specs.Operating.{dest_of}
use Rattle.lxr_mutator.specs.Steps.{after, done_with, with_register}
use Rattle.lxr_mutator.specs.Orders.{ordered_if, takes_order}
use Rattle.lxr_mutator.specs.Laws.{StepsByRule}
use Rattle.lxr_mutator.specs.Laws.StepsByRule.{does_one, finds_asked, finds_end, gave_up, goes_on, stands_still}
use Rattle.lxr_mutator.proofs.StepLemmas.{step_by_rule}
use Rattle.lxr_core_invariant.specs.EpochStates.{Extends, called, same}
use Rattle.lxr_core_invariant.proofs.ShowingLemmas.{set_elsewhere, set_here}
use Rattle.lxr_core.specs.declared.actors.AnyActor.{AnyActor}
use Rattle.lxr_core.specs.declared.actors.AnyActor.TheVariants as any
use Rattle.lxr_core.specs.Actors.{any_machine, mutators_in}
use Rattle.lxr_core.specs.Collecting.{actor_given_up, given_up}
use Rattle.lxr_core.proofs.ClosingLemmas.{given_mutators}
use Rattle.lxr_core.proofs.MappedLemmas.{mapped_from}
use Rattle.lxr_one_pause.specs.declared.Pace.{Pace}
use Rattle.lxr_serve.specs.Answering.{TakesTurn, TakeTurns, begins, next, passes, refuses, serves}
use Rattle.lxr_rounds.specs.Answering.{AnswersWaiting, all, collects}
use Rattle.lxr_rounds_invariant.specs.LoopInvariant.{Task, pace_of}
use Rattle.lxr_shared_heap.specs.Renewing.{actor_renewed, ends_with_renewal}
use Rattle.lxr_shared_heap.specs.Resting.{GoesOnBehind}
use Rattle.lxr_shared_heap.specs.Telling.{EndByNewest, EndsByNewest, TellsNewest, newest_reply}
use Rattle.lxr_shared_heap.proofs.NewestLemmas.{last_stands, newest_told, replies_grow}

-- ---- a step

-- The reply by which its last unit ended is its last reply; or it was so before, and it has no other replies. It tells names, or none, as before.
pub record Recalls (m x : Mutating) : Type 0 where
  pub names : x.names ≡ m.names
  pub tells : (r : Reply) → reply_in x.end ≡ Some r → (last_reply x ≡ Some r) ⊎ ((reply_in m.end ≡ Some r) × (x.replies.items ≡ m.replies.items))

still : (m x : Mutating) → x.names ≡ m.names → x.end ≡ m.end → x.replies.items ≡ m.replies.items → Recalls m x
still m x names ended replied = record { names = names; tells = λ r is. inr (ap reply_in (sym ended) ∙ is, replied) }

-- one whose unit ended with no reply tells of none
silent : (m x : Mutating) → x.names ≡ m.names → reply_in x.end ≡ None → Recalls m x
silent m x names none = record { names = names; tells = λ r is. absurd (let wrong : None ≡ Some r = sym none ∙ is in cc) }

done_recalls : (m y : Mutating) (r : Reply) → y.names ≡ m.names → Recalls m (done_with y r)
done_recalls m y r names = record { names = names; tells = by_turn (nat_le y.every (y.since + 1)) }
  where
    by_turn : (full : Bool) (q : Reply) → reply_in (Some (if full then ends.Turns else ends.OpDone r)) ≡ Some q → (last_reply (done_with y r) ≡ Some q) ⊎ ((reply_in m.end ≡ Some q) × ((done_with y r).replies.items ≡ m.replies.items))
    by_turn true q is = absurd (cc)
    by_turn false q is = inl (last_stands y.replies.items r ∙ is)

-- so does each step
step_recalls : (m : Mutating) (old : ℕ) (to : Mutating) → StepsByRule m old to → Recalls m to
step_recalls m old to (goes_on log registers spans p busy) = still m _ refl refl refl
step_recalls m old to (finds_asked ready is) = silent m _ refl refl
step_recalls m old to (finds_end ready unasked is) = silent m _ refl refl
step_recalls m old to (gave_up stop.NoRun is) = silent m _ refl refl
step_recalls m old to (gave_up stop.LogFull is) = silent m _ refl refl
step_recalls m old to (does_one log registers r) = done_recalls m (record m { log = log; registers = registers }) r refl
step_recalls m old to (stands_still is) = still m m refl refl refl

-- ---- a schedule

-- two steps after one another
further : (m x y : Mutating) → Recalls m x → Recalls x y → Recalls m y
further m x y first second = record { names = second.names ∙ first.names; tells = λ r is. by_second r (second.tells r is) }
  where
    by_first : (r : Reply) → y.replies.items ≡ x.replies.items → (last_reply x ≡ Some r) ⊎ ((reply_in m.end ≡ Some r) × (x.replies.items ≡ m.replies.items))
        → (last_reply y ≡ Some r) ⊎ ((reply_in m.end ≡ Some r) × (y.replies.items ≡ m.replies.items))
    by_first r stays (inl last) = inl (ap (λ rs. slice_get rs (length rs - 1)) stays ∙ last)
    by_first r stays (inr was) = inr (was.0, stays ∙ was.1)

    by_second : (r : Reply) → (last_reply y ≡ Some r) ⊎ ((reply_in x.end ≡ Some r) × (y.replies.items ≡ x.replies.items)) → (last_reply y ≡ Some r) ⊎ ((reply_in m.end ≡ Some r) × (y.replies.items ≡ m.replies.items))
    by_second r (inl last) = inl last
    by_second r (inr was) = by_first r was.1 (first.tells r was.0)

-- a mutator comes from one, and recalls what that did
abbrev pub ComesFrom : AnyActor → AnyActor → Type 0
ComesFrom a (any.Mutator x) = (m : Mutating) × (a ≡ any.Mutator m) × Recalls m x
ComesFrom a (any.Decrementer d) = ⊤
ComesFrom a (any.Tracer d) = ⊤

from_itself : (a : AnyActor) → ComesFrom a a
from_itself (any.Mutator m) = (m, refl, still m m refl refl refl)
from_itself (any.Decrementer d) = tt
from_itself (any.Tracer d) = tt

from_further : (a b c : AnyActor) → ComesFrom a b → ComesFrom b c → ComesFrom a c
from_further a b (any.Mutator z) first (y, is, second) =
    let (m, was, earlier) = subst (ComesFrom a) is first in
    (m, was, further m y z earlier second)
from_further a b (any.Decrementer d) first second = tt
from_further a b (any.Tracer d) first second = tt

acted_from : (words : List ℕ) (a : AnyActor) (o : Option Action) → ComesFrom a (acted any_machine words a o).1
acted_from words (any.Mutator m) None = (m, refl, still m m refl refl refl)
acted_from words (any.Mutator m) (Some act) =
    let old = slice_index words act.word in
    (m, refl, step_recalls m old (after m old) (step_by_rule m old))
acted_from words (any.Decrementer d) None = tt
acted_from words (any.Decrementer d) (Some act) = tt
acted_from words (any.Tracer d) None = tt
acted_from words (any.Tracer d) (Some act) = tt

ordered_recalls : (m : Mutating) (o : Op) (takes : Bool) → Recalls m (ordered_if m o takes).0
ordered_recalls m o true = still m _ refl refl refl
ordered_recalls m o false = still m m refl refl refl

change_from : (e : Event) (words : List ℕ) (a : AnyActor) → ComesFrom a (change any_machine e words a).1
change_from (Step number) words a = acted_from words a (any_machine.action a)
change_from (Give number place) words (any.Mutator m) = (m, refl, still m m refl refl refl)
change_from (Give number place) words (any.Decrementer d) = tt
change_from (Give number place) words (any.Tracer d) = tt
change_from (Out number) words (any.Mutator m) = (m, refl, still m m refl refl refl)
change_from (Out number) words (any.Decrementer d) = tt
change_from (Out number) words (any.Tracer d) = tt
change_from (Order number o) words (any.Mutator m) = (m, refl, ordered_recalls m o (takes_order m o))
change_from (Order number o) words (any.Decrementer d) = tt
change_from (Order number o) words (any.Tracer d) = tt

-- each actor comes from that of its number
abbrev pub AllCome : List AnyActor → List AnyActor → Type 0
AllCome before after = (i : ℕ) (b : AnyActor) → slice_get after i ≡ Some b → (a : AnyActor) × (slice_get before i ≡ Some a) × ComesFrom a b

happened_from : (core : Core AnyActor) (e : Event) (o : Option AnyActor) → slice_get core.actors (of_event e) ≡ o → AllCome core.actors (happened any_machine core e o).actors
happened_from core e None there = λ i b at. (b, at, from_itself b)
happened_from core e (Some a) there = λ i b at.
    elim (cases_eq i (of_event e)) [
      | inl own ↦
          let here : Some (change any_machine e core.words a).1 ≡ Some b = sym (set_here core.actors (of_event e) (change any_machine e core.words a).1 a there) ∙ sym (ap (slice_get (slice_set core.actors (of_event e) (change any_machine e core.words a).1)) own) ∙ at in
          let is : (change any_machine e core.words a).1 ≡ b = cc in
          (a, ap (slice_get core.actors) own ∙ there, subst (ComesFrom a) is (change_from e core.words a))
      | inr other ↦ (b, sym (set_elsewhere core.actors (of_event e) i (change any_machine e core.words a).1 other) ∙ at, from_itself b)
    ]

pub all_come : (core : Core AnyActor) (schedule : List Event) → AllCome core.actors (run any_machine core schedule).actors
all_come core [] = λ i b at. (b, at, from_itself b)
all_come core (e ∷ es) = λ i b at.
    let (y, there, second) = all_come (event any_machine core e) es i b at in
    let (a, was, first) = happened_from core e (slice_get core.actors (of_event e)) refl i y there in
    (a, was, from_further a y b first second)

-- ---- the history of an epoch

-- a thread that has no further replies has no newer one
newest_same : (threads every : ℕ) (h k : List Item) (t : ℕ) → Extends threads every h k → length (replies_of t k) ≡ length (replies_of t h) → newest_reply t k ≡ newest_reply t h
newest_same threads every h k t (same) many = refl
newest_same threads every h k t (called l u p q before is) many = by_own (nat_eq t u) many (replies_grow threads every h l t before) (newest_same threads every h l t before)
  where
    by_own : (mine : Bool) → length (if mine then replies_of t l ++ q ∷ [] else replies_of t l) ≡ length (replies_of t h) → length (replies_of t h) ≤ length (replies_of t l)
        → (length (replies_of t l) ≡ length (replies_of t h) → newest_reply t l ≡ newest_reply t h) → (if mine then Some q else newest_reply t l) ≡ newest_reply t h
    by_own true many grow earlier = let more = length-append (replies_of t l) (q ∷ []) in absurd (omega (arith, many, grow, more))
    by_own false many grow earlier = earlier many

-- what a mutator recalls is so behind the epoch's calls
pub newest_recalled : (threads every : ℕ) (h k : List Item) (t : ℕ) (m x : Mutating) → Extends threads every h k → Recalls m x
    → all_told_as m.names (replies_of t h) ≡ m.replies.items → all_told_as x.names (replies_of t k) ≡ x.replies.items → EndsByNewest t h m → EndsByNewest t k x
newest_recalled threads every h k t m x extends recalls had has newest = λ r is. by_reply r (recalls.tells r is)
  where
    by_reply : (r : Reply) → (last_reply x ≡ Some r) ⊎ ((reply_in m.end ≡ Some r) × (x.replies.items ≡ m.replies.items)) → TellsNewest x.names t k r
    by_reply r (inl last) =
        let within = slice_get_within x.replies.items (length x.replies.items - 1) r last in
        newest_told t k x r has (omega (arith, within)) (ap (λ z. option_or z (reply_in x.end)) last)
    by_reply r (inr was) =
        let (replied, at, told) = newest r was.0 in
        let many = sym (told_length x.names (replies_of t k)) ∙ ap length (has ∙ was.1 ∙ sym had) ∙ told_length m.names (replies_of t h) in
        (replied, newest_same threads every h k t extends many ∙ at, ap (λ b. told_as b replied) recalls.names ∙ told)

-- ---- closing

pub newest_given : (h : List Item) (actors : List AnyActor) → EndByNewest h (mutators_in actors) → EndByNewest h (mutators_in (map actor_given_up actors))
newest_given h actors newest = λ i m at.
    let (x, there, is) = mapped_from given_up (mutators_in actors) i m (sym (ap (λ ms. slice_get ms i) (given_mutators actors)) ∙ at) in
    subst (EndsByNewest (i + 1) h) (sym is) (newest i x there)

-- ---- behind a pause

-- what a thread is answered from outside is its newest reply, told whole
answered_newest : (t : ℕ) (h : List Item) (o : Op) (m x : Mutating) (r : Reply) → ((b : Bool) → told_as b r ≡ r) → m ≡ answered x r → EndsByNewest t (Call t o r ∷ h) m
answered_newest t h o m x r whole is = λ q told.
    let own : newest_reply t (Call t o r ∷ h) ≡ Some r = ap (λ b. if b then Some r else newest_reply t h) (eq-eqb t t refl) in
    let shown : Some r ≡ Some q = sym (ap (λ (z : Mutating). reply_in z.end) is) ∙ told in
    let is_own : r ≡ q = cc in
    (r, own, whole m.names ∙ is_own)

-- and no other thread's
others_newest : (t u : ℕ) (h : List Item) (o : Op) (r : Reply) → u ≢ t → newest_reply u (Call t o r ∷ h) ≡ newest_reply u h
others_newest t u h o r other =
    let none : nat_eq u t ≡ false = grind (arith, nat_tests, other) in
    ap (λ b. if b then Some r else newest_reply u h) none

turn_newest : (collected : Bool) (t : ℕ) (m m' : Mutating) (before after : Space) (served served' : Bool) (k k' : List Item) → TakesTurn collected t m m' before after served served' k k' → EndsByNewest t k m
    → EndsByNewest t k' m' × ((u : ℕ) → u ≢ t → newest_reply u k' ≡ newest_reply u k)
turn_newest collected t m m' before after served served' k k' (passes x y z w free) newest = (newest, λ u other. refl)
turn_newest collected t m m' before after served served' k k' (serves x x' w b a v g is made) newest =
    (answered_newest t g (op_now m) m' (with_register m (dest_of (op_now m)) (held_place made.place)) (reply.New (next_name m)) (λ names. told_new names (next_name m)) made.mutator, λ u other. others_newest t u g (op_now m) (reply.New (next_name m)) other)
turn_newest collected t m m' before after served served' k k' (refuses x x' w b a g is told made) newest =
    (answered_newest t g (op_now m) m' m reply.Full told_full made.mutator, λ u other. others_newest t u g (op_now m) reply.Full other)

turns_newest : (collected : Bool) (ms : List Mutating) (space : Space) (h : List Item) (n : ℕ) (now : List Mutating) (after : Space) (served : Bool) (k : List Item) → TakeTurns collected ms space h n now after served k → EndByNewest h ms → EndByNewest k now
turns_newest collected ms space h n now after served k (begins) newest = newest
turns_newest collected ms space h n now after served k (next n' was before after' s s' k' k'' m m' taken at turn) newest = λ i x there.
    let earlier = turns_newest collected ms space h n' was before s k' taken newest in
    let (own, others) = turn_newest collected (n' + 1) m m' before after' s s' k' k'' turn (earlier n' m at) in
    elim (cases_eq i n') [
      | inl here ↦
          let set : Some m' ≡ Some x = sym (set_here was n' m' m at) ∙ sym (ap (slice_get (slice_set was n' m')) here) ∙ there in
          let is : m' ≡ x = cc in
          subst (λ j. EndsByNewest (j + 1) k'' x) (sym here) (subst (EndsByNewest (n' + 1) k'') is own)
      | inr other ↦ λ r told.
          let (replied, newer, as_told) = earlier i x (sym (set_elsewhere was n' i m' other) ∙ there) r told in
          (replied, others (i + 1) (λ e. other (omega (arith, e))) ∙ newer, as_told)
    ]

pub answers_newest : (pace : Pace) (collected : Bool) (ms ms' : List Mutating) (space space' : Space) (h h' : List Item) → AnswersWaiting pace collected ms space h ms' space' h' → EndByNewest h ms → EndByNewest h' ms'
answers_newest pace collected ms ms' space space' h h' (all c a b s s' k k' answers) newest = turns_newest collected ms space h (length ms) ms' space' answers.served h' answers.turns newest
answers_newest pace collected ms ms' space space' h h' (collects c a middle b s full paused s' k k' k'' answers pause rest) newest =
    answers_newest pace true middle ms' paused space' (Pause (report_of paused.report) ∷ k') h' rest (turns_newest collected ms space h answers.number middle full answers.served k' answers.turns newest)

-- no renewal stands behind a turn, where none stood before it
turn_unrenewed : (collected : Bool) (t : ℕ) (m m' : Mutating) (before after : Space) (served served' : Bool) (k k' : List Item) → TakesTurn collected t m m' before after served served' k k' → ends_with_renewal k ≡ false → ends_with_renewal k' ≡ false
turn_unrenewed collected t m m' before after served served' k k' (passes x y z w free) none = none
turn_unrenewed collected t m m' before after served served' k k' (serves x x' w b a v g is made) none = refl
turn_unrenewed collected t m m' before after served served' k k' (refuses x x' w b a g is told made) none = refl

turns_unrenewed : (collected : Bool) (ms : List Mutating) (space : Space) (h : List Item) (n : ℕ) (now : List Mutating) (after : Space) (served : Bool) (k : List Item) → TakeTurns collected ms space h n now after served k → ends_with_renewal h ≡ false
    → ends_with_renewal k ≡ false
turns_unrenewed collected ms space h n now after served k (begins) none = none
turns_unrenewed collected ms space h n now after served k (next n' was before after' s s' k' k'' m m' taken at turn) none =
    turn_unrenewed collected (n' + 1) m m' before after' s s' k' k'' turn (turns_unrenewed collected ms space h n' was before s k' taken none)

answers_unrenewed : (pace : Pace) (collected : Bool) (ms ms' : List Mutating) (space space' : Space) (h h' : List Item) → AnswersWaiting pace collected ms space h ms' space' h' → ends_with_renewal h ≡ false → ends_with_renewal h' ≡ false
answers_unrenewed pace collected ms ms' space space' h h' (all c a b s s' k k' answers) none = turns_unrenewed collected ms space h (length ms) ms' space' answers.served h' answers.turns none
answers_unrenewed pace collected ms ms' space space' h h' (collects c a middle b s full paused s' k k' k'' answers pause rest) none =
    answers_unrenewed pace true middle ms' paused space' (Pause (report_of paused.report) ∷ k') h' rest refl

-- nor behind a pause and what it answers
pub unrenewed_behind : (task : Task) (report : PauseReport) (calls : List Item) (mutators mutators' : List Mutating) (h : List Item) → GoesOnBehind task report calls mutators mutators' h → ends_with_renewal h ≡ false
unrenewed_behind task report calls mutators mutators' h (inl (ended, last)) = ap ends_with_renewal last
unrenewed_behind task report calls mutators mutators' h (inr behind) =
    answers_unrenewed (pace_of task.plan) behind.collected mutators mutators' behind.paused behind.answered (Pause report ∷ calls) h behind.answers refl

-- ---- new names

-- of a renewed actor the last unit ended as it did, and it tells names or none as it did
renewed_ends : (n : ℕ) (actors : List AnyActor) (i : ℕ) (x : Mutating) → slice_get (mutators_in (map (actor_renewed n) actors)) i ≡ Some x → (m : Mutating) × (slice_get (mutators_in actors) i ≡ Some m) × (x.end ≡ m.end) × (x.names ≡ m.names)
renewed_ends n [] i x at = absurd (cc)
renewed_ends n (any.Mutator m ∷ actors) zero x at =
    let same : (renewed m (if nat_eq m.thread 1 then n else 0)) ≡ x = cc in
    (m, refl, sym (ap (λ (z : Mutating). z.end) same), sym (ap (λ (z : Mutating). z.names) same))
renewed_ends n (any.Mutator m ∷ actors) (suc i) x at = renewed_ends n actors i x at
renewed_ends n (any.Decrementer d ∷ actors) i x at = renewed_ends n actors i x at
renewed_ends n (any.Tracer d ∷ actors) i x at = renewed_ends n actors i x at

pub newest_renewed : (n : ℕ) (names : List Name) (h : List Item) (actors : List AnyActor) → EndByNewest h (mutators_in actors) → EndByNewest (Renew names ∷ h) (mutators_in (map (actor_renewed n) actors))
newest_renewed n names h actors newest = λ i x at.
    let (m, there, is, kept) = renewed_ends n actors i x at in
    λ r told. subst (λ b. TellsNewest b (i + 1) (Renew names ∷ h) r) (sym kept) (newest i m there r (ap reply_in (sym is) ∙ told))

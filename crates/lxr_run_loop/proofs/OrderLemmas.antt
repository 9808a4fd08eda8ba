-- What is noted of a history's order, by its pauses, its epochs and what is answered between them.
use Rattle.std.proofs.Common.{◌≡◌, ◌≢◌, ℕ, zero, suc, ◌+◌, ◌<◌, ◌≤◌, Bool, true, false, List, [], ◌∷◌, ◌++◌, append_assoc, append-nil, length, arith, length-append, refl, sym, subst, ap, ap₂, ◌∙◌, get_or-set_other, get_or-set_same, inl, inr, nat_le, nat_lt}
use Rattle.std.specs.Prelude.{Option, Some, None, if◌then◌else◌, is_some, map, slice_get, slice_index, slice_set}
use Rattle.std.proofs.lemmas.Bool.Decides.{eqb_tells}
use Rattle.std.proofs.Math.ListN.{length-set}
use Rattle.std.proofs.lemmas.Option.{slice_get_within}
use Rattle.lxr_graph.specs.History.{Item, Pause, PauseReport}
use Rattle.lxr_graph.specs.Order.{order_of}
use Rattle.lxr_graph.specs.declared.Item as kept
use Rattle.lxr_graph.specs.declared.Item.TheVariants as item
use Rattle.lxr_image.specs.declared.space.Space.{Space}
use Rattle.lxr_actor.specs.declared.Core.{Core}
use Rattle.lxr_actor.specs.declared.Event.{Event}
use Rattle.lxr_actor.specs.declared.Event.TheVariants.{Step}
use Rattle.lxr_actor.specs.Run.{core_of, run}
use Rattle.lxr_actor.proofs.Runs.{slice_get-set_other, slice_get-set_same}
use Rattle.lxr_graph.specs.declared.Reply.TheVariants as reply
use Rattle.lxr_mutator.specs.declared.phases.MutatorPhase.{MutatorPhase}
use Rattle.lxr_mutator.specs.declared.phases.MutatorPhase.TheVariants as phase
use Rattle.lxr_mutator.specs.Mutating.{Mutating, placed_count, placed_in}
use Rattle.lxr_mutator.specs.Mutators.{answered, served as served_mutator}
use Rattle.lxr_core_invariant.specs.EpochStates.{Beginning}
use Rattle.lxr_core.specs.declared.actors.AnyActor.{AnyActor}
use Rattle.lxr_core.specs.declared.actors.AnyActor.TheVariants as any
use Rattle.lxr_core.specs.Actors.{AreInOrder, any_machine, mutators_in}
use Rattle.lxr_core.specs.Closing.{AreFinished, AreResting}
use Rattle.lxr_core.specs.Executions.{Execution, tell_all}
use Rattle.lxr_core.proofs.OrderLemmas.{mutator_from}
use Rattle.lxr_run_replay.specs.Recording.{AreCallsOf, calls_since}
use Rattle.lxr_run_replay.specs.Replaying.{Replays}
use Rattle.lxr_rounds_invariant.proofs.ActorLemmas.{found}
use Rattle.lxr_serve.specs.Answering.{Answers, TakeTurns, TakesTurn, begins, next, passes, refuses, serves}
use Rattle.lxr_serve.specs.declared.Served.{Served}
use Rattle.lxr_serve.specs.declared.Served.TheVariants as outcome
use Rattle.lxr_text_stream.specs.Streams.{AppendsFront}
use Rattle.lxr_text_stream.proofs.StreamLemmas.{Appends-nil, AppendsFront-before}
use Rattle.lxr_run_loop.specs.Drawing.{ReplaysInOrder}
use Rattle.lxr_run_loop.specs.Orders.{FollowsOrder, IsOrderOf, Notes, NotesCalls, call_of, calls_of_first, placed_at, placed_if}

-- ---- what is noted

-- an order that is kept is that of the history
pub order_is : (order : Option (List kept.Item)) (h : List Item) (items : List kept.Item) → order ≡ Some items → IsOrderOf order h → items ≡ order_of h
order_is order h items is of = subst (λ o. IsOrderOf o h) is of

-- what was noted behind it is behind it in the history
pub notes_follow : (before after : Option (List kept.Item)) (more : List kept.Item) (h h' : List Item) → Notes before more after → order_of h' ≡ order_of h ++ more → FollowsOrder before h after h'
notes_follow before None more h h' notes is of = tt
notes_follow None (Some after) more h h' notes is of = absurd notes
notes_follow (Some before) (Some after) more h h' notes is of = notes ∙ ap (λ xs. xs ++ more) of ∙ sym is

-- a pause
pub note_follows : (before after : Option (List kept.Item)) (h : List Item) (report : PauseReport) → Notes before (item.Pause ∷ []) after → IsOrderOf before h → IsOrderOf after (Pause report ∷ h)
note_follows before after h report notes of = notes_follow before after (item.Pause ∷ []) h (Pause report ∷ h) notes refl of

-- the calls of an epoch
pub calls_follow : (core : Core AnyActor) (events : List Event) (before after : Option (List kept.Item)) → NotesCalls core events before after → (b : Beginning) (execution : Execution) → execution.core ≡ core
    → FollowsOrder before execution.history after (tell_all b execution events).history
calls_follow core events before None notes b execution is of = tt
calls_follow core events None (Some after) notes b execution is of = absurd notes
calls_follow core events (Some before) (Some after) (calls, are, noted) b execution is of = noted ∙ ap (λ xs. xs ++ calls) of ∙ sym (are b execution is)

-- nothing, and what is noted in two goes
pub notes_none : (order : Option (List kept.Item)) → Notes order [] order
notes_none None = tt
notes_none (Some items) = sym (append-nil items)

pub notes_both : (before amid after : Option (List kept.Item)) (xs ys : List kept.Item) → Notes before xs amid → Notes amid ys after → Notes before (xs ++ ys) after
notes_both before amid None xs ys first second = tt
notes_both before None (Some after) xs ys first second = absurd second
notes_both None (Some amid) (Some after) xs ys first second = absurd first
notes_both (Some before) (Some amid) (Some after) xs ys first second = second ∙ ap (λ zs. zs ++ ys) first ∙ append_assoc before xs ys

-- one more of the first actors
pub notes_next : (counts : List ℕ) (actors : List AnyActor) (n : ℕ) (before amid after : Option (List kept.Item)) → Notes before (calls_of_first counts actors n) amid → Notes amid (call_of (slice_index counts n) (slice_get actors n)) after
    → Notes before (calls_of_first counts actors (n + 1)) after
notes_next counts actors n before amid after first last =
    let step : suc n ≡ n + 1 = omega arith in
    subst (λ k. Notes before (calls_of_first counts actors k) after) step (notes_both before amid after (calls_of_first counts actors n) (call_of (slice_index counts n) (slice_get actors n)) first last)

-- one more is counted
pub counted_next : (actors : List AnyActor) (counts : List ℕ) (n x : ℕ) → n < length counts → x ≡ placed_at actors n → ((i : ℕ) → i < n → slice_index counts i ≡ placed_at actors i)
    → (i : ℕ) → i < n + 1 → slice_index (slice_set counts n x) i ≡ placed_at actors i
counted_next actors counts n x inside is before = λ i less. elim (eqb_tells i n) [
  | inl q ↦ ap (slice_index (slice_set counts n x)) q.1 ∙ get_or-set_same counts n x 0 inside ∙ is ∙ ap (placed_at actors) (sym q.1)
  | inr q ↦ let other = q.1 in get_or-set_other counts n i x 0 other ∙ before i (omega (arith, other, less))
]

-- a replay that noted the calls that it has brought has gone on in order
pub replays_in_order : (space after : Space) (actors actors' : List AnyActor) (x x' : ℕ) (items items' : List kept.Item)
    → ((schedule : List ℕ) × (calls : List kept.Item) × Replays (is_some space.trace) x (core_of space.words actors) schedule x' × (core_of after.words actors' ≡ run any_machine (core_of space.words actors) (map Step schedule))
    × AreCallsOf (core_of space.words actors) (map Step schedule) calls × (items' ≡ items ++ calls))
    → AreFinished (mutators_in actors') → AreResting actors' → after ≡ record space { words = after.words } → (order order' : Option (List kept.Item)) → order ≡ Some items → order' ≡ Some items' → ReplaysInOrder space after actors actors' x x' order order'
replays_in_order space after actors actors' x x' items items' (schedule, calls, replays, ran, are, noted) finished resting rest order order' is is' =
    subst (ReplaysInOrder space after actors actors' x x' order) (sym is')
    (subst (λ o. ReplaysInOrder space after actors actors' x x' o (Some items')) (sym is) (record {
      goes = record { events = map Step schedule; scheduled = (schedule, refl, replays); run = ran; finished = finished; resting = resting; rest = rest };
      notes = (calls, are, noted);
    }))

-- one that notes nothing has gone on in order where none is kept afterwards
pub replays_unnoted : (space after : Space) (actors actors' : List AnyActor) (x x' : ℕ)
    → ((schedule : List ℕ) × Replays (is_some space.trace) x (core_of space.words actors) schedule x' × (core_of after.words actors' ≡ run any_machine (core_of space.words actors) (map Step schedule)))
    → AreFinished (mutators_in actors') → AreResting actors' → after ≡ record space { words = after.words } → (order order' : Option (List kept.Item)) → order' ≡ None → ReplaysInOrder space after actors actors' x x' order order'
replays_unnoted space after actors actors' x x' (schedule, replays, ran) finished resting rest order order' is' =
    subst (ReplaysInOrder space after actors actors' x x' order) (sym is') (record {
      goes = record { events = map Step schedule; scheduled = (schedule, refl, replays); run = ran; finished = finished; resting = resting; rest = rest };
      notes = tt;
    })

-- where nothing was written, a front of each text was
pub nothing_written : (written : Option (List ℕ)) (text : List ℕ) → AppendsFront written written text
nothing_written written text = AppendsFront-before written written [] text (0, Appends-nil written)

-- ---- what is answered between two epochs

-- the call of a thread that came to stand in the history from one state of its mutator to another, if one has come
abbrev call_between : Option Mutating → Option Mutating → List kept.Item
call_between None after = []
call_between (Some m) None = []
call_between (Some m) (Some m') = calls_since (placed_count m) (any.Mutator m')

-- those of the first threads
abbrev calls_between : List Mutating → List Mutating → ℕ → List kept.Item
calls_between before after zero = []
calls_between before after (suc n) = calls_between before after n ++ call_between (slice_get before n) (slice_get after n)

-- no number is below itself
not_below : (n : ℕ) → nat_lt n n ≡ false
not_below n = grind arith

below_next : (n k : ℕ) → k ≡ n + 1 → nat_lt n k ≡ true
below_next n k e = grind arith

-- a mutator that stays brings no call
none_between : (o : Option Mutating) → call_between o o ≡ []
none_between None = refl
none_between (Some m) = ap (λ b. if b then item.Call m.thread ∷ [] else []) (not_below (placed_count m))

-- one with one reply more, in the same phase, brings one
answered_count : (m : Mutating) (p : MutatorPhase) (n : Mutating) → length n.replies.items ≡ length m.replies.items + 1 → placed_in n p ≡ placed_in m p + 1
answered_count m (phase.Referent place) n e = omega (arith, e)
answered_count m p n e = e

one_between : (t : ℕ) (m n : Mutating) → n.thread ≡ m.thread → n.phase ≡ m.phase → length n.replies.items ≡ length m.replies.items + 1 → m.thread ≡ t → call_between (Some m) (Some n) ≡ item.Call t ∷ []
one_between t m n thread phase more is =
    let count : placed_count n ≡ placed_count m + 1 = ap (placed_in n) phase ∙ answered_count m m.phase n more in
    ap (λ b. if b then item.Call n.thread ∷ [] else []) (below_next (placed_count m) (placed_count n) count)
    ∙ ap (λ u. item.Call u ∷ []) (thread ∙ is)

-- what a turn brings
turn_brings : (collected : Bool) (t : ℕ) (m m' : Mutating) (space space' : Space) (served served' : Bool) (h h' : List Item) → TakesTurn collected t m m' space space' served served' h h' → m.thread ≡ t
    → order_of h' ≡ order_of h ++ call_between (Some m) (Some m')
turn_brings collected t m m' space space' served served' h h' (passes same same_space same_served same_h idle) is = sym (ap (λ xs. order_of h ++ xs) (none_between (Some m)) ∙ append-nil (order_of h))
turn_brings collected t m m' space space' served served' h h' (serves a b w from to was k waits makes) is =
    ap (λ xs. order_of h ++ xs) (sym (subst (λ n. call_between (Some m) (Some n) ≡ item.Call t ∷ []) (sym makes.mutator)
    (one_between t m (served_mutator m makes.place) refl refl (length-append m.replies.items _) is)))
turn_brings collected t m m' space space' served served' h h' (refuses a b w from to k waits stands refused) is =
    ap (λ xs. order_of h ++ xs) (sym (subst (λ n. call_between (Some m) (Some n) ≡ item.Call t ∷ []) (sym refused.mutator)
    (one_between t m (answered m reply.Full) refl refl (length-append m.replies.items _) is)))

-- a mutator past the first ones doesn't tell what these bring
frame : (before now : List Mutating) (n : ℕ) (m : Mutating) (j : ℕ) → j ≤ n → calls_between before (slice_set now n m) j ≡ calls_between before now j
frame before now n m zero below = refl
frame before now n m (suc j) below =
    let other : j ≢ n = omega arith in
    ap₂ (λ xs o. xs ++ call_between (slice_get before j) o) (frame before now n m j (omega arith)) (slice_get-set_other now n j m other)

-- what so many turns have brought, and that the others stay
record Brings (mutators now : List Mutating) (n : ℕ) (h k : List Item) : Type 0 where
  order : order_of k ≡ order_of h ++ calls_between mutators now n
  others : (i : ℕ) → n ≤ i → slice_get now i ≡ slice_get mutators i
  many : length now ≡ length mutators

turns_bring : (collected : Bool) (mutators : List Mutating) (space : Space) (h : List Item) (n : ℕ) (now : List Mutating) (amid : Space) (served : Bool) (k : List Item) → TakeTurns collected mutators space h n now amid served k
    → ((i : ℕ) (m : Mutating) → slice_get mutators i ≡ Some m → m.thread ≡ i + 1) → Brings mutators now n h k
turns_bring collected mutators space h n now amid served k (begins) threads = record { order = sym (append-nil (order_of h)); others = λ i past. refl; many = refl }
turns_bring collected mutators space h n now amid served k (next i later from to was is l l' m m' turns at taken) threads =
    let before = turns_bring collected mutators space h i later from was l turns threads in
    let first : slice_get mutators i ≡ Some m = sym (before.others i (omega arith)) ∙ at in
    let one = turn_brings collected (i + 1) m m' from to was is l l' taken (threads i m first) in
    let step : i + 1 ≡ suc i = omega arith in
    let last : call_between (slice_get mutators i) (slice_get (slice_set later i m') i) ≡ call_between (Some m) (Some m') =
    ap₂ call_between first (slice_get-set_same later i m' (slice_get_within later i m at)) in
    record {
      order = one
          ∙ ap (λ xs. xs ++ call_between (Some m) (Some m')) before.order
          ∙ append_assoc (order_of h) (calls_between mutators later i) (call_between (Some m) (Some m'))
          ∙ ap (λ xs. order_of h ++ xs) (ap₂ (λ xs ys. xs ++ ys) (sym (frame mutators later i m' i (omega arith))) (sym last))
          ∙ ap (λ j. order_of h ++ calls_between mutators (slice_set later i m') j) (sym step);
      others = λ j past. (let other : j ≢ i = omega arith in slice_get-set_other later i j m' other) ∙ before.others j (omega arith);
      many = length-set later i m' ∙ before.many;
    }

-- those behind bring none
rest_brings_none : (mutators now : List Mutating) (n total : ℕ) → n ≤ total → ((i : ℕ) → n ≤ i → slice_get now i ≡ slice_get mutators i) → calls_between mutators now total ≡ calls_between mutators now n
rest_brings_none mutators now n zero few others = let e : n ≡ 0 = omega arith in ap (calls_between mutators now) (sym e)
rest_brings_none mutators now n (suc t) few others = by (nat_le n t) refl (rest_brings_none mutators now n t)
  where
    by : (b : Bool) → nat_le n t ≡ b → (n ≤ t → ((i : ℕ) → n ≤ i → slice_get now i ≡ slice_get mutators i) → calls_between mutators now t ≡ calls_between mutators now n) → calls_between mutators now (suc t) ≡ calls_between mutators now n
    by true e before =
        let low : n ≤ t = grind arith in
        ap₂ (λ xs ys. xs ++ ys) (before low others)
        (ap (call_between (slice_get mutators t)) (others t low) ∙ none_between (slice_get mutators t)) ∙ append-nil (calls_between mutators now n)
    by false e before = let all : suc t ≡ n = grind arith in ap (calls_between mutators now) all

-- what all turns of a call bring
answers_bring : (result : Served) (collected : Bool) (mutators mutators' : List Mutating) (space space' : Space) (h h' : List Item) → Answers result collected mutators mutators' space space' h h'
    → ((i : ℕ) (m : Mutating) → slice_get mutators i ≡ Some m → m.thread ≡ i + 1) → (order_of h' ≡ order_of h ++ calls_between mutators mutators' (length mutators)) × (length mutators' ≡ length mutators)
answers_bring outcome.All collected mutators mutators' space space' h h' answers threads =
    let all = turns_bring collected mutators space h (length mutators) mutators' space' answers.served h' answers.turns threads in (all.order, all.many)
answers_bring outcome.Collect collected mutators mutators' space space' h h' answers threads =
    let some = turns_bring collected mutators space h answers.number mutators' space' answers.served h' answers.turns threads in
    let within = slice_get_within mutators' answers.number answers.mutator answers.turn in
    let many = some.many in
    (some.order ∙ ap (λ xs. order_of h ++ xs) (sym (rest_brings_none mutators mutators' answers.number (length mutators) (omega arith) some.others)), some.many)

-- ---- as it is noted

-- what is noted of the first actors is what their threads bring
noted_of_first : (actors actors' : List AnyActor) (counts : List ℕ) (n : ℕ) → AreInOrder actors → AreInOrder actors' → n ≤ length (mutators_in actors) → length (mutators_in actors') ≡ length (mutators_in actors) → n ≤ 255
    → ((i : ℕ) → i < 255 → slice_index counts i ≡ placed_at actors i) → calls_of_first counts actors' n ≡ calls_between (mutators_in actors) (mutators_in actors') n
noted_of_first actors actors' counts zero order order' few many least counted = refl
noted_of_first actors actors' counts (suc n) order order' few many least counted =
    let (m, at) = found (mutators_in actors) n (omega arith) in
    let (m', at') = found (mutators_in actors') n (omega arith) in
    let count : slice_index counts n ≡ placed_count m = counted n (omega arith) ∙ ap placed_if (mutator_from actors n m order at) in
    ap₂ (λ xs ys. xs ++ ys) (noted_of_first actors actors' counts n order order' (omega arith) many (omega arith) counted)
    (ap₂ call_of count (mutator_from actors' n m' order' at') ∙ sym (ap₂ call_between at at'))

pub serving_notes : (result : Served) (collected : Bool) (actors actors' : List AnyActor) (space space' : Space) (h h' : List Item) (counts : List ℕ) (threads : ℕ) → AreInOrder actors → AreInOrder actors'
    → length (mutators_in actors) ≡ threads → threads ≤ 255 → ((i : ℕ) (m : Mutating) → slice_get (mutators_in actors) i ≡ Some m → m.thread ≡ i + 1) → ((i : ℕ) → i < 255 → slice_index counts i ≡ placed_at actors i)
    → Answers result collected (mutators_in actors) (mutators_in actors') space space' h h' → order_of h' ≡ order_of h ++ calls_of_first counts actors' threads
serving_notes result collected actors actors' space space' h h' counts threads order order' many least numbered counted answers =
    let brings = answers_bring result collected (mutators_in actors) (mutators_in actors') space space' h h' answers numbered in
    brings.0
    ∙ ap (λ xs. order_of h ++ xs) (sym (noted_of_first actors actors' counts (length (mutators_in actors)) order order' (omega arith) brings.1 (omega arith) counted))
    ∙ ap (λ n. order_of h ++ calls_of_first counts actors' n) many

-- A unit of an actor changes nothing of what it was asked for, and leaves its replies or adds one to them.
use Rattle.std.proofs.Common.{◌≡◌, ◌∙◌, ℕ, ◌+◌, ◌-◌, Bool, true, false, Option, Some, None, List, [], ◌∷◌, ◌++◌, length, length-append, inl, inr, ⊎_elim, refl, sym, ap, subst, arith}
use Rattle.std.specs.Prelude.{◌⊎◌, nat_le, slice_get, slice_index, slice_index_or}
use Rattle.std.proofs.lemmas.Bool.{cases_lt}
use Rattle.lxr_graph.specs.declared.Op.{Op}
use Rattle.lxr_graph.specs.declared.Op.TheVariants as op
use Rattle.lxr_graph.specs.declared.Reply.{Reply}
use Rattle.lxr_graph.specs.declared.Reply.TheVariants as reply
use Rattle.lxr_actor.specs.declared.Event.TheVariants.{Order}
use Rattle.lxr_actor.specs.Run.{run}
use Rattle.lxr_mutator.specs.declared.phases.MutatorPhase.{MutatorPhase}
use Rattle.lxr_mutator.specs.declared.phases.MutatorPhase.TheVariants as phase
use Rattle.std.specs.Option.{option_or}
use Rattle.lxr_mutator.specs.Mutating.{Mutating, reply_in, rests_in}
use Rattle.lxr_mutator.specs.Orders.{ordered_if, takes_order}
use Rattle.lxr_mutator.specs.Mutators.{MayTakeOrder}
use Rattle.lxr_mutator.proofs.OrderLemmas.{takes_order_decides}
use Rattle.lxr_mutator.specs.Steps as mutator
use Rattle.lxr_mutator.specs.Laws.{StepsByRule}
use Rattle.lxr_mutator.specs.Laws.StepsByRule.{does_one, finds_asked, finds_end, gave_up, goes_on, stands_still}
use Rattle.lxr_mutator.proofs.StepLemmas.{done_rests, step_by_rule}
use Rattle.lxr_core.specs.declared.actors.AnyActor.{AnyActor}
use Rattle.lxr_core.specs.declared.actors.AnyActor.TheVariants as any
use Rattle.lxr_core.specs.Actors.{any_machine}
use Rattle.lxr_shared.proofs.UnitEnds.{acted_actor}
use Rattle.lxr_shared.specs.Ends.{IsNextOf}
use Rattle.lxr_shared_passes.specs.Passing.{DoesStep, GoesOn, Passing, Told, Turned}
use Rattle.lxr_stations.specs.declared.station.Answer.{Answer}
use Rattle.lxr_stations.specs.declared.station.Answer.TheVariants as answer
use Rattle.lxr_stations.specs.Stations.{HasAnswered, HasGoneOn, HasNoMore, HasTurned, IsNoOrder, IsOpen, Refuses, TakesUp, asked, newest_of, replied}
use Rattle.lxr_stations.specs.Wanting.{HasEnded, IsHeldUp}

-- no reply came, or one came and the actor rests
pub record Grows (a b : AnyActor) : Type 0 where
  pub same : asked b ≡ asked a
  pub replies : (replied b ≡ replied a) ⊎ ((r : Reply) × (replied b ≡ replied a ++ r ∷ []) × (any_machine.rests b ≡ true))

-- ---- a step of a mutator

abbrev Goes : Mutating → Mutating → Type 0
Goes m x = Grows (any.Mutator m) (any.Mutator x)

after : (m : Mutating) (old : ℕ) (to : Mutating) → StepsByRule m old to → Goes m to
after m old to (goes_on log registers spans p busy) = record { same = refl; replies = inl refl }
after m old to (finds_asked ready is) = record { same = refl; replies = inl refl }
after m old to (finds_end ready unasked is) = record { same = refl; replies = inr (reply.Ended, refl, refl) }
after m old to (gave_up why is) = record { same = refl; replies = inl refl }
after m old to (does_one log registers r) = record { same = refl; replies = inr (r, refl, done_rests (nat_le m.every (m.since + 1))) }
after m old to (stands_still is) = record { same = refl; replies = inl refl }

-- ---- a unit of an actor

after_actor : (a : AnyActor) (old : ℕ) → Grows a (any_machine.after a old)
after_actor (any.Mutator m) old = after m old (mutator.after m old) (step_by_rule m old)
after_actor (any.Decrementer d) old = record { same = refl; replies = inl refl }
after_actor (any.Tracer t) old = record { same = refl; replies = inl refl }

step_grows : (p q : Passing AnyActor) (old : ℕ) → DoesStep any_machine p old q → Grows p.actor q.actor
step_grows p q old d =
    let words = (run any_machine p.opening (p.seen ++ d.1)).words in
    let is : q.actor ≡ any_machine.after p.actor (slice_index words d.0.word) = ap (λ (r : Passing AnyActor). r.actor) d.4.2 ∙ acted_actor words p.actor d.0 d.2 in
    subst (Grows p.actor) (sym is) (after_actor p.actor (slice_index words d.0.word))

-- no reply came, and then what came
behind : (a b c : AnyActor) → asked b ≡ asked a → replied b ≡ replied a → Grows b c → Grows a c
behind a b c same items g = record {
  same = g.same ∙ same;
  replies = ⊎_elim (λ e. inl (e ∙ items)) (λ t. inr (t.0, t.1 ∙ ap (λ rs. rs ++ t.0 ∷ []) items, t.2)) g.replies;
}

-- with the further steps of the unit
goes_on_grows : (olds : List ℕ) (p r q : Passing AnyActor) → Grows p.actor r.actor → GoesOn any_machine r olds q → Grows p.actor q.actor
goes_on_grows [] p r q g t = subst (λ (x : Passing AnyActor). Grows p.actor x.actor) (sym t) g
goes_on_grows (old ∷ olds) p r q g t =
    ⊎_elim
    (λ items. goes_on_grows olds p t.1.0 q (behind p.actor r.actor t.1.0.actor g.same items (step_grows r t.1.0 old t.1.1)) t.1.2)
    (λ came. let busy : any_machine.rests r.actor ≡ false = t.0 in let rests : any_machine.rests r.actor ≡ true = came.2 in absurd (cc))
    g.replies

-- A turn leaves what the actor was asked for. It leaves the replies, or adds one.
pub turn_grows : (olds : List ℕ) (p q : Passing AnyActor) → Turned any_machine p olds q → Grows p.actor q.actor
turn_grows [] p q t = subst (λ (x : Passing AnyActor). Grows p.actor x.actor) (sym t.1) (record { same = refl; replies = inl refl })
turn_grows (old ∷ olds) p q t = goes_on_grows olds p t.0 q (step_grows p t.0 old t.1) t.2

-- ---- what a station tells of it

-- the answer for a reply, or for none
abbrev pub answer_of : Option Reply → Answer
answer_of (Some r) = answer.Done r
answer_of None = answer.Waits

-- the last of some replies is the one behind the others
read_last : (rs : List Reply) (r : Reply) → slice_get (rs ++ r ∷ []) (length (rs ++ r ∷ []) - 1) ≡ Some r
read_last rs r = ap (slice_get (rs ++ r ∷ [])) (let more = length-append rs (r ∷ []) in omega (arith, more)) ∙ read_behind rs r
  where
    read_behind : (rs : List Reply) (r : Reply) → slice_get (rs ++ r ∷ []) (length rs) ≡ Some r
    read_behind [] r = refl
    read_behind (x ∷ rs) r = read_behind rs r

-- where one more reply came, it is the newest
newest_came : (b : AnyActor) (rs : List Reply) (r : Reply) → replied b ≡ rs ++ r ∷ [] → newest_of b ≡ Some r
newest_came (any.Mutator m) rs r e = ap (λ o. option_or o (reply_in m.end)) (ap (λ xs. slice_get xs (length xs - 1)) e ∙ read_last rs r)
newest_came (any.Decrementer d) rs r e = let none = ap length e in let more = length-append rs (r ∷ []) in absurd (omega (arith, none, more))
newest_came (any.Tracer d) rs r e = let none = ap length e in let more = length-append rs (r ∷ []) in absurd (omega (arith, none, more))

-- as many replies as before are those of before
pub none_came : (p q : Passing AnyActor) → IsOpen p.actor → HasTurned p q → length (replied q.actor) ≡ length (replied p.actor) → HasGoneOn p None q
none_came p q pending turned same =
    let g = turn_grows turned.0 p q turned.1 in (
      λ _. turned,
      λ shut. absurd (shut pending),
      g.same,
      ⊎_elim (λ e. e) (λ t. let more = ap length t.1 ∙ length-append (replied p.actor) (t.0 ∷ []) in absurd (omega (arith, more, same))) g.replies,
    )

-- where there are others, one came, and it is the newest
pub one_came : (p q : Passing AnyActor) (o : Option Reply) → IsOpen p.actor → HasTurned p q → ¬ (length (replied q.actor) ≡ length (replied p.actor)) → o ≡ newest_of q.actor → HasGoneOn p o q
one_came p q o pending turned other read =
    let g = turn_grows turned.0 p q turned.1 in
    ⊎_elim
    (λ e. absurd (other (ap length e)))
    (λ t. subst (λ x. HasGoneOn p x q) (sym (read ∙ newest_came q.actor (replied p.actor) t.0 t.1)) (turned, pending, g.same, t.1))
    g.replies

-- ---- orders

-- a mutator that answers that it took the operation has it behind the others, and its replies
mutator_taken : (c : Bool) (m : Mutating) (o : Op) (b : AnyActor) → (ordered_if m o c).1 ≡ true → b ≡ any.Mutator (ordered_if m o c).0 → (asked b ≡ m.operations ++ o ∷ []) × (replied b ≡ m.replies.items)
mutator_taken true m o b took is = (ap asked is, ap replied is)
mutator_taken false m o b took is = absurd (cc)

-- an order that was taken stands behind what the actor was asked for, and leaves the replies
pub order_taken : (a b : AnyActor) (o : Op) → (b, true) ≡ any_machine.ordered a o → (asked b ≡ asked a ++ o ∷ []) × (replied b ≡ replied a)
order_taken (any.Mutator m) b o is = mutator_taken (takes_order m o) m o b (sym (ap (λ (t : AnyActor × Bool). t.1) is)) (ap (λ (t : AnyActor × Bool). t.0) is)
order_taken (any.Decrementer d) b o is = let no : true ≡ false = ap (λ (t : AnyActor × Bool). t.1) is in absurd (cc)
order_taken (any.Tracer t) b o is = let no : true ≡ false = ap (λ (x : AnyActor × Bool). x.1) is in absurd (cc)

-- what took an order may take it
pub taken_up : (a b : AnyActor) (o : Op) → (b, true) ≡ any_machine.ordered a o → TakesUp a o
taken_up (any.Mutator m) b o is = (takes_order_decides m o).0 (mutator_took (takes_order m o) m o (sym (ap (λ (t : AnyActor × Bool). t.1) is)))
  where
    mutator_took : (c : Bool) (m : Mutating) (o : Op) → (ordered_if m o c).1 ≡ true → c ≡ true
    mutator_took true m o e = refl
    mutator_took false m o e = e
taken_up (any.Decrementer d) b o is = let no : true ≡ false = ap (λ (t : AnyActor × Bool). t.1) is in absurd (cc)
taken_up (any.Tracer t) b o is = let no : true ≡ false = ap (λ (x : AnyActor × Bool). x.1) is in absurd (cc)

-- what took none may take none, and is as it was
pub not_taken : (a b : AnyActor) (o : Op) → (b, false) ≡ any_machine.ordered a o → (b ≡ a) × ¬ TakesUp a o
not_taken (any.Mutator m) b o is = by (takes_order m o) (takes_order_decides m o).1 (ap (λ (t : AnyActor × Bool). t.1) is) (ap (λ (t : AnyActor × Bool). t.0) is)
  where
    by : (c : Bool) → (MayTakeOrder m o → c ≡ true) → false ≡ (ordered_if m o c).1 → b ≡ any.Mutator (ordered_if m o c).0 → (b ≡ any.Mutator m) × ¬ MayTakeOrder m o
    by true may e is = absurd (cc)
    by false may e is = (is, λ takes. let no = may takes in absurd (cc))
not_taken (any.Decrementer d) b o is = (ap (λ (t : AnyActor × Bool). t.0) is, λ no. no)
not_taken (any.Tracer t) b o is = (ap (λ (x : AnyActor × Bool). x.0) is, λ no. no)

-- an actor that may take an order has a reply for each of its operations
all_replied : (a : AnyActor) (o : Op) → TakesUp a o → HasNoMore a → length (replied a) ≡ length (asked a)
all_replied (any.Mutator m) o may no_more =
    let idle = may.idle in
    ⊎_elim
    (λ none. let ready : mutator.action_in m phase.Ready ≡ None = subst (λ p. mutator.action_in m p ≡ None) may.ready none in absurd (cc))
    (λ few. omega (arith, idle, few))
    no_more
all_replied (any.Decrementer d) o may no_more = absurd may
all_replied (any.Tracer d) o may no_more = absurd may

-- it has an open operation once it is ordered one
pub opened : (a b : AnyActor) (o : Op) → (b, true) ≡ any_machine.ordered a o → HasNoMore a → IsOpen b
opened a b o is no_more =
    let taken = order_taken a b o is in
    let same = all_replied a o (taken_up a b o is) no_more in
    let longer = ap length taken.0 ∙ length-append (asked a) (o ∷ []) in
    let replies = ap length taken.1 in
    omega (arith, same, longer, replies)

-- behind so many replies stands the operation that was ordered
read_behind_all : (os : List Op) (o : Op) (count : ℕ) → count ≡ length os → slice_index_or (os ++ o ∷ []) count op.End ≡ o
read_behind_all os o count is = ap (λ n. slice_index_or (os ++ o ∷ []) n op.End) is ∙ there os
  where
    there : (xs : List Op) → slice_index_or (xs ++ o ∷ []) (length xs) op.End ≡ o
    there [] = refl
    there (x ∷ xs) = there xs

next_in_order : (b : AnyActor) (os : List Op) (o : Op) (count : ℕ) → asked b ≡ os ++ o ∷ [] → length (replied b) ≡ count → count ≡ length os → IsNextOf b o
next_in_order (any.Mutator m) os o count now replies same =
    sym (ap (λ xs. slice_index_or xs (length m.replies.items) op.End) now ∙ ap (λ n. slice_index_or (os ++ o ∷ []) n op.End) replies ∙ read_behind_all os o count same)
next_in_order (any.Decrementer d) os o count now replies same = let none = ap length now in let more = length-append os (o ∷ []) in absurd (omega (arith, none, more))
next_in_order (any.Tracer d) os o count now replies same = let none = ap length now in let more = length-append os (o ∷ []) in absurd (omega (arith, none, more))

-- once an actor has taken an order, the operation is the one whose turn it is
pub next_ordered : (a b : AnyActor) (o : Op) → (b, true) ≡ any_machine.ordered a o → HasNoMore a → IsNextOf b o
next_ordered a b o is no_more =
    let taken = order_taken a b o is in
    next_in_order b (asked a) o (length (replied a)) taken.0 (ap length taken.1) (all_replied a o (taken_up a b o is) no_more)

-- an operation that was ordered is the open one, and what comes of it is what the order is answered with
pub answered : (p r q : Passing AnyActor) (o : Op) (reply : Option Reply) → Told any_machine p (Order p.number o) r → (r.actor, true) ≡ any_machine.ordered p.actor o → HasNoMore p.actor → HasGoneOn r reply q → HasAnswered p o (answer_of reply) q
answered p r q o reply told is no_more gone =
    let taken = order_taken p.actor r.actor o is in
    tell reply gone (all_replied p.actor o (taken_up p.actor r.actor o is) no_more) taken (opened p.actor r.actor o is no_more)
  where
    tell : (reply : Option Reply) → HasGoneOn r reply q → length (replied p.actor) ≡ length (asked p.actor) → (asked r.actor ≡ asked p.actor ++ o ∷ []) × (replied r.actor ≡ replied p.actor) → IsOpen r.actor → HasAnswered p o (answer_of reply) q
    tell (Some x) gone same taken pending = ((r, told, gone.0), same, gone.2 ∙ taken.0, gone.3 ∙ ap (λ rs. rs ++ x ∷ []) taken.1)
    tell None gone same taken pending = ((r, told, gone.0 pending), same, gone.2 ∙ taken.0, gone.3 ∙ taken.1)

-- a mutator at rest is ready or finished
at_rest : (p : MutatorPhase) → rests_in p ≡ true → (p ≡ phase.Ready) ⊎ (p ≡ phase.Finished)
at_rest phase.Ready rests = inl refl
at_rest phase.Finished rests = inr refl
at_rest p rests = absurd (cc)

-- an actor at rest that is neither held up nor ended and takes no order has a reason of its own
refuses : (a : AnyActor) (o : Op) → any_machine.rests a ≡ true → (¬ TakesUp a o) → (¬ IsHeldUp a) → (¬ HasEnded a) → Refuses a o
refuses (any.Mutator m) o rests takes held ended =
    ⊎_elim
    (λ ready. ⊎_elim
    (λ pending. inl pending)
    (λ idle. ⊎_elim
    (λ room. inr (inl (λ may. takes (record { ready = ready; idle = idle; operation = may; room = room }))))
    (λ none. inr (inr none))
    (cases_lt (length m.operations + 2) m.replies.room))
    (cases_lt (length m.replies.items) (length m.operations)))
    (λ over. absurd (held (over, λ end. ended (over, end))))
    (at_rest m.phase rests)
refuses (any.Decrementer d) o rests takes held ended = tt
refuses (any.Tracer d) o rests takes held ended = tt

-- where none was taken, the answer says why
pub unanswered : (p q : Passing AnyActor) (o : Op) (said : Answer) → any_machine.rests p.actor ≡ true → (q.actor, false) ≡ any_machine.ordered p.actor o → IsNoOrder q.actor said → HasAnswered p o said q
unanswered p q o said rests is why =
    let none = not_taken p.actor q.actor o is in
    tell said none.0 none.1 (subst (λ a. IsNoOrder a said) none.0 why)
  where
    tell : (said : Answer) → q.actor ≡ p.actor → ¬ TakesUp p.actor o → IsNoOrder p.actor said → HasAnswered p o said q
    tell (answer.Done r) same takes why = absurd why
    tell answer.Waits same takes why = absurd why
    tell answer.Pause same takes why = (same, takes, why)
    tell answer.Ended same takes why = (same, takes, why)
    tell answer.Refused same takes why = (same, takes, why.0, why.1, refuses p.actor o rests takes why.0 why.1)

-- ---- units of any actor

-- a unit leaves what the actor was asked for
pub asked_stays : (p q : Passing AnyActor) → HasTurned p q → asked q.actor ≡ asked p.actor
asked_stays p q turned = (turn_grows turned.0 p q turned.1).same

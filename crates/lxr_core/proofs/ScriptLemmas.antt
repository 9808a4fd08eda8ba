-- An epoch, and what comes before and behind it, changes what threads are ordered by orders alone, and by none where no mutator has room.
use Rattle.std.proofs.Common.{◌≡◌, ℕ, zero, suc, ◌+◌, ◌<◌, ◌≤◌, refl, sym, ap, subst, ◌∙◌, arith, Bool, true, false, List, [], ◌∷◌, ◌++◌, length, cond, nat_eq, append-nil, append_assoc}
use Rattle.std.specs.Prelude.{Option, Some, None, slice_get, slice_index, slice_set, ◌==◌, if◌then◌else◌, map}
use Rattle.std.specs.Option.{option_map_or}
use Rattle.std.proofs.lemmas.Bool.Decides.{nat_tests}
use Rattle.std.proofs.lemmas.Option.{slice_get-get_or, slice_get_within}
use Rattle.lxr_layout.specs.declared.Place.{Place}
use Rattle.lxr_graph.specs.declared.Op.{Op}
use Rattle.lxr_graph.specs.declared.Op.TheVariants as op
use Rattle.lxr_graph.proofs.RowLemmas.{slice_get-push}
use Rattle.lxr_model_laws.specs.ScriptLaws.{GoesOn}
use Rattle.lxr_model_laws.proofs.ScriptLemmas.{goes_on_further, goes_on_itself}
use Rattle.lxr_actor.specs.declared.Action.{Action}
use Rattle.lxr_actor.specs.declared.Core.{Core}
use Rattle.lxr_actor.specs.declared.Event.{Event}
use Rattle.lxr_actor.specs.declared.Event.TheVariants.{Step, Give, Out, Order}
use Rattle.lxr_actor.specs.Run.{acted, change, event, happened, of_event, run}
use Rattle.lxr_mutator.specs.Mutating.{Mutating, op_now}
use Rattle.lxr_mutator.specs.Steps.{mutator_machine}
use Rattle.lxr_mutator.specs.Mutators.{IsFull, again}
use Rattle.lxr_mutator.specs.Orders.{ordered, ordered_if, takes_order, with_order}
use Rattle.lxr_mutator.proofs.OrderLemmas.{orders_by_rule}
use Rattle.lxr_mutator.specs.Laws.{StepsByRule}
use Rattle.lxr_mutator.specs.Laws.StepsByRule.{does_one, finds_asked, finds_end, gave_up, goes_on, stands_still}
use Rattle.lxr_mutator.proofs.StepLemmas.{step_by_rule}
use Rattle.lxr_decrement.specs.Decrementing.{DecrementerState}
use Rattle.lxr_decrement.specs.Decrementers.{again as empty_again}
use Rattle.lxr_decrement.specs.Steps.{decrementer_machine}
use Rattle.lxr_trace.specs.Tracing.{TracerState}
use Rattle.lxr_trace.specs.Tracers.{again as trace_again}
use Rattle.lxr_trace.specs.Steps.{tracer_machine}
use Rattle.lxr_core_invariant.specs.ThreadStates.{all_of}
use Rattle.lxr_core_invariant.proofs.ShowingLemmas.{set_elsewhere, set_here}
use Rattle.lxr_core.specs.declared.actors.AnyActor.{AnyActor}
use Rattle.lxr_core.specs.declared.actors.AnyActor.TheVariants as any
use Rattle.lxr_core.specs.Actors.{any_machine, mutators_in, script_of}
use Rattle.lxr_image.specs.Registers.{row_in}
use Rattle.lxr_core.specs.Starting.{HaveStarted, started_again}
use Rattle.lxr_core.specs.Filling.{unfilled}
use Rattle.lxr_core.specs.Opening.{Opens}
use Rattle.lxr_core.specs.Ordering.{AreFull, IsAskedBesides, OrdersAreAsked, ScriptsGoOn, ScriptsStay, ordered_in, orders_of, taken, taken_at, taken_by}
use Rattle.lxr_image.specs.declared.space.Space.{Space}

-- the operation whose turn it is stands behind those that have replies
pub op_is_next : (m : Mutating) → length m.replies.items < length m.operations → slice_get (all_of m.operations) (length m.replies.items) ≡ Some (op_now m)
op_is_next m more =
    let other : nat_eq (length m.replies.items) (length m.operations) ≡ false = grind (arith, nat_tests) in
    slice_get-push m.operations op.End (length m.replies.items)
    ∙ ap (λ b. cond b (Some op.End) (slice_get m.operations (length m.replies.items))) other
    ∙ slice_get-get_or m.operations (length m.replies.items) op.End more

-- ---- what mutators are ordered

-- the script is what stands first in each order
operations_in : (mutators : List Mutating) → map (λ z. z.0) (orders_of mutators) ≡ script_of mutators
operations_in [] = refl
operations_in (m ∷ mutators) = ap (λ s. m.operations ∷ s) (operations_in mutators)

-- mutators that are ordered the same have one script
pub one_script : (after before : List Mutating) → orders_of after ≡ orders_of before → script_of after ≡ script_of before
one_script after before same = sym (operations_in after) ∙ (ap (map (λ z. z.0)) same ∙ operations_in before)

-- and where the ones have no room for an order, the others have none
pub full_as : (after before : List Mutating) → orders_of after ≡ orders_of before → AreFull before → AreFull after
full_as [] before same full i m at = absurd (cc)
full_as (x ∷ after) [] same full i m at = absurd (cc)
full_as (x ∷ after) (y ∷ before) same full zero m at =
    let is : x ≡ m = cc in
    let as_much : ordered_in y ≡ ordered_in m = cc in
    subst (λ (z : List Op × ℕ). z.1 ≤ length z.0 + 1) as_much (full 0 y refl)
full_as (x ∷ after) (y ∷ before) same full (suc i) m at = full_as after before (cc) (λ j n there. full (suc j) n there) i m at

-- a mutator among actors whose mutators have no room
full_at : (actors : List AnyActor) (i : ℕ) (m : Mutating) → slice_get actors i ≡ Some (any.Mutator m) → AreFull (mutators_in actors) → IsFull m
full_at [] i m at full = absurd (cc)
full_at (any.Mutator x ∷ actors) zero m at full = let same : x ≡ m = cc in subst IsFull same (full 0 x refl)
full_at (any.Mutator x ∷ actors) (suc i) m at full = full_at actors i m at (λ j n there. full (suc j) n there)
full_at (any.Decrementer d ∷ actors) zero m at full = absurd (cc)
full_at (any.Decrementer d ∷ actors) (suc i) m at full = full_at actors i m at full
full_at (any.Tracer d ∷ actors) zero m at full = absurd (cc)
full_at (any.Tracer d ∷ actors) (suc i) m at full = full_at actors i m at full

-- ---- lists of actors

-- two actors are of one kind, and mutators are related so
data OfOneKind (R : Mutating → Mutating → Type 0) : AnyActor → AnyActor → Type 0 where
  mutator : (m x : Mutating) → R m x → OfOneKind R (any.Mutator m) (any.Mutator x)
  helper : (d x : DecrementerState) → OfOneKind R (any.Decrementer d) (any.Decrementer x)
  tracer : (d x : TracerState) → OfOneKind R (any.Tracer d) (any.Tracer x)

-- a mutator is ordered what another is
abbrev Keeps : Mutating → Mutating → Type 0
Keeps m n = ordered_in n ≡ ordered_in m

abbrev KeepsOrders : AnyActor → AnyActor → Type 0
KeepsOrders = OfOneKind Keeps

-- the first of some actors has
first_keeps : (a b : AnyActor) (actors : List AnyActor) → KeepsOrders a b → orders_of (mutators_in (b ∷ actors)) ≡ orders_of (mutators_in (a ∷ actors))
first_keeps a b actors (mutator m x same) = ap (λ z. z ∷ orders_of (mutators_in actors)) same
first_keeps a b actors (helper d x) = refl
first_keeps a b actors (tracer d x) = refl

-- what stands behind the first
behind_first : (a : AnyActor) (before after : List AnyActor) → orders_of (mutators_in after) ≡ orders_of (mutators_in before) → orders_of (mutators_in (a ∷ after)) ≡ orders_of (mutators_in (a ∷ before))
behind_first (any.Mutator m) before after same = ap (λ s. ordered_in m ∷ s) same
behind_first (any.Decrementer d) before after same = same
behind_first (any.Tracer d) before after same = same

-- the same orders, actor by actor
same_orders : (before after : List AnyActor) → length after ≡ length before
    → ((i : ℕ) (a : AnyActor) → slice_get before i ≡ Some a → (c : AnyActor) × (slice_get after i ≡ Some c) × KeepsOrders a c) → orders_of (mutators_in after) ≡ orders_of (mutators_in before)
same_orders [] [] many each = refl
same_orders [] (c ∷ after) many each = absurd (omega arith)
same_orders (a ∷ before) [] many each = absurd (omega arith)
same_orders (a ∷ before) (c ∷ after) many each =
    let (d, there, keeps) = each 0 a refl in
    let same : d ≡ c = cc in
    behind_first c before after (same_orders before after (omega arith) (λ i b at. each (suc i) b at)) ∙ first_keeps a c before (subst (KeepsOrders a) same keeps)

-- one actor with those that it had
actor_set : (actors : List AnyActor) (i : ℕ) (a b : AnyActor) → slice_get actors i ≡ Some a → KeepsOrders a b → orders_of (mutators_in (slice_set actors i b)) ≡ orders_of (mutators_in actors)
actor_set [] i a b at keeps = refl
actor_set (x ∷ actors) zero a b at keeps = let same : a ≡ x = cc in first_keeps x b actors (subst (λ z. KeepsOrders z b) same keeps)
actor_set (x ∷ actors) (suc i) a b at keeps = behind_first x actors (slice_set actors i b) (actor_set actors i a b at keeps)

-- those that begin again have theirs
started_keep : (a : AnyActor) (registers : List Place) → KeepsOrders a (started_again a registers)
started_keep (any.Mutator m) registers = mutator m (again m registers) refl
started_keep (any.Decrementer d) registers = helper d (empty_again d)
started_keep (any.Tracer d) registers = tracer d (trace_again d)

started_orders : (places : List Place) (before after : List AnyActor) → HaveStarted places before after (length before) → orders_of (mutators_in after) ≡ orders_of (mutators_in before)
started_orders places before after have =
    same_orders before after have.as_many
    (λ i a at. (started_again a (row_in places i), have.started i a at (slice_get_within before i a at), started_keep a (row_in places i)))

-- whether a pocket is filled says nothing of mutators
pub unfilled_mutators : (actors : List AnyActor) → mutators_in (map unfilled actors) ≡ mutators_in actors
unfilled_mutators [] = refl
unfilled_mutators (any.Mutator m ∷ actors) = ap (λ z. m ∷ z) (unfilled_mutators actors)
unfilled_mutators (any.Decrementer d ∷ actors) = unfilled_mutators actors
unfilled_mutators (any.Tracer d ∷ actors) = unfilled_mutators actors

-- so an epoch that is opened has what was ordered, and room where there was some
opened_orders : (before after : Space) (resting started : List AnyActor) → Opens before after resting started → orders_of (mutators_in started) ≡ orders_of (mutators_in resting)
opened_orders before after resting started opens = ap orders_of (sym (unfilled_mutators started)) ∙ started_orders before.registers.items resting (map unfilled started) opens.actors

pub opened_script : (before after : Space) (resting started : List AnyActor) → Opens before after resting started → script_of (mutators_in started) ≡ script_of (mutators_in resting)
opened_script before after resting started opens = one_script (mutators_in started) (mutators_in resting) (opened_orders before after resting started opens)

pub opened_full : (before after : Space) (resting started : List AnyActor) → Opens before after resting started → AreFull (mutators_in resting) → AreFull (mutators_in started)
opened_full before after resting started opens = full_as (mutators_in started) (mutators_in resting) (opened_orders before after resting started opens)

-- ---- a step

-- each step of a mutator keeps its orders
step_keeps : (m : Mutating) (old : ℕ) (to : Mutating) → StepsByRule m old to → Keeps m to
step_keeps m old to (goes_on log registers spans p busy) = refl
step_keeps m old to (finds_asked ready is) = refl
step_keeps m old to (finds_end ready unasked is) = refl
step_keeps m old to (gave_up why is) = refl
step_keeps m old to (does_one log registers r) = refl
step_keeps m old to (stands_still is) = refl

-- ---- a schedule

-- so does each event of an actor
acted_keeps : (words : List ℕ) (a : AnyActor) (o : Option Action) → KeepsOrders a (acted any_machine words a o).1
acted_keeps words (any.Mutator m) None = mutator m m refl
acted_keeps words (any.Mutator m) (Some act) =
    let old = slice_index words act.word in
    mutator m (mutator_machine.after m old) (step_keeps m old (mutator_machine.after m old) (step_by_rule m old))
acted_keeps words (any.Decrementer d) None = helper d d
acted_keeps words (any.Decrementer d) (Some act) = helper d (decrementer_machine.after d (slice_index words act.word))
acted_keeps words (any.Tracer d) None = tracer d d
acted_keeps words (any.Tracer d) (Some act) = tracer d (tracer_machine.after d (slice_index words act.word))

-- one that has no room takes no order
refuses : (m : Mutating) (o : Op) → IsFull m → Keeps m (ordered m o).0
refuses m o full = ap ordered_in ((orders_by_rule m o).may_not (λ may. let room = may.room in absurd (omega (arith, room, full))))

-- what an event makes of an actor, by what an order makes of a mutator
changed_so : (R : Mutating → Mutating → Type 0) → ((m x : Mutating) → Keeps m x → R m x) → (e : Event) (words : List ℕ) (a : AnyActor) → ((m : Mutating) (o : Op) → a ≡ any.Mutator m → R m (ordered m o).0)
    → OfOneKind R a (change any_machine e words a).1
changed_so R weaker (Step number) words a order = weakened (acted_keeps words a (any_machine.action a))
  where
    weakened : {a b : AnyActor} → KeepsOrders a b → OfOneKind R a b
    weakened (mutator m x same) = mutator m x (weaker m x same)
    weakened (helper d x) = helper d x
    weakened (tracer d x) = tracer d x
changed_so R weaker (Give number place) words (any.Mutator m) order = mutator m m (weaker m m refl)
changed_so R weaker (Give number place) words (any.Decrementer d) order = helper d (decrementer_machine.offered d place).0
changed_so R weaker (Give number place) words (any.Tracer d) order = tracer d (tracer_machine.offered d place).0
changed_so R weaker (Out number) words (any.Mutator m) order = mutator m m (weaker m m refl)
changed_so R weaker (Out number) words (any.Decrementer d) order = helper d (decrementer_machine.spared d).0
changed_so R weaker (Out number) words (any.Tracer d) order = tracer d (tracer_machine.spared d).0
changed_so R weaker (Order number op) words (any.Mutator m) order = mutator m (ordered m op).0 (order m op refl)
changed_so R weaker (Order number op) words (any.Decrementer d) order = helper d d
changed_so R weaker (Order number op) words (any.Tracer d) order = tracer d d

happened_keeps : (core : Core AnyActor) (e : Event) (o : Option AnyActor) → slice_get core.actors (of_event e) ≡ o → AreFull (mutators_in core.actors)
    → orders_of (mutators_in (happened any_machine core e o).actors) ≡ orders_of (mutators_in core.actors)
happened_keeps core e None at full = refl
happened_keeps core e (Some a) at full =
    actor_set core.actors (of_event e) a (change any_machine e core.words a).1 at
    (changed_so Keeps (λ m x same. same) e core.words a (λ m o is. refuses m o (full_at core.actors (of_event e) m (at ∙ ap Some is) full)))

orders_run : (core : Core AnyActor) (schedule : List Event) → AreFull (mutators_in core.actors) → orders_of (mutators_in (run any_machine core schedule).actors) ≡ orders_of (mutators_in core.actors)
orders_run core [] full = refl
orders_run core (e ∷ es) full =
    let after = event any_machine core e in
    let first = happened_keeps core e (slice_get core.actors (of_event e)) refl full in
    orders_run after es (full_as (mutators_in after.actors) (mutators_in core.actors) first full) ∙ first

-- after each schedule the operations of each thread are what they were, and no mutator has room for others
pub scripts_stay : ScriptsStay
scripts_stay core schedule full =
    let after = run any_machine core schedule in
    let same = orders_run core schedule full in
    record {
      script = one_script (mutators_in after.actors) (mutators_in core.actors) same;
      full = full_as (mutators_in after.actors) (mutators_in core.actors) same full;
    }

-- ---- orders that are taken

-- a mutator was asked for what another was, and maybe for more
abbrev Gets : Mutating → Mutating → Type 0
Gets m x = (more : List Op) × (x.operations ≡ m.operations ++ more)

kept_gets : (m x : Mutating) → Keeps m x → Gets m x
kept_gets m x same = ([], ap (λ (z : List Op × ℕ). z.0) same ∙ sym (append-nil m.operations))

-- an order asks it for one operation more, or for none
order_gets_by : (m : Mutating) (o : Op) (takes : Bool) → Gets m (ordered_if m o takes).0
order_gets_by m o true = (o ∷ [], refl)
order_gets_by m o false = ([], sym (append-nil m.operations))

order_gets : (m : Mutating) (o : Op) → Gets m (ordered m o).0
order_gets m o = order_gets_by m o (takes_order m o)

-- so the script of actors goes on where one of them gets more
first_gets : (a b : AnyActor) (actors : List AnyActor) → OfOneKind Gets a b → GoesOn (script_of (mutators_in (a ∷ actors))) (script_of (mutators_in (b ∷ actors)))
first_gets a b actors (mutator m x gets) = (gets, goes_on_itself (script_of (mutators_in actors)))
first_gets a b actors (helper d x) = goes_on_itself (script_of (mutators_in actors))
first_gets a b actors (tracer d x) = goes_on_itself (script_of (mutators_in actors))

behind_gets : (a : AnyActor) (before after : List AnyActor) → GoesOn (script_of (mutators_in before)) (script_of (mutators_in after)) → GoesOn (script_of (mutators_in (a ∷ before))) (script_of (mutators_in (a ∷ after)))
behind_gets (any.Mutator m) before after on = (([], sym (append-nil m.operations)), on)
behind_gets (any.Decrementer d) before after on = on
behind_gets (any.Tracer d) before after on = on

put_gets : (actors : List AnyActor) (i : ℕ) (a b : AnyActor) → slice_get actors i ≡ Some a → OfOneKind Gets a b → GoesOn (script_of (mutators_in actors)) (script_of (mutators_in (slice_set actors i b)))
put_gets [] i a b at gets = tt
put_gets (x ∷ actors) zero a b at gets = let same : a ≡ x = cc in first_gets x b actors (subst (λ z. OfOneKind Gets z b) same gets)
put_gets (x ∷ actors) (suc i) a b at gets = behind_gets x actors (slice_set actors i b) (put_gets actors i a b at gets)

happened_gets : (core : Core AnyActor) (e : Event) (o : Option AnyActor) → slice_get core.actors (of_event e) ≡ o → GoesOn (script_of (mutators_in core.actors)) (script_of (mutators_in (happened any_machine core e o).actors))
happened_gets core e None at = goes_on_itself (script_of (mutators_in core.actors))
happened_gets core e (Some a) at =
    put_gets core.actors (of_event e) a (change any_machine e core.words a).1 at (changed_so Gets kept_gets e core.words a (λ m o is. order_gets m o))

-- over each schedule it goes on
pub scripts_go_on : ScriptsGoOn
scripts_go_on core [] = goes_on_itself (script_of (mutators_in core.actors))
scripts_go_on core (e ∷ es) =
    let next = event any_machine core e in
    goes_on_further (script_of (mutators_in core.actors)) (script_of (mutators_in next.actors)) (script_of (mutators_in (run any_machine next es).actors))
    (happened_gets core e (slice_get core.actors (of_event e)) refl) (scripts_go_on next es)

-- ---- what is taken

-- an actor is a mutator that is asked for these operations, and for these behind them
abbrev AsksBesides : AnyActor → List Op → List Op → Type 0
AsksBesides a before more = (x : Mutating) × (a ≡ any.Mutator x) × (x.operations ≡ before ++ more)

kept_asks : {a : AnyActor} {m : Mutating} → KeepsOrders (any.Mutator m) a → AsksBesides a m.operations []
kept_asks (mutator m x same) = (x, refl, ap (λ (z : List Op × ℕ). z.0) same ∙ sym (append-nil m.operations))

ordered_asks : (m : Mutating) (o : Op) (takes : Bool) → AsksBesides (any.Mutator (ordered_if m o takes).0) m.operations (if (ordered_if m o takes).1 then o ∷ [] else [])
ordered_asks m o true = (with_order m o, refl, refl)
ordered_asks m o false = (m, refl, sym (append-nil m.operations))

-- so it is of what an event makes of a mutator
change_asks : (e : Event) (words : List ℕ) (m : Mutating) → AsksBesides (change any_machine e words (any.Mutator m)).1 m.operations (taken_by (any.Mutator m) e)
change_asks (Step number) words m = kept_asks (acted_keeps words (any.Mutator m) (any_machine.action (any.Mutator m)))
change_asks (Give number place) words m = (m, refl, sym (append-nil m.operations))
change_asks (Out number) words m = (m, refl, sym (append-nil m.operations))
change_asks (Order number op) words m = ordered_asks m op (takes_order m op)

module _ (core : Core AnyActor) (e : Event) (i : ℕ) (m : Mutating) (at : slice_get core.actors i ≡ Some (any.Mutator m)) where
  abbrev Asked : List AnyActor → List Op → Type 0
  Asked actors more = IsAskedBesides actors i m.operations more

  -- what it takes, by whether the event is its own
  by_own : (own : Bool) → (of_event e == i) ≡ own → taken_at i core.actors e ≡ (if own then taken_by (any.Mutator m) e else [])
  by_own own is = ap (λ z. option_map_or (λ a. if of_event e == i then taken_by a e else []) z []) at ∙ ap (λ b. if b then taken_by (any.Mutator m) e else []) is

  own_asked : (a : AnyActor) → slice_get core.actors (of_event e) ≡ Some a → of_event e ≡ i → Asked (slice_set core.actors (of_event e) (change any_machine e core.words a).1) (taken_by (any.Mutator m) e)
  own_asked a there same =
      let is : a ≡ any.Mutator m = cc in
      let (x, made, asks) = change_asks e core.words m in
      let made' : (change any_machine e core.words a).1 ≡ any.Mutator x = ap (λ z. (change any_machine e core.words z).1) is ∙ made in
      record {
        mutator = x;
        shows = subst (λ k. slice_get (slice_set core.actors (of_event e) (change any_machine e core.words a).1) k ≡ Some (any.Mutator x)) same
            (set_here core.actors (of_event e) (change any_machine e core.words a).1 a there ∙ ap Some made');
        asked = asks;
      }

  still_asked : (actors : List AnyActor) → slice_get actors i ≡ slice_get core.actors i → Asked actors []
  still_asked actors same = record { mutator = m; shows = same ∙ at; asked = sym (append-nil m.operations) }

  happened_by : (own : Bool) → (of_event e == i) ≡ own → (o : Option AnyActor) → slice_get core.actors (of_event e) ≡ o → Asked (happened any_machine core e o).actors (if own then taken_by (any.Mutator m) e else [])
  happened_by true is None there = let same : of_event e ≡ i = grind (arith, nat_tests, is) in absurd (cc)
  happened_by true is (Some a) there = own_asked a there (grind (arith, nat_tests, is))
  happened_by false is None there = still_asked core.actors refl
  happened_by false is (Some a) there =
      still_asked (slice_set core.actors (of_event e) (change any_machine e core.words a).1)
      (set_elsewhere core.actors (of_event e) i (change any_machine e core.words a).1 (grind (arith, nat_tests, is)))

  event_asked : Asked (event any_machine core e).actors (taken_at i core.actors e)
  event_asked =
      subst (Asked (event any_machine core e).actors) (sym (by_own (of_event e == i) refl))
      (happened_by (of_event e == i) refl (slice_get core.actors (of_event e)) refl)

-- over each schedule a mutator is asked for what it was ordered and took
pub orders_are_asked : OrdersAreAsked
orders_are_asked core [] i m at = record { mutator = m; shows = at; asked = sym (append-nil m.operations) }
orders_are_asked core (e ∷ es) i m at =
    let next = event any_machine core e in
    let first = event_asked core e i m at in
    let behind = orders_are_asked next es i first.mutator first.shows in
    record {
      mutator = behind.mutator;
      shows = behind.shows;
      asked = behind.asked ∙ ap (λ z. z ++ taken i next es) first.asked ∙ append_assoc m.operations (taken_at i core.actors e) (taken i next es);
    }

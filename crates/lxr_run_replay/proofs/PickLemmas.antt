-- What the step of a picked actor does: a mutator has less work before it then, and a helper is picked only where the
-- generator hasn't come to 0, since the first actor that may be drawn is a mutator.
use Rattle.std.proofs.Common.{◌≡◌, ℕ, zero, suc, ◌+◌, ◌*◌, ◌%◌, ◌<◌, ◌≤◌, Bool, true, false, IsTrue, ◌↔◌, List, [], ◌∷◌, length, arith, refl, sym, subst, ap, ◌∙◌}
use Rattle.std.specs.Prelude.{Option, Some, None, is_some, nat_eq, ◌||◌, slice_get, slice_index, slice_set}
use Rattle.std.proofs.Math.ListN.{length-set}
use Rattle.std.proofs.Math.Nat.{mul-le-mul_right}
use Rattle.std.proofs.lemmas.Option.{slice_get_within}
use Rattle.lxr_base.specs.Draws.{draw, step}
use Rattle.lxr_base.proofs.Period.{steps_left, steps_left_falls, steps_left_few}
use Rattle.lxr_actor.specs.declared.Action.{Action}
use Rattle.lxr_actor.specs.declared.Core.{Core}
use Rattle.lxr_actor.specs.declared.Event.TheVariants.{Step}
use Rattle.lxr_actor.specs.Run.{acted, core_of, event}
use Rattle.lxr_actor.proofs.Runs.{event-is}
use Rattle.lxr_mutator.specs.Mutating.{Mutating}
use Rattle.lxr_mutator.specs.Mutators.{IsMutator}
use Rattle.lxr_mutator.specs.Steps.{action}
use Rattle.lxr_decrement.specs.Decrementing.{DecrementerState}
use Rattle.lxr_trace.specs.Tracing.{TracerState}
use Rattle.lxr_core.specs.declared.actors.AnyActor.{AnyActor}
use Rattle.lxr_core.specs.declared.actors.AnyActor.TheVariants as any
use Rattle.lxr_core.specs.Actors.{AreInOrder, any_machine, decrementers_in, in_order, mutators_in, tracers_in}
use Rattle.lxr_core.specs.Closing.{AreFinished}
use Rattle.lxr_core.proofs.OrderLemmas.{mutator_at, mutator_from, mutators_before, mutators_put, mutators_stay}
use Rattle.lxr_run_replay.specs.Replaying.{IsPicked, acts, may_be_drawn, some_act, unfinished, unfinished_from}
use Rattle.lxr_run_replay.specs.Working.{work}
use Rattle.lxr_run_replay.proofs.WorkLemmas.{finished_phase, step_works}
use Rattle.lxr_run_replay.proofs.NumberLemmas.{stands, with_first}

-- ---- work

-- the work that all mutators have before them in an epoch
abbrev pub work_of : List Mutating → ℕ
work_of [] = 0
work_of (m ∷ mutators) = work m + work_of mutators

-- it is less where one of them has less
less_work : (mutators : List Mutating) (i : ℕ) (m m' : Mutating) → slice_get mutators i ≡ Some m → work m' < work m → work_of (slice_set mutators i m') < work_of mutators
less_work [] i m m' at less = absurd (cc)
less_work (x ∷ mutators) zero m m' at less =
    let same : x ≡ m = cc in
    let less_than : work m' < work x = subst (λ (y : Mutating). work m' < work y) (sym same) less in
    omega arith
less_work (x ∷ mutators) (suc i) m m' at less = let rest = less_work mutators i m m' at less in omega arith

-- what is some is not none
none_of : {A : Type 0} (o : Option A) → is_some o ≡ true → o ≡ None → ⊥
none_of None h e = cc
none_of (Some x) h e = cc

-- what is not some is none
pub nothing_of : {A : Type 0} (o : Option A) → is_some o ≡ false → o ≡ None
nothing_of None h = refl
nothing_of (Some x) h = absurd (cc)

-- what an action makes of a mutator
pub record HasWorked (a : AnyActor) (m : Mutating) : Type 0 where
  pub after : Mutating
  pub is : a ≡ any.Mutator after
  pub less : work after < work m

pub acted_mutator : (words : List ℕ) (m : Mutating) (o : Option Action) → IsMutator m → (action m ≡ None → ⊥) → is_some o ≡ true → HasWorked (acted any_machine words (any.Mutator m) o).1 m
acted_mutator words m None is some h = absurd (cc)
acted_mutator words m (Some act) is some h = record { after = _; is = refl; less = step_works m (slice_index words act.word) is some }

-- what it makes of a decrementer is one, and of a tracer
pub acted_helper : (words : List ℕ) (d : DecrementerState) (o : Option Action) → (e : DecrementerState) × ((acted any_machine words (any.Decrementer d) o).1 ≡ any.Decrementer e)
acted_helper words d None = (d, refl)
acted_helper words d (Some act) = (_, refl)

pub acted_tracer : (words : List ℕ) (d : TracerState) (o : Option Action) → (e : TracerState) × ((acted any_machine words (any.Tracer d) o).1 ≡ any.Tracer e)
acted_tracer words d None = (d, refl)
acted_tracer words d (Some act) = (_, refl)

-- what any step makes of a mutator is one
acted_still : (words : List ℕ) (m : Mutating) (o : Option Action) → (n : Mutating) × ((acted any_machine words (any.Mutator m) o).1 ≡ any.Mutator n)
acted_still words m None = (m, refl)
acted_still words m (Some act) = (_, refl)

-- a step of a mutator that acts leaves less work in the epoch
mutator_works : (core : Core AnyActor) (number : ℕ) (m : Mutating) → AreInOrder core.actors → slice_get core.actors number ≡ Some (any.Mutator m) → acts (any.Mutator m) ≡ true → IsMutator m
    → work_of (mutators_in (event any_machine core (Step number)).actors) < work_of (mutators_in core.actors)
mutator_works core number m order at does is =
    let now = acted_mutator core.words m (action m) is (none_of (action m) does) does in
    let put : mutators_in (slice_set core.actors number (any.Mutator now.after)) ≡ slice_set (mutators_in core.actors) number now.after = mutators_put core.actors number m now.after order at in
    let less = less_work (mutators_in core.actors) number m now.after (mutator_at core.actors number m order at) now.less in
    let to : mutators_in (event any_machine core (Step number)).actors ≡ slice_set (mutators_in core.actors) number now.after =
    ap (λ (c : Core AnyActor). mutators_in c.actors) (event-is any_machine core (Step number) (any.Mutator m) at)
    ∙ (ap (λ (a : AnyActor). mutators_in (slice_set core.actors number a)) now.is ∙ put) in
    subst (λ (ms : List Mutating). work_of ms < work_of (mutators_in core.actors)) (sym to) less

-- a step of a decrementer leaves the mutators, and so does one of a tracer
pub helper_leaves : (core : Core AnyActor) (number : ℕ) (d : DecrementerState) → slice_get core.actors number ≡ Some (any.Decrementer d)
    → mutators_in (event any_machine core (Step number)).actors ≡ mutators_in core.actors
helper_leaves core number d at =
    let (e, is) = acted_helper core.words d (any_machine.action (any.Decrementer d)) in
    ap (λ (c : Core AnyActor). mutators_in c.actors) (event-is any_machine core (Step number) (any.Decrementer d) at)
    ∙ (ap (λ (a : AnyActor). mutators_in (slice_set core.actors number a)) is ∙ mutators_stay core.actors number d e at)

pub tracer_leaves : (core : Core AnyActor) (number : ℕ) (d : TracerState) → slice_get core.actors number ≡ Some (any.Tracer d)
    → mutators_in (event any_machine core (Step number)).actors ≡ mutators_in core.actors
tracer_leaves core number d at =
    let (e, is) = acted_tracer core.words d (any_machine.action (any.Tracer d)) in
    ap (λ (c : Core AnyActor). mutators_in c.actors) (event-is any_machine core (Step number) (any.Tracer d) at)
    ∙ (ap (λ (a : AnyActor). mutators_in (slice_set core.actors number a)) is ∙ mutators_before core.actors number d e at)

-- there are as many mutators after a step
pub as_many_mutators : (core : Core AnyActor) (number : ℕ) (a : AnyActor) → AreInOrder core.actors → slice_get core.actors number ≡ Some a
    → length (mutators_in (event any_machine core (Step number)).actors) ≡ length (mutators_in core.actors)
as_many_mutators core number (any.Mutator m) order at =
    let (n, is) = acted_still core.words m (any_machine.action (any.Mutator m)) in
    ap (λ (c : Core AnyActor). length (mutators_in c.actors)) (event-is any_machine core (Step number) (any.Mutator m) at)
    ∙ (ap (λ (a : AnyActor). length (mutators_in (slice_set core.actors number a))) is
    ∙ (ap length (mutators_put core.actors number m n order at) ∙ length-set (mutators_in core.actors) number n))
as_many_mutators core number (any.Decrementer d) order at = ap length (helper_leaves core number d at)
as_many_mutators core number (any.Tracer d) order at = ap length (tracer_leaves core number d at)

-- ---- who is picked

-- the actor of a number that is picked
pub record IsOfActor (actors : List AnyActor) (number : ℕ) : Type 0 where
  pub actor : AnyActor
  pub at : slice_get actors number ≡ Some actor
  pub acting : acts actor ≡ true

-- what may be drawn has a next action
drawn_acts : (tracing : Bool) (a : AnyActor) → may_be_drawn tracing a ≡ true → acts a ≡ true
drawn_acts tracing (any.Mutator m) drawn = drawn
drawn_acts tracing (any.Decrementer d) drawn = drawn
drawn_acts true (any.Tracer d) drawn = drawn
drawn_acts false (any.Tracer d) drawn = absurd (cc)

pub picked_actor : (tracing : Bool) (x : ℕ) (actors : List AnyActor) (number : ℕ) → IsPicked tracing x actors number → IsOfActor actors number
picked_actor tracing x actors number picked =
    let s = stands tracing 0 actors _ number picked in
    let e : number ≡ s.index = let h = s.number_is in omega arith in
    record { actor = s.actor; at = ap (slice_get actors) e ∙ s.at; acting = drawn_acts tracing s.actor s.acting }

-- the first of these actors that may be drawn is a mutator, where some of the mutators has a next action
pub record StandsFirst (tracing : Bool) (n : ℕ) (mutators : List Mutating) (actors : List AnyActor) : Type 0 where
  pub index : ℕ
  pub mutator : Mutating
  pub at : slice_get mutators index ≡ Some mutator
  pub among : slice_get actors index ≡ Some (any.Mutator mutator)
  pub first : slice_get (unfinished_from tracing n actors) 0 ≡ Some (n + index)

first_by : (tracing b : Bool) (n : ℕ) (m : Mutating) (mutators : List Mutating) (decrementers : List DecrementerState) (tracers : List TracerState) → acts (any.Mutator m) ≡ b → (b || some_act mutators) ≡ true
    → (some_act mutators ≡ true → StandsFirst tracing (n + 1) mutators (in_order mutators decrementers tracers)) → StandsFirst tracing n (m ∷ mutators) (in_order (m ∷ mutators) decrementers tracers)
first_by tracing true n m mutators decrementers tracers does some rest = record {
  index = 0;
  mutator = m;
  at = refl;
  among = refl;
  first = ap (λ b. slice_get (with_first n (unfinished_from tracing (n + 1) (in_order mutators decrementers tracers)) b) 0) does ∙ (let here : n ≡ n + 0 = omega arith in ap (λ (k : ℕ). Some k) here);
}
first_by tracing false n m mutators decrementers tracers does some rest =
    let s = rest some in record {
      index = suc s.index;
      mutator = s.mutator;
      at = s.at;
      among = s.among;
      first = ap (λ b. slice_get (with_first n (unfinished_from tracing (n + 1) (in_order mutators decrementers tracers)) b) 0) does
          ∙ (s.first ∙ (let here : n + 1 + s.index ≡ n + suc s.index = omega arith in ap (λ (k : ℕ). Some k) here));
    }

stands_first : (tracing : Bool) (n : ℕ) (mutators : List Mutating) (decrementers : List DecrementerState) (tracers : List TracerState) → some_act mutators ≡ true → StandsFirst tracing n mutators (in_order mutators decrementers tracers)
stands_first tracing n [] decrementers tracers some = absurd (cc)
stands_first tracing n (m ∷ mutators) decrementers tracers some = first_by tracing (acts (any.Mutator m)) n m mutators decrementers tracers refl some (λ more. stands_first tracing (n + 1) mutators decrementers tracers more)

pub first_is_mutator : (tracing : Bool) (actors : List AnyActor) → AreInOrder actors → some_act (mutators_in actors) ≡ true → StandsFirst tracing 0 (mutators_in actors) actors
first_is_mutator tracing actors order some =
    subst (λ (z : List AnyActor). StandsFirst tracing 0 (mutators_in actors) z) (sym order) (stands_first tracing 0 (mutators_in actors) (decrementers_in actors) (tracers_in actors) some)

-- 0 modulo any number is 0
zero_mod : (n : ℕ) → 0 % n ≡ 0
zero_mod n = omega arith

-- where the generator comes to 0, a mutator is picked
zero_picks : (tracing : Bool) (x : ℕ) (actors : List AnyActor) (number : ℕ) (a : AnyActor) → AreInOrder actors → some_act (mutators_in actors) ≡ true → IsPicked tracing x actors number
    → slice_get actors number ≡ Some a → nat_eq x 0 ≡ true → (m : Mutating) × (a ≡ any.Mutator m)
unfolding draw
zero_picks tracing x actors number a order some picked at is_zero =
    let s = first_is_mutator tracing actors order some in
    let none : x ≡ 0 = grind (arith) in
    let place : draw x % length (unfinished tracing actors) ≡ 0 = ap (λ (k : ℕ). draw k % length (unfinished tracing actors)) none ∙ zero_mod (length (unfinished tracing actors)) in
    let there : slice_get (unfinished tracing actors) 0 ≡ Some number = ap (slice_get (unfinished tracing actors)) (sym place) ∙ picked in
    let both : Some (0 + s.index) ≡ Some number = sym s.first ∙ there in
    let same : s.index ≡ number = let e : 0 + s.index ≡ number = cc in omega arith in
    let two : Some a ≡ Some (any.Mutator s.mutator) = sym at ∙ (ap (slice_get actors) (sym same) ∙ s.among) in
    (s.mutator, cc)

-- ---- a number that falls with each draw

-- the work of mutators, and for each bit of it as many draws as come before the generator's next 0
abbrev pub draws_left : List Mutating → ℕ → ℕ
draws_left mutators x = work_of mutators * 18446744073709551617 + steps_left x

less_first : (w w' u u' k : ℕ) → w' < w → u' < k → w' * k + u' < w * k + u
less_first w w' u u' k less below = let times : (w' + 1) * k ≤ w * k = mul-le-mul_right k (omega arith) in omega arith

less_second : (w w' u u' k : ℕ) → w' ≡ w → u' < u → w' * k + u' < w * k + u
less_second w w' u u' k same less = let times : w' * k ≡ w * k = ap (λ (v : ℕ). v * k) same in omega arith

-- it falls by whom is picked
pub record IsTurn (tracing : Bool) (x : ℕ) (core : Core AnyActor) (number : ℕ) : Type 0 where
  pub order : AreInOrder core.actors
  pub some : some_act (mutators_in core.actors) ≡ true
  pub picked : IsPicked tracing (step x) core.actors number
  pub sound : (i : ℕ) (m : Mutating) → slice_get (mutators_in core.actors) i ≡ Some m → IsMutator m

-- a step of a helper, which leaves the mutators, is drawn by a generator that hasn't come to 0
falls_beside : (tracing : Bool) (x : ℕ) (core : Core AnyActor) (number : ℕ) (a : AnyActor) → IsTurn tracing x core number → slice_get core.actors number ≡ Some a → ((m : Mutating) → a ≡ any.Mutator m → ⊥)
    → mutators_in (event any_machine core (Step number)).actors ≡ mutators_in core.actors
    → draws_left (mutators_in (event any_machine core (Step number)).actors) (step x) < draws_left (mutators_in core.actors) x
falls_beside tracing x core number a turn at helper leaves =
    less_second (work_of (mutators_in core.actors)) (work_of (mutators_in (event any_machine core (Step number)).actors)) (steps_left x) (steps_left (step x)) 18446744073709551617
    (ap work_of leaves)
    (steps_left_falls x (isnt_zero (nat_eq (step x) 0) refl))
  where
    isnt_zero : (b : Bool) → nat_eq (step x) 0 ≡ b → nat_eq (step x) 0 ≡ false
    isnt_zero true e = let (m, is) = zero_picks tracing (step x) core.actors number a turn.order turn.some turn.picked at e in absurd (helper m is)
    isnt_zero false e = e

falls_by : (tracing : Bool) (x : ℕ) (core : Core AnyActor) (number : ℕ) (a : AnyActor) → IsTurn tracing x core number → slice_get core.actors number ≡ Some a → acts a ≡ true
    → draws_left (mutators_in (event any_machine core (Step number)).actors) (step x) < draws_left (mutators_in core.actors) x
falls_by tracing x core number (any.Mutator m) turn at does =
    less_first (work_of (mutators_in core.actors)) (work_of (mutators_in (event any_machine core (Step number)).actors)) (steps_left x) (steps_left (step x)) 18446744073709551617
    (mutator_works core number m turn.order at does (turn.sound number m (mutator_at core.actors number m turn.order at)))
    (let few = steps_left_few (step x) in omega arith)
falls_by tracing x core number (any.Decrementer d) turn at does = falls_beside tracing x core number (any.Decrementer d) turn at (λ m e. cc) (helper_leaves core number d at)
falls_by tracing x core number (any.Tracer d) turn at does = falls_beside tracing x core number (any.Tracer d) turn at (λ m e. cc) (tracer_leaves core number d at)

-- so it does in words and actors that are those of the core after the step
pub turn_nearer : (tracing : Bool) (x x' : ℕ) (words : List ℕ) (actors : List AnyActor) (number : ℕ) (words' : List ℕ) (actors' : List AnyActor) → IsTurn tracing x (core_of words actors) number
    → x' ≡ step x → core_of words' actors' ≡ event any_machine (core_of words actors) (Step number)
    → draws_left (mutators_in actors') x' < draws_left (mutators_in actors) x
turn_nearer tracing x x' words actors number words' actors' turn x_is core_is =
    let p = picked_actor tracing (step x) actors number turn.picked in
    let falls = falls_by tracing x (core_of words actors) number p.actor turn p.at p.acting in
    subst (λ (y : ℕ). draws_left (mutators_in actors') y < draws_left (mutators_in actors) x) (sym x_is)
    (subst (λ (c : Core AnyActor). draws_left (mutators_in c.actors) (step x) < draws_left (mutators_in actors) x) (sym core_is) falls)

-- ---- where none acts

-- neither of two holds
neither : (a b : Bool) → (a || b) ≡ false → (a ≡ false) × (b ≡ false)
neither true b e = absurd (cc)
neither false b e = (refl, e)

-- none of these mutators acts
none_acts : (mutators : List Mutating) → some_act mutators ≡ false → (i : ℕ) (m : Mutating) → slice_get mutators i ≡ Some m → acts (any.Mutator m) ≡ false
none_acts [] none i m at = absurd (cc)
none_acts (x ∷ mutators) none zero m at =
    let same : x ≡ m = cc in
    subst (λ (y : Mutating). acts (any.Mutator y) ≡ false) same (neither (acts (any.Mutator x)) (some_act mutators) none).0
none_acts (x ∷ mutators) none (suc i) m at = none_acts mutators (neither (acts (any.Mutator x)) (some_act mutators) none).1 i m at

-- so all are finished
pub all_finished : (mutators : List Mutating) → some_act mutators ≡ false → ((i : ℕ) (m : Mutating) → slice_get mutators i ≡ Some m → IsMutator m) → AreFinished mutators
all_finished mutators none are i m at = finished_phase m (are i m at) (nothing_of (action m) (none_acts mutators none i m at))

-- ---- what a test tells

-- one that has a next action among these mutators
acting_some : (mutators : List Mutating) (i : ℕ) (m : Mutating) → slice_get mutators i ≡ Some m → acts (any.Mutator m) ≡ true → some_act mutators ≡ true
acting_some [] i m at does = absurd (cc)
acting_some (x ∷ mutators) zero m at does =
    let same : m ≡ x = cc in
    ap (λ b. b || some_act mutators) (subst (λ (y : Mutating). acts (any.Mutator y) ≡ true) same does)
acting_some (x ∷ mutators) (suc i) m at does = either (acts (any.Mutator x)) (some_act mutators) (acting_some mutators i m at does)
  where
    either : (a b : Bool) → b ≡ true → (a || b) ≡ true
    either true b e = refl
    either false b e = e

-- the numbers begin with that of a mutator
abbrev pub BeginBelow : List ℕ → ℕ → Type 0
BeginBelow numbers limit = (number : ℕ) × (slice_get numbers 0 ≡ Some number) × (number < limit)

-- some mutator has a next action exactly where the first number of those that may be drawn is a mutator's
pub begins_with_mutator : (tracing : Bool) (actors : List AnyActor) (numbers : List ℕ) (limit : ℕ) → AreInOrder actors → numbers ≡ unfinished tracing actors → limit ≡ length (mutators_in actors)
    → BeginBelow numbers limit → some_act (mutators_in actors) ≡ true
begins_with_mutator tracing actors numbers limit order are is (number, at, below) =
    let s = stands tracing 0 actors 0 number (ap (λ ns. slice_get ns 0) (sym are) ∙ at) in
    let e : number ≡ s.index = let h = s.number_is in omega arith in
    let low : number < length (mutators_in actors) = omega arith in
    let (m, there) = element (mutators_in actors) number low in
    let both : Some s.actor ≡ Some (any.Mutator m) = sym s.at ∙ (ap (slice_get actors) (sym e) ∙ mutator_from actors number m order there) in
    let same : s.actor ≡ any.Mutator m = cc in
    acting_some (mutators_in actors) number m there (subst (λ (a : AnyActor). acts a ≡ true) same (drawn_acts tracing s.actor s.acting))
  where
    element : (mutators : List Mutating) (i : ℕ) → i < length mutators → (m : Mutating) × (slice_get mutators i ≡ Some m)
    element [] i low = absurd (omega arith)
    element (x ∷ mutators) zero low = (x, refl)
    element (x ∷ mutators) (suc i) low = element mutators i (omega arith)

pub mutator_begins : (tracing : Bool) (actors : List AnyActor) (numbers : List ℕ) (limit : ℕ) → AreInOrder actors → numbers ≡ unfinished tracing actors → limit ≡ length (mutators_in actors)
    → some_act (mutators_in actors) ≡ true → BeginBelow numbers limit
mutator_begins tracing actors numbers limit order are is some =
    let s = first_is_mutator tracing actors order some in
    let within = slice_get_within (mutators_in actors) s.index s.mutator s.at in
    (0 + s.index, ap (λ ns. slice_get ns 0) are ∙ s.first, omega arith)

-- so a test tells it
pub test_tells : (tracing : Bool) (actors : List AnyActor) (numbers : List ℕ) (limit : ℕ) (b : Bool) → AreInOrder actors → numbers ≡ unfinished tracing actors → limit ≡ length (mutators_in actors)
    → (IsTrue b ↔ BeginBelow numbers limit) → some_act (mutators_in actors) ≡ b
test_tells tracing actors numbers limit true order are is means = begins_with_mutator tracing actors numbers limit order are is (means.0 refl)
test_tells tracing actors numbers limit false order are is means = not_true (some_act (mutators_in actors)) refl
  where
    not_true : (b : Bool) → some_act (mutators_in actors) ≡ b → some_act (mutators_in actors) ≡ false
    not_true true e = let none : false ≡ true = means.1 (mutator_begins tracing actors numbers limit order are is e) in absurd (cc)
    not_true false e = e

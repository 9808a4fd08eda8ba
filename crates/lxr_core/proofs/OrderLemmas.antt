-- Mutators come first, decrementers behind them, and tracers last: so the mutator of a number is the actor of that number.
use Rattle.std.proofs.Common.{◌≡◌, ℕ, zero, suc, ◌+◌, ◌≤◌, refl, sym, ap, subst, ◌∙◌, arith, List, [], ◌∷◌, ◌++◌, length}
use Rattle.std.proofs.lemmas.List.{length-set}
use Rattle.std.specs.Prelude.{Some, None, slice_get, slice_set, take}
use Rattle.lxr_core.specs.declared.actors.AnyActor.{AnyActor}
use Rattle.lxr_core.specs.declared.actors.AnyActor.TheVariants as any
use Rattle.lxr_mutator.specs.Mutating.{Mutating}
use Rattle.lxr_decrement.specs.Decrementing.{DecrementerState}
use Rattle.lxr_trace.specs.Tracing.{TracerState}
use Rattle.lxr_core.specs.Actors.{AreInOrder, decrementers_in, in_order, mutators_in, tracers_in}

-- ---- what is in order

-- what stands behind a mutator
behind_mutator : (m : Mutating) (actors : List AnyActor) → AreInOrder (any.Mutator m ∷ actors) → AreInOrder actors
behind_mutator m actors is = cc

-- no mutator stands behind a decrementer, and what does is in order
record IsBehindDecrementer (actors : List AnyActor) : Type 0 where
  mutators : mutators_in actors ≡ []
  order : AreInOrder actors

behind_decrementer : (d : DecrementerState) (actors : List AnyActor) → AreInOrder (any.Decrementer d ∷ actors) → IsBehindDecrementer actors
behind_decrementer d actors is =
    let (none, rest) = by_mutators (mutators_in actors) is in
    record { mutators = none; order = rest ∙ ap (λ ms. in_order ms (decrementers_in actors) (tracers_in actors)) (sym none) }
  where
    by_mutators : (ms : List Mutating) → any.Decrementer d ∷ actors ≡ in_order ms (d ∷ decrementers_in actors) (tracers_in actors) → (ms ≡ []) × (actors ≡ in_order [] (decrementers_in actors) (tracers_in actors))
    by_mutators [] e = (refl, cc)
    by_mutators (m ∷ ms) e = absurd (cc)

-- neither mutators nor decrementers stand behind a tracer
record IsBehindTracer (actors : List AnyActor) : Type 0 where
  mutators : mutators_in actors ≡ []
  decrementers : decrementers_in actors ≡ []
  order : AreInOrder actors

behind_tracer : (d : TracerState) (actors : List AnyActor) → AreInOrder (any.Tracer d ∷ actors) → IsBehindTracer actors
behind_tracer d actors is =
    let (mutators, decrementers, rest) = by_both (mutators_in actors) (decrementers_in actors) is in
    record {
      mutators = mutators;
      decrementers = decrementers;
      order = rest ∙ ap (λ ms. in_order ms [] (tracers_in actors)) (sym mutators) ∙ ap (λ ds. in_order (mutators_in actors) ds (tracers_in actors)) (sym decrementers);
    }
  where
    by_both : (ms : List Mutating) (ds : List DecrementerState) → any.Tracer d ∷ actors ≡ in_order ms ds (d ∷ tracers_in actors) → (ms ≡ []) × (ds ≡ []) × (actors ≡ in_order [] [] (tracers_in actors))
    by_both [] [] e = (refl, refl, cc)
    by_both [] (x ∷ ds) e = absurd (cc)
    by_both (m ∷ ms) ds e = absurd (cc)

-- a decrementer may stand where no mutator follows, and a tracer where no decrementer does either
before_decrementers : (d : DecrementerState) (actors : List AnyActor) → mutators_in actors ≡ [] → AreInOrder actors → AreInOrder (any.Decrementer d ∷ actors)
before_decrementers d actors none is =
    ap (λ z. any.Decrementer d ∷ z) (is ∙ ap (λ ms. in_order ms (decrementers_in actors) (tracers_in actors)) none)
    ∙ ap (λ ms. in_order ms (d ∷ decrementers_in actors) (tracers_in actors)) (sym none)

before_tracers : (d : TracerState) (actors : List AnyActor) → mutators_in actors ≡ [] → decrementers_in actors ≡ [] → AreInOrder actors → AreInOrder (any.Tracer d ∷ actors)
before_tracers d actors none no_decrementers is =
    ap (λ z. any.Tracer d ∷ z) (is ∙ ap (λ ms. in_order ms (decrementers_in actors) (tracers_in actors)) none ∙ ap (λ ds. in_order [] ds (tracers_in actors)) no_decrementers)
    ∙ ap (λ ds. in_order [] ds (d ∷ tracers_in actors)) (sym no_decrementers) ∙ ap (λ ms. in_order ms (decrementers_in actors) (d ∷ tracers_in actors)) (sym none)

-- those put in order are the mutators, the decrementers and the tracers
pub mutators_of_order : (ms : List Mutating) (ds : List DecrementerState) (ts : List TracerState) → mutators_in (in_order ms ds ts) ≡ ms
mutators_of_order [] [] [] = refl
mutators_of_order [] [] (d ∷ ts) = mutators_of_order [] [] ts
mutators_of_order [] (d ∷ ds) ts = mutators_of_order [] ds ts
mutators_of_order (m ∷ ms) ds ts = ap (λ z. m ∷ z) (mutators_of_order ms ds ts)

pub decrementers_of_order : (ms : List Mutating) (ds : List DecrementerState) (ts : List TracerState) → decrementers_in (in_order ms ds ts) ≡ ds
decrementers_of_order [] [] [] = refl
decrementers_of_order [] [] (d ∷ ts) = decrementers_of_order [] [] ts
decrementers_of_order [] (d ∷ ds) ts = ap (λ z. d ∷ z) (decrementers_of_order [] ds ts)
decrementers_of_order (m ∷ ms) ds ts = decrementers_of_order ms ds ts

pub tracers_of_order : (ms : List Mutating) (ds : List DecrementerState) (ts : List TracerState) → tracers_in (in_order ms ds ts) ≡ ts
tracers_of_order [] [] [] = refl
tracers_of_order [] [] (d ∷ ts) = ap (λ z. d ∷ z) (tracers_of_order [] [] ts)
tracers_of_order [] (d ∷ ds) ts = tracers_of_order [] ds ts
tracers_of_order (m ∷ ms) ds ts = tracers_of_order ms ds ts

-- and they are in order
pub are_in_order : (ms : List Mutating) (ds : List DecrementerState) (ts : List TracerState) → AreInOrder (in_order ms ds ts)
are_in_order ms ds ts =
    sym (ap (λ z. in_order z (decrementers_in (in_order ms ds ts)) (tracers_in (in_order ms ds ts))) (mutators_of_order ms ds ts)
    ∙ ap (λ z. in_order ms z (tracers_in (in_order ms ds ts))) (decrementers_of_order ms ds ts)
    ∙ ap (in_order ms ds) (tracers_of_order ms ds ts))

-- ---- numbers

-- where no mutator is, none has a number
no_mutator : {P : Type 0} (actors : List AnyActor) (n : ℕ) (m : Mutating) → mutators_in actors ≡ [] → slice_get actors n ≡ Some (any.Mutator m) → P
no_mutator [] n m none there = absurd (cc)
no_mutator (any.Mutator x ∷ actors) n m none there = absurd (cc)
no_mutator (any.Decrementer x ∷ actors) zero m none there = absurd (cc)
no_mutator (any.Decrementer x ∷ actors) (suc n) m none there = no_mutator actors n m none there
no_mutator (any.Tracer x ∷ actors) zero m none there = absurd (cc)
no_mutator (any.Tracer x ∷ actors) (suc n) m none there = no_mutator actors n m none there

-- a mutator has the number that it has among mutators
pub mutator_at : (actors : List AnyActor) (n : ℕ) (m : Mutating) → AreInOrder actors → slice_get actors n ≡ Some (any.Mutator m) → slice_get (mutators_in actors) n ≡ Some m
mutator_at [] n m is there = absurd (cc)
mutator_at (any.Mutator x ∷ actors) zero m is there = cc
mutator_at (any.Mutator x ∷ actors) (suc n) m is there = mutator_at actors n m (behind_mutator x actors is) there
mutator_at (any.Decrementer x ∷ actors) zero m is there = absurd (cc)
mutator_at (any.Decrementer x ∷ actors) (suc n) m is there = no_mutator actors n m (behind_decrementer x actors is).mutators there
mutator_at (any.Tracer x ∷ actors) zero m is there = absurd (cc)
mutator_at (any.Tracer x ∷ actors) (suc n) m is there = no_mutator actors n m (behind_tracer x actors is).mutators there

-- so it is the other way round
pub mutator_from : (actors : List AnyActor) (n : ℕ) (m : Mutating) → AreInOrder actors → slice_get (mutators_in actors) n ≡ Some m → slice_get actors n ≡ Some (any.Mutator m)
mutator_from [] n m is there = absurd (cc)
mutator_from (any.Mutator x ∷ actors) zero m is there = cc
mutator_from (any.Mutator x ∷ actors) (suc n) m is there = mutator_from actors n m (behind_mutator x actors is) there
mutator_from (any.Decrementer x ∷ actors) n m is there =
    let nothing : slice_get (mutators_in actors) n ≡ None = ap (λ ms. slice_get ms n) (behind_decrementer x actors is).mutators in
    absurd (cc)
mutator_from (any.Tracer x ∷ actors) n m is there =
    let nothing : slice_get (mutators_in actors) n ≡ None = ap (λ ms. slice_get ms n) (behind_tracer x actors is).mutators in
    absurd (cc)

-- a helper has a number among helpers, by which it is put
pub record IsHelperAt (actors : List AnyActor) (n : ℕ) (d : DecrementerState) : Type 0 where
  pub number : ℕ
  pub stands : slice_get (decrementers_in actors) number ≡ Some d
  pub put : (e : DecrementerState) → decrementers_in (slice_set actors n (any.Decrementer e)) ≡ slice_set (decrementers_in actors) number e

pub helper_at : (actors : List AnyActor) (n : ℕ) (d : DecrementerState) → slice_get actors n ≡ Some (any.Decrementer d) → IsHelperAt actors n d
helper_at [] n d there = absurd (cc)
helper_at (any.Mutator x ∷ actors) zero d there = absurd (cc)
helper_at (any.Mutator x ∷ actors) (suc n) d there = let is = helper_at actors n d there in record { number = is.number; stands = is.stands; put = is.put }
helper_at (any.Decrementer x ∷ actors) zero d there = record { number = 0; stands = cc; put = λ e. refl }
helper_at (any.Decrementer x ∷ actors) (suc n) d there =
    let is = helper_at actors n d there in
    record { number = suc is.number; stands = is.stands; put = λ e. ap (λ z. x ∷ z) (is.put e) }
helper_at (any.Tracer x ∷ actors) zero d there = absurd (cc)
helper_at (any.Tracer x ∷ actors) (suc n) d there = let is = helper_at actors n d there in record { number = is.number; stands = is.stands; put = is.put }

-- so has a tracer
pub record IsTracerAt (actors : List AnyActor) (n : ℕ) (d : TracerState) : Type 0 where
  pub number : ℕ
  pub stands : slice_get (tracers_in actors) number ≡ Some d
  pub put : (e : TracerState) → tracers_in (slice_set actors n (any.Tracer e)) ≡ slice_set (tracers_in actors) number e

pub tracer_at : (actors : List AnyActor) (n : ℕ) (d : TracerState) → slice_get actors n ≡ Some (any.Tracer d) → IsTracerAt actors n d
tracer_at [] n d there = absurd (cc)
tracer_at (any.Mutator x ∷ actors) zero d there = absurd (cc)
tracer_at (any.Mutator x ∷ actors) (suc n) d there = let is = tracer_at actors n d there in record { number = is.number; stands = is.stands; put = is.put }
tracer_at (any.Decrementer x ∷ actors) zero d there = absurd (cc)
tracer_at (any.Decrementer x ∷ actors) (suc n) d there = let is = tracer_at actors n d there in record { number = is.number; stands = is.stands; put = is.put }
tracer_at (any.Tracer x ∷ actors) zero d there = record { number = 0; stands = cc; put = λ e. refl }
tracer_at (any.Tracer x ∷ actors) (suc n) d there =
    let is = tracer_at actors n d there in
    record { number = suc is.number; stands = is.stands; put = λ e. ap (λ z. x ∷ z) (is.put e) }

-- a helper has a number among all
pub helper_from : (actors : List AnyActor) (i : ℕ) (d : DecrementerState) → slice_get (decrementers_in actors) i ≡ Some d → (n : ℕ) × (slice_get actors n ≡ Some (any.Decrementer d))
helper_from [] i d there = absurd (cc)
helper_from (any.Mutator x ∷ actors) i d there = let from = helper_from actors i d there in (suc from.0, from.1)
helper_from (any.Decrementer x ∷ actors) zero d there = (0, cc)
helper_from (any.Decrementer x ∷ actors) (suc i) d there = let from = helper_from actors i d there in (suc from.0, from.1)
helper_from (any.Tracer x ∷ actors) i d there = let from = helper_from actors i d there in (suc from.0, from.1)

-- and so has a tracer
pub tracer_from : (actors : List AnyActor) (i : ℕ) (d : TracerState) → slice_get (tracers_in actors) i ≡ Some d → (n : ℕ) × (slice_get actors n ≡ Some (any.Tracer d))
tracer_from [] i d there = absurd (cc)
tracer_from (any.Mutator x ∷ actors) i d there = let from = tracer_from actors i d there in (suc from.0, from.1)
tracer_from (any.Decrementer x ∷ actors) i d there = let from = tracer_from actors i d there in (suc from.0, from.1)
tracer_from (any.Tracer x ∷ actors) zero d there = (0, cc)
tracer_from (any.Tracer x ∷ actors) (suc i) d there = let from = tracer_from actors i d there in (suc from.0, from.1)

-- there are as many as all three together
pub lengths_add : (actors : List AnyActor) → length actors ≡ length (mutators_in actors) + length (decrementers_in actors) + length (tracers_in actors)
lengths_add [] = refl
lengths_add (any.Mutator x ∷ actors) = let rest = lengths_add actors in omega (arith, rest)
lengths_add (any.Decrementer x ∷ actors) = let rest = lengths_add actors in omega (arith, rest)
lengths_add (any.Tracer x ∷ actors) = let rest = lengths_add actors in omega (arith, rest)

-- ---- one of them put

-- a mutator put where one stands
pub mutators_put : (actors : List AnyActor) (n : ℕ) (m x : Mutating) → AreInOrder actors → slice_get actors n ≡ Some (any.Mutator m)
    → mutators_in (slice_set actors n (any.Mutator x)) ≡ slice_set (mutators_in actors) n x
mutators_put [] n m x is there = absurd (cc)
mutators_put (any.Mutator y ∷ actors) zero m x is there = refl
mutators_put (any.Mutator y ∷ actors) (suc n) m x is there = ap (λ z. y ∷ z) (mutators_put actors n m x (behind_mutator y actors is) there)
mutators_put (any.Decrementer y ∷ actors) zero m x is there = absurd (cc)
mutators_put (any.Decrementer y ∷ actors) (suc n) m x is there = no_mutator actors n m (behind_decrementer y actors is).mutators there
mutators_put (any.Tracer y ∷ actors) zero m x is there = absurd (cc)
mutators_put (any.Tracer y ∷ actors) (suc n) m x is there = no_mutator actors n m (behind_tracer y actors is).mutators there

-- ---- what stays where one is put

-- of actors a part is taken, each actor's own: what of it one that is put and one that stood there don't have stays
module _ {X : Type 0} (part : List AnyActor → List X) (own : AnyActor → List X) (first : (a : AnyActor) (actors : List AnyActor) → part (a ∷ actors) ≡ own a ++ part actors) where
  part_stays : (actors : List AnyActor) (n : ℕ) (a x : AnyActor) → slice_get actors n ≡ Some a → own a ≡ [] → own x ≡ [] → part (slice_set actors n x) ≡ part actors
  part_stays [] n a x there none other = refl
  part_stays (y ∷ actors) zero a x there none other =
      let same : a ≡ y = cc in
      first x actors ∙ ap (λ z. z ++ part actors) (other ∙ sym none ∙ ap own same) ∙ sym (first y actors)
  part_stays (y ∷ actors) (suc n) a x there none other = first y (slice_set actors n x) ∙ ap (λ z. own y ++ z) (part_stays actors n a x there none other) ∙ sym (first y actors)

-- a mutator, a decrementer or a tracer alone
abbrev mutator_of : AnyActor → List Mutating
mutator_of a = mutators_in (a ∷ [])

abbrev decrementer_of : AnyActor → List DecrementerState
decrementer_of a = decrementers_in (a ∷ [])

abbrev tracer_of : AnyActor → List TracerState
tracer_of a = tracers_in (a ∷ [])

first_mutator : (a : AnyActor) (actors : List AnyActor) → mutators_in (a ∷ actors) ≡ mutator_of a ++ mutators_in actors
first_mutator (any.Mutator m) actors = refl
first_mutator (any.Decrementer d) actors = refl
first_mutator (any.Tracer d) actors = refl

first_decrementer : (a : AnyActor) (actors : List AnyActor) → decrementers_in (a ∷ actors) ≡ decrementer_of a ++ decrementers_in actors
first_decrementer (any.Mutator m) actors = refl
first_decrementer (any.Decrementer d) actors = refl
first_decrementer (any.Tracer d) actors = refl

first_tracer : (a : AnyActor) (actors : List AnyActor) → tracers_in (a ∷ actors) ≡ tracer_of a ++ tracers_in actors
first_tracer (any.Mutator m) actors = refl
first_tracer (any.Decrementer d) actors = refl
first_tracer (any.Tracer d) actors = refl

-- a mutator that is put leaves the helpers
pub helpers_stay : (actors : List AnyActor) (n : ℕ) (m x : Mutating) → slice_get actors n ≡ Some (any.Mutator m) → decrementers_in (slice_set actors n (any.Mutator x)) ≡ decrementers_in actors
helpers_stay actors n m x there = part_stays decrementers_in decrementer_of first_decrementer actors n (any.Mutator m) (any.Mutator x) there refl refl

pub tracers_stay : (actors : List AnyActor) (n : ℕ) (m x : Mutating) → slice_get actors n ≡ Some (any.Mutator m) → tracers_in (slice_set actors n (any.Mutator x)) ≡ tracers_in actors
tracers_stay actors n m x there = part_stays tracers_in tracer_of first_tracer actors n (any.Mutator m) (any.Mutator x) there refl refl

-- a decrementer leaves the mutators and the tracers
pub mutators_stay : (actors : List AnyActor) (n : ℕ) (d e : DecrementerState) → slice_get actors n ≡ Some (any.Decrementer d) → mutators_in (slice_set actors n (any.Decrementer e)) ≡ mutators_in actors
mutators_stay actors n d e there = part_stays mutators_in mutator_of first_mutator actors n (any.Decrementer d) (any.Decrementer e) there refl refl

pub tracers_beside : (actors : List AnyActor) (n : ℕ) (d e : DecrementerState) → slice_get actors n ≡ Some (any.Decrementer d) → tracers_in (slice_set actors n (any.Decrementer e)) ≡ tracers_in actors
tracers_beside actors n d e there = part_stays tracers_in tracer_of first_tracer actors n (any.Decrementer d) (any.Decrementer e) there refl refl

-- and a tracer the mutators and the decrementers
pub mutators_before : (actors : List AnyActor) (n : ℕ) (d e : TracerState) → slice_get actors n ≡ Some (any.Tracer d) → mutators_in (slice_set actors n (any.Tracer e)) ≡ mutators_in actors
mutators_before actors n d e there = part_stays mutators_in mutator_of first_mutator actors n (any.Tracer d) (any.Tracer e) there refl refl

pub helpers_beside : (actors : List AnyActor) (n : ℕ) (d e : TracerState) → slice_get actors n ≡ Some (any.Tracer d) → decrementers_in (slice_set actors n (any.Tracer e)) ≡ decrementers_in actors
helpers_beside actors n d e there = part_stays decrementers_in decrementer_of first_decrementer actors n (any.Tracer d) (any.Tracer e) there refl refl

-- ---- actors of the same kinds

-- whether an actor is of the kind of another
pub data SameKind : AnyActor → AnyActor → Type 0 where
  two_mutators : (m x : Mutating) → SameKind (any.Mutator m) (any.Mutator x)
  two_helpers : (d x : DecrementerState) → SameKind (any.Decrementer d) (any.Decrementer x)
  two_tracers : (d x : TracerState) → SameKind (any.Tracer d) (any.Tracer x)

-- each actor has another of its kind in its place
pub record AreAlike (before after : List AnyActor) : Type 0 where
  pub as_many : length after ≡ length before
  pub each : (i : ℕ) (a : AnyActor) → slice_get before i ≡ Some a → (x : AnyActor) × (slice_get after i ≡ Some x) × SameKind a x

-- those behind the first ones
rest_alike : (a x : AnyActor) (before after : List AnyActor) → AreAlike (a ∷ before) (x ∷ after) → AreAlike before after
rest_alike a x before after are = record { as_many = let many = are.as_many in omega (arith, many); each = λ i b there. are.each (suc i) b there }

-- the first ones
first_alike : (a x : AnyActor) (before after : List AnyActor) → AreAlike (a ∷ before) (x ∷ after) → SameKind a x
first_alike a x before after are =
    let (y, there, kind) = are.each 0 a refl in
    let same : y ≡ x = cc in
    subst (SameKind a) same kind

-- there are as many of each kind
record AreAsMany (before after : List AnyActor) : Type 0 where
  mutators : length (mutators_in after) ≡ length (mutators_in before)
  decrementers : length (decrementers_in after) ≡ length (decrementers_in before)

counts_alike : (before after : List AnyActor) → AreAlike before after → AreAsMany before after
counts_alike [] [] are = record { mutators = refl; decrementers = refl }
counts_alike [] (x ∷ after) are = let many = are.as_many in absurd (omega (arith, many))
counts_alike (a ∷ before) [] are = let many = are.as_many in absurd (omega (arith, many))
counts_alike (a ∷ before) (x ∷ after) are = by_kind a x (first_alike a x before after are) (counts_alike before after (rest_alike a x before after are))
  where
    by_kind : (a x : AnyActor) → SameKind a x → AreAsMany before after → AreAsMany (a ∷ before) (x ∷ after)
    by_kind a x (two_mutators m y) rest = record { mutators = ap suc rest.mutators; decrementers = rest.decrementers }
    by_kind a x (two_helpers d y) rest = record { mutators = rest.mutators; decrementers = ap suc rest.decrementers }
    by_kind a x (two_tracers d y) rest = record { mutators = rest.mutators; decrementers = rest.decrementers }

pub alike_counts : (before after : List AnyActor) → AreAlike before after → length (mutators_in after) ≡ length (mutators_in before)
alike_counts before after are = (counts_alike before after are).mutators

-- a list of no length is empty
none_of_length : {X : Type 0} (xs : List X) → length xs ≡ 0 → xs ≡ []
none_of_length [] none = refl
none_of_length (x ∷ xs) none = absurd (omega (arith, none))

-- and they are in order
pub alike_order : (before after : List AnyActor) → AreAlike before after → AreInOrder before → AreInOrder after
alike_order [] [] are is = refl
alike_order [] (x ∷ after) are is = let many = are.as_many in absurd (omega (arith, many))
alike_order (a ∷ before) [] are is = let many = are.as_many in absurd (omega (arith, many))
alike_order (a ∷ before) (x ∷ after) are is =
    let behind = rest_alike a x before after are in
    by_kind a x (first_alike a x before after are) (counts_alike before after behind) (alike_order before after behind) is
  where
    by_kind : (a x : AnyActor) → SameKind a x → AreAsMany before after → (AreInOrder before → AreInOrder after) → AreInOrder (a ∷ before) → AreInOrder (x ∷ after)
    by_kind a x (two_mutators m y) many behind is = ap (λ z. any.Mutator y ∷ z) (behind (behind_mutator m before is))
    by_kind a x (two_helpers d y) many behind is =
        let rest = behind_decrementer d before is in
        before_decrementers y after (none_of_length (mutators_in after) (many.mutators ∙ ap length rest.mutators)) (behind rest.order)
    by_kind a x (two_tracers d y) many behind is =
        let rest = behind_tracer d before is in
        before_tracers y after (none_of_length (mutators_in after) (many.mutators ∙ ap length rest.mutators)) (none_of_length (decrementers_in after) (many.decrementers ∙ ap length rest.decrementers)) (behind rest.order)

-- an actor is of its own kind
own_kind : (a : AnyActor) → SameKind a a
own_kind (any.Mutator m) = two_mutators m m
own_kind (any.Decrementer d) = two_helpers d d
own_kind (any.Tracer d) = two_tracers d d

-- what stands where one is put in the place of one of its kind
put_each : (actors : List AnyActor) (n : ℕ) (a x : AnyActor) → slice_get actors n ≡ Some a → SameKind a x
    → (i : ℕ) (b : AnyActor) → slice_get actors i ≡ Some b → (y : AnyActor) × (slice_get (slice_set actors n x) i ≡ Some y) × SameKind b y
put_each [] n a x there kind i b at = absurd (cc)
put_each (y ∷ actors) zero a x there kind zero b at = let same : a ≡ b = cc in (x, refl, subst (λ z. SameKind z x) same kind)
put_each (y ∷ actors) zero a x there kind (suc i) b at = (b, at, own_kind b)
put_each (y ∷ actors) (suc n) a x there kind zero b at = (b, at, own_kind b)
put_each (y ∷ actors) (suc n) a x there kind (suc i) b at = put_each actors n a x there kind i b at

-- so order stays
pub put_order : (actors : List AnyActor) (n : ℕ) (a x : AnyActor) → slice_get actors n ≡ Some a → SameKind a x → AreInOrder actors → AreInOrder (slice_set actors n x)
put_order actors n a x there kind is = alike_order actors (slice_set actors n x) (record { as_many = length-set actors n x; each = put_each actors n a x there kind }) is

-- ---- beginnings

-- the mutators of two lists behind one another
pub mutators_of_both : (actors others : List AnyActor) → mutators_in (actors ++ others) ≡ mutators_in actors ++ mutators_in others
mutators_of_both [] others = refl
mutators_of_both (any.Mutator m ∷ actors) others = ap (λ z. m ∷ z) (mutators_of_both actors others)
mutators_of_both (any.Decrementer d ∷ actors) others = mutators_of_both actors others
mutators_of_both (any.Tracer d ∷ actors) others = mutators_of_both actors others

-- and the tracers
pub tracers_of_both : (actors others : List AnyActor) → tracers_in (actors ++ others) ≡ tracers_in actors ++ tracers_in others
tracers_of_both [] others = refl
tracers_of_both (any.Mutator m ∷ actors) others = tracers_of_both actors others
tracers_of_both (any.Decrementer d ∷ actors) others = tracers_of_both actors others
tracers_of_both (any.Tracer d ∷ actors) others = ap (λ z. d ∷ z) (tracers_of_both actors others)

-- so many of the first actors are at most so many mutators
pub mutators_few : (actors : List AnyActor) (n : ℕ) → length (mutators_in (take n actors)) ≤ n
mutators_few actors zero = omega arith
mutators_few [] (suc n) = omega arith
mutators_few (any.Mutator m ∷ actors) (suc n) = let rest = mutators_few actors n in omega (arith, rest)
mutators_few (any.Decrementer d ∷ actors) (suc n) = let rest = mutators_few actors n in omega (arith, rest)
mutators_few (any.Tracer d ∷ actors) (suc n) = let rest = mutators_few actors n in omega (arith, rest)

-- those before a mutator are all mutators
pub first_many : (actors : List AnyActor) (n : ℕ) (m : Mutating) → AreInOrder actors → slice_get actors n ≡ Some (any.Mutator m) → length (mutators_in (take n actors)) ≡ n
first_many actors zero m is there = refl
first_many [] (suc n) m is there = absurd (cc)
first_many (any.Mutator x ∷ actors) (suc n) m is there = ap suc (first_many actors n m (behind_mutator x actors is) there)
first_many (any.Decrementer x ∷ actors) (suc n) m is there = no_mutator actors n m (behind_decrementer x actors is).mutators there
first_many (any.Tracer x ∷ actors) (suc n) m is there = no_mutator actors n m (behind_tracer x actors is).mutators there

-- and they stand among all
pub mutator_of_first : (actors : List AnyActor) (n i : ℕ) (m : Mutating) → slice_get (mutators_in (take n actors)) i ≡ Some m → slice_get (mutators_in actors) i ≡ Some m
mutator_of_first actors zero i m there = absurd (cc)
mutator_of_first [] (suc n) i m there = absurd (cc)
mutator_of_first (any.Mutator x ∷ actors) (suc n) zero m there = there
mutator_of_first (any.Mutator x ∷ actors) (suc n) (suc i) m there = mutator_of_first actors n i m there
mutator_of_first (any.Decrementer x ∷ actors) (suc n) i m there = mutator_of_first actors n i m there
mutator_of_first (any.Tracer x ∷ actors) (suc n) i m there = mutator_of_first actors n i m there

-- Runs, event by event: what one more event does, what no event changes, and what each event keeps.
use Rattle.std.proofs.Common.{◌≡◌, ◌≢◌, ℕ, zero, suc, ◌+◌, ◌<◌, ◌==◌, ◌≤◌, List, [], ◌∷◌, ◌++◌, map, take, length, get_or, set, Option, Some, None, refl, sym, ap, ◌∙◌, arith, length-set, eq-eqb, ne_eqb}
use Rattle.std.specs.Prelude.{slice_get}
use Rattle.std.proofs.lemmas.Option.{slice_get_past}
use mathlib.Core.List.{map-append}
use Rattle.std.proofs.Math.Seq.{take-suc}
use Rattle.lxr_actor.specs.declared.Action.{Action}
use Rattle.lxr_actor.specs.declared.Event.{Event}
use Rattle.lxr_actor.specs.declared.Event.TheVariants.{Step, Give, Out, Order}
use Rattle.lxr_actor.specs.declared.Core.{Core}
use Rattle.lxr_actor.specs.Machine.{Machine}
use Rattle.lxr_actor.specs.Run.{core_of, acted, stepped, of_event, change, happened, event, run, one_if, times, FitsAt, AlwaysFits, ReplayFits}

module _ {A : Type 0} where
  pub slice_get-set_same : (l : List A) (i : ℕ) (a : A) → i < length l → slice_get (set l i a) i ≡ Some a
  slice_get-set_same [] i a h = absurd (omega arith)
  slice_get-set_same (x ∷ xs) zero a h = refl
  slice_get-set_same (x ∷ xs) (suc i) a h = slice_get-set_same xs i a (omega arith)

  pub slice_get-set_other : (l : List A) (i j : ℕ) (a : A) → j ≢ i → slice_get (set l i a) j ≡ slice_get l j
  slice_get-set_other [] i j a n = refl
  slice_get-set_other (x ∷ xs) zero zero a n = absurd (n refl)
  slice_get-set_other (x ∷ xs) zero (suc j) a n = refl
  slice_get-set_other (x ∷ xs) (suc i) zero a n = refl
  slice_get-set_other (x ∷ xs) (suc i) (suc j) a n = slice_get-set_other xs i j a (λ e. n (ap suc e))

pub one_if-same : (n m : ℕ) → n ≡ m → one_if (n == m) ≡ 1
one_if-same n m e = ap one_if (eq-eqb n m e)

pub one_if-other : (n m : ℕ) → n ≢ m → one_if (n == m) ≡ 0
one_if-other n m e = ap one_if (ne_eqb n m e)

pub times-append : (number : ℕ) (xs ys : List Event) → times number (xs ++ ys) ≡ times number xs + times number ys
times-append number [] ys = omega arith
times-append number (x ∷ xs) ys = let r = times-append number xs ys in omega arith

take-more : (xs : List ℕ) (i : ℕ) → i < length xs → take (i + 1) xs ≡ take i xs ++ get_or xs i 0 ∷ []
take-more xs i lt = let e : i + 1 ≡ suc i = omega arith in ap (λ (n : ℕ). take n xs) e ∙ take-suc xs i 0 lt

module _ {A : Type 0} (m : Machine A) where
  -- a longer schedule does the shorter one first
  pub run-append : (core : Core A) (xs ys : List Event) → run m core (xs ++ ys) ≡ run m (run m core xs) ys
  run-append core [] ys = refl
  run-append core (x ∷ xs) ys = run-append (event m core x) xs ys

  pub run-snoc : (core : Core A) (schedule : List Event) (e : Event) → run m core (schedule ++ e ∷ []) ≡ event m (run m core schedule) e
  run-snoc core schedule e = run-append core schedule (e ∷ [])

  -- what an event of an actor does
  pub event-is : (core : Core A) (e : Event) (a : A) → slice_get core.actors (of_event e) ≡ Some a
      → event m core e ≡ core_of (change m e core.words a).0 (set core.actors (of_event e) (change m e core.words a).1)
  event-is core e a at = ap (happened m core e) at

  -- an event of no actor does nothing
  pub event-none : (core : Core A) (e : Event) → length core.actors ≤ of_event e → event m core e ≡ core
  event-none core e past = ap (happened m core e) (slice_get_past core.actors (of_event e) past)

  acted-length : (words : List ℕ) (a : A) (o : Option Action) → length (acted m words a o).0 ≡ length words
  acted-length words a None = refl
  acted-length words a (Some act) = length-set words act.word _

  change-length : (e : Event) (words : List ℕ) (a : A) → length (change m e words a).0 ≡ length words
  change-length (Step number) words a = acted-length words a (m.action a)
  change-length (Give number place) words a = refl
  change-length (Out number) words a = refl
  change-length (Order number op) words a = refl

  happened-lengths : (core : Core A) (e : Event) (o : Option A)
      → (length (happened m core e o).words ≡ length core.words) × (length (happened m core e o).actors ≡ length core.actors)
  happened-lengths core e None = (refl, refl)
  happened-lengths core e (Some a) = (change-length e core.words a, length-set core.actors (of_event e) _)

  -- the numbers of words and of actors never change
  pub run-lengths : (core : Core A) (schedule : List Event)
      → (length (run m core schedule).words ≡ length core.words) × (length (run m core schedule).actors ≡ length core.actors)
  run-lengths core [] = (refl, refl)
  run-lengths core (x ∷ xs) =
      let later = run-lengths (event m core x) xs in
      let now = happened-lengths core x (slice_get core.actors (of_event x)) in
      (later.0 ∙ now.0, later.1 ∙ now.1)

  pub replay-snoc : (core : Core A) (numbers : List ℕ) (i : ℕ) → i < length numbers
      → run m core (map Step (take (i + 1) numbers)) ≡ event m (run m core (map Step (take i numbers))) (Step (get_or numbers i 0))
  replay-snoc core numbers i lt =
      ap (λ l. run m core (map Step l)) (take-more numbers i lt)
      ∙ (ap (run m core) (map-append Step (take i numbers) (get_or numbers i 0 ∷ []))
      ∙ run-snoc core (map Step (take i numbers)) (Step (get_or numbers i 0)))

  -- what always fits can be replayed
  pub replay-fits : (core : Core A) (numbers : List ℕ) → AlwaysFits m core → ReplayFits m core numbers
  unfolding AlwaysFits
  replay-fits core numbers fit k lt = fit (map Step (take k numbers)) (get_or numbers k 0)

  pub fits-at : (core : Core A) (schedule : List Event) (number : ℕ) → AlwaysFits m core → FitsAt m (run m core schedule) number
  unfolding AlwaysFits
  fits-at core schedule number fit = fit schedule number

-- what each event keeps
module _ {A : Type 0} (m : Machine A) (Inv : Core A → Type 0) (keep : (core : Core A) (e : Event) → Inv core → Inv (event m core e)) where
  -- holds in each core that a schedule leads to
  pub run-keeps : (core : Core A) (schedule : List Event) → Inv core → Inv (run m core schedule)
  run-keeps core [] inv = inv
  run-keeps core (e ∷ es) inv = run-keeps (event m core e) es (keep core e inv)

  -- and so each next step fits, if it does wherever that holds
  pub always-fits : ((core : Core A) (number : ℕ) → Inv core → FitsAt m core number) → (core : Core A) → Inv core → AlwaysFits m core
  unfolding AlwaysFits
  always-fits bound core inv schedule number = bound (run m core schedule) number (run-keeps core schedule inv)

-- one entry of a schedule of numbers, for the loop of `replay`
module _ {A : Type 0} (m : Machine A) (core : Core A) (numbers : List ℕ) (i : ℕ) (words : List ℕ) (actors : List A) (n : ℕ)
    (is : n ≡ get_or numbers i 0) (lt : i < length numbers) (here : core_of words actors ≡ run m core (map Step (take i numbers))) where
  entry : event m (core_of words actors) (Step n) ≡ run m core (map Step (take (i + 1) numbers))
  entry =
      sym (replay-snoc m core numbers i lt
      ∙ (ap (λ (k : ℕ). event m (run m core (map Step (take i numbers))) (Step k)) (sym is)
      ∙ ap (λ (c : Core A). event m c (Step n)) (sym here)))

  pub replay-then : (a : A) (words' : List ℕ) (a' : A) → slice_get actors n ≡ Some a → (words', a') ≡ stepped m words a
      → core_of words' (set actors n a') ≡ run m core (map Step (take (i + 1) numbers))
  replay-then a words' a' at done =
      ap (λ (z : List ℕ × A). core_of z.0 (set actors n z.1)) done ∙ (sym (event-is m (core_of words actors) (Step n) a at) ∙ entry)

  pub replay-else : length actors ≤ n → core_of words actors ≡ run m core (map Step (take (i + 1) numbers))
  replay-else past = sym (event-none m (core_of words actors) (Step n) past) ∙ entry

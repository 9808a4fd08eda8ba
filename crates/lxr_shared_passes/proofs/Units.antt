-- A unit at a seat is a turn of the pass that the seat and its actor are.
use Rattle.std.proofs.Common.{◌≡◌, ◌∙◌, ℕ, ◌≤◌, inl, inr, List, [], ◌∷◌, length, refl, sym, ap, subst, arith}
use Rattle.std.specs.Prelude.{IsTrue}
use Rattle.lxr_actor.specs.Machine.{Machine, to_go}
use Rattle.lxr_actor.specs.Steps.{Begins, Does, DoesUnit, Finishes, rests, goes_on}
use Rattle.lxr_shared_passes.specs.declared.seated.Seated.{Seated}
use Rattle.lxr_shared_passes.specs.Passing.{Passing, DoesStep, GoesOn, IsSamePass, Turned}
use Rattle.lxr_shared_passes.specs.Seats.{Did, pass_of}
use Rattle.lxr_shared_passes.proofs.Turns.{busy-left}

module _ {A : Type 0} (m : Machine A) where
  -- one step
  steps : (a b : A) (s t : Seated A) (d : Does m (Did m) a s b t) → DoesStep m (pass_of s a) d.old (pass_of t b)
  steps a b s t d = subst (λ (x : A). DoesStep m (pass_of s a) d.old (pass_of t x)) (sym d.after) d.step

  -- the rest of a unit in so many steps
  abbrev Rest : A → Seated A → A → Seated A → Type 0
  Rest a s c u = (olds : List ℕ) × (length olds ≤ to_go m a) × GoesOn m (pass_of s a) olds (pass_of u c) × IsTrue (m.rests c)

  rest : {a c : A} {s u : Seated A} → Finishes m (Did m) a s c u → Rest a s c u
  rest (rests e) = ([], omega arith, refl, e)
  rest (goes_on {a} {b} {c} {s} {t} {u} busy d f) =
      let r = rest f in
      let few = r.1 in
      let nearer = d.nearer in
      let left = busy-left m a busy in
      (d.old ∷ r.0, omega arith, (busy, (pass_of t b, steps a b s t d, r.2)), r.3)

  begun : (a c : A) (s u : Seated A) → Begins m (Did m) a s c u → (olds : List ℕ) × (length olds ≤ m.left a) × Turned m (pass_of s a) olds (pass_of u c)
  begun a c s u b =
      let r = rest b.rest in
      let few = r.1 in
      let nearer = b.first.nearer in
      (b.first.old ∷ r.0, omega arith, (pass_of b.site b.actor, steps a b.actor s b.site b.first, r.2, r.3))

  -- a whole unit
  pub unit_turned : (a c : A) (s u : Seated A) → DoesUnit m (Did m) a s c u → (olds : List ℕ) × (length olds ≤ m.left a) × Turned m (pass_of s a) olds (pass_of u c)
  unit_turned a c s u (inl none) = ([], omega arith, (none.0, subst (λ (x : A). pass_of u x ≡ pass_of s a) (sym none.1) (ap (λ (z : Seated A). pass_of z a) none.2)))
  unit_turned a c s u (inr b) = begun a c s u b

  -- a step leaves the pass what it is
  step_same : (p q : Passing A) (old : ℕ) → DoesStep m p old q → IsSamePass p q
  step_same p q old d = record {
    epoch = ap (λ (r : Passing A). r.epoch) d.4.2;
    opening = ap (λ (r : Passing A). r.opening) d.4.2;
    number = ap (λ (r : Passing A). r.number) d.4.2;
  }

  then_same : (p q r : Passing A) → IsSamePass p q → IsSamePass q r → IsSamePass p r
  then_same p q r first second = record { epoch = second.epoch ∙ first.epoch; opening = second.opening ∙ first.opening; number = second.number ∙ first.number }

  stays : (p q : Passing A) → q ≡ p → IsSamePass p q
  stays p q e = record {
    epoch = ap (λ (r : Passing A). r.epoch) e;
    opening = ap (λ (r : Passing A). r.opening) e;
    number = ap (λ (r : Passing A). r.number) e;
  }

  goes_same : (olds : List ℕ) (p q : Passing A) → GoesOn m p olds q → IsSamePass p q
  goes_same [] p q t = stays p q t
  goes_same (old ∷ olds) p q t = then_same p t.1.0 q (step_same p t.1.0 old t.1.1) (goes_same olds t.1.0 q t.1.2)

  -- so does a turn
  pub turn_same : (olds : List ℕ) (p q : Passing A) → Turned m p olds q → IsSamePass p q
  turn_same [] p q t = stays p q t.1
  turn_same (old ∷ olds) p q t = then_same p t.0 q (step_same p t.0 old t.1) (goes_same olds t.0 q t.2)

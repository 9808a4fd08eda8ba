-- What a pass knows before a step of its actor, and steps in a row.
use Rattle.std.proofs.Common.{◌≡◌, ◌∙◌, ℕ, ◌+◌, ◌<◌, List, [], ◌∷◌, ◌++◌, length, Bool, false, Some, refl, sym, ap, subst, if◌then◌else◌, None, ◌⊎◌, inl, inr, arith}
use Rattle.std.specs.Coded.{le_prop}
use Rattle.std.proofs.lemmas.Option.{none-some}
use mathlib.Core.Logic.{∥∥₁_elim}
use Rattle.lxr_actor.specs.declared.Action.{Action}
use Rattle.lxr_actor.specs.declared.Core.{Core}
use Rattle.lxr_actor.specs.declared.Event.{Event}
use Rattle.lxr_actor.specs.Machine.{Machine, to_go}
use Rattle.lxr_actor.specs.Run.{times, AlwaysFits}
use Rattle.lxr_actor.specs.declared.Event.TheVariants.{Step}
use Rattle.lxr_actor.proofs.Runs.{run-lengths, fits-at, times-append, one_if-same}
use Rattle.lxr_shared_passes.specs.Passing.{Passing, IsAt, DoesStep, GoesOn, Turned}

module _ {A : Type 0} (m : Machine A) where
  -- the word of the next step exists
  pub word-fits : (core : Core A) (seen : List Event) (number : ℕ) (a : A) (act : Action) → ∥ AlwaysFits m core ∥₁ → ∥ IsAt m core seen number a ∥₁ → m.action a ≡ Some act → act.word < length core.words
  word-fits core seen number a act f r is = ∥∥₁_elim f le_prop (λ fit. ∥∥₁_elim r le_prop (λ at.
      subst (λ (n : ℕ). act.word < n) (run-lengths m core seen).0 (fits-at m core seen number fit a at act is)))

  -- within a unit, the bound is the actor's own
  pub busy-left : (a : A) → m.rests a ≡ false → to_go m a ≡ m.left a
  busy-left a e = ap (λ (b : Bool). if b then 0 else m.left a) e

  -- a step is one event of the pass's own
  step-counts : (p q : Passing A) (old : ℕ) → DoesStep m p old q → times q.number q.seen ≡ times p.number p.seen + 1
  step-counts p q old d =
      let seen = times-append p.number p.seen d.1 in
      let all = times-append p.number (p.seen ++ d.1) (Step p.number ∷ []) in
      let none = d.4.0 in
      let own = one_if-same p.number p.number refl in
      let e : times p.number ((p.seen ++ d.1) ++ Step p.number ∷ []) ≡ times p.number p.seen + 1 = omega arith in
      ap (λ (r : Passing A). times r.number r.seen) d.4.2 ∙ e

  goes-counts : (olds : List ℕ) (p q : Passing A) → GoesOn m p olds q → times q.number q.seen ≡ times p.number p.seen + length olds
  goes-counts [] p q t = let e = ap (λ (r : Passing A). times r.number r.seen) t in omega arith
  goes-counts (old ∷ olds) p q t = let first = step-counts p t.1.0 old t.1.1 in let rest = goes-counts olds t.1.0 q t.1.2 in omega arith

  -- a turn adds as many events of the pass's own as it did steps
  pub turn-counts : (olds : List ℕ) (p q : Passing A) → Turned m p olds q → times q.number q.seen ≡ times p.number p.seen + length olds
  turn-counts [] p q t = let e = ap (λ (r : Passing A). times r.number r.seen) t.1 in omega arith
  turn-counts (old ∷ olds) p q t = let first = step-counts p t.0 old t.1 in let rest = goes-counts olds t.0 q t.2 in omega arith

  -- a turn that did no step was one of a finished actor
  pub turn-finished : (olds : List ℕ) (p q : Passing A) → Turned m p olds q → (m.action q.actor ≡ None) ⊎ (0 < length olds)
  turn-finished [] p q t = inl (ap (λ (r : Passing A). m.action r.actor) t.1 ∙ t.0)
  turn-finished (old ∷ olds) p q t = inr (omega arith)

  -- and it leaves a finished actor as it is
  pub finished-stays : (olds : List ℕ) (p q : Passing A) → Turned m p olds q → m.action p.actor ≡ None → m.action q.actor ≡ None
  finished-stays [] p q t none = ap (λ (r : Passing A). m.action r.actor) t.1 ∙ t.0
  finished-stays (old ∷ olds) p q t none = absurd (none-some t.1.0 (sym none ∙ t.1.2))

-- What an actor does as one of its kind, it does as one of any kind.
use Rattle.std.proofs.Common.{◌≡◌, ◌∙◌, ℕ, ◌<◌, inl, inr, Bool, refl, sym, ap, subst, if◌then◌else◌}
use Rattle.lxr_actor.specs.Machine.{Machine, to_go}
use Rattle.lxr_actor.specs.Steps.{Does, DoesUnit, Finishes, rests, goes_on}
use Rattle.lxr_mutator.specs.Mutating.{Mutating}
use Rattle.lxr_mutator.specs.Steps.{mutator_machine}
use Rattle.lxr_decrement.specs.Decrementing.{DecrementerState}
use Rattle.lxr_decrement.specs.Steps.{decrementer_machine}
use Rattle.lxr_trace.specs.Tracing.{TracerState}
use Rattle.lxr_trace.specs.Steps.{tracer_machine}
use Rattle.lxr_core.specs.declared.actors.AnyActor.{AnyActor}
use Rattle.lxr_core.specs.declared.actors.AnyActor.TheVariants as any
use Rattle.lxr_core.specs.Actors.{any_machine}

-- the machine of a kind is what the machine of any kind is at its actors
pub record IsKind {K A : Type 0} (of : K → A) (k : Machine K) (m : Machine A) : Type 0 where
  pub ends : (x : K) → m.action (of x) ≡ k.action x
  pub after : (x : K) (old : ℕ) → m.after (of x) old ≡ of (k.after x old)
  pub rests : (x : K) → m.rests (of x) ≡ k.rests x
  pub left : (x : K) → m.left (of x) ≡ k.left x

module _ {K A S : Type 0} (of : K → A) (k : Machine K) (m : Machine A) (is : IsKind of k m) (did : S → A → ℕ → S → Type 0) where
  -- a step of an actor of the kind
  abbrev of_kind : S → K → ℕ → S → Type 0
  of_kind s x old t = did s (of x) old t

  far : (x : K) → to_go m (of x) ≡ to_go k x
  far x = ap (λ (b : Bool). if b then 0 else m.left (of x)) (is.rests x) ∙ ap (λ (n : ℕ). if k.rests x then 0 else n) (is.left x)

  does : (x y : K) (s t : S) → Does k of_kind x s y t → Does m did (of x) s (of y) t
  does x y s t d = record {
    old = d.old;
    step = d.step;
    after = ap of d.after ∙ sym (is.after x d.old);
    nearer = subst (λ (n : ℕ). n < m.left (of x)) (sym (far y)) (subst (λ (n : ℕ). to_go k y < n) (sym (is.left x)) d.nearer);
  }

  finishes : {x y : K} {s t : S} → Finishes k of_kind x s y t → Finishes m did (of x) s (of y) t
  finishes (rests {a} e) = rests (is.rests a ∙ e)
  finishes (goes_on {a} {b} {c} {s} {t} {u} busy d f) = goes_on (is.rests a ∙ busy) (does a b s t d) (finishes f)

  unit : (x y : K) (s t : S) → DoesUnit k of_kind x s y t → DoesUnit m did (of x) s (of y) t
  unit x y s t (inl none) = inl (is.ends x ∙ none.0, ap of none.1, none.2)
  unit x y s t (inr b) = inr (record { actor = of b.actor; site = b.site; first = does x b.actor s b.site b.first; rest = finishes b.rest })

mutators : IsKind any.Mutator mutator_machine any_machine
mutators = record { ends = λ m. refl; after = λ m old. refl; rests = λ m. refl; left = λ m. refl }

decrementers : IsKind any.Decrementer decrementer_machine any_machine
decrementers = record { ends = λ d. refl; after = λ d old. refl; rests = λ d. refl; left = λ d. refl }

tracers : IsKind any.Tracer tracer_machine any_machine
tracers = record { ends = λ t. refl; after = λ t old. refl; rests = λ t. refl; left = λ t. refl }

module _ {S : Type 0} (did : S → AnyActor → ℕ → S → Type 0) where
  pub mutator_unit : (x y : Mutating) (s t : S) → DoesUnit mutator_machine (λ s m old t. did s (any.Mutator m) old t) x s y t → DoesUnit any_machine did (any.Mutator x) s (any.Mutator y) t
  mutator_unit = unit any.Mutator mutator_machine any_machine mutators did

  pub decrementer_unit : (x y : DecrementerState) (s t : S) → DoesUnit decrementer_machine (λ s d old t. did s (any.Decrementer d) old t) x s y t → DoesUnit any_machine did (any.Decrementer x) s (any.Decrementer y) t
  decrementer_unit = unit any.Decrementer decrementer_machine any_machine decrementers did

  pub tracer_unit : (x y : TracerState) (s t : S) → DoesUnit tracer_machine (λ s t old u. did s (any.Tracer t) old u) x s y t → DoesUnit any_machine did (any.Tracer x) s (any.Tracer y) t
  tracer_unit = unit any.Tracer tracer_machine any_machine tracers did

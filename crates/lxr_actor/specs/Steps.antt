-- What an actor's steps do, wherever they are done: one step, the rest of a unit, a whole unit.
use Rattle.std.specs.Prelude.{◌≡◌, ℕ, ◌<◌, ◌⊎◌, None, true, false}
use Rattle.lxr_actor.specs.Machine.{Machine, to_go}

-- An actor of type A does its steps at a site of type S. `did` tells what the site knows of a step: what the actor was, and what its word was.
module _ {A S : Type 0} (m : Machine A) (did : S → A → ℕ → S → Type 0) where
  -- the actor did its next step, which brought it nearer to the end of its unit
  pub record Does (a : A) (s : S) (b : A) (t : S) : Type 0 where
    pub old : ℕ
    pub step : did s a old t
    pub after : b ≡ m.after a old
    pub nearer : to_go m b < m.left a

  -- it did the rest of its unit: step by step, until it rests
  pub data Finishes : A → S → A → S → Type 0 where
    rests : {a : A} {s : S} → m.rests a ≡ true → Finishes a s a s
    goes_on : {a b c : A} {s t u : S} → m.rests a ≡ false → Does a s b t → Finishes b t c u → Finishes a s c u

  -- its unit is begun with a step, and done to its end
  pub record Begins (a : A) (s : S) (c : A) (u : S) : Type 0 where
    pub actor : A
    pub site : S
    pub first : Does a s actor site
    pub rest : Finishes actor site c u

  -- no step of a finished actor, and else one unit
  abbrev pub DoesUnit : A → S → A → S → Type 0
  DoesUnit a s c u = ((m.action a ≡ None) × (c ≡ a) × (u ≡ s)) ⊎ Begins a s c u

-- Runs of a machine from one rest to the next, with what each step found.
use Rattle.std.specs.Prelude.{◌≡◌, ℕ, true, false, List, [], ◌∷◌, Some}
use Rattle.lxr_actor.specs.declared.Action.{Action}
use Rattle.lxr_actor.specs.Machine.{Machine}

-- a step that was done, and the word that it found
pub record Told : Type 0 where
  pub action : Action
  pub word : ℕ

abbrev pub told : Action → ℕ → Told
told act word = record { action = act; word = word }

-- a machine does these steps, one after another, and rests behind the last of them and no sooner
pub data Runs {A : Type 0} (m : Machine A) : A → List Told → A → Type 0 where
  ends : (a : A) (act : Action) (word : ℕ) → m.action a ≡ Some act → m.rests (m.after a word) ≡ true → Runs m a (told act word ∷ []) (m.after a word)
  goes_on : (a a' : A) (act : Action) (word : ℕ) (ts : List Told) → m.action a ≡ Some act → m.rests (m.after a word) ≡ false
      → Runs m (m.after a word) ts a' → Runs m a (told act word ∷ ts) a'

-- Which worker gets which passes.
use Rattle.std.specs.Prelude.{◌≡◌, ℕ, zero, suc, ◌+◌, ◌-◌, ◌%◌, if◌then◌else◌, nat_eq, nat_lt, Some, List, [], ◌∷◌, ◌++◌, All, length, map, slice_get}
use Rattle.lxr_core.specs.declared.actors.AnyActor.{AnyActor}
use Rattle.lxr_shared_passes.specs.Passing.{Passing}
use Rattle.lxr_run_threads.specs.declared.dealing.Dealing.{Dealing}
use Rattle.lxr_run_threads.specs.declared.dealing.Hand.{Hand}

-- the worker of the pass of a number: mutators' passes go round the workers, and so do those of the helpers behind them
abbrev pub worker_of : Dealing → ℕ → ℕ
worker_of d number = if nat_lt number d.mutators then number % d.workers else (number - d.mutators) % d.workers

-- so many numbers, from this one on
abbrev pub numbers_from : ℕ → ℕ → List ℕ
numbers_from first zero = []
numbers_from first (suc count) = first ∷ numbers_from (first + 1) count

-- those of these numbers whose passes a worker gets, the last first
abbrev pub hand_of : Dealing → ℕ → List ℕ → List ℕ
hand_of d worker [] = []
hand_of d worker (n ∷ ns) = if nat_eq (worker_of d n) worker then hand_of d worker ns ++ n ∷ [] else hand_of d worker ns

-- the places of passes among all of their epoch
abbrev pub numbers_of : List (Passing AnyActor) → List ℕ
numbers_of passes = map (λ p. p.number) passes

-- each worker has the passes of its share of these numbers
pub record AreDealt (d : Dealing) (numbers : List ℕ) (hands : List Hand) : Type 0 where
  pub as_many : length hands ≡ d.workers
  pub each : (worker : ℕ) (hand : Hand) → slice_get hands worker ≡ Some hand → numbers_of hand.passes.items ≡ hand_of d worker numbers

-- P holds of each pass of each worker
abbrev pub OfEach : (Passing AnyActor → Type 0) → List Hand → Type 0
OfEach P hands = (worker : ℕ) (hand : Hand) → slice_get hands worker ≡ Some hand → All P hand.passes.items

-- a pass is one of these, or one of some worker
abbrev pub IsAmong : List (Passing AnyActor) → Passing AnyActor → Type 0
IsAmong passes p = (i : ℕ) × (slice_get passes i ≡ Some p)

abbrev pub IsAmongHands : List Hand → Passing AnyActor → Type 0
IsAmongHands hands p = (worker : ℕ) × (hand : Hand) × (slice_get hands worker ≡ Some hand) × IsAmong hand.passes.items p

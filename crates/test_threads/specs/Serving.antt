-- What a run of passes has done.
use Rattle.std.specs.Prelude.{◌≡◌, ℕ, ◌≤◌, List, map, All, None, ◌⊎◌}
use Rattle.lxr_actor.specs.declared.Core.{Core}
use Rattle.lxr_actor.specs.Machine.{Machine}
use Rattle.lxr_actor.specs.Run.{times}
use Rattle.lxr_shared_passes.specs.Passing.{Passing, IsEnd}

module _ {A : Type 0} (m : Machine A) where
  -- the actor is finished, or has had so many events
  abbrev pub IsServed : ℕ → Passing A → Type 0
  IsServed rounds p = (m.action p.actor ≡ None) ⊎ (rounds ≤ times p.number p.seen)

  -- words and actors are those of one schedule, of which each pass has seen a beginning with all of its events, and each pass was served
  pub record Ran (rounds : ℕ) (opening : Core A) (words : List ℕ) (actors : List A) : Type 0 where
    pub passes : List (Passing A)
    pub end : IsEnd m opening words actors passes
    pub whose : actors ≡ map (λ (p : Passing A). p.actor) passes
    pub served : All (λ (p : Passing A). IsServed rounds p) passes

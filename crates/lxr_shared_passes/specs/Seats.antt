-- What is known where a seat and its actor are kept beside each other.
use Rattle.std.specs.Prelude.{◌≡◌, ℕ}
use Rattle.atomic_table.specs.Seated.{TableId}
use Rattle.lxr_actor.specs.Machine.{Machine}
use Rattle.lxr_shared_passes.specs.declared.seated.Seated.{Seated}
use Rattle.lxr_shared_passes.specs.Passing.{Passing, passing, DoesStep}
use Rattle.lxr_shared_passes.specs.Rule.{seen_in, IsSeated}

module _ {A : Type 0} where
  -- the pass of a seat and its actor
  abbrev pub pass_of : Seated A → A → Passing A
  pass_of s a = passing s.seat.table_id s.seat.me.0.core s.number a (seen_in s.seat.me.0)

module _ {A : Type 0} (m : Machine A) where
  -- the seat is at the table of this name, and holds the actor in this state
  abbrev pub Sits : TableId → Seated A → A → Type 0
  Sits id s a = (s.seat.table_id ≡ id) × IsSeated m s.number a s.seat

  -- the actor in this state did its next step at the seat, whose word was so
  abbrev pub Did : Seated A → A → ℕ → Seated A → Type 0
  Did s a old t = DoesStep m (pass_of s a) old (pass_of t (m.after a old))

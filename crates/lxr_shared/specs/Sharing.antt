-- A space and its actors while threads share them.
use Rattle.std.specs.Prelude.{◌≡◌, ℕ, List}
use Rattle.atomic_table.specs.Seated.{TableId}
use Rattle.lxr_actor.specs.declared.Core.{Core}
use Rattle.lxr_actor.specs.declared.Event.{Event}
use Rattle.lxr_actor.specs.Run.{run}
use Rattle.lxr_layout.specs.declared.limits.Limits.{Limits}
use Rattle.lxr_image.specs.Settled.{KeepsOpenLines}
use Rattle.lxr_image.specs.Tables.{tables_in}
use Rattle.lxr_image.specs.declared.rest.Rest.{Rest}
use Rattle.lxr_image.specs.declared.space.Space.{Space}
use Rattle.lxr_image.specs.Parts.{whole}
use Rattle.lxr_core.specs.declared.actors.AnyActor.{AnyActor}
use Rattle.lxr_core.specs.declared.actors.AnyActor.TheVariants as any
use Rattle.lxr_core.specs.Actors.{any_machine}
use Rattle.lxr_shared_passes.specs.Passing.{Opened, Passing, Told}

-- an epoch on a table: its name, the words and actors that it was opened with, and the space that it was opened from
pub record Sharing : Type 0 where
  pub id : TableId
  pub opening : Core AnyActor
  pub space : Space

-- what is kept beside the table: the rest of the space, and for how many passes there is room
pub record Kept : Type 0 where
  pub rest : Rest
  pub room : ℕ

-- the epoch of a table and of what is kept beside it
abbrev pub sharing : Opened AnyActor → Kept → Sharing
sharing table kept = record { id = table.id; opening = table.opening; space = whole table.opening.words kept.rest }

-- whatever schedule an epoch runs by, from these words and actors on, it keeps what is known of lines
abbrev pub KeepsLinesAlways : Limits → Core AnyActor → Type 0
KeepsLinesAlways limits core = (schedule : List Event) → KeepsOpenLines (tables_in limits core.words) (tables_in limits (run any_machine core schedule).words)

-- the event of an offer, or of a place that is taken out, came to a helper; a mutator's pass is left as it is
abbrev pub ToldOfHelper : AnyActor → Passing AnyActor → Event → Passing AnyActor → Type 0
ToldOfHelper (any.Mutator m) p e q = q ≡ p
ToldOfHelper (any.Decrementer d) p e q = Told any_machine p e q
ToldOfHelper (any.Tracer d) p e q = Told any_machine p e q

-- References into Chosen blocks are entered into the remembered set.
use Rattle.std.specs.Prelude.{◌≢◌, ℕ, ◌*◌, ◌^◌, ◌<◌, ◌≤◌, ⊤, nat_eq, if◌then◌else◌, Option, None, Some, IsTrue}
use Rattle.lxr_layout.specs.declared.TheConstants.{GRANULES_IN_BLOCK, REMEMBERED_CURSOR}
use Rattle.lxr_layout.specs.declared.limits.Limits.{Limits}
use Rattle.lxr_layout.specs.declared.Place.{Place}
use Rattle.lxr_image.specs.declared.space.Space.{Space}
use Rattle.lxr_image.specs.Tables.{Tables}
use Rattle.lxr_image.specs.Spaces.{IsSpace, tables_of}
use Rattle.lxr_model.specs.Moments.{Trace}
use Rattle.lxr_remset.specs.Remembering.{IsField, is_in_chosen, remembering_chosen}

-- the tables with a reference remembered, where what it holds stands in a Chosen block; nil stands nowhere
abbrev pub remembering_held : Limits → Tables → Place → ℕ → Place → Tables
remembering_held l t p i held = if nat_eq held.0 0 then t else remembering_chosen l t p i held

-- a reference of the object at a place may be remembered, and what it holds is nil or stands in the heap
pub record MayEnter (s : Space) (p : Place) (i : ℕ) (held : Place) : Type 0 where
  pub space : IsSpace s
  pub field : IsField s.limits p i
  pub in_heap : held.0 ≤ GRANULES_IN_BLOCK * s.limits.blocks
  pub cursor : held.0 ≢ 0 → IsTrue (is_in_chosen (tables_of s) held) → (tables_of s).cursors REMEMBERED_CURSOR < 2 ^ 63

-- while a trace runs, the cursor can count one reference more
abbrev pub CanEnter : Option Trace → Tables → Type 0
CanEnter None t = ⊤
CanEnter (Some trace) t = t.cursors REMEMBERED_CURSOR < 2 ^ 63

-- What an action of an access does to the words of a space.
use Rattle.std.specs.Prelude.{◌≡◌, ℕ, ◌<◌, List, length, slice_index, slice_set}
use Rattle.lxr_layout.specs.declared.limits.Limits.{Limits}
use Rattle.lxr_layout.specs.declared.limits.Regions.{Regions}
use Rattle.lxr_layout.specs.Spaces.{all_regions, region_begin}
use Rattle.lxr_image.specs.Tables.{tables_in}
use Rattle.lxr_actor.specs.declared.Action.{Action}
use Rattle.lxr_actor.specs.Change.{changed}
use Rattle.lxr_core_access.specs.declared.Access.{Access}
use Rattle.lxr_core_access.specs.Accesses.{AreRegions, MayBeDone, Tells, action_of, done_to, table_entry_of}

-- the words once an action is done
abbrev pub acted_words : List ℕ → Action → List ℕ
acted_words words act = slice_set words act.word (changed act.kind (slice_index words act.word) act.operand)

-- An action on words does an access: its word exists, what it finds there tells of the access's entry, and the tables then are
-- those after the access.
pub record DoesAccess (l : Limits) (words : List ℕ) (act : Action) (d : Access) : Type 0 where
  pub within : act.word < length words
  pub told : Tells (tables_in l words) (table_entry_of d) (slice_index words act.word)
  pub tables : tables_in l (acted_words words act) ≡ done_to (tables_in l words) d
  pub size : length (acted_words words act) ≡ length words

-- so it is of each access that may be done in a space of these limits and regions
abbrev pub AccessesAreDone : Type 0
AccessesAreDone = (l : Limits) (r : Regions) (words : List ℕ) (d : Access)
    → AreRegions l r → length words ≡ region_begin l all_regions → MayBeDone l (tables_in l words) d → DoesAccess l words (action_of r d) d

-- What a store does before it writes its word: where the reference wasn't stored to since the last pause, what it holds is recorded.
use Rattle.std.specs.Prelude.{◌≡◌, ℕ, ◌⊎◌, Bool, true, false, [], ◌∷◌, ◌++◌}
use Rattle.lxr_layout.specs.declared.LogEntry.{LogEntry}
use Rattle.lxr_layout.specs.declared.Place.{Place}
use Rattle.lxr_layout.specs.Places.{field_word, place_in}
use Rattle.lxr_image.specs.declared.space.Space.{Space}
use Rattle.lxr_image.specs.Tables.{changed}
use Rattle.lxr_image.specs.Spaces.{tables_of}
use Rattle.lxr_direct.specs.Operating.{LogIsFull}

-- the unlogged bit of a reference
abbrev pub is_unlogged : Space → Place → ℕ → Bool
is_unlogged s place index = (tables_of s).unlogged (field_word place.0 index)

-- the entry of a reference, with what it holds
abbrev pub entry_now : Space → Place → ℕ → LogEntry
entry_now s place index = record { place = place; index = index; old = place_in ((tables_of s).heap (field_word place.0 index)) }

-- its bit was set and the log had room: the bit is clear now, the log has its entry, and nothing else has changed
pub record IsRecorded (before after : Space) (place : Place) (index : ℕ) : Type 0 where
  pub unlogged : is_unlogged before place index ≡ true
  pub room : ¬ LogIsFull before
  pub tables : tables_of after ≡ record (tables_of before) { unlogged = changed (tables_of before).unlogged (field_word place.0 index) false }
  pub rest : after ≡ record before { words = after.words; logged = record before.logged { items = before.logged.items ++ entry_now before place index ∷ [] } }

-- The reference may be stored to, having been recorded where its bit was set; or its bit was set and the log is full, and nothing has changed.
abbrev pub Records : Space → Space → Place → ℕ → Bool → Type 0
Records before after place index true = ((is_unlogged before place index ≡ false) × (after ≡ before)) ⊎ IsRecorded before after place index
Records before after place index false = (is_unlogged before place index ≡ true) × LogIsFull before × (after ≡ before)

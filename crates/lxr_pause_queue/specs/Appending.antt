-- How the list of decrements grows, entry after entry and register after register.
use Rattle.std.specs.Prelude.{ℕ, ◌+◌, ◌*◌, ◌<◌, ◌≤◌, nat_eq, true, List, [], ◌∷◌, if◌then◌else◌}
use Rattle.lxr_layout.specs.declared.TheConstants.{DECREMENT_COUNT, WORDS_IN_BLOCK}
use Rattle.lxr_layout.specs.declared.LogEntry.{LogEntry}
use Rattle.lxr_layout.specs.declared.Place.{Place}
use Rattle.lxr_layout.specs.Places.{field_word}
use Rattle.lxr_image.specs.Tables.{Tables, changed}

-- an old value joins the list of decrements, unless it is nil; the decrement count is the length of the list
abbrev pub with_old : Tables → ℕ → Tables
with_old t p = record t {
  decs = if nat_eq p 0 then t.decs else (changed t.decs (t.cursors DECREMENT_COUNT) p);
  cursors = if nat_eq p 0 then t.cursors else (changed t.cursors DECREMENT_COUNT (t.cursors DECREMENT_COUNT + 1));
}

-- the heap word of an entry's field
abbrev pub logged_word : LogEntry → ℕ
logged_word e = field_word e.place.0 e.index

-- an entry's field lies in a heap of so many blocks
pub record IsInHeap (blocks : ℕ) (e : LogEntry) : Type 0 where
  pub placed : 1 ≤ e.place.0
  pub within : logged_word e < WORDS_IN_BLOCK * blocks

-- the old value of an entry is queued, and the next store to its field is to be logged
abbrev pub with_entry : Tables → LogEntry → Tables
with_entry t e =
    let u = with_old t e.old.0 in
    record u { unlogged = changed u.unlogged (logged_word e) true }

abbrev pub with_entries : Tables → List LogEntry → Tables
with_entries t [] = t
with_entries t (e ∷ es) = with_entries (with_entry t e) es

-- what a register held, unless it still holds it: then 0, which is nil
abbrev pub dropped : Place → Place → ℕ
dropped was now = if nat_eq was.0 now.0 then 0 else was.0

-- what registers held and hold no more is queued
abbrev pub with_registers : Tables → List Place → List Place → Tables
with_registers t [] nows = t
with_registers t (was ∷ befores) [] = t
with_registers t (was ∷ befores) (now ∷ nows) = with_registers (with_old t (dropped was now)) befores nows

-- What increments do for a trace that runs: each object that begins newly is marked, and what logged references held is made gray.
use Rattle.std.specs.Prelude.{ℕ, ◌*◌, ◌≤◌, ◌||◌, ◌&&◌, nat_eq, not, Bool, true, List, [], ◌∷◌, if◌then◌else◌}
use Rattle.lxr_layout.specs.declared.TheConstants.{GRANULES_IN_BLOCK}
use Rattle.lxr_layout.specs.declared.LogEntry.{LogEntry}
use Rattle.lxr_image.specs.Tables.{Tables, changed}
use Rattle.lxr_image.specs.Reads.{granule_of}
use Rattle.lxr_invariant.specs.Tracing.{IsOldValue}
use Rattle.lxr_image.specs.Reads.{is_tracing}

-- ---- marks

-- The mark bits once objects begin at these granules: while a trace runs, each that hasn't begun there before is marked.
abbrev pub marks_with : Tables → (ℕ → Bool) → ℕ → Bool
marks_with t starts k = t.marks k || (is_tracing t && (starts k && not (t.starts k)))

-- ---- grays

-- the tables with the object at a place gray, unless the place is nil
abbrev pub with_gray : Tables → ℕ → Tables
with_gray t p = record t { grays = if nat_eq p 0 then t.grays else (changed t.grays (granule_of p) true) }

-- so with the old value of each of these entries
abbrev pub with_grays : Tables → List LogEntry → Tables
with_grays t [] = t
with_grays t (e ∷ es) = with_grays (with_gray t e.old.0) es

-- so while a trace runs
abbrev pub with_old_grays : Tables → List LogEntry → Tables
with_old_grays t entries = if is_tracing t then with_grays t entries else t

-- each old value of these entries is nil, or a place in a heap of so many blocks
abbrev pub OldValuesFit : ℕ → List LogEntry → Type 0
OldValuesFit blocks entries = (p : ℕ) → IsOldValue entries p → p ≤ GRANULES_IN_BLOCK * blocks

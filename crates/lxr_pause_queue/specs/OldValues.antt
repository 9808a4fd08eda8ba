-- The list of decrements, and the old values that join it at a pause.
use Rattle.std.specs.Prelude.{ℕ, zero, suc, not, nat_eq, List, [], ◌∷◌, ◌++◌, filter, map}
use Rattle.lxr_layout.specs.declared.TheConstants.{DECREMENT_COUNT}
use Rattle.lxr_layout.specs.declared.LogEntry.{LogEntry}
use Rattle.lxr_layout.specs.declared.Place.{Place}
use Rattle.lxr_image.specs.declared.space.Space.{Space}
use Rattle.lxr_image.specs.Tables.{Tables}
use Rattle.lxr_pause_queue.specs.Appending.{dropped}

-- the first entries of a table, in their order
abbrev pub first_entries : (ℕ → ℕ) → ℕ → List ℕ
first_entries f zero = []
first_entries f (suc k) = first_entries f k ++ f k ∷ []

-- the list of decrements: the place of an object for each decrement that waits
abbrev pub decrement_list : Tables → List ℕ
decrement_list t = first_entries t.decs (t.cursors DECREMENT_COUNT)

-- these places without nil, which is 0
abbrev pub without_nil : List ℕ → List ℕ
without_nil places = filter (λ p. not (nat_eq p 0)) places

-- what the logged references held at the last pause
abbrev pub logged_values : List LogEntry → List ℕ
logged_values entries = map (λ e. e.old.0) entries

-- what registers held at the last pause, where they hold something else now; nil where they still hold it
abbrev pub dropped_values : List Place → List Place → List ℕ
dropped_values [] nows = []
dropped_values (was ∷ befores) [] = []
dropped_values (was ∷ befores) (now ∷ nows) = dropped was now ∷ dropped_values befores nows

-- the old values of a space: of its logged references in their order, then of changed registers; nil is left out. Those of
-- stuck objects are among them.
abbrev pub old_values : Space → List ℕ
old_values s = without_nil (logged_values s.logged.items) ++ without_nil (dropped_values s.deferred.items s.registers.items)

-- What a decrementer finds out about counts and the list of decrements.
use Rattle.std.specs.Prelude.{ℕ, ◌+◌, ◌*◌, ◌/◌, ◌%◌, ◌^◌, Bool, nat_eq, nat_le, if◌then◌else◌}
use Rattle.lxr_layout.specs.declared.TheConstants.{COUNT_BITS}
use Rattle.lxr_layout.specs.declared.Place.{Place}
use Rattle.lxr_layout.specs.declared.limits.Regions.{Regions}
use Rattle.lxr_tables.specs.declared.counts.TheConstants.{COUNTS_IN_WORD}
use Rattle.lxr_helper.specs.Words.{granule_of}

-- the count of the object at a place, in its word of the table of counts
abbrev pub count_in : Place → ℕ → ℕ
count_in place word = word / 2 ^ (COUNT_BITS * (granule_of place % COUNTS_IN_WORD)) % 2 ^ COUNT_BITS

-- that count is 0
abbrev pub is_uncounted : Place → ℕ → Bool
is_uncounted place word = nat_eq (count_in place word) 0

-- How many decrements are listed, by the word that tells their number. The list lies in its table: a word that makes no sense,
-- as none does in an epoch, tells of an empty list.
abbrev pub listed_in : Regions → ℕ → ℕ
listed_in r word = if nat_le (r.decs + word) r.remembered then word else 0

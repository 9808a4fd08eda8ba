-- A space whose words wait in a table on which nobody steps.
use Rattle.std.specs.Prelude.{◌≡◌, ℕ, List}
use Rattle.atomic_table.specs.Table.{State}

-- The rule: the words are those that the table was opened over.
abbrev pub AreStill : {S V : Type 0} → List ℕ → State S V → Type 0
AreStill words s = s.words ≡ words

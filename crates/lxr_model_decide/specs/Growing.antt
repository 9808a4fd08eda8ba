-- A set of names that grows by one candidate a round.
use Rattle.std.specs.Prelude.{ℕ, zero, suc, Bool, Option, Some, None, List, [], ◌∷◌, length, if◌then◌else◌}
use Rattle.lxr_layout.specs.declared.Name.{Name}
use Rattle.lxr_graph.specs.Names.{without, insert_name}

-- the first of these names that passes a test
abbrev pub first_that : (Name → Bool) → List Name → Option Name
first_that p [] = None
first_that p (n ∷ ns) = if p n then Some n else first_that p ns

-- in each of so many rounds the first name left that may join those taken joins them, until none may
abbrev pub grown : (List Name → Name → Bool) → ℕ → List Name → List Name → List Name
grown may_join zero taken left = taken
grown may_join (suc k) taken left = elim (first_that (may_join taken) left) [
  | None ↦ taken
  | Some n ↦ grown may_join k (insert_name n taken) (without left (n ∷ []))
]

-- the candidates that join one after another, in order: as many rounds as candidates are enough
abbrev pub names_grown : (List Name → Name → Bool) → List Name → List Name
names_grown may_join candidates = grown may_join (length candidates) [] candidates

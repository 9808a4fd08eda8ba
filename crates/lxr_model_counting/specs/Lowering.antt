-- Lowering counts one after another: what holds while some names wait to be lowered.
use Rattle.std.specs.Prelude.{◌≡◌, ℕ, ◌+◌, ◌-◌, false, List, IsTrue, if◌then◌else◌}
use Rattle.lxr_layout.specs.declared.Name.{Name}
use Rattle.lxr_graph.specs.Names.{has, same_name, without}
use Rattle.lxr_graph.specs.State.{State, object_at, refs_of}
use Rattle.lxr_model.specs.Dead.{Dead}
use Rattle.lxr_model.specs.References.{occurrences, references}

-- one for the same name, and else nothing
abbrev pub once : Name → Name → ℕ
once o r = if same_name o r then 1 else 0

-- Names are gone, in whatever order they went; `count` is what is written at a name, `pending` how often it waits to be
-- lowered.
pub record IsLowered (s : State) (us stuck gone : List Name) (count pending : Name → ℕ) : Type 0 where
  -- what is gone is dead, and has no count
  pub dead : (o : Name) → IsTrue (has gone o) → Dead s us stuck o
  pub zero : (o : Name) → IsTrue (has gone o) → count o ≡ 0
  -- a count is the references from what is left, and what waits
  pub exact : (o : Name) → IsTrue (has us o) → has stuck o ≡ false → count o ≡ references s (without us gone) o + pending o

-- what has no count is gone
abbrev pub IsOver : List Name → List Name → List Name → (Name → ℕ) → Type 0
IsOver us stuck gone count = (o : Name) → IsTrue (has us o) → has stuck o ≡ false → count o ≡ 0 → IsTrue (has gone o)

-- r waits no longer
abbrev pub TakenFrom : (Name → ℕ) → Name → (Name → ℕ) → Type 0
TakenFrom pending r rest = (o : Name) → pending o ≡ once o r + rest o

-- r's count is lowered by one, and no other
abbrev pub LoweredAt : List Name → (Name → ℕ) → Name → (Name → ℕ) → Type 0
LoweredAt us count r after = (o : Name) → IsTrue (has us o) → after o ≡ count o - once o r

-- all that r refers to waits too
abbrev pub WithReferences : State → (Name → ℕ) → Name → (Name → ℕ) → Type 0
WithReferences s rest r after = (o : Name) → after o ≡ rest o + occurrences (refs_of (object_at s.graph r)) o

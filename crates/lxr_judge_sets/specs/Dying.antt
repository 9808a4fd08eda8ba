-- Names that die one after another: what holds while references wait to be taken away.
use Rattle.std.specs.Prelude.{◌≡◌, ℕ, ◌+◌, ◌≤◌, false, not, ◌&&◌, Option, Some, List, [], ◌∷◌, ◌++◌, IsTrue, drop, length}
use Rattle.lxr_layout.specs.declared.Name.{Name}
use Rattle.lxr_graph.specs.Names.{has, without}
use Rattle.lxr_graph.specs.Distinct.{IsDistinct}
use Rattle.lxr_graph.specs.State.{State}
use Rattle.lxr_model.specs.References.{occurrences, references, references_from}
use Rattle.lxr_model_counting.specs.Lowering.{IsLowered}
use Rattle.lxr_judge_sets.specs.ByName.{Cells, value_at}
use Rattle.lxr_judge_sets.specs.declared.dying.Dying.{Dying}

-- how often a name waits to be lowered: by these references, and by those of the dead from the k-th on
abbrev pub waiting : State → ℕ → List (Option Name) → List Name → Name → ℕ
waiting s k held gone o = occurrences held o + references_from s.graph (drop k gone) o

-- Names of U die: of the dead the first k are scanned but for these references, and each unstuck name of U that was seen and has no
-- count is gone.
pub record IsDying (s : State) (us stuck seen : List Name) (k : ℕ) (held : List (Option Name)) (d : Dying) : Type 0 where
  pub once : IsDistinct us
  pub mortal : (o : Name) → value_at d.mortal o ≡ (has us o && not (has stuck o))
  pub within : k ≤ length d.gone
  pub lowered : IsLowered s us stuck d.gone (value_at d.counts) (waiting s k held d.gone)
  pub over : (o : Name) → IsTrue (has seen o) → IsTrue (has us o) → has stuck o ≡ false → value_at d.counts o ≡ 0
      → IsTrue (has d.gone o)

-- ---- what keeps it

-- one more name is seen, and gone where it may die and has no count
abbrev pub LetsGo : Dying → Name → Dying → Type 0
LetsGo before n after =
    (s : State) (us stuck seen : List Name) (k : ℕ) (held : List (Option Name))
    → IsDying s us stuck seen k held before → IsDying s us stuck (seen ++ n ∷ []) k held after

-- so are the names of a list, where no reference waits
abbrev pub LetsAllGo : Dying → List Name → Dying → Type 0
LetsAllGo before ns after = (s : State) (us stuck : List Name) → IsDying s us stuck [] 0 [] before → IsDying s us stuck ns 0 [] after

-- a reference waits no longer
abbrev pub Lowers : Dying → Name → Dying → Type 0
Lowers before n after =
    (s : State) (us stuck : List Name) (k : ℕ) (held : List (Option Name))
    → IsDying s us stuck us k (Some n ∷ held) before → IsDying s us stuck us k held after

-- no more do these
abbrev pub LowersHeld : Dying → List (Option Name) → Dying → Type 0
LowersHeld before held after =
    (s : State) (us stuck : List Name) (k : ℕ) → IsDying s us stuck us k held before → IsDying s us stuck us k [] after

-- all that are gone are scanned
abbrev pub ScansAll : State → Dying → Dying → Type 0
ScansAll s before after = (us stuck : List Name) → IsDying s us stuck us 0 [] before → IsDying s us stuck us (length after.gone) [] after

-- ---- what is left

-- what is counted at each unstuck name of U are the references to it from the names of U that aren't gone, and from registers
abbrev pub AreCountsLeft : State → List Name → List Name → List Name → Cells ℕ → Type 0
AreCountsLeft s us stuck gone counts =
    (o : Name) → IsTrue (has us o) → has stuck o ≡ false → value_at counts o ≡ references s (without us gone) o

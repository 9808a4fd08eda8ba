-- Whole units of a mutator: the words that its steps find, from rest to rest, and how that ends.
use Rattle.std.specs.Prelude.{◌≡◌, ◌≢◌, ℕ, ◌+◌, ◌<◌, ◌≤◌, ◌⊎◌, true, false, List, [], ◌∷◌, ◌++◌, Some, IsTrue}
use Rattle.lxr_graph.specs.declared.Op.TheVariants as op
use Rattle.lxr_mutator.specs.declared.phases.MutEnd.{MutEnd}
use Rattle.lxr_mutator.specs.declared.phases.MutEnd.TheVariants as ends
use Rattle.lxr_mutator.specs.declared.phases.MutatorPhase.TheVariants as phase
use Rattle.lxr_mutator.specs.Mutating.{Mutating, op_now, rests_in}
use Rattle.lxr_mutator.specs.Steps.{after, is_medium, shape_now}
use Rattle.lxr_mutator.specs.Laws.{IsLogFull}

-- behind steps that found these words
abbrev pub led : Mutating → List ℕ → Mutating
led m [] = m
led m (old ∷ olds) = led (after m old) olds

-- it rests behind the last of these steps and no sooner
abbrev pub GoesOn : Mutating → List ℕ → Type 0
GoesOn m [] = rests_in m.phase ≡ true
GoesOn m (old ∷ olds) = (rests_in m.phase ≡ false) × GoesOn (after m old) olds

-- these are the words of a whole unit
abbrev pub IsUnit : Mutating → List ℕ → Type 0
IsUnit m [] = ⊥
IsUnit m (old ∷ olds) = (m.phase ≡ phase.Ready) × GoesOn (after m old) olds

-- in the last two of these steps a number was drawn from the cursor of runs, and there are only so many runs
pub record IsPastRunsIn (m : Mutating) (olds : List ℕ) : Type 0 where
  pub before : List ℕ
  pub number : ℕ
  pub count : ℕ
  pub is : olds ≡ before ++ number ∷ count ∷ []
  pub draws : (led m before).phase ≡ phase.DrawsRun
  pub past : count ≤ number

-- a block is drawn behind these steps: the object has more than one line, or they have found no run
abbrev pub MayDrawBlock : Mutating → List ℕ → Type 0
MayDrawBlock m olds = IsTrue (is_medium (shape_now m)) ⊎ IsPastRunsIn m olds

-- in the last two of these steps a number was drawn from the cursor of free blocks, and there are only so many of them
pub record IsPastBlocksIn (m : Mutating) (olds : List ℕ) : Type 0 where
  pub before : List ℕ
  pub number : ℕ
  pub count : ℕ
  pub is : olds ≡ before ++ number ∷ count ∷ []
  pub draws : (led m before).phase ≡ phase.DrawsBlock
  pub past : count ≤ number
  pub may : MayDrawBlock m before

-- in the last of these steps a store found that its field is to be logged, and the log full
pub record IsLogFullIn (m : Mutating) (olds : List ℕ) : Type 0 where
  pub before : List ℕ
  pub old : ℕ
  pub is : olds ≡ before ++ old ∷ []
  pub full : IsLogFull (led m before) old

-- why a unit of these steps ended so: `to` is the mutator behind it
abbrev pub IsCause : Mutating → List ℕ → Mutating → MutEnd → Type 0
IsCause m olds to ends.NoRun = (before : List ℕ) × (asked : ℕ) × (olds ≡ before ++ asked ∷ []) × IsPastBlocksIn m before
IsCause m olds to ends.LogFull = (before : List ℕ) × (asked : ℕ) × (olds ≡ before ++ asked ∷ []) × IsLogFullIn m before
IsCause m olds to ends.Asked = olds ≡ 1 ∷ []
IsCause m olds to ends.Turns = (to.since ≡ m.since + 1) × (m.every ≤ to.since)
IsCause m olds to ends.Ended = (op_now m ≡ op.End) × (pause : ℕ) × (pause ≢ 1) × (olds ≡ pause ∷ [])
IsCause m olds to (ends.OpDone r) = (to.since ≡ m.since + 1) × (to.since < m.every)

-- how the unit ended, and why
pub record EndsByRules (m : Mutating) (olds : List ℕ) (to : Mutating) : Type 0 where
  pub how : MutEnd
  pub end : to.end ≡ Some how
  pub cause : IsCause m olds to how

-- So it is of each unit, from rest to rest. NoRun comes only where a number drawn in it was at least the number of free blocks and, for an object of
-- one line, another at least the number of runs; LogFull only where its store found the log full; both only behind one more step, which asks for a
-- pause. Asked comes only where the pause word was loaded as 1, Turns where the unit did the `every`-th operation of this epoch, Ended
-- where the thread's end is done.
abbrev pub UnitsEndByRules : Type 0
UnitsEndByRules = (m : Mutating) (olds : List ℕ) → IsUnit m olds → EndsByRules m olds (led m olds)

-- where a unit's steps were so, it ended so
pub record EndsWhere (m : Mutating) (olds : List ℕ) (to : Mutating) : Type 0 where
  pub no_run : IsCause m olds to ends.NoRun → to.end ≡ Some ends.NoRun
  pub log_full : IsCause m olds to ends.LogFull → to.end ≡ Some ends.LogFull
  pub asked : IsCause m olds to ends.Asked → to.end ≡ Some ends.Asked
  pub turns : IsCause m olds to ends.Turns → to.end ≡ Some ends.Turns
  pub ended : IsCause m olds to ends.Ended → to.end ≡ Some ends.Ended

-- the other direction: each cause has its end
abbrev pub CausesEndUnits : Type 0
CausesEndUnits = (m : Mutating) (olds : List ℕ) → IsUnit m olds → EndsWhere m olds (led m olds)

-- Scripts that grow: what may be asked of a thread once it has done what it was asked for.
use Rattle.std.specs.Prelude.{List, [], ◌∷◌, ◌++◌, reverse}
use Rattle.lxr_graph.specs.declared.Op.{Op}
use Rattle.lxr_graph.specs.declared.Op.TheVariants as op
use Rattle.lxr_graph.specs.declared.report.Kind.TheVariants as kind
use Rattle.lxr_graph.specs.History.{Item, Pause}
use Rattle.lxr_model.specs.Belongs.{BelongsSoFar, IsHistorySoFar}
use Rattle.lxr_model_laws.specs.ScriptLaws.{GoesOn}
use Rattle.lxr_model_decide.specs.ExampleWords.{usual_terms, made, new, store, makes, asks, ends, quiet}

-- ---- a thread is asked for more

-- these items, oldest first, are a history so far of these operations of thread 1, and of them with more behind them
pub record MayBeAskedForMore (asked more : List Op) (items : List Item) : Type 0 where
  pub goes_on : GoesOn (asked ∷ []) ((asked ++ more) ∷ [])
  pub before : IsHistorySoFar usual_terms (asked ∷ []) (reverse items)
  pub after : IsHistorySoFar usual_terms ((asked ++ more) ∷ []) (reverse items)

-- a thread is asked for an object and a pause
abbrev pub asked_first : List Op
asked_first = new 1 0 ∷ op.Pause ∷ []

abbrev pub done_first : List Item
done_first = makes 1 0 1 ∷ asks ∷ Pause (record (quiet 1 kind.Plain []) { promoted = made 1 ∷ [] }) ∷ []

-- once it has done both, it is asked to store the object
abbrev pub ScriptGrows : Type 0
ScriptGrows = MayBeAskedForMore asked_first (store 0 0 1 ∷ []) done_first

-- ---- what can't be asked

-- of these other operations of thread 1 they are none
pub record IsOfNoOther (asked other : List Op) (items : List Item) : Type 0 where
  pub before : IsHistorySoFar usual_terms (asked ∷ []) (reverse items)
  pub refused : BelongsSoFar usual_terms (other ∷ []) (reverse items) → ⊥

-- what was done was asked for: it can't be asked for otherwise, and so a script with another object doesn't go on from this one
abbrev pub DoneIsAskedForOnce : Type 0
DoneIsAskedForOnce = IsOfNoOther asked_first (new 1 1 ∷ op.Pause ∷ store 0 0 1 ∷ []) done_first × (GoesOn (asked_first ∷ []) ((new 1 1 ∷ op.Pause ∷ store 0 0 1 ∷ []) ∷ []) → ⊥)

-- a thread that has ended can't be asked for more, though the script with more goes on from its own
abbrev pub EndedIsAskedNoMore : Type 0
EndedIsAskedNoMore = IsOfNoOther [] (op.Pause ∷ []) (ends ∷ []) × GoesOn ([] ∷ []) ((op.Pause ∷ []) ∷ [])

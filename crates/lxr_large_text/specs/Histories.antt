-- Histories of a script with large objects: whole ones, and those so far. Items stand newest first.
use Rattle.std.specs.Prelude.{◌≡◌, ⊤, List, [], ◌∷◌, ◌++◌}
use Rattle.lxr_graph.specs.declared.Op.TheVariants as op
use Rattle.lxr_large_model.specs.declared.LargeOp.{LargeOp}
use Rattle.lxr_large_model.specs.declared.LargeOp.TheVariants as large_op
use Rattle.lxr_large_model.specs.declared.LargeReply.{LargeReply}
use Rattle.lxr_large_model.specs.Full.{LargeTerms}
use Rattle.lxr_large_model.specs.History.{LargeItem, Called, Paused, Renewed}
use Rattle.lxr_large_model.specs.Pauses.{IsLegalLarge, PausesHaveCauses}

-- the operations that were called, oldest first
abbrev pub called_in : List LargeItem → List LargeOp
called_in [] = []
called_in (Called o r ∷ h) = called_in h ++ o ∷ []
called_in (Paused report ∷ h) = called_in h
called_in (Renewed ns ∷ h) = called_in h

-- their replies, oldest first
abbrev pub replied_in : List LargeItem → List LargeReply
replied_in [] = []
replied_in (Called o r ∷ h) = replied_in h ++ r ∷ []
replied_in (Paused report ∷ h) = replied_in h
replied_in (Renewed ns ∷ h) = replied_in h

-- the operations of a script, followed by the end of the thread
abbrev pub with_end : List LargeOp → List LargeOp
with_end operations = operations ++ large_op.Small op.End ∷ []

-- A whole history of a script: it is legal, its calls are the script's operations and then the end, each once and in order, and each pause
-- stands where one may and where one must: the last one right behind the end.
pub record IsLargeHistory (terms : LargeTerms) (operations : List LargeOp) (h : List LargeItem) : Type 0 where
  pub legal : IsLegalLarge terms h
  pub calls : called_in h ≡ with_end operations
  pub causes : PausesHaveCauses terms [] h

-- Each pause stands where one may, where these are the operations that are still to come: the newest pause may be one that is made for the
-- first of them, whatever the reply to that will be.
abbrev pub CausesSoFar : LargeTerms → List LargeItem → List LargeOp → Type 0
CausesSoFar terms h [] = PausesHaveCauses terms [] h
CausesSoFar terms h (o ∷ rest) = (r : LargeReply) → PausesHaveCauses terms (Called o r ∷ []) h

-- A history of a script so far: it is legal, its calls begin the script's operations and their end, and pauses stand where they may.
pub record IsLargeSoFar (terms : LargeTerms) (operations : List LargeOp) (h : List LargeItem) : Type 0 where
  pub legal : IsLegalLarge terms h
  pub rest : List LargeOp
  pub calls : called_in h ++ rest ≡ with_end operations
  pub causes : CausesSoFar terms h rest

-- the newest item is a pause
abbrev pub EndsAtPause : List LargeItem → Type 0
EndsAtPause (Paused report ∷ h) = ⊤
EndsAtPause _ = ⊥

-- How a history of a script with large objects grows. Each law is the contract of a function with an empty body.
use Rattle.std.specs.Prelude.{List, [], ◌∷◌}
use Rattle.lxr_graph.specs.declared.report.Kind.{Kind}
use Rattle.lxr_graph.specs.History.{PauseReport}
use Rattle.lxr_large_model.specs.declared.LargeOp.{LargeOp}
use Rattle.lxr_large_model.specs.declared.LargeReply.{LargeReply}
use Rattle.lxr_large_model.specs.Full.{LargeTerms}
use Rattle.lxr_large_model.specs.History.{LargeItem, Called, Paused}
use Rattle.lxr_large_model.specs.Pauses.{AsksFor, IsMadeFor, PausesHaveCauses}

-- Behind a history to which nothing is owed, any call may come next.
abbrev pub AnyCallMayCome : Type 0
AnyCallMayCome = (terms : LargeTerms) (h : List LargeItem) (o : LargeOp) (r : LargeReply) → PausesHaveCauses terms [] h → PausesHaveCauses terms (Called o r ∷ []) h

-- So may a call behind a pause that is made for it.
abbrev pub PausesAreMadeFor : Type 0
PausesAreMadeFor = (terms : LargeTerms) (h : List LargeItem) (report : PauseReport) (o : LargeOp) (r : LargeReply) → PausesHaveCauses terms [] h → IsMadeFor terms h report.kind o
    → PausesHaveCauses terms (Called o r ∷ []) (Paused report ∷ h)

-- A call that may come next has come, and asks for no pause: nothing is owed.
abbrev pub UnaskedOweNothing : Type 0
UnaskedOweNothing = (terms : LargeTerms) (h : List LargeItem) (o : LargeOp) (r : LargeReply) → PausesHaveCauses terms (Called o r ∷ []) h → ((k : Kind) → ¬ AsksFor o k)
    → PausesHaveCauses terms [] (Called o r ∷ h)

-- It has come, and so has the pause that it asks for: nothing is owed.
abbrev pub AskedAreFollowed : Type 0
AskedAreFollowed = (terms : LargeTerms) (h : List LargeItem) (o : LargeOp) (r : LargeReply) (report : PauseReport) → PausesHaveCauses terms (Called o r ∷ []) h → AsksFor o report.kind
    → PausesHaveCauses terms [] (Paused report ∷ Called o r ∷ h)

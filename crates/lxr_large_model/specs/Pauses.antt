-- Where the pauses of a script with large objects stand, and which histories are legal. Items stand newest first.
use Rattle.std.specs.Prelude.{◌≡◌, ℕ, ◌⊎◌, ⊤, List, [], ◌∷◌, length}
use Rattle.lxr_layout.specs.declared.Name.{Name}
use Rattle.lxr_graph.specs.declared.Op.TheVariants as op
use Rattle.lxr_graph.specs.declared.report.Kind.{Kind}
use Rattle.lxr_graph.specs.declared.report.Kind.TheVariants as kind
use Rattle.lxr_graph.specs.History.{PauseReport}
use Rattle.lxr_graph.specs.State.{world_name}
use Rattle.lxr_model.specs.Reports.{IsReport}
use Rattle.lxr_large_model.specs.declared.LargeOp.{LargeOp}
use Rattle.lxr_large_model.specs.declared.LargeOp.TheVariants as large_op
use Rattle.lxr_large_model.specs.declared.LargeReply.{LargeReply}
use Rattle.lxr_large_model.specs.Full.{IsFresh, LargeReplies, LargeTerms, LeaveNoRoom, kept_names}
use Rattle.lxr_large_model.specs.History.{LargeItem, Called, Paused, Renewed, large_moment, large_state}
use Rattle.lxr_large_model.specs.Step.{IsLargeOpFor}

-- so many references are logged between two pauses at most
abbrev pub most_logged : ℕ
most_logged = 1024

-- the kind of a pause: it counts alone, or collects
abbrev pub IsLargeKind : Kind → Type 0
IsLargeKind kind.Plain = ⊤
IsLargeKind kind.Collect = ⊤
IsLargeKind _ = ⊥

-- a call after h: with registers that the thread may name, and a shape and a body that there are
pub record IsLargeCall (terms : LargeTerms) (h : List LargeItem) (o : LargeOp) (r : LargeReply) : Type 0 where
  pub operation : IsLargeOpFor terms.registers o
  pub reply : LargeReplies terms h o r

-- a pause after h: its report is that of the moment
pub record IsLargePause (h : List LargeItem) (report : PauseReport) : Type 0 where
  pub kind : IsLargeKind report.kind
  pub reports : IsReport (large_moment h) report

-- A renewal after h: right behind a pause that collects, of all that is left. The unreclaimed names are the world's and these, in order.
pub record IsRenewal (h : List LargeItem) (ns : List Name) : Type 0 where
  pub fresh : IsFresh h
  pub names : (large_moment h).unreclaimed ≡ world_name ∷ ns

-- item x may come after h
abbrev pub MayFollow : LargeTerms → List LargeItem → LargeItem → Type 0
MayFollow terms h (Called o r) = IsLargeCall terms h o r
MayFollow terms h (Paused report) = IsLargePause h report
MayFollow terms h (Renewed ns) = IsRenewal h ns

-- a legal history: each call is a step or may be full, each pause gives its report, and names are renewed right behind a pause that collects
abbrev pub IsLegalLarge : LargeTerms → List LargeItem → Type 0
IsLegalLarge terms [] = ⊤
IsLegalLarge terms (x ∷ h) = IsLegalLarge terms h × MayFollow terms h x

-- ---- where pauses stand

-- the kind of the pause that an operation asks for, if it asks for one
abbrev pub AsksFor : LargeOp → Kind → Type 0
AsksFor (large_op.Small op.Pause) k = k ≡ kind.Plain
AsksFor (large_op.Small op.Collect) k = k ≡ kind.Collect
AsksFor (large_op.Small op.End) k = k ≡ kind.Collect
AsksFor _ k = ⊥

-- The call of an operation is what a pause was made for that nobody asked for, which stands after h: a plain one is made for a `store` where the
-- log is full, a collecting one for a `new` or a `big` for which what was kept or made since the pause before can leave no room.
abbrev pub IsMadeFor : LargeTerms → List LargeItem → Kind → LargeOp → Type 0
IsMadeFor terms h kind.Plain (large_op.Small (op.Store base index source)) = length (large_moment h).written ≡ most_logged
IsMadeFor terms h kind.Collect (large_op.Small (op.New dest shape)) = LeaveNoRoom terms (large_state h) (kept_names (large_moment h)) (large_op.Small (op.New dest shape))
IsMadeFor terms h kind.Collect (large_op.Big dest blocks) = LeaveNoRoom terms (large_state h) (kept_names (large_moment h)) (large_op.Big dest blocks)
IsMadeFor terms h _ _ = ⊥

-- the newest call asked for a pause of this kind
abbrev pub WasAskedFor : List LargeItem → Kind → Type 0
WasAskedFor (Called o r ∷ h) k = AsksFor o k
WasAskedFor _ k = ⊥

-- the next item, if there is one, is the call that a pause after h was made for
abbrev pub ComesFor : LargeTerms → List LargeItem → Kind → List LargeItem → Type 0
ComesFor terms h k (Called o r ∷ later) = IsMadeFor terms h k o
ComesFor terms h k _ = ⊥

-- the next item is a pause of this kind
abbrev pub PauseComes : Kind → List LargeItem → Type 0
PauseComes k (Paused report ∷ later) = report.kind ≡ k
PauseComes k _ = ⊥

-- Each pause was asked for by the call before it, or is made for the call behind it; and right behind each call that asks for one stands its
-- pause. No names are renewed. `later` are the items behind, the next one first.
abbrev pub PausesHaveCauses : LargeTerms → List LargeItem → List LargeItem → Type 0
PausesHaveCauses terms later [] = ⊤
PausesHaveCauses terms later (Called o r ∷ h) = ((k : Kind) → AsksFor o k → PauseComes k later) × PausesHaveCauses terms (Called o r ∷ later) h
PausesHaveCauses terms later (Paused report ∷ h) = (WasAskedFor h report.kind ⊎ ComesFor terms h report.kind later) × PausesHaveCauses terms (Paused report ∷ later) h
PausesHaveCauses terms later (Renewed ns ∷ h) = ⊥

-- What the causes of a history's pauses ask of the items behind is asked of the next one alone.
use Rattle.std.proofs.Common.{◌≡◌, ◌∙◌, sym, inl, inr, List, [], ◌∷◌}
use Rattle.lxr_graph.specs.declared.Op.TheVariants as op
use Rattle.lxr_graph.specs.declared.report.Kind.{Kind}
use Rattle.lxr_large_model.specs.declared.LargeOp.{LargeOp}
use Rattle.lxr_large_model.specs.declared.LargeOp.TheVariants as large_op
use Rattle.lxr_large_model.specs.Full.{LargeTerms}
use Rattle.lxr_large_model.specs.History.{LargeItem, Called, Paused, Renewed}
use Rattle.lxr_large_model.specs.Pauses.{AsksFor, ComesFor, PauseComes, PausesHaveCauses}
use Rattle.lxr_large_text.specs.Growing.{AnyCallMayCome, AskedAreFollowed, PausesAreMadeFor, UnaskedOweNothing}

-- ---- the next item alone counts

same_pause : (x : LargeItem) (l m : List LargeItem) (k : Kind) → PauseComes k (x ∷ l) → PauseComes k (x ∷ m)
same_pause (Called o r) l m k comes = absurd comes
same_pause (Paused report) l m k comes = comes
same_pause (Renewed ns) l m k comes = absurd comes

same_call : (terms : LargeTerms) (h : List LargeItem) (k : Kind) (x : LargeItem) (l m : List LargeItem) → ComesFor terms h k (x ∷ l) → ComesFor terms h k (x ∷ m)
same_call terms h k (Called o r) l m comes = comes
same_call terms h k (Paused report) l m comes = absurd comes
same_call terms h k (Renewed ns) l m comes = absurd comes

-- what stands behind the next item says nothing
pub same_behind : (terms : LargeTerms) (h : List LargeItem) (x : LargeItem) (l m : List LargeItem) → PausesHaveCauses terms (x ∷ l) h → PausesHaveCauses terms (x ∷ m) h
same_behind terms [] x l m causes = causes
same_behind terms (Called o r ∷ h) x l m causes = ((λ k asks. same_pause x l m k (causes.0 k asks)), same_behind terms h (Called o r) (x ∷ l) (x ∷ m) causes.1)
same_behind terms (Paused report ∷ h) x l m causes = (
  elim causes.0 [ inl asked ↦ inl asked | inr made ↦ inr (same_call terms h report.kind x l m made) ],
  same_behind terms h (Paused report) (x ∷ l) (x ∷ m) causes.1,
)
same_behind terms (Renewed ns ∷ h) x l m causes = causes

-- where nothing is to come, anything may
pub anything_comes : (terms : LargeTerms) (h : List LargeItem) (x : LargeItem) (l : List LargeItem) → PausesHaveCauses terms [] h → PausesHaveCauses terms (x ∷ l) h
anything_comes terms [] x l causes = causes
anything_comes terms (Called o r ∷ h) x l causes = ((λ k asks. absurd (causes.0 k asks)), same_behind terms h (Called o r) [] (x ∷ l) causes.1)
anything_comes terms (Paused report ∷ h) x l causes = (
  elim causes.0 [ inl asked ↦ inl asked | inr made ↦ absurd made ],
  same_behind terms h (Paused report) [] (x ∷ l) causes.1,
)
anything_comes terms (Renewed ns ∷ h) x l causes = causes

-- ---- what asks for a pause

-- an operation asks for one kind alone
pub one_kind : (o : LargeOp) (k l : Kind) → AsksFor o k → AsksFor o l → k ≡ l
one_kind (large_op.Small op.Pause) k l a b = a ∙ sym b
one_kind (large_op.Small op.Collect) k l a b = a ∙ sym b
one_kind (large_op.Small op.End) k l a b = a ∙ sym b
one_kind o k l a b = absurd a

-- ---- the laws

pub any_call_may_come : AnyCallMayCome
any_call_may_come terms h o r causes = anything_comes terms h (Called o r) [] causes

pub pauses_are_made_for : PausesAreMadeFor
pauses_are_made_for terms h report o r causes made = (inr made, anything_comes terms h (Paused report) (Called o r ∷ []) causes)

pub unasked_owe_nothing : UnaskedOweNothing
unasked_owe_nothing terms h o r causes none = ((λ k asks. absurd (none k asks)), causes)

pub asked_are_followed : AskedAreFollowed
asked_are_followed terms h o r report causes asks = (inl asks, ((λ k asked. one_kind o report.kind k asks asked), same_behind terms h (Called o r) [] (Paused report ∷ []) causes))

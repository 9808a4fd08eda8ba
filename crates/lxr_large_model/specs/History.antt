-- Histories of a heap with large objects: calls with replies, pauses with reports, and renewals of names, newest first.
use Rattle.std.specs.Prelude.{List, [], ◌∷◌}
use Rattle.lxr_layout.specs.declared.Name.{Name}
use Rattle.lxr_graph.specs.declared.Op.TheVariants as op
use Rattle.lxr_graph.specs.declared.Reply.TheVariants as reply
use Rattle.lxr_graph.specs.History.{PauseReport}
use Rattle.lxr_model.specs.Moments.{Moment, after_call, after_pause, opening_moment, renewed_moment}
use Rattle.lxr_large_model.specs.declared.LargeOp.{LargeOp}
use Rattle.lxr_large_model.specs.declared.LargeOp.TheVariants as large_op
use Rattle.lxr_large_model.specs.declared.LargeReply.{LargeReply}
use Rattle.lxr_large_model.specs.declared.LargeReply.TheVariants as large_reply
use Rattle.lxr_large_model.specs.Renewing.{renewed_large}
use Rattle.lxr_large_model.specs.State.{LargeState, handle, large_opening}
use Rattle.lxr_large_model.specs.Step.{large_after}

-- an item of a history: a call with its reply, a pause, or a renewal with the old names of what is left, but for the world's, in their order
pub data LargeItem : Type 0 where
  Called : LargeOp → LargeReply → LargeItem
  Paused : PauseReport → LargeItem
  Renewed : List Name → LargeItem

-- the state that a history leads to
abbrev pub large_state : List LargeItem → LargeState
large_state [] = large_opening
large_state (Called o r ∷ h) = large_after (large_state h) o r
large_state (Paused report ∷ h) = large_state h
large_state (Renewed ns ∷ h) = renewed_large ns (large_state h)

-- The moment after a call. Of the object graph alone, a `big` makes its handle, and what is done to bodies says nothing.
abbrev pub after_large_call : Moment → LargeOp → LargeReply → Moment
after_large_call m (large_op.Small o) (large_reply.Small r) = after_call m 1 o r
after_large_call m (large_op.Big dest blocks) (large_reply.Big n) = after_call m 1 (op.New dest handle) (reply.New n)
after_large_call m o r = m

-- the moment that a history leads to
abbrev pub large_moment : List LargeItem → Moment
large_moment [] = opening_moment 1
large_moment (Called o r ∷ h) = after_large_call (large_moment h) o r
large_moment (Paused report ∷ h) = after_pause (large_moment h) report
large_moment (Renewed ns ∷ h) = renewed_moment 1 ns (large_moment h)

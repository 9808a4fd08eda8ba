-- When a heap with large objects may reply that it is full.
use Rattle.std.specs.Prelude.{◌≡◌, ◌≢◌, ℕ, ◌+◌, ◌-◌, ◌/◌, ◌≤◌, ◌⊎◌, ⊤, Option, Some, None, List, [], ◌∷◌, length, sum_by}
use Rattle.lxr_layout.specs.declared.Name.{Name}
use Rattle.lxr_layout.specs.declared.Shape.{Shape}
use Rattle.lxr_layout.specs.declared.TheConstants.{WORDS_IN_BLOCK}
use Rattle.lxr_layout.specs.Objects.{line_count}
use Rattle.lxr_graph.specs.declared.Op.TheVariants as op
use Rattle.lxr_graph.specs.declared.Reply.TheVariants as reply
use Rattle.lxr_graph.specs.declared.report.Kind.TheVariants as kind
use Rattle.lxr_graph.specs.Names.{IsSetOf, union, without}
use Rattle.lxr_graph.specs.State.{world_name}
use Rattle.lxr_model.specs.Full.{LeaveNoRun}
use Rattle.lxr_model.specs.Moments.{Moment}
use Rattle.lxr_model.specs.Reachable.{Reachable}
use Rattle.lxr_large_model.specs.declared.LargeOp.{LargeOp}
use Rattle.lxr_large_model.specs.declared.LargeOp.TheVariants as large_op
use Rattle.lxr_large_model.specs.declared.LargeReply.{LargeReply}
use Rattle.lxr_large_model.specs.declared.LargeReply.TheVariants as large_reply
use Rattle.lxr_large_model.specs.History.{LargeItem, Called, Paused, Renewed, large_state}
use Rattle.lxr_large_model.specs.State.{LargeState, body_of, handle}
use Rattle.lxr_large_model.specs.Step.{IsLargeReply}

-- the blocks of the heap, those for bodies, and how many registers its thread may name
pub record LargeTerms : Type 0 where
  pub blocks : ℕ
  pub bodies : ℕ
  pub registers : ℕ

-- A pause is fresh for the next call: it collects, and nothing stands behind it but `new full`, `big full` and renewals.
abbrev pub IsFresh : List LargeItem → Type 0
IsFresh [] = ⊥
IsFresh (Paused report ∷ h) = report.kind ≡ kind.Collect
IsFresh (Called (large_op.Small (op.New dest shape)) (large_reply.Small reply.Full) ∷ h) = IsFresh h
IsFresh (Called (large_op.Big dest blocks) large_reply.Full ∷ h) = IsFresh h
IsFresh (Called _ _ ∷ h) = ⊥
IsFresh (Renewed ns ∷ h) = IsFresh h

-- how many slots of k blocks a body touches at most: its blocks over k, rounded up, and one; none where there is no body
abbrev pub body_slots : ℕ → Option (List ℕ) → ℕ
body_slots k None = 0
body_slots k (Some words) = (length words / WORDS_IN_BLOCK + (k - 1)) / k + 1

-- the bodies of these names can leave no run of k blocks among so many
abbrev pub LeaveNoBlocks : LargeState → List Name → ℕ → ℕ → Type 0
LeaveNoBlocks s ns bodies k = bodies / k ≤ sum_by (λ n. body_slots k (body_of s.large n)) ns

-- these objects can leave no run of lines for a shape
abbrev pub LeaveNoLines : LargeTerms → LargeState → List Name → Shape → Type 0
LeaveNoLines terms s ns shape = LeaveNoRun s.small.graph ns terms.blocks (line_count shape)

-- these objects can leave no room for the handle or for the body of a new large object
abbrev pub LeaveNoBody : LargeTerms → LargeState → List Name → ℕ → Type 0
LeaveNoBody terms s ns blocks = LeaveNoLines terms s ns handle ⊎ LeaveNoBlocks s ns terms.bodies blocks

-- these objects can leave no room for what an operation makes; nothing is asked of one that makes nothing
abbrev pub LeaveNoRoom : LargeTerms → LargeState → List Name → LargeOp → Type 0
LeaveNoRoom terms s ns (large_op.Small (op.New dest shape)) = LeaveNoLines terms s ns shape
LeaveNoRoom terms s ns (large_op.Big dest blocks) = LeaveNoBody terms s ns blocks
LeaveNoRoom terms s ns _ = ⊤

-- the names that are reachable, but for the world
abbrev pub AreReachable : LargeState → List Name → Type 0
AreReachable s ns = IsSetOf ns (λ n. Reachable s.small n × (n ≢ world_name))

-- `full` may be replied after h: right after a pause that collects, where what is reachable can leave no room
abbrev pub MayBeFull : LargeTerms → List LargeItem → LargeOp → Type 0
MayBeFull terms h o = IsFresh h × (ns : List Name) × AreReachable (large_state h) ns × LeaveNoRoom terms (large_state h) ns o

-- the reply of a call after h: that of a step, or `full` where that may be
abbrev pub LargeReplies : LargeTerms → List LargeItem → LargeOp → LargeReply → Type 0
LargeReplies terms h (large_op.Small (op.New dest shape)) (large_reply.Small reply.Full) = MayBeFull terms h (large_op.Small (op.New dest shape))
LargeReplies terms h (large_op.Big dest blocks) large_reply.Full = MayBeFull terms h (large_op.Big dest blocks)
LargeReplies terms h o r = IsLargeReply (large_state h) o r

-- the names that were unreclaimed after the last pause or were made since, but for the world
abbrev pub kept_names : Moment → List Name
kept_names m = without (union m.made m.unreclaimed) (world_name ∷ [])

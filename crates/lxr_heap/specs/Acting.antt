-- What comes of an operation that a heap is called with.
use Rattle.std.specs.Prelude.{◌≡◌, ℕ, ◌+◌, ◌↔◌, ◌⊎◌, ⊤, Bool, true, false, List, ◌∷◌, IsTrue}
use Rattle.lxr_graph.specs.declared.Op.TheVariants as op
use Rattle.lxr_graph.specs.declared.Reply.TheVariants as reply
use Rattle.lxr_blocks.specs.Placing.{IsFull}
use Rattle.lxr_model.specs.Moments.{Moment}
use Rattle.lxr_invariant.specs.AbstractState.{members}
use Rattle.lxr_direct.specs.Operating.{FindsLogFull, IsOfFirstVersion}
use Rattle.lxr_one_pause.specs.Settling.{survived}
use Rattle.lxr_large_model.specs.declared.Acted.{Acted}
use Rattle.lxr_large_model.specs.declared.Acted.TheVariants as acted
use Rattle.lxr_large_model.specs.declared.LargeOp.{LargeOp}
use Rattle.lxr_large_model.specs.declared.LargeOp.TheVariants as large_op
use Rattle.lxr_large_model.specs.declared.LargeReply.{LargeReply}
use Rattle.lxr_large_model.specs.declared.LargeReply.TheVariants as large_reply
use Rattle.lxr_large_model.specs.History.{LargeItem, Called, large_moment}
use Rattle.lxr_large_model.specs.State.{handle}
use Rattle.lxr_large_model.specs.Step.{IsLargeOpFor}
use Rattle.lxr_large_bodies.specs.Bodies.{Held, IsFreeRun}
use Rattle.lxr_heap.specs.declared.heap.Heap.{Heap}
use Rattle.lxr_heap.specs.Holding.{IsHeapOf, StayInBlocks, StayInPlace, made_with, terms_of}

-- an operation that a heap of so many registers may be called with: its registers, its shape and its body fit, and it is one of the first
-- version of scripts
abbrev pub MayBeCalled : ℕ → LargeOp → Type 0
MayBeCalled registers (large_op.Small o) = IsLargeOpFor registers (large_op.Small o) × IsOfFirstVersion o
MayBeCalled registers o = IsLargeOpFor registers o

-- an operation that some heap may be called with
abbrev pub IsCallable : LargeOp → Type 0
IsCallable o = (registers : ℕ) × MayBeCalled registers o

-- some run of so many blocks is free
abbrev pub HasRun : Held → ℕ → Type 0
HasRun bodies blocks = (first : ℕ) × IsFreeRun bodies first blocks

-- A `new` finds no place where neither lines that are left nor free ones fit its object; a `big` where none fit its handle, or no run of free
-- blocks its body.
abbrev pub FindsNoPlace : Heap → LargeOp → Type 0
FindsNoPlace x (large_op.Small (op.New dest shape)) = IsFull x.space shape
FindsNoPlace x (large_op.Big dest blocks) = IsFull x.space handle ⊎ ¬ HasRun x.bodies blocks
FindsNoPlace x _ = ⊥

-- a store has to record what it overwrites, and finds the log full
abbrev pub FindsNoLog : Heap → Moment → LargeOp → Type 0
FindsNoLog x m (large_op.Small o) = FindsLogFull x.space m 1 o
FindsNoLog x m _ = ⊥

-- the operation is refused: the reply is that the heap is full
abbrev pub IsRefusal : LargeOp → LargeReply → Type 0
IsRefusal (large_op.Small (op.New dest shape)) (large_reply.Small reply.Full) = ⊤
IsRefusal (large_op.Big dest blocks) large_reply.Full = ⊤
IsRefusal _ _ = ⊥

-- how many objects were made, with the one, large or not, of which a reply tells
abbrev pub made_by : ℕ → LargeReply → ℕ
made_by made (large_reply.Small r) = made_with made r
made_by made (large_reply.Big n) = made + 1
made_by made _ = made

-- It was done: the heap is that of the history with this call, which is legal, so the reply is that of a step of the model and the state is the
-- one after it; or, exactly where no place is found right behind a pause that collected, it was refused as `full`, and nothing has changed. One
-- object more was made where the reply tells of one, no object and no body has moved, nothing more is gone, the last pause's report stays, with
-- what was told in it, and the log has as many entries as before.
pub record IsReplied (before after : Heap) (h : List LargeItem) (o : LargeOp) (r : LargeReply) : Type 0 where
  pub holds : IsHeapOf after (Called o r ∷ h)
  pub refused : IsRefusal o r ↔ FindsNoPlace before o
  pub fresh : IsRefusal o r → IsTrue before.fresh × (after ≡ before)
  pub logged : ¬ FindsNoLog before (large_moment h) o
  pub made : after.made ≡ made_by before.made r
  pub reported : after.space.report ≡ before.space.report
  pub gone : after.gone ≡ before.gone
  pub placed : StayInPlace before after h (Called o r ∷ h) (members (survived (large_moment h) before.gone.items))
  pub stay : StayInBlocks before.bodies.bodies after.bodies.bodies
  pub terms : terms_of after ≡ terms_of before
  pub log : after.space.limits.log ≡ before.space.limits.log

-- What has come of an operation: it was replied to; or it finds no place and no fresh pause stands before it; or it has to record what it
-- overwrites and the log is full. After the last two nothing has changed.
abbrev pub Acts : Heap → Heap → List LargeItem → LargeOp → Acted → Type 0
Acts before after h o (acted.Replied r) = IsReplied before after h o r
Acts before after h o acted.Room = FindsNoPlace before o × (before.fresh ≡ false) × (after ≡ before)
Acts before after h o acted.Log = FindsNoLog before (large_moment h) o × (after ≡ before)

-- ---- the pause that an operation wants

-- An operation wants a pause before it: one that collects where it finds no place, and a plain one where it finds the log full.
abbrev pub WantsPause : Heap → List LargeItem → LargeOp → Bool → Type 0
WantsPause x h o true = FindsNoPlace x o
WantsPause x h o false = FindsNoLog x (large_moment h) o

-- An operation wants no pause before it: it finds a place, or a fresh pause stands before it, and it finds room in the log.
pub record WantsNoPause (x : Heap) (h : List LargeItem) (o : LargeOp) : Type 0 where
  pub holds : IsHeapOf x h
  pub fresh : FindsNoPlace x o → IsTrue x.fresh
  pub logs : ¬ FindsNoLog x (large_moment h) o

-- An epoch: what it begins with, and what there is at a moment of it.
use Rattle.std.specs.Prelude.{◌≡◌, ℕ, ◌+◌, ◌≤◌, Bool, true, false, nat_eq, if◌then◌else◌, List, [], ◌∷◌, length}
use Rattle.std.specs.List.{count_by}
use Rattle.lxr_layout.specs.declared.limits.Limits.{Limits}
use Rattle.lxr_layout.specs.declared.Name.{Name}
use Rattle.lxr_graph.specs.declared.Op.{Op}
use Rattle.lxr_graph.specs.declared.Reply.{Reply}
use Rattle.lxr_graph.specs.declared.Reply.TheVariants as reply
use Rattle.lxr_graph.specs.History.{Item, Call, Pause, Renew, replies_of}
use Rattle.lxr_graph.specs.State.{row_of}
use Rattle.lxr_graph.specs.Step.{IsReply, IsWellFormed}
use Rattle.lxr_image.specs.declared.space.Space.{Space}
use Rattle.lxr_image.specs.Tables.{Tables}
use Rattle.lxr_image.specs.Spaces.{tables_of}
use Rattle.lxr_model.specs.Moments.{Field, Moment, moment}
use Rattle.lxr_model.specs.Belongs.{calls_since_pause, has_asked}
use Rattle.lxr_invariant.specs.AbstractState.{AbstractState}
use Rattle.lxr_invariant.specs.Quiescent.{IsQuiescent}
use Rattle.lxr_invariant.specs.Listed.{IsListed}
use Rattle.lxr_core_access.specs.Decrementers.{Decrementing}
use Rattle.lxr_core_access.specs.Tracers.{Tracing}
use Rattle.lxr_core_invariant.specs.ThreadStates.{ThreadState}

-- What an epoch begins with: a space, what it stands for, the history that led there, and how many operations a thread may
-- do between two pauses.
pub record Beginning : Type 0 where
  pub space : Space
  pub abstract_state : AbstractState
  pub history : List Item
  pub every : ℕ

-- the limits of its space
abbrev pub limits_of : Beginning → Limits
limits_of b = b.space.limits

-- the tables as the epoch opens
abbrev pub opening_tables : Beginning → Tables
opening_tables b = tables_of b.space

-- a reply tells of a new object
abbrev pub tells_new : Reply → Bool
tells_new (reply.New name) = true
tells_new _ = false

-- how many objects thread t began with, at the opening or when names were last renewed: then thread 1 has all that are left
abbrev pub objects_before : ℕ → List Item → ℕ
objects_before t [] = 0
objects_before t (Call u o r ∷ h) = objects_before t h
objects_before t (Pause report ∷ h) = objects_before t h
objects_before t (Renew ns ∷ h) = if nat_eq t 1 then length ns else 0

-- each thread has as many objects as it began with and as it has had replies that tell of a new one
pub record CountsObjects (threads : ℕ) (h : List Item) : Type 0 where
  pub rows : length (moment threads h).state.graph ≡ threads + 1
  pub objects : (t : ℕ) → 1 ≤ t → t ≤ threads → length (row_of (moment threads h).state.graph t) ≡ objects_before t h + count_by tells_new (replies_of t h)

-- it is between epochs and listed, and objects are counted by replies
pub record IsBeginning (b : Beginning) : Type 0 where
  pub between : IsQuiescent b.space b.abstract_state
  pub listed : IsListed b.space
  pub moment : b.abstract_state.moment ≡ moment b.space.limits.threads b.history
  pub counted : CountsObjects b.space.limits.threads b.history

-- What there is at a moment of an epoch: the tables, what each mutator shows, thread 1 first, what each decrementer and each tracer is
-- about to do, the history so far, the place of each object that stands in the heap, and the references of unreclaimed objects whose unlogged
-- bits were cleared.
pub record EpochState : Type 0 where
  pub tables : Tables
  pub thread_states : List ThreadState
  pub decrementers : List Decrementing
  pub tracers : List Tracing
  pub history : List Item
  pub at : Name → ℕ
  pub cleared : List Field

-- the moment of the model that the history has led to
abbrev pub moment_of : Beginning → EpochState → Moment
moment_of b s = moment b.space.limits.threads s.history

-- a call that comes next behind h: of a thread that there is, which hasn't asked for a pause and has operations left before
-- the next one, with the reply of a step of the model
pub record IsStepCall (threads every : ℕ) (h : List Item) (t : ℕ) (o : Op) (r : Reply) : Type 0 where
  pub thread : (1 ≤ t) × (t ≤ threads)
  pub formed : IsWellFormed o
  pub reply : IsReply (moment threads h).state t o r
  pub unasked : has_asked t h ≡ false
  pub turn : calls_since_pause t h ≤ every

-- a history that goes on from another by such calls alone
pub data Extends (threads every : ℕ) (h : List Item) : List Item → Type 0 where
  same : Extends threads every h h
  called : (k : List Item) (t : ℕ) (o : Op) (r : Reply) → Extends threads every h k → IsStepCall threads every k t o r → Extends threads every h (Call t o r ∷ k)

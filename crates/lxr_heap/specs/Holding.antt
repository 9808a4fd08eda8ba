-- What a heap holds that a thread calls directly: it is always that of a legal history, and stands for the state that this leads to.
use Rattle.std.specs.Prelude.{◌≡◌, ℕ, ◌+◌, ◌*◌, ◌≤◌, ◌↔◌, ◌⊎◌, false, None, Some, List, [], ◌∷◌, IsTrue, length}
use Rattle.std.specs.List.{AllByRecursion}
use Rattle.lxr_layout.specs.declared.limits.Limits.{Limits}
use Rattle.lxr_layout.specs.declared.Name.{Name}
use Rattle.lxr_layout.specs.declared.TheConstants.{DECREMENT_COUNT, GRANULES_IN_BLOCK, LEAST_REGISTERS, MOST_BLOCKS, REGISTERS, WORDS_IN_BLOCK}
use Rattle.lxr_graph.specs.declared.Reply.{Reply}
use Rattle.lxr_graph.specs.declared.Reply.TheVariants as reply
use Rattle.lxr_graph.specs.Distinct.{IsDistinct}
use Rattle.lxr_graph.specs.Names.{has, same_name}
use Rattle.lxr_graph.specs.History.{PauseReport}
use Rattle.lxr_graph.specs.State.{next_name}
use Rattle.lxr_image.specs.Opened.{no_tally}
use Rattle.lxr_image.specs.Spaces.{tables_of}
use Rattle.lxr_model.specs.Dead.{Dead}
use Rattle.lxr_model.specs.Moments.{Moment}
use Rattle.lxr_model.specs.Reachable.{Reachable}
use Rattle.lxr_model_counting.specs.Following.{FollowsPause}
use Rattle.lxr_invariant.specs.AbstractState.{AbstractState, members, no_report}
use Rattle.lxr_invariant.specs.Lines.{OutsAreTaken}
use Rattle.lxr_invariant.specs.Quiescent.{IsAtRest}
use Rattle.lxr_full.specs.Room.{HasWorld}
use Rattle.lxr_one_pause.specs.Settling.{survived}
use Rattle.lxr_large_model.specs.Full.{IsFresh, LargeTerms}
use Rattle.lxr_large_model.specs.History.{LargeItem, Called, Paused, Renewed, large_moment, large_state}
use Rattle.lxr_large_model.specs.Pauses.{IsLegalLarge, most_logged}
use Rattle.lxr_large_model.specs.State.{Large}
use Rattle.lxr_large_bodies.specs.Bodies.{Body, body_of}
use Rattle.lxr_large_bodies.specs.Kept.{HoldsBodies}
use Rattle.lxr_heap.specs.declared.heap.Heap.{Heap}
use Rattle.lxr_heap.specs.declared.opening.Sizes.{Sizes}

-- the limits of the space: one thread, which may name so many registers, and whose log has so many entries; no trace runs beside it, so nothing is
-- remembered for one
abbrev pub limits_of : ℕ → ℕ → ℕ → Limits
limits_of blocks registers log = record { blocks = blocks; threads = 1; log = log; remember = 1; registers = registers; evacuate = 0 }

-- what a heap may be opened with: 1 to 65,536 blocks of either kind, 16 to 256 registers, and a log of 1,024 to 65,536 entries
pub record AreSizes (sizes : Sizes) : Type 0 where
  pub blocks : (1 ≤ sizes.blocks) × (sizes.blocks ≤ MOST_BLOCKS)
  pub bodies : (1 ≤ sizes.bodies) × (sizes.bodies ≤ MOST_BLOCKS)
  pub registers : (LEAST_REGISTERS ≤ sizes.registers) × (sizes.registers ≤ REGISTERS)
  pub log : (most_logged ≤ sizes.log) × (sizes.log ≤ 65536)

-- the blocks of the heap, those for bodies, and how many registers its thread may name
abbrev pub terms_of : Heap → LargeTerms
terms_of x = record { blocks = x.space.limits.blocks; bodies = x.bodies.blocks; registers = x.space.limits.registers }

-- the report of the last pause of a history; a renewal leaves it as it was
abbrev pub last_report : List LargeItem → PauseReport
last_report [] = no_report
last_report (Called o r ∷ h) = last_report h
last_report (Paused report ∷ h) = report
last_report (Renewed ns ∷ h) = last_report h

-- what a space stands for after a history, with objects at these places
abbrev pub abstract_after : List LargeItem → (Name → ℕ) → AbstractState
abstract_after h at = record { moment = large_moment h; at = at; reported = last_report h }

-- What the space of a heap stands for after a history, with objects at these places: names that are gone since the last pause are reclaimed,
-- before any report has them.
abbrev pub abstract_of : Heap → List LargeItem → (Name → ℕ) → AbstractState
abstract_of x h at = record (abstract_after h at) { moment = survived (large_moment h) x.gone.items }

-- The objects of a heap stand at these places after a history: its space is at rest for what it stands for, and each line that is out is
-- overlapped by an object that was made since the last pause. The header at a place tells the name of its object.
abbrev pub StandAt : Heap → List LargeItem → (Name → ℕ) → Type 0
StandAt x h at = IsAtRest x.space (abstract_of x h at) × OutsAreTaken (tables_of x.space) (large_moment h).state.graph at (large_moment h).made

-- Wherever objects stood, those of these names that are still kept stand there: none of them was moved.
abbrev pub StayInPlace : Heap → Heap → List LargeItem → List LargeItem → List Name → Type 0
StayInPlace before after h k ns = (at : Name → ℕ) → StandAt before h at
    → (at' : Name → ℕ) × StandAt after k at' × ((n : Name) → IsTrue (has ns n) → IsTrue (has (members (large_moment k)) n) → at' n ≡ at n)

-- Nothing has come behind a pause that collected: nothing is made or written since, and exactly what is reachable is unreclaimed.
pub record IsCollected (m : Moment) : Type 0 where
  pub made : m.made ≡ []
  pub written : m.written ≡ []
  pub exactly : (n : Name) → IsTrue (has m.unreclaimed n) ↔ Reachable m.state n

-- a body is that of another name, and stands before or behind the other
pub record IsOther (a b : Body) : Type 0 where
  pub named : same_name a.name b.name ≡ false
  pub apart : (a.first + a.blocks ≤ b.first) ⊎ (b.first + b.blocks ≤ a.first)

-- a body has whole blocks among so many
pub record IsWhole (blocks : ℕ) (b : Body) : Type 0 where
  pub words : length b.words ≡ WORDS_IN_BLOCK * b.blocks
  pub some : 1 ≤ b.blocks
  pub within : b.first + b.blocks ≤ blocks

-- bodies are whole blocks, no two share one, and each is of a name of its own
abbrev pub AreApart : ℕ → List Body → Type 0
AreApart blocks [] = Unit {0}
AreApart blocks (b ∷ bs) = IsWhole blocks b × AllByRecursion (IsOther b) bs × AreApart blocks bs

-- a large name is one of so many that were made
pub record IsMade (made : ℕ) (l : Large) : Type 0 where
  pub thread : l.name.thread ≡ 1
  pub serial : l.name.serial ≤ made

-- how many objects were made, with the one of which a reply tells
abbrev pub made_with : ℕ → Reply → ℕ
made_with made (reply.New n) = made + 1
made_with made _ = made

-- Numbers tell how many objects there are: the last pause left so many but for the world, and they are some of those that were made before it; all
-- others that were made are those that were made since.
pub record CountsObjects (left made_before made : ℕ) (m : Moment) : Type 0 where
  pub unreclaimed : left + 1 ≡ length m.unreclaimed
  pub few : left ≤ made_before
  pub young : made_before + length m.made ≡ made

-- a body that was held and still is has the blocks that it had: bodies never move
abbrev pub StayInBlocks : List Body → List Body → Type 0
StayInBlocks before after = (n : Name) (a b : Body) → body_of before n ≡ Some a → body_of after n ≡ Some b → (b.first ≡ a.first) × (b.blocks ≡ a.blocks)

-- Names are gone since the last pause: each of them, once, is dead there, so the next pause reports it.
pub record AreGone (m : Moment) (gone : List Name) : Type 0 where
  pub once : IsDistinct gone
  pub dead : (n : Name) → IsTrue (has gone n) → Dead m.last m.unreclaimed m.stuck n

-- A heap is that of a history: its objects stand at places, so its space is at rest for the moment that the history leads to, but that some of
-- the dead are gone already, and no trace runs; its bodies are those of the large names that are kept, gone or not; it knows how many names were
-- made and how many objects there are, and whether a pause is fresh, where no decrement waits; its log has room for more than any one object has
-- references; and the history is legal, so each reply was that
-- of a step, or `full` where it may be, and each report that of its pause. What is gone has the room that the dead of a report have.
pub record IsHeapOf (x : Heap) (h : List LargeItem) : Type 0 where
  pub legal : IsLegalLarge (terms_of x) h
  pub at : Name → ℕ
  pub stands : StandAt x h at
  pub gone : AreGone (large_moment h) x.gone.items
  pub room : x.gone.room ≡ x.space.report.dead.room
  pub follows : FollowsPause (large_moment h)
  pub few : length (large_moment h).unreclaimed ≤ GRANULES_IN_BLOCK * x.space.limits.blocks
  pub untraced : (large_moment h).trace ≡ None
  pub limits : x.space.limits ≡ limits_of x.space.limits.blocks x.space.limits.registers x.space.limits.log
  pub log : most_logged ≤ x.space.limits.log
  pub tally : x.space.tally ≡ record no_tally { pauses = x.space.pauses }
  pub state : (large_moment h).state ≡ (large_state h).small
  pub world : HasWorld (large_state h).small.graph
  pub next : next_name (large_state h).small.graph 1 ≡ record { thread = 1; serial = x.made + 1 }
  pub counts : CountsObjects x.left x.made_before x.made (large_moment h)
  pub names : AllByRecursion (IsMade x.made) (large_state h).large
  pub bodies : HoldsBodies x.bodies (large_moment h) (large_state h).large
  pub apart : AreApart x.bodies.blocks x.bodies.bodies
  pub fresh : IsTrue x.fresh ↔ IsFresh h
  pub collected : IsFresh h → IsCollected (large_moment h)
  pub drained : IsFresh h → (tables_of x.space).cursors DECREMENT_COUNT ≡ 0

-- a heap without a history yet, of these sizes; nothing is told of counts, and nothing is gone
pub record IsOpenedHeap (x : Heap) (sizes : Sizes) : Type 0 where
  pub holds : IsHeapOf x []
  pub made : x.made ≡ 0
  pub terms : terms_of x ≡ record { blocks = sizes.blocks; bodies = sizes.bodies; registers = sizes.registers }
  pub log : x.space.limits.log ≡ sizes.log
  pub untold : x.space.report.told.items ≡ []
  pub none_gone : x.gone.items ≡ []

-- Histories that miss to be legal, or to belong to their script, by their last item.
use Rattle.std.specs.Prelude.{List, [], ◌∷◌, reverse}
use Rattle.lxr_graph.specs.declared.Op.{Op}
use Rattle.lxr_graph.specs.declared.Op.TheVariants as op
use Rattle.lxr_graph.specs.declared.Reply.TheVariants as reply
use Rattle.lxr_graph.specs.declared.report.Kind.TheVariants as kind
use Rattle.lxr_graph.specs.History.{PauseReport, Item, Pause}
use Rattle.lxr_model.specs.Terms.{Terms}
use Rattle.lxr_model.specs.Legal.{IsLegalSoFar}
use Rattle.lxr_model.specs.Belongs.{BelongsSoFar, IsHistorySoFar}
use Rattle.lxr_model_decide.specs.ExampleWords.{usual_terms, made, does, makes, stores, clears, asks, ends, quiet, world_count, counted}

-- these items, oldest first, are legal as far as they go under these terms, and with this one they aren't
pub record IsNearMiss (terms : Terms) (items : List Item) (last : Item) : Type 0 where
  pub before : IsLegalSoFar terms (reverse items)
  pub refused : IsLegalSoFar terms (last ∷ reverse items) → ⊥

-- ---- a reachable name is dead

-- the world refers to 1.1
abbrev pub kept_run : List Item
kept_run =
    makes 1 0 1 ∷ stores 0 0 1 ∷ clears 1 ∷ asks
    ∷ Pause (record (quiet 1 kind.Plain []) { promoted = made 1 ∷ [] })
    ∷ asks
    ∷ []

abbrev pub kept_is_dead : PauseReport
kept_is_dead = record (quiet 2 kind.Plain []) { dead = made 1 ∷ [] }

abbrev pub ReachableIsNotDead : Type 0
ReachableIsNotDead = IsNearMiss usual_terms kept_run (Pause kept_is_dead)

-- ---- a cycle of garbage is dead

-- 1.1 and 1.2 refer to each other, and nothing else holds them
abbrev pub cycle_left : List Item
cycle_left =
    makes 1 1 1 ∷ makes 2 1 2 ∷ stores 1 0 2 ∷ stores 2 0 1 ∷ asks
    ∷ Pause (record (quiet 1 kind.Plain []) { promoted = made 1 ∷ made 2 ∷ [] })
    ∷ clears 1 ∷ clears 2 ∷ asks
    ∷ Pause (quiet 2 kind.Plain [])
    ∷ asks
    ∷ []

abbrev pub cycle_is_dead : PauseReport
cycle_is_dead = record (quiet 3 kind.Plain []) { dead = made 1 ∷ made 2 ∷ [] }

abbrev pub CycleIsNotDead : Type 0
CycleIsNotDead = IsNearMiss usual_terms cycle_left (Pause cycle_is_dead)

-- ---- a pause collects though nothing asked for it

-- a thread asks for a pause, and not for a collecting one
abbrev pub paused : List Item
paused = makes 1 0 1 ∷ asks ∷ []

abbrev pub collects_unasked : PauseReport
collects_unasked = record (quiet 1 kind.Collect (world_count ∷ counted 1 1 ∷ [])) { promoted = made 1 ∷ [] }

abbrev pub UnaskedCollectIsRefused : Type 0
UnaskedCollectIsRefused = IsNearMiss usual_terms paused (Pause collects_unasked)

-- ---- an operation names a register beyond those of its thread

-- there is an object for it
abbrev pub made_one : List Item
made_one = makes 1 0 1 ∷ []

-- it names register 20
abbrev pub moves_beyond : Item
moves_beyond = does (op.Move 20 1) reply.Moved

-- where an operation may name 16 registers it is refused; where it may name 21 it isn't
abbrev pub RegisterBeyondIsRefused : Type 0
RegisterBeyondIsRefused = IsNearMiss usual_terms made_one moves_beyond × IsLegalSoFar (record usual_terms { registers = 21 }) (moves_beyond ∷ reverse made_one)

-- ---- a second pause stands behind the last end

-- these items, oldest first, are a history so far of the script with these operations of thread 1; with this report they are
-- still legal, but of no history of it
pub record IsOnePauseTooMany (operations : List Op) (items : List Item) (report : PauseReport) : Type 0 where
  pub before : IsHistorySoFar usual_terms (operations ∷ []) (reverse items)
  pub legal : IsLegalSoFar usual_terms (Pause report ∷ reverse items)
  pub refused : BelongsSoFar usual_terms (operations ∷ []) (Pause report ∷ reverse items) → ⊥

-- a thread with no operations has ended, and a pause stands behind that
abbrev pub ended_run : List Item
ended_run = ends ∷ Pause (quiet 1 kind.Collect (world_count ∷ [])) ∷ []

abbrev pub one_more : PauseReport
one_more = quiet 2 kind.Collect (world_count ∷ [])

abbrev pub OnePauseBehindTheLastEnd : Type 0
OnePauseBehindTheLastEnd = IsOnePauseTooMany [] ended_run one_more

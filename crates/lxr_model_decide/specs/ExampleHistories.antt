-- Whole histories, oldest item first: every call with its reply, every pause with its report.
use Rattle.std.specs.Prelude.{ℕ, zero, suc, ◌-◌, true, List, [], ◌∷◌, ◌++◌}
use Rattle.lxr_layout.specs.declared.TheConstants.{STUCK}
use Rattle.lxr_graph.specs.declared.Op.{Op}
use Rattle.lxr_graph.specs.declared.Op.TheVariants as op
use Rattle.lxr_graph.specs.declared.Reply.TheVariants as reply
use Rattle.lxr_graph.specs.declared.report.Kind.TheVariants as kind
use Rattle.lxr_graph.specs.History.{Item, Pause}
use Rattle.lxr_model.specs.Terms.{Terms}
use Rattle.lxr_model_decide.specs.ExampleWords.{usual_terms, made, new, store, load, clear, does, makes, stores, loads, clears, asks, collects, ends, quiet, world_count, counted, IsRunOf}

-- ---- an object is overwritten before it was promoted

-- 1.2 and 1.3 are stored to one field of 1.1, one after the other
abbrev pub overwriting : List Op
overwriting =
    new 1 1 ∷ store 0 0 1 ∷ op.Pause
    ∷ new 2 0 ∷ store 1 0 2 ∷ new 2 0 ∷ store 1 0 2 ∷ clear 2 ∷ op.Pause
    ∷ []

-- no report has 1.2
abbrev pub overwriting_run : List Item
overwriting_run =
    makes 1 1 1 ∷ stores 0 0 1 ∷ asks
    ∷ Pause (record (quiet 1 kind.Plain []) { promoted = made 1 ∷ [] })
    ∷ makes 2 0 2 ∷ stores 1 0 2 ∷ makes 2 0 3 ∷ stores 1 0 2 ∷ clears 2 ∷ asks
    ∷ Pause (record (quiet 2 kind.Plain []) { promoted = made 3 ∷ [] })
    ∷ ends
    ∷ Pause (quiet 3 kind.Collect (world_count ∷ counted 1 1 ∷ counted 3 1 ∷ []))
    ∷ []

abbrev pub OverwrittenIsNotPromoted : Type 0
OverwrittenIsNotPromoted = IsRunOf usual_terms (overwriting ∷ []) overwriting_run

-- ---- a reference is stored again where it was

abbrev pub storing_again : List Op
storing_again =
    new 1 0 ∷ store 0 0 1 ∷ clear 1 ∷ op.Collect
    ∷ load 1 0 0 ∷ store 0 0 1 ∷ clear 1 ∷ op.Collect
    ∷ []

-- it counts once at each pause
abbrev pub storing_again_run : List Item
storing_again_run =
    makes 1 0 1 ∷ stores 0 0 1 ∷ clears 1 ∷ collects
    ∷ Pause (record (quiet 1 kind.Collect (world_count ∷ counted 1 1 ∷ [])) { promoted = made 1 ∷ [] })
    ∷ loads 1 0 0 1 ∷ stores 0 0 1 ∷ clears 1 ∷ collects
    ∷ Pause (quiet 2 kind.Collect (world_count ∷ counted 1 1 ∷ []))
    ∷ ends
    ∷ Pause (quiet 3 kind.Collect (world_count ∷ counted 1 1 ∷ []))
    ∷ []

abbrev pub StoredAgainCountsOnce : Type 0
StoredAgainCountsOnce = IsRunOf usual_terms (storing_again ∷ []) storing_again_run

-- ---- a cycle of garbage

-- 1.1 and 1.2 refer to each other, and nothing else holds them any more
abbrev pub cycle : List Op
cycle =
    new 1 1 ∷ new 2 1 ∷ store 1 0 2 ∷ store 2 0 1 ∷ op.Pause
    ∷ clear 1 ∷ clear 2 ∷ op.Pause ∷ op.Pause ∷ op.Collect
    ∷ []

-- counting keeps them, and a collecting pause sweeps them
abbrev pub cycle_run : List Item
cycle_run =
    makes 1 1 1 ∷ makes 2 1 2 ∷ stores 1 0 2 ∷ stores 2 0 1 ∷ asks
    ∷ Pause (record (quiet 1 kind.Plain []) { promoted = made 1 ∷ made 2 ∷ [] })
    ∷ clears 1 ∷ clears 2 ∷ asks
    ∷ Pause (quiet 2 kind.Plain [])
    ∷ asks
    ∷ Pause (quiet 3 kind.Plain [])
    ∷ collects
    ∷ Pause (record (quiet 4 kind.Collect (world_count ∷ [])) { swept = made 1 ∷ made 2 ∷ [] })
    ∷ ends
    ∷ Pause (quiet 5 kind.Collect (world_count ∷ []))
    ∷ []

abbrev pub CycleIsSwept : Type 0
CycleIsSwept = IsRunOf usual_terms (cycle ∷ []) cycle_run

-- ---- a cycle of garbage and a trace

-- a trace begins at each second pause at which none runs, and ends at the next
abbrev pub traced_terms : Terms
traced_terms = record usual_terms { trace = 2; within = 1 }

-- the same, but no thread asks for a collecting pause
abbrev pub traced_cycle : List Op
traced_cycle =
    new 1 1 ∷ new 2 1 ∷ store 1 0 2 ∷ store 2 0 1 ∷ op.Pause
    ∷ clear 1 ∷ clear 2 ∷ op.Pause ∷ op.Pause
    ∷ []

-- the trace that finds them unreachable when it begins sweeps them when it ends
abbrev pub traced_cycle_run : List Item
traced_cycle_run =
    makes 1 1 1 ∷ makes 2 1 2 ∷ stores 1 0 2 ∷ stores 2 0 1 ∷ asks
    ∷ Pause (record (quiet 1 kind.Plain []) { promoted = made 1 ∷ made 2 ∷ [] })
    ∷ clears 1 ∷ clears 2 ∷ asks
    ∷ Pause (quiet 2 kind.Begin (world_count ∷ counted 1 1 ∷ counted 2 1 ∷ []))
    ∷ asks
    ∷ Pause (record (quiet 3 (kind.End 2) (world_count ∷ [])) { swept = made 1 ∷ made 2 ∷ [] })
    ∷ ends
    ∷ Pause (quiet 4 kind.Collect (world_count ∷ []))
    ∷ []

abbrev pub TraceSweepsCycle : Type 0
TraceSweepsCycle = IsRunOf traced_terms (traced_cycle ∷ []) traced_cycle_run

-- ---- a full heap

-- one block, of which an object of the largest shape leaves no run for a second one
abbrev pub one_block : Terms
one_block = record usual_terms { blocks = 1; evacuate = 0 }

abbrev pub largest : ℕ → Op
largest dest = op.New dest (record { refs = 1023; values = 1023 })

abbrev pub filling : List Op
filling = largest 1 ∷ largest 2 ∷ op.Same 2 3 ∷ []

-- each `new` waits for pauses, the second for a collecting one, behind which it is told that the heap is full
abbrev pub filling_run : List Item
filling_run =
    Pause (quiet 1 kind.Plain [])
    ∷ does (largest 1) (reply.New (made 1))
    ∷ Pause (record (quiet 2 kind.Plain []) { promoted = made 1 ∷ [] })
    ∷ Pause (quiet 3 kind.Collect (world_count ∷ counted 1 1 ∷ []))
    ∷ does (largest 2) reply.Full
    ∷ does (op.Same 2 3) (reply.Same true)
    ∷ ends
    ∷ Pause (record (quiet 4 kind.Collect (world_count ∷ [])) { dead = made 1 ∷ [] })
    ∷ []

abbrev pub FullAfterCollecting : Type 0
FullAfterCollecting = IsRunOf one_block (filling ∷ []) filling_run

-- ---- a log that is full

-- logs of one entry
abbrev pub one_entry : Terms
one_entry = record usual_terms { log = 1 }

-- 1.1 is stored to two references of the world
abbrev pub storing_twice : List Op
storing_twice = new 1 0 ∷ store 0 0 1 ∷ store 0 1 1 ∷ []

-- the second store waits for a pause, and both count
abbrev pub storing_twice_run : List Item
storing_twice_run =
    makes 1 0 1 ∷ stores 0 0 1
    ∷ Pause (record (quiet 1 kind.Plain []) { promoted = made 1 ∷ [] })
    ∷ stores 0 1 1
    ∷ ends
    ∷ Pause (quiet 2 kind.Collect (world_count ∷ counted 1 2 ∷ []))
    ∷ []

abbrev pub StoreWaitsForLog : Type 0
StoreWaitsForLog = IsRunOf one_entry (storing_twice ∷ []) storing_twice_run

-- ---- an object that a trace finds reachable

abbrev pub eight_blocks : Terms
eight_blocks = record traced_terms { blocks = 8; evacuate = 1 }

-- two references of the world and a register hold 1.1
abbrev pub holding : List Op
holding = new 1 0 ∷ store 0 0 1 ∷ store 0 1 1 ∷ op.Pause ∷ op.Pause ∷ op.Pause ∷ load 2 0 0 ∷ op.Same 1 2 ∷ []

-- it is what it was before the trace, in whatever place, and counts the same
abbrev pub holding_run : List Item
holding_run =
    makes 1 0 1 ∷ stores 0 0 1 ∷ stores 0 1 1 ∷ asks
    ∷ Pause (record (quiet 1 kind.Plain []) { promoted = made 1 ∷ [] })
    ∷ asks
    ∷ Pause (quiet 2 kind.Begin (world_count ∷ counted 1 3 ∷ []))
    ∷ asks
    ∷ Pause (quiet 3 (kind.End 2) (world_count ∷ counted 1 3 ∷ []))
    ∷ loads 2 0 0 1 ∷ does (op.Same 1 2) (reply.Same true)
    ∷ ends
    ∷ Pause (quiet 4 kind.Collect (world_count ∷ counted 1 2 ∷ []))
    ∷ []

abbrev pub HeldIsTheSame : Type 0
HeldIsTheSame = IsRunOf eight_blocks (holding ∷ []) holding_run

-- ---- a count that falls to zero, and one that is stuck

-- what r1 holds is stored to the first n references of the world
abbrev pub store_to_first : ℕ → List Op
store_to_first zero = []
store_to_first (suc n) = store_to_first n ++ store 0 n 1 ∷ []

abbrev pub stores_to_first : ℕ → List Item
stores_to_first zero = []
stores_to_first (suc n) = stores_to_first n ++ stores 0 n 1 ∷ []

-- the world refers to 1.1 n times, and then no more
abbrev pub letting_go : ℕ → List Op
letting_go n =
    new 1 0 ∷ store_to_first n ++ clear 1 ∷ op.Pause
    ∷ store_to_first n ++ op.Pause ∷ op.Pause ∷ op.Collect
    ∷ []

-- the calls up to the first pause, and from there to the second
abbrev pub held_by : ℕ → List Item
held_by n = makes 1 0 1 ∷ stores_to_first n ++ clears 1 ∷ asks ∷ []

abbrev pub let_go_by : ℕ → List Item
let_go_by n = stores_to_first n ++ asks ∷ []

-- it is dead one pause after the pause that saw this
abbrev pub letting_go_run : ℕ → List Item
letting_go_run n =
    held_by n
    ++ Pause (record (quiet 1 kind.Plain []) { promoted = made 1 ∷ [] })
    ∷ let_go_by n
    ++ Pause (quiet 2 kind.Plain [])
    ∷ asks
    ∷ Pause (record (quiet 3 kind.Plain []) { dead = made 1 ∷ [] })
    ∷ collects
    ∷ Pause (quiet 4 kind.Collect (world_count ∷ []))
    ∷ ends
    ∷ Pause (quiet 5 kind.Collect (world_count ∷ []))
    ∷ []

-- where there are three references, and where one more would make it stuck
abbrev pub LetGoIsDead : Type 0
LetGoIsDead = IsRunOf usual_terms (letting_go 3 ∷ []) (letting_go_run 3) × IsRunOf usual_terms (letting_go (STUCK - 1) ∷ []) (letting_go_run (STUCK - 1))

-- with one more its count doesn't fall, and a collecting pause sweeps it
abbrev pub sticking_run : List Item
sticking_run =
    held_by STUCK
    ++ Pause (record (quiet 1 kind.Plain []) { promoted = made 1 ∷ []; stuck = made 1 ∷ [] })
    ∷ let_go_by STUCK
    ++ Pause (quiet 2 kind.Plain [])
    ∷ asks
    ∷ Pause (quiet 3 kind.Plain [])
    ∷ collects
    ∷ Pause (record (quiet 4 kind.Collect (world_count ∷ [])) { swept = made 1 ∷ [] })
    ∷ ends
    ∷ Pause (quiet 5 kind.Collect (world_count ∷ []))
    ∷ []

abbrev pub StuckIsSwept : Type 0
StuckIsSwept = IsRunOf usual_terms (letting_go STUCK ∷ []) sticking_run

-- Whole histories with `swap` and `add`, oldest item first, and some that miss to be legal or to belong by their last item.
use Rattle.std.specs.Prelude.{ℕ, true, Some, None, List, [], ◌∷◌, reverse}
use Rattle.lxr_layout.specs.declared.Name.{Name}
use Rattle.lxr_graph.specs.declared.Op.{Op}
use Rattle.lxr_graph.specs.declared.Op.TheVariants as op
use Rattle.lxr_graph.specs.declared.Reply.TheVariants as reply
use Rattle.lxr_graph.specs.declared.report.Kind.TheVariants as kind
use Rattle.lxr_graph.specs.History.{PauseReport, Item, Call, Pause}
use Rattle.lxr_model.specs.Terms.{Terms}
use Rattle.lxr_model.specs.Legal.{IsLegalSoFar}
use Rattle.lxr_model.specs.Belongs.{Script, BelongsSoFar}
use Rattle.lxr_model_decide.specs.ExampleWords.{usual_terms, made, new, store, swap, add, does, makes, stores, swaps, adds, asks, ends, quiet, world_count, counted, IsRunOf}
use Rattle.lxr_model_decide.specs.ExampleHistories.{one_entry}
use Rattle.lxr_model_decide.specs.NearMisses.{IsNearMiss}

-- ---- one thread does both

-- a register gets a new object with one data word
abbrev pub new_word : ℕ → Op
new_word dest = op.New dest (record { refs = 0; values = 1 })

-- the largest data word
abbrev pub largest_word : ℕ
largest_word = 18446744073709551615

-- 1.1 has one data word, and the world refers to it until a swap puts nil in its place
abbrev pub swapping_and_adding : List Op
swapping_and_adding =
    new_word 1 ∷ add 1 0 5 ∷ add 1 0 largest_word ∷ op.Get 1 0
    ∷ store 0 0 1 ∷ swap 2 0 0 3 ∷ op.Same 1 2
    ∷ swap 2 0 64 3 ∷ swap 2 4 0 3 ∷ add 1 1 1
    ∷ []

-- the sum is taken modulo 2^64; a swap past the world's references and one in nothing change nothing
abbrev pub swapping_and_adding_run : List Item
swapping_and_adding_run =
    does (new_word 1) (reply.New (made 1)) ∷ adds 1 0 5 0 ∷ adds 1 0 largest_word 5 ∷ does (op.Get 1 0) (reply.Got 4)
    ∷ stores 0 0 1 ∷ swaps 2 0 0 3 (Some (made 1)) ∷ does (op.Same 1 2) (reply.Same true)
    ∷ does (swap 2 0 64 3) reply.Range ∷ does (swap 2 4 0 3) reply.Bad ∷ does (add 1 1 1) reply.Range
    ∷ ends
    ∷ Pause (quiet 1 kind.Collect (world_count ∷ []))
    ∷ []

abbrev pub SwapsAndAddsAreSteps : Type 0
SwapsAndAddsAreSteps = IsRunOf usual_terms (swapping_and_adding ∷ []) swapping_and_adding_run

-- ---- the register that is swapped into is the base or the source

-- 1.1 refers to 1.2, and the world to 1.1. The register of the first swap is its base, and that of the second its source.
abbrev pub swapping_over : List Op
swapping_over =
    new 1 1 ∷ new 2 0 ∷ store 1 0 2 ∷ store 0 0 1
    ∷ swap 1 1 0 3 ∷ op.Same 1 2
    ∷ swap 2 0 0 2 ∷ swap 4 2 0 3
    ∷ []

-- r1 gets 1.2, which 1.1 held; r2 gets 1.1 in exchange for 1.2, and 1.1 refers to nothing any more
abbrev pub swapping_over_run : List Item
swapping_over_run =
    makes 1 1 1 ∷ makes 2 0 2 ∷ stores 1 0 2 ∷ stores 0 0 1
    ∷ swaps 1 1 0 3 (Some (made 2)) ∷ does (op.Same 1 2) (reply.Same true)
    ∷ swaps 2 0 0 2 (Some (made 1)) ∷ swaps 4 2 0 3 None
    ∷ ends
    ∷ Pause (record (quiet 1 kind.Collect (world_count ∷ counted 2 1 ∷ [])) { promoted = made 2 ∷ [] })
    ∷ []

abbrev pub SwapReadsBeforeItWrites : Type 0
SwapReadsBeforeItWrites = IsRunOf usual_terms (swapping_over ∷ []) swapping_over_run

-- ---- a race for one reference

abbrev pub two_threads : Terms
two_threads = record usual_terms { threads = 2 }

-- the first object of a thread
abbrev pub first_of : ℕ → Name
first_of thread = record { thread = thread; serial = 1 }

-- each thread makes an object and swaps it into the world's first reference
abbrev pub racing : Script
racing = (new 1 0 ∷ swap 2 0 0 1 ∷ []) ∷ (new 1 0 ∷ swap 2 0 0 1 ∷ []) ∷ []

-- both objects are made, and the first thread's swap finds nil
abbrev pub swapped_first : ℕ → List Item
swapped_first first =
    Call 1 (new 1 0) (reply.New (first_of 1)) ∷ Call 2 (new 1 0) (reply.New (first_of 2))
    ∷ Call first (swap 2 0 0 1) (reply.Swapped None)
    ∷ []

-- the second thread's finds the first one's object, and its own is left
abbrev pub raced : ℕ → ℕ → List Item
raced first second =
    Call 1 (new 1 0) (reply.New (first_of 1)) ∷ Call 2 (new 1 0) (reply.New (first_of 2))
    ∷ Call first (swap 2 0 0 1) (reply.Swapped None) ∷ Call second (swap 2 0 0 1) (reply.Swapped (Some (first_of first)))
    ∷ Call 1 op.End reply.Ended ∷ Call 2 op.End reply.Ended
    ∷ Pause (record (quiet 1 kind.Collect (world_count ∷ record { name = first_of second; count = Some 1 } ∷ [])) { promoted = first_of second ∷ [] })
    ∷ []

-- either may be first
abbrev pub EitherSwapMayBeFirst : Type 0
EitherSwapMayBeFirst = IsRunOf two_threads racing (raced 1 2) × IsRunOf two_threads racing (raced 2 1)

-- not both find nil
abbrev pub BothSwapsDoNotFindNil : Type 0
BothSwapsDoNotFindNil = IsNearMiss two_threads (swapped_first 1) (Call 2 (swap 2 0 0 1) (reply.Swapped None))

-- none finds what it puts there itself
abbrev pub SwapDoesNotFindItsOwn : Type 0
SwapDoesNotFindItsOwn = IsNearMiss two_threads (swapped_first 1) (Call 2 (swap 2 0 0 1) (reply.Swapped (Some (first_of 2))))

-- ---- an `add` tells what was there

-- and not the sum
abbrev pub AddDoesNotTellTheSum : Type 0
AddDoesNotTellTheSum = IsNearMiss usual_terms (does (new_word 1) (reply.New (made 1)) ∷ adds 1 0 5 0 ∷ []) (adds 1 0 1 6)

-- past the largest word the sum begins anew
abbrev pub AddDoesNotStopAtTheLargest : Type 0
AddDoesNotStopAtTheLargest =
    IsNearMiss usual_terms (does (new_word 1) (reply.New (made 1)) ∷ adds 1 0 5 0 ∷ adds 1 0 largest_word 5 ∷ []) (does (op.Get 1 0) (reply.Got largest_word))

-- ---- a swap fills the log as a store does, and an `add` doesn't

-- 1.1 is swapped from r1 into the world, and back
abbrev pub filling_the_log : List Op
filling_the_log = new 1 0 ∷ swap 1 0 0 1 ∷ swap 1 0 0 1 ∷ []

-- a pause stands before the second swap
abbrev pub filling_the_log_run : List Item
filling_the_log_run =
    makes 1 0 1 ∷ swaps 1 0 0 1 None
    ∷ Pause (record (quiet 1 kind.Plain []) { promoted = made 1 ∷ [] })
    ∷ swaps 1 0 0 1 (Some (made 1))
    ∷ ends
    ∷ Pause (record (quiet 2 kind.Collect (world_count ∷ [])) { dead = made 1 ∷ [] })
    ∷ []

abbrev pub SwapFillsTheLog : Type 0
SwapFillsTheLog = IsRunOf one_entry (filling_the_log ∷ []) filling_the_log_run

-- with a pause that reports this the items, oldest first, are legal, but of no history of these operations of thread 1
pub record HasNoCause (terms : Terms) (operations : List Op) (items : List Item) (report : PauseReport) : Type 0 where
  pub legal : IsLegalSoFar terms (Pause report ∷ reverse items)
  pub refused : BelongsSoFar terms (operations ∷ []) (Pause report ∷ reverse items) → ⊥

-- 1.1 is swapped into the world, one is added to its word, and it is swapped in again
abbrev pub adding_between : List Op
adding_between = new_word 1 ∷ swap 2 0 0 1 ∷ add 1 0 1 ∷ op.Pause ∷ add 1 0 1 ∷ swap 2 0 0 1 ∷ []

abbrev pub swapped_in : List Item
swapped_in = does (new_word 1) (reply.New (made 1)) ∷ swaps 2 0 0 1 None ∷ []

abbrev pub is_promoted : PauseReport
is_promoted = record (quiet 1 kind.Plain []) { promoted = made 1 ∷ [] }

-- no pause stands before the first `add`, though the log is full
abbrev pub AddNeedsNoLog : Type 0
AddNeedsNoLog = HasNoCause one_entry adding_between swapped_in is_promoted

-- and none stands before the last swap, since the `add` since the pause fills no log
abbrev pub AddFillsNoLog : Type 0
AddFillsNoLog =
    HasNoCause one_entry adding_between
    (does (new_word 1) (reply.New (made 1)) ∷ swaps 2 0 0 1 None ∷ adds 1 0 1 0 ∷ asks ∷ Pause is_promoted ∷ adds 1 0 1 1 ∷ [])
    (quiet 2 kind.Plain [])

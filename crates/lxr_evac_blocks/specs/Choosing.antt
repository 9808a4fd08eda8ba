-- Which blocks are chosen, and what changes.
use Rattle.std.specs.Prelude.{◌≡◌, ◌≢◌, ℕ, ◌-◌, ◌<◌, ◌≤◌, ◌↔◌, nat_eq, nat_le, nat_lt, ◌&&◌, ◌||◌, Bool, true, false, Option, IsTrue, if◌then◌else◌}
use Rattle.lxr_layout.specs.declared.TheConstants.{LINES_IN_BLOCK, MOST_BLOCKS_OF_SMALL, REMEMBERED_CURSOR}
use Rattle.lxr_layout.specs.declared.limits.Limits.{Limits}
use Rattle.lxr_image.specs.Tables.{Tables, changed}
use Rattle.lxr_blocks.specs.declared.states.BlockState.{BlockState}
use Rattle.lxr_blocks.specs.declared.states.BlockState.TheVariants.{Chosen, Free, Partly, Whole, World}
use Rattle.lxr_blocks.specs.Lines.{free_count, free_in}
use Rattle.lxr_blocks.specs.States.{state_in, state_number}
use Rattle.lxr_model.specs.Moments.{Trace}
use Rattle.lxr_invariant.specs.Counting.{passing}
use Rattle.lxr_invariant.specs.Lines.{HasBlocks, HasStates, NoneChosen, chosen_count}

-- whether a state is Partly
abbrev pub is_partly : BlockState → Bool
is_partly Free = false
is_partly Partly = true
is_partly Whole = false
is_partly Chosen = false
is_partly World = false

-- how many lines of a block aren't free
abbrev pub taken_count : Tables → ℕ → ℕ
taken_count t b = LINES_IN_BLOCK - free_count (free_in t b) LINES_IN_BLOCK

-- whether a block may be chosen: it is Partly, and at most 32 of its lines aren't free
abbrev pub may_choose : Tables → ℕ → Bool
may_choose t b = is_partly (state_in t b) && nat_le (taken_count t b) 32

-- Whether block a goes before block b, where both may be chosen, in a heap of so many blocks: in a small heap the first goes first; in a larger one
-- that of which fewer lines aren't free, and the first of those of which as many aren't.
abbrev pub goes_before : ℕ → Tables → ℕ → ℕ → Bool
goes_before blocks t a b =
    if nat_le blocks MOST_BLOCKS_OF_SMALL then nat_lt a b
    else (nat_lt (taken_count t a) (taken_count t b) || (nat_eq (taken_count t a) (taken_count t b) && nat_lt a b))

-- how many of so many blocks may be chosen and go before block b
unfoldable pub choices_before : ℕ → Tables → ℕ → ℕ
choices_before blocks t b = passing (λ a. may_choose t a && goes_before blocks t a b) blocks

-- whether a block may be chosen, and fewer go before it than may be Chosen
abbrev pub is_choice : Limits → Tables → ℕ → Bool
is_choice l t b = may_choose t b && nat_lt (choices_before l.blocks t b) l.evacuate

-- of the blocks before one, those are chosen before which few enough go
abbrev pub with_choices : Limits → Tables → ℕ → Tables
with_choices l t end = record t {
  states = λ b. if nat_lt b end && is_choice l t b then state_number Chosen else t.states b;
}

-- as many blocks are chosen as may be, or fewer where there are fewer, and nothing is remembered
abbrev pub with_choice : Limits → Tables → Tables
with_choice l t = record (with_choices l t l.blocks) { cursors = changed t.cursors REMEMBERED_CURSOR 0 }

-- ---- one block

-- a block becomes Chosen where a test says so
abbrev pub with_block_chosen : Tables → ℕ → Bool → Tables
with_block_chosen t b chosen = record t { states = if chosen then (changed t.states b (state_number Chosen)) else t.states }

-- how many are left to be chosen after a block
abbrev pub left_after : Tables → ℕ → ℕ → ℕ
left_after t b left = left - (if may_choose t b then 1 else 0)

-- ---- what it means

-- whether some lines of a block behind the world's aren't free, but at most 32
abbrev pub is_sparse : Tables → ℕ → Bool
is_sparse t b = nat_le 1 b && nat_le 1 (taken_count t b) && nat_le (taken_count t b) 32

-- how many of so many blocks are such and go before block b
unfoldable pub sparse_before : ℕ → Tables → ℕ → ℕ
sparse_before blocks t b = passing (λ a. is_sparse t a && goes_before blocks t a b) blocks

-- Blocks have become Chosen between these tables: exactly those sparse ones before which fewer go than may be Chosen. Block 0 is World as before and
-- no other is, and blocks have the states of their lines.
pub record AreChosen (l : Limits) (t u : Tables) : Type 0 where
  pub exactly : (b : ℕ) → b < l.blocks → (state_in u b ≡ Chosen) ↔ (IsTrue (is_sparse t b) × (sparse_before l.blocks t b < l.evacuate))
  pub others : (b : ℕ) → state_in u b ≢ Chosen → u.states b ≡ t.states b
  pub few : chosen_count u l.blocks ≤ l.evacuate
  pub world : state_in u 0 ≡ World
  pub lone : (b : ℕ) → 1 ≤ b → b < l.blocks → state_in u b ≢ World
  pub states : HasStates u l.blocks

-- so it is where none was Chosen, and blocks had the states of their lines
abbrev pub ChosenGoFirst : Type 0
ChosenGoFirst = (l : Limits) (t : Tables) (trace : Option Trace) → HasBlocks t l trace → NoneChosen t l.blocks → HasStates t l.blocks
    → AreChosen l t (with_choice l t)

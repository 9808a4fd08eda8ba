-- Which lines objects keep, so that none of them is handed out while an object lies on it.
use Rattle.std.specs.Prelude.{◌≡◌, ◌≢◌, ℕ, ◌+◌, ◌-◌, ◌*◌, ◌/◌, ◌%◌, ◌^◌, ◌<◌, ◌≤◌, ◌⊎◌, ◌↔◌, ◌&&◌, not, false, IsTrue, if◌then◌else◌}
use Rattle.lxr_layout.specs.declared.TheConstants.{GRANULES_IN_BLOCK, GRANULES_IN_LINE}
use Rattle.lxr_layout.specs.declared.Name.{Name}
use Rattle.lxr_layout.specs.declared.Place.{Place}
use Rattle.lxr_layout.specs.declared.Shape.{Shape}
use Rattle.lxr_layout.specs.Objects.{FitsShape}
use Rattle.lxr_image.specs.declared.space.Space.{Space}
use Rattle.lxr_image.specs.Settled.{IsFreeLine}
use Rattle.lxr_image.specs.Tables.{Tables}
use Rattle.lxr_image.specs.Spaces.{tables_of}
use Rattle.lxr_image.specs.Reads.{granule_of}
use Rattle.lxr_image.specs.ImageLaws.{WritesNew}
use Rattle.lxr_blocks.specs.declared.states.BlockState.TheVariants.{Chosen}
use Rattle.lxr_blocks.specs.Lines.{is_free}
use Rattle.lxr_blocks.specs.Placing.{IsPlaced, IsRest, granule_count}
use Rattle.lxr_blocks.specs.States.{KeepsFree, KeepsState, state_in}

-- the test of a line tells which lines are free
abbrev pub FreeLineIsTold : Type 0
FreeLineIsTold = (t : Tables) (n : ℕ) → IsTrue (is_free t n) ↔ IsFreeLine t n

-- an object of k granules from g on keeps its lines: the first one by its count, each further one by the mark at
-- that line's front, or else by their out bits
pub record KeepsLines (t : Tables) (g k : ℕ) : Type 0 where
  pub first : (t.counts g ≢ 0) ⊎ IsTrue (t.outs (g / GRANULES_IN_LINE))
  pub further : (n : ℕ) → g < GRANULES_IN_LINE * n → GRANULES_IN_LINE * n < g + k → (t.counts (GRANULES_IN_LINE * n) ≢ 0) ⊎ IsTrue (t.outs n)

-- no free line is overlapped by an object that keeps its lines
abbrev pub KeptLineIsTaken : Type 0
KeptLineIsTaken = (t : Tables) (g k n : ℕ) → KeepsLines t g k → g < GRANULES_IN_LINE * n + GRANULES_IN_LINE → GRANULES_IN_LINE * n < g + k → is_free t n ≡ false

-- ---- granules that are kept, whatever keeps them

-- a granule is one of so many from one on
abbrev pub IsAmong : ℕ → ℕ → ℕ → Type 0
IsAmong first many k = (first ≤ k) × (k < first + many)

-- a granule is kept: its line isn't free, and it isn't left of the lines that were placed on last
pub record IsKeptGranule (s : Space) (k : ℕ) : Type 0 where
  pub line : is_free (tables_of s) (k / GRANULES_IN_LINE) ≡ false
  pub rest : (k < s.rest_next) ⊎ (s.rest_end ≤ k)

-- a granule is open to be placed on: its line is free, or it is left of the lines that were placed on last
abbrev pub IsOpenGranule : Space → ℕ → Type 0
IsOpenGranule s k = IsTrue (is_free (tables_of s) (k / GRANULES_IN_LINE)) ⊎ ((s.rest_next ≤ k) × (k < s.rest_end))

-- these granules are kept: no free line has one of them, and none is left of the lines that were placed on last
pub record KeepsGranules (s : Space) (taken : ℕ → Type 0) : Type 0 where
  pub lines : (k : ℕ) → taken k → is_free (tables_of s) (k / GRANULES_IN_LINE) ≡ false
  pub rest : (k : ℕ) → taken k → (k < s.rest_next) ⊎ (s.rest_end ≤ k)

-- An object was placed on granules that were open and not kept, whole in one block of the heap, outside Chosen blocks. Its header and
-- zeros are written there, and all its lines are out. A line that wasn't out before is counted as handed out once more, no block has
-- become Chosen or World or ceased to be so, and one that is Free was so and has no line that was handed out. Nothing else has changed, and
-- what was kept is, and the object's granules.
pub record IsPlacedBeside (before after : Space) (taken : ℕ → Type 0) (n : Name) (s : Shape) (p : Place) : Type 0 where
  pub placed : 1 ≤ p.0
  pub in_heap : granule_of p.0 + granule_count s ≤ GRANULES_IN_BLOCK * before.limits.blocks
  pub in_block : granule_of p.0 / GRANULES_IN_BLOCK ≡ (granule_of p.0 + granule_count s - 1) / GRANULES_IN_BLOCK
  pub unchosen : state_in (tables_of before) (granule_of p.0 / GRANULES_IN_BLOCK) ≢ Chosen
  pub apart : (k : ℕ) → taken k → ¬ IsAmong (granule_of p.0) (granule_count s) k
  pub onto : (k : ℕ) → IsAmong (granule_of p.0) (granule_count s) k → IsOpenGranule before k
  pub written : WritesNew (tables_of before) (tables_of after) p.0 n s
  pub outs : (line : ℕ) → IsTrue ((tables_of after).outs line)
      ↔ (IsTrue ((tables_of before).outs line) ⊎ ((k : ℕ) × IsAmong (granule_of p.0) (granule_count s) k × (k / GRANULES_IN_LINE ≡ line)))
  pub reuse : (line : ℕ) → (tables_of after).reuse line
      ≡ if (tables_of after).outs line && not ((tables_of before).outs line) then (((tables_of before).reuse line + 1) % 2 ^ 32) else (tables_of before).reuse line
  pub states : (b : ℕ) → KeepsState (tables_of before) (tables_of after) b
  pub free : KeepsFree (tables_of before) (tables_of after)
  pub tables : tables_of after ≡ record (tables_of before) { heap = (tables_of after).heap; outs = (tables_of after).outs; reuse = (tables_of after).reuse; states = (tables_of after).states }
  pub space : after ≡ record before { words = after.words; rest_next = after.rest_next; rest_end = after.rest_end }
  pub rest : IsRest after
  pub kept : KeepsGranules after (λ k. taken k ⊎ IsAmong (granule_of p.0) (granule_count s) k)

-- so it is with each object that is placed, beside all granules that were kept
abbrev pub PlacedIsBeside : Type 0
PlacedIsBeside = (before after : Space) (n : Name) (s : Shape) (p : Place)
    → IsRest before → FitsShape s → IsPlaced before after n s p → IsPlacedBeside before after (IsKeptGranule before) n s p

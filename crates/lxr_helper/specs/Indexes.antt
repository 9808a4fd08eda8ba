-- Words of a space have indexes of 32 bits.
use Rattle.std.specs.Prelude.{◌+◌, ◌/◌, ◌^◌, ◌<◌, ◌≤◌}
use Rattle.lxr_layout.specs.declared.TheConstants.{GRANULES_IN_BLOCK, MOST_WORDS, WORDS_IN_LINE}
use Rattle.lxr_layout.specs.declared.limits.Limits.{Limits}
use Rattle.lxr_layout.specs.declared.limits.Regions.{Regions}
use Rattle.lxr_layout.specs.Spaces.{AreLimits, regions_of}
use Rattle.lxr_tables.specs.declared.counts.TheConstants.{COUNTS_IN_WORD}
use Rattle.lxr_helper.specs.Words.{heap_granules}

-- the heap is at most the largest one, and the words of tables and cursors have indexes of 32 bits
pub record HaveIndexes (r : Regions) : Type 0 where
  pub size : r.counts ≤ MOST_WORDS
  pub heap : r.heap + r.counts < 2 ^ 32
  pub counts : r.counts + heap_granules r / COUNTS_IN_WORD < 2 ^ 32
  pub starts : r.starts + heap_granules r / 64 < 2 ^ 32
  pub marks : r.marks + heap_granules r / 64 < 2 ^ 32
  pub grays : r.grays + heap_granules r / 64 < 2 ^ 32
  pub dones : r.dones + heap_granules r / 64 < 2 ^ 32
  pub reuse : r.reuse + r.counts / WORDS_IN_LINE < 2 ^ 32
  pub states : r.states + heap_granules r / GRANULES_IN_BLOCK < 2 ^ 32
  pub decs : r.decs ≤ r.remembered
  pub remembered : r.remembered ≤ r.cursors
  pub cursors : r.cursors + 16 < 2 ^ 32

-- so it is in each space
abbrev pub SpacesHaveIndexes : Type 0
SpacesHaveIndexes = (l : Limits) → AreLimits l → HaveIndexes (regions_of l)

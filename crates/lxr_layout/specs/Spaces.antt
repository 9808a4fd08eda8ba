-- How large a space is, and where its regions begin.
use Rattle.std.specs.Prelude.{ℕ, ◌+◌, ◌*◌, ◌/◌, ◌≤◌, List, [], ◌∷◌, take, sum}
use Rattle.lxr_layout.specs.declared.TheConstants.{COUNT_WORDS_IN_BLOCK, LEAST_REGISTERS, MOST_BLOCKS, REGISTERS, WORDS_IN_BLOCK}
use Rattle.lxr_layout.specs.declared.limits.Limits.{Limits}
use Rattle.lxr_layout.specs.declared.limits.Regions.{Regions}

-- 1 to 65,536 blocks, 1 to 255 threads, logs of 1 to 65,536 entries, a remembered set of 1 to 1,048,576, 16 to 256 registers that a
-- thread may name, and at most an eighth of the blocks chosen for evacuation
pub record AreLimits (l : Limits) : Type 0 where
  pub blocks : (1 ≤ l.blocks) × (l.blocks ≤ MOST_BLOCKS)
  pub threads : (1 ≤ l.threads) × (l.threads ≤ 255)
  pub log : (1 ≤ l.log) × (l.log ≤ 65536)
  pub remember : (1 ≤ l.remember) × (l.remember ≤ 1048576)
  pub registers : (LEAST_REGISTERS ≤ l.registers) × (l.registers ≤ REGISTERS)
  pub evacuate : l.evacuate ≤ l.blocks / 8

-- ---- the number of each region, in their order

-- the words of the heap
abbrev pub heap_region : ℕ
heap_region = 0

-- reference counts and line marks
abbrev pub counts_region : ℕ
counts_region = 1

-- start bits
abbrev pub starts_region : ℕ
starts_region = 2

-- mark bits
abbrev pub marks_region : ℕ
marks_region = 3

-- gray bits
abbrev pub grays_region : ℕ
grays_region = 4

-- done bits
abbrev pub dones_region : ℕ
dones_region = 5

-- unlogged bits
abbrev pub unlogged_region : ℕ
unlogged_region = 6

-- reuse counters of lines
abbrev pub reuse_region : ℕ
reuse_region = 7

-- out bits of lines
abbrev pub outs_region : ℕ
outs_region = 8

-- states of blocks
abbrev pub states_region : ℕ
states_region = 9

-- listed runs of free lines
abbrev pub runs_region : ℕ
runs_region = 10

-- listed free blocks
abbrev pub frees_region : ℕ
frees_region = 11

-- the list of decrements
abbrev pub decs_region : ℕ
decs_region = 12

-- the remembered set
abbrev pub remembered_region : ℕ
remembered_region = 13

-- cursors
abbrev pub cursors_region : ℕ
cursors_region = 14

-- how many regions there are; the number at which the words end
abbrev pub all_regions : ℕ
all_regions = 15

-- the words of each region, in their order: heap, counts, starts, marks, grays, dones, unlogged, reuse,
-- outs, states, runs, frees, decrements, remembered, cursors
abbrev pub region_sizes : Limits → List ℕ
region_sizes l = WORDS_IN_BLOCK * l.blocks ∷ COUNT_WORDS_IN_BLOCK * l.blocks ∷ 32 * l.blocks ∷ 32 * l.blocks ∷ 32 * l.blocks ∷ 32 * l.blocks ∷ 64 * l.blocks ∷ 64 * l.blocks
    ∷ 2 * l.blocks ∷ l.blocks ∷ 64 * l.blocks ∷ l.blocks ∷ l.threads * (l.log + l.registers) ∷ l.remember ∷ 16 ∷ []

-- the first word of a region, by its number: the sum of the sizes of those before it
abbrev pub region_begin : Limits → ℕ → ℕ
region_begin l n = sum (take n (region_sizes l))

-- the regions of a space of these limits
abbrev pub regions_of : Limits → Regions
regions_of l = record {
  heap = region_begin l heap_region;
  counts = region_begin l counts_region;
  starts = region_begin l starts_region;
  marks = region_begin l marks_region;
  grays = region_begin l grays_region;
  dones = region_begin l dones_region;
  unlogged = region_begin l unlogged_region;
  reuse = region_begin l reuse_region;
  outs = region_begin l outs_region;
  states = region_begin l states_region;
  runs = region_begin l runs_region;
  frees = region_begin l frees_region;
  decs = region_begin l decs_region;
  remembered = region_begin l remembered_region;
  cursors = region_begin l cursors_region;
  total = region_begin l all_regions;
}

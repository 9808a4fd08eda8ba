-- What a space is, and how a call on its words changes it.
use Rattle.std.specs.Prelude.{◌≡◌, ◌≢◌, ℕ, ◌*◌, ◌/◌, ◌%◌, ◌^◌, ◌<◌, ◌≤◌, ◌==◌, Bool, false, if◌then◌else◌}
use Rattle.std.specs.Int.{bit_at}
use Rattle.lxr_layout.specs.declared.TheConstants.{GRANULES_IN_BLOCK, STUCK, WORDS_IN_BLOCK}
use Rattle.lxr_layout.specs.Spaces.{AreLimits, all_regions, cursors_region, decs_region, dones_region, frees_region, grays_region, heap_region, marks_region, outs_region, region_begin, remembered_region, runs_region, starts_region, states_region, unlogged_region}
use Rattle.lxr_image.specs.declared.space.Space.{Space}
use Rattle.lxr_image.specs.declared.tables.BitTable.{BitTable}
use Rattle.lxr_image.specs.declared.tables.BitTable.TheVariants as bit
use Rattle.lxr_image.specs.declared.tables.WordTable.{WordTable}
use Rattle.lxr_image.specs.declared.tables.WordTable.TheVariants as word
use Rattle.lxr_image.specs.Tables.{Tables, changed, tables_in}

-- the tables of a space
abbrev pub tables_of : Space → Tables
tables_of s = tables_in s.limits s.words

-- an open space: its limits are allowed ones, and it has as many words as they ask for
pub record IsSpace (s : Space) : Type 0 where
  pub limits : AreLimits s.limits
  pub size : (tables_of s).size ≡ region_begin s.limits all_regions

-- the tables are these now, and nothing but the words has changed
pub record Turns (before after : Space) (t : Tables) : Type 0 where
  pub tables : tables_of after ≡ t
  pub rest : after ≡ record before { words = after.words }

-- the block of a heap word has a word that isn't 0, such as the header of an object with fields
pub record IsInUsedBlock (s : Space) (at : ℕ) : Type 0 where
  pub other : ℕ
  pub there : other < WORDS_IN_BLOCK * s.limits.blocks
  pub block : other / WORDS_IN_BLOCK ≡ at / WORDS_IN_BLOCK
  pub some : (tables_of s).heap other ≢ 0

-- each word of a block is 0
abbrev pub BlockIsZero : Space → ℕ → Type 0
BlockIsZero s block = (w : ℕ) → w < WORDS_IN_BLOCK * s.limits.blocks → w / WORDS_IN_BLOCK ≡ block → (tables_of s).heap w ≡ 0

-- no count is above STUCK, and a reuse counter has 32 bits
pub record AreWithin (t : Tables) : Type 0 where
  pub counts : (g : ℕ) → t.counts g ≤ STUCK
  pub reuse : (n : ℕ) → t.reuse n < 2 ^ 32

-- so it is in every space
abbrev pub EntriesAreWithin : Type 0
EntriesAreWithin = (s : Space) → AreWithin (tables_of s)

-- past the heap's last granule no object begins
abbrev pub NoneStartsPast : Type 0
NoneStartsPast = (s : Space) (g : ℕ) → IsSpace s → GRANULES_IN_BLOCK * s.limits.blocks ≤ g → (tables_of s).starts g ≡ false

-- the region of a table of bits, and of a table of words
abbrev pub bit_region : BitTable → ℕ
bit_region bit.Starts = starts_region
bit_region bit.Marks = marks_region
bit_region bit.Grays = grays_region
bit_region bit.Dones = dones_region
bit_region bit.Unlogged = unlogged_region
bit_region bit.Outs = outs_region

abbrev pub word_region : WordTable → ℕ
word_region word.Heap = heap_region
word_region word.States = states_region
word_region word.Runs = runs_region
word_region word.Frees = frees_region
word_region word.Decrements = decs_region
word_region word.Remembered = remembered_region
word_region word.Cursors = cursors_region

-- the table of that name
abbrev pub bit_table : Tables → BitTable → ℕ → Bool
bit_table t bit.Starts = t.starts
bit_table t bit.Marks = t.marks
bit_table t bit.Grays = t.grays
bit_table t bit.Dones = t.dones
bit_table t bit.Unlogged = t.unlogged
bit_table t bit.Outs = t.outs

abbrev pub word_table : Tables → WordTable → ℕ → ℕ
word_table t word.Heap = t.heap
word_table t word.States = t.states
word_table t word.Runs = t.runs
word_table t word.Frees = t.frees
word_table t word.Decrements = t.decs
word_table t word.Remembered = t.remembered
word_table t word.Cursors = t.cursors

-- the tables with one entry of that table changed
abbrev pub with_bit : Tables → BitTable → ℕ → Bool → Tables
with_bit t bit.Starts k b = record t { starts = changed t.starts k b }
with_bit t bit.Marks k b = record t { marks = changed t.marks k b }
with_bit t bit.Grays k b = record t { grays = changed t.grays k b }
with_bit t bit.Dones k b = record t { dones = changed t.dones k b }
with_bit t bit.Unlogged k b = record t { unlogged = changed t.unlogged k b }
with_bit t bit.Outs k b = record t { outs = changed t.outs k b }

-- a table of bits with 64 entries in a row replaced by the bits of a word
abbrev pub replaced_bits : (ℕ → Bool) → ℕ → ℕ → ℕ → Bool
replaced_bits f at value n = if n / 64 == at then bit_at value (n % 64) == 1 else f n

-- the tables with a word of that table of bits replaced
abbrev pub with_bit_word : Tables → BitTable → ℕ → ℕ → Tables
with_bit_word t bit.Starts at v = record t { starts = replaced_bits t.starts at v }
with_bit_word t bit.Marks at v = record t { marks = replaced_bits t.marks at v }
with_bit_word t bit.Grays at v = record t { grays = replaced_bits t.grays at v }
with_bit_word t bit.Dones at v = record t { dones = replaced_bits t.dones at v }
with_bit_word t bit.Unlogged at v = record t { unlogged = replaced_bits t.unlogged at v }
with_bit_word t bit.Outs at v = record t { outs = replaced_bits t.outs at v }

abbrev pub with_word : Tables → WordTable → ℕ → ℕ → Tables
with_word t word.Heap k v = record t { heap = changed t.heap k v }
with_word t word.States k v = record t { states = changed t.states k v }
with_word t word.Runs k v = record t { runs = changed t.runs k v }
with_word t word.Frees k v = record t { frees = changed t.frees k v }
with_word t word.Decrements k v = record t { decs = changed t.decs k v }
with_word t word.Remembered k v = record t { remembered = changed t.remembered k v }
with_word t word.Cursors k v = record t { cursors = changed t.cursors k v }

-- The numbers of the geometry and of the cursors.
use Rattle.std.specs.Prelude.{◌≡◌, ◌*◌, ◌^◌}
use Rattle.lxr_layout.specs.declared.TheConstants.{COUNT_BITS, COUNT_WORDS_IN_BLOCK, DECREMENT_COUNT, DECREMENT_CURSOR, FREE_BLOCK_COUNT, FREE_BLOCK_CURSOR, GRANULES_IN_BLOCK, GRANULES_IN_LINE, LEAST_REGISTERS, LINES_IN_BLOCK, MOST_BLOCKS, MOST_BLOCKS_OF_SMALL, MOST_GRANULES, MOST_WORDS, PAUSE_WORD, REGISTERS, REMEMBERED_CURSOR, RUN_COUNT, RUN_CURSOR, STUCK, TRACING_WORD, WORDS_IN_BLOCK, WORDS_IN_LINE, WORLD_LINES, WORLD_REFS}

-- a block of 32 KB has 128 lines of 256 bytes; a granule has two words of 8 bytes; a thread has a register for each byte, and may name 16 at least
pub record HasGeometry : Type 0 where
  pub block_words : WORDS_IN_BLOCK ≡ 4096
  pub block_granules : GRANULES_IN_BLOCK ≡ 2048
  pub block_lines : LINES_IN_BLOCK ≡ 128
  pub line_words : WORDS_IN_LINE ≡ 32
  pub line_granules : GRANULES_IN_LINE ≡ 16
  pub registers : REGISTERS ≡ 256
  pub least_registers : LEAST_REGISTERS ≡ 16
  pub world_lines : WORLD_LINES ≡ 3
  pub world_refs : WORLD_REFS ≡ 64

-- the largest heap, and the largest small one
pub record HasLargest : Type 0 where
  pub blocks : MOST_BLOCKS ≡ 65536
  pub granules : MOST_GRANULES ≡ 2 ^ 27
  pub words : MOST_WORDS ≡ 2 ^ 28
  pub small_blocks : MOST_BLOCKS_OF_SMALL ≡ 1024

-- which word of the region of cursors is which
pub record HasCursors : Type 0 where
  pub pause : PAUSE_WORD ≡ 0
  pub runs_drawn : RUN_CURSOR ≡ 1
  pub runs : RUN_COUNT ≡ 2
  pub blocks_drawn : FREE_BLOCK_CURSOR ≡ 3
  pub blocks : FREE_BLOCK_COUNT ≡ 4
  pub decrements_drawn : DECREMENT_CURSOR ≡ 5
  pub decrements : DECREMENT_COUNT ≡ 6
  pub remembered : REMEMBERED_CURSOR ≡ 7
  pub tracing : TRACING_WORD ≡ 8

-- Counts have four bits, and stick at the greatest number. The counts of a line fill one word, so a block's fill one for each line.
pub record HasCountWidth : Type 0 where
  pub bits : COUNT_BITS ≡ 4
  pub stuck : STUCK ≡ 15
  pub line_bits : GRANULES_IN_LINE * COUNT_BITS ≡ 64
  pub block_words : COUNT_WORDS_IN_BLOCK ≡ LINES_IN_BLOCK

-- What is kept beside the words of the lines of blocks: answers that a pause would else look up again at each block.
use Rattle.std.specs.Prelude.{◌≡◌, ◌≢◌, ℕ, zero, suc, ◌+◌, ◌*◌, ◌/◌, ◌<◌, ◌≤◌, ◌==◌, ◌&&◌, ◌↔◌, ◌⊎◌, ⊤, Bool, true, false, List, [], IsBitSet, IsTrue, if◌then◌else◌, length, slice_index, slice_index_or}
use Rattle.lxr_layout.specs.declared.TheConstants.{GRANULES_IN_BLOCK, GRANULES_IN_LINE, LINES_IN_BLOCK}
use Rattle.lxr_layout.specs.declared.limits.Limits.{Limits}
use Rattle.lxr_image.specs.declared.heights.TheConstants.{FULL}
use Rattle.lxr_image.specs.declared.places.Told.{Told}
use Rattle.lxr_image.specs.declared.places.Told.TheVariants as told
use Rattle.lxr_image.specs.declared.settled.Settled.{Settled}
use Rattle.lxr_image.specs.declared.settled.TheConstants.{NOTED}
use Rattle.lxr_image.specs.declared.tables.BitTable.{BitTable}
use Rattle.lxr_image.specs.declared.tables.BitTable.TheVariants as bit
use Rattle.lxr_image.specs.declared.tables.WordTable.{WordTable}
use Rattle.lxr_image.specs.declared.tables.WordTable.TheVariants as word
use Rattle.lxr_image.specs.Runs.{bits_of, words_of_runs}
use Rattle.lxr_image.specs.Tables.{Tables, tables_in}

-- a line, counted over the whole heap, is free: it wasn't handed out since the last promotion, and each count on it is 0
pub record IsFreeLine (t : Tables) (line : ℕ) : Type 0 where
  pub in_hand : t.outs line ≡ false
  pub uncounted : (k : ℕ) → k < GRANULES_IN_LINE → t.counts (GRANULES_IN_LINE * line + k) ≡ 0

-- It is open: it is free, and no object begins on it. While helpers lower counts a line may become free where an object still begins; an open line
-- stays open, and no other becomes so.
pub record IsOpenLine (t : Tables) (line : ℕ) : Type 0 where
  pub free : IsFreeLine t line
  pub unbegun : (k : ℕ) → k < GRANULES_IN_LINE → t.starts (GRANULES_IN_LINE * line + k) ≡ false

-- line i of a block
abbrev pub line_of : ℕ → ℕ → ℕ
line_of b i = LINES_IN_BLOCK * b + i

-- a block of such lines may have this state, as a number: Free where all are such, Whole where none is, Partly where some are; Chosen and World
-- whatever they are
abbrev pub IsStateOf : (ℕ → Type 0) → ℕ → Type 0
IsStateOf is state =
    (3 ≤ state)
    ⊎ ((state ≡ 0) × ((i : ℕ) → i < LINES_IN_BLOCK → is i))
    ⊎ ((state ≡ 1) × ((i : ℕ) × (i < LINES_IN_BLOCK) × is i) × ((i : ℕ) × (i < LINES_IN_BLOCK) × ¬ is i))
    ⊎ ((state ≡ 2) × ((i : ℕ) → i < LINES_IN_BLOCK → ¬ is i))

-- no run of such lines of a block is longer
abbrev pub AreNoLonger : (ℕ → Type 0) → ℕ → Type 0
AreNoLonger is longest = (first many : ℕ) → first + many ≤ LINES_IN_BLOCK → ((i : ℕ) → i < many → is (first + i)) → many ≤ longest

-- and one is as long, unless there is none
abbrev pub IsLongest : (ℕ → Type 0) → ℕ → Type 0
IsLongest is longest = AreNoLonger is longest × ((longest ≡ 0) ⊎ ((first : ℕ) × (first + longest ≤ LINES_IN_BLOCK) × ((i : ℕ) → i < longest → is (first + i))))

-- the block has the state of its free lines, unless it is Chosen or World
abbrev pub StandsByLines : Tables → ℕ → Type 0
StandsByLines t b = IsStateOf (λ i. IsFreeLine t (line_of b i)) (t.states b)

-- where all lines of a block are free, it is Free
abbrev pub IsFreeByLines : Tables → ℕ → Type 0
IsFreeByLines t b = ((i : ℕ) → i < LINES_IN_BLOCK → IsFreeLine t (line_of b i)) → t.states b ≡ 0

-- no run of free lines of a block is longer
abbrev pub HasNoLonger : Tables → ℕ → ℕ → Type 0
HasNoLonger t b longest = AreNoLonger (λ i. IsFreeLine t (line_of b i)) longest

-- the longest run of free lines of a block has so many; 0 where none is free
abbrev pub HasLongest : Tables → ℕ → ℕ → Type 0
HasLongest t b longest = IsLongest (λ i. IsFreeLine t (line_of b i)) longest

-- each object that begins in a block has a count
abbrev pub AreCountedIn : Tables → ℕ → Type 0
AreCountedIn t b = (g : ℕ) → g / GRANULES_IN_BLOCK ≡ b → IsTrue (t.starts g) → t.counts g ≢ 0

-- each object that begins anywhere has one
abbrev pub AreCounted : Tables → Type 0
AreCounted t = (g : ℕ) → IsTrue (t.starts g) → t.counts g ≢ 0

-- bit i is set exactly where line i of a block is free
abbrev pub IsMaskOfFree : ℕ → Tables → ℕ → Type 0
IsMaskOfFree mask t b = (i : ℕ) → i < LINES_IN_BLOCK → IsBitSet mask i ↔ IsFreeLine t (line_of b i)

-- these are the words of the runs of a block's free lines, in order
abbrev pub AreRunsOfFree : List ℕ → Tables → ℕ → Type 0
AreRunsOfFree words t b = (free : ℕ → Bool) × ((i : ℕ) → i < LINES_IN_BLOCK → IsTrue (free i) ↔ IsFreeLine t (line_of b i)) × (words ≡ words_of_runs free b)

-- no line of a block is out
abbrev pub NoneIsOut : Tables → ℕ → Type 0
NoneIsOut t b = (line : ℕ) → line / LINES_IN_BLOCK ≡ b → t.outs line ≡ false

-- the tables of lines are those of words that are all 0
pub record AreClear (t : Tables) : Type 0 where
  pub counts : (g : ℕ) → t.counts g ≡ 0
  pub starts : (g : ℕ) → t.starts g ≡ false
  pub outs : (line : ℕ) → t.outs line ≡ false
  pub states : (b : ℕ) → t.states b ≡ 0

-- ---- what is known

-- a block's open lines are these, the longest run of them has so many, and its state is theirs; where all are open, it is Free
pub record KnowsBlock (t : Tables) (b mask most : ℕ) : Type 0 where
  pub lines : (i : ℕ) → i < LINES_IN_BLOCK → IsBitSet mask i ↔ IsOpenLine t (line_of b i)
  pub longest : IsLongest (λ i. IsOpenLine t (line_of b i)) most
  pub state : IsStateOf (λ i. IsOpenLine t (line_of b i)) (t.states b)
  pub whole : ((i : ℕ) → i < LINES_IN_BLOCK → IsOpenLine t (line_of b i)) → t.states b ≡ 0

-- for each block with these open lines the words of their runs are kept, or none
pub record AreKept (blocks : ℕ) (lines : List ℕ) (runs : List (List ℕ)) : Type 0 where
  pub many : length runs ≡ blocks
  pub words : (b : ℕ) → b < blocks → (slice_index_or runs b [] ≡ []) ⊎ (slice_index_or runs b [] ≡ words_of_runs (bits_of (slice_index lines b)) b)

-- a block is settled: it isn't noted
abbrev pub IsSettled : Settled → ℕ → Type 0
IsSettled s b = (b < s.blocks) × (slice_index s.longest b < NOTED)

-- all blocks are noted, and lines of each may be out
abbrev pub AreAllNoted : Settled → Type 0
AreAllNoted s = (b : ℕ) → b < s.blocks → (slice_index s.longest b ≡ NOTED) × (slice_index s.handed b ≢ 0)

-- What is known is so. It may be less than could be known: a block that is noted is looked at again.
pub record Knows (s : Settled) (t : Tables) : Type 0 where
  pub longest_many : length s.longest ≡ s.blocks
  pub handed_many : length s.handed ≡ s.blocks
  pub lines_many : length s.lines.items ≡ s.blocks
  pub kept : AreKept s.blocks s.lines.items s.runs
  -- of each settled block its open lines, and what follows from them
  pub settled : (b : ℕ) → IsSettled s b → KnowsBlock t b (slice_index s.lines.items b) (slice_index s.longest b)
  -- lines are out in no other blocks than these
  pub handed : (line : ℕ) → line / LINES_IN_BLOCK < s.blocks → IsTrue (t.outs line) → slice_index s.handed (line / LINES_IN_BLOCK) ≢ 0
  -- where it is said that objects are counted, each that begins in a settled block has a count
  pub counted : s.counted ≡ true → (b : ℕ) → IsSettled s b → AreCountedIn t b
  pub forgotten : s.forgotten ≡ true → AreAllNoted s

-- the limits of a space of so many blocks of which nothing else is said: the tables of lines depend on blocks alone
abbrev pub of_blocks : ℕ → Limits
of_blocks blocks = record { blocks = blocks; threads = 0; log = 0; remember = 0; registers = 0; evacuate = 0 }

-- it is so of words, for as many blocks as it says
abbrev pub KnowsWords : Settled → List ℕ → Type 0
KnowsWords s words = Knows s (tables_in (of_blocks s.blocks) words)

-- ---- Free blocks

-- how many of the first so many blocks are Free
unfoldable pub free_below : Tables → ℕ → ℕ
free_below t zero = 0
free_below t (suc b) = free_below t b + (if t.states b == 0 then 1 else 0)

-- a block of a space of so many is known: its lines are
abbrev pub IsKnown : Settled → ℕ → ℕ → Type 0
IsKnown s blocks b = (s.blocks ≡ blocks) × IsSettled s b

-- how many of the first so many blocks, of a space of so many, are known to be Free: all their lines are open
unfoldable pub known_free_below : Settled → ℕ → ℕ → ℕ
known_free_below s blocks zero = 0
known_free_below s blocks (suc b) = known_free_below s blocks b + (if (s.blocks == blocks) && (slice_index s.longest b == FULL) then 1 else 0)

-- ---- what a write changes

-- the tables of lines are the same
pub record SameLines (t u : Tables) : Type 0 where
  pub counts : (g : ℕ) → u.counts g ≡ t.counts g
  pub starts : (g : ℕ) → u.starts g ≡ t.starts g
  pub outs : (line : ℕ) → u.outs line ≡ t.outs line
  pub states : (b : ℕ) → u.states b ≡ t.states b

-- they are the same in all blocks but one
pub record AgreeBut (block : ℕ) (t u : Tables) : Type 0 where
  pub counts : (g : ℕ) → g / GRANULES_IN_BLOCK ≢ block → u.counts g ≡ t.counts g
  pub starts : (g : ℕ) → g / GRANULES_IN_BLOCK ≢ block → u.starts g ≡ t.starts g
  pub outs : (line : ℕ) → line / LINES_IN_BLOCK ≢ block → u.outs line ≡ t.outs line
  pub states : (b : ℕ) → b ≢ block → u.states b ≡ t.states b

-- and in that one no further line is out
pub record Disturbs (block : ℕ) (t u : Tables) : Type 0 where
  pub agree : AgreeBut block t u
  pub outs : (line : ℕ) → line / LINES_IN_BLOCK ≡ block → IsTrue (u.outs line) → IsTrue (t.outs line)

-- one count has changed between these tables of lines
pub record ChangesCount (granule old new : ℕ) (t u : Tables) : Type 0 where
  pub was : t.counts granule ≡ old
  pub is : u.counts granule ≡ new
  pub counts : (g : ℕ) → g ≢ granule → u.counts g ≡ t.counts g
  pub starts : (g : ℕ) → u.starts g ≡ t.starts g
  pub outs : (line : ℕ) → u.outs line ≡ t.outs line
  pub states : (b : ℕ) → u.states b ≡ t.states b

-- the block in which an entry of a table of bits tells of lines; the other tables tell nothing of them
abbrev pub block_of_bit : BitTable → ℕ → ℕ
block_of_bit bit.Starts index = index / GRANULES_IN_BLOCK
block_of_bit bit.Outs index = index / LINES_IN_BLOCK
block_of_bit bit.Marks index = 0
block_of_bit bit.Grays index = 0
block_of_bit bit.Dones index = 0
block_of_bit bit.Unlogged index = 0

-- what a write to a table of bits may change of lines, where it writes in one block
abbrev pub BitTouches : BitTable → ℕ → Tables → Tables → Type 0
BitTouches bit.Starts block t u = Disturbs block t u
BitTouches bit.Outs block t u = AgreeBut block t u
BitTouches bit.Marks block t u = SameLines t u
BitTouches bit.Grays block t u = SameLines t u
BitTouches bit.Dones block t u = SameLines t u
BitTouches bit.Unlogged block t u = SameLines t u

-- what a write to a table of words may: only states, a word a block, tell of lines
abbrev pub WordTouches : WordTable → ℕ → Tables → Tables → Type 0
WordTouches word.States block t u = Disturbs block t u
WordTouches word.Heap block t u = SameLines t u
WordTouches word.Runs block t u = SameLines t u
WordTouches word.Frees block t u = SameLines t u
WordTouches word.Decrements block t u = SameLines t u
WordTouches word.Remembered block t u = SameLines t u
WordTouches word.Cursors block t u = SameLines t u

-- what a write may change of lines that is known by its place alone
abbrev pub PlaceTouches : Told → Tables → Tables → Type 0
PlaceTouches told.Nothing t u = SameLines t u
PlaceTouches (told.Counts block) t u = Disturbs block t u
PlaceTouches told.Lines t u = ⊤

-- What an epoch keeps of lines: where objects begin, which lines are out, the states of blocks, and each count that is no object's.
pub record KeepsOpenLines (t u : Tables) : Type 0 where
  pub starts : (g : ℕ) → u.starts g ≡ t.starts g
  pub outs : (line : ℕ) → u.outs line ≡ t.outs line
  pub states : (b : ℕ) → u.states b ≡ t.states b
  pub counts : (g : ℕ) → t.starts g ≡ false → u.counts g ≡ t.counts g

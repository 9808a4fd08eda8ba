-- The words of a space as tables: all that the layers above see of them.
use Rattle.std.specs.Prelude.{ℕ, ◌+◌, ◌-◌, ◌==◌, ◌&&◌, Bool, List, [], ◌∷◌, take, drop, length, slice_index, slice_index_or, nat_eq, nat_le, nat_lt, if◌then◌else◌}
use Rattle.lxr_layout.specs.declared.limits.Limits.{Limits}
use Rattle.lxr_layout.specs.declared.TheConstants.{COUNT_BITS}
use Rattle.lxr_layout.specs.Spaces.{counts_region, cursors_region, decs_region, dones_region, frees_region, grays_region, heap_region, marks_region, outs_region, region_sizes, remembered_region, reuse_region, runs_region, starts_region, states_region, unlogged_region}
use Rattle.lxr_tables.specs.declared.counts.TheConstants.{COUNTS_IN_WORD}
use Rattle.lxr_tables.specs.Entries.{table}

-- Each table is a function of an index; past its last entry it is 0 or false.
pub record Tables : Type 0 where
  -- the number of all words
  pub size : ℕ
  -- by heap word
  pub heap : ℕ → ℕ
  -- by granule: the reference count of the object that begins there, or a line mark
  pub counts : ℕ → ℕ
  -- by granule: an object that was promoted and isn't reclaimed begins there; the tracer has marked it; the tracer
  -- has found it; it is dead and claimed for handling
  pub starts : ℕ → Bool
  pub marks : ℕ → Bool
  pub grays : ℕ → Bool
  pub dones : ℕ → Bool
  -- by heap word: the reference there hasn't been written since the last pause
  pub unlogged : ℕ → Bool
  -- by line: how often it was handed out, and whether it was since the last promotion
  pub reuse : ℕ → ℕ
  pub outs : ℕ → Bool
  -- by block: its state
  pub states : ℕ → ℕ
  -- by number: words of runs of free lines, numbers of free blocks, places to be decremented, remembered entries
  pub runs : ℕ → ℕ
  pub frees : ℕ → ℕ
  pub decs : ℕ → ℕ
  pub remembered : ℕ → ℕ
  -- by number: the pause word, the cursors and lengths of the tables above, the tracing word
  pub cursors : ℕ → ℕ

-- a table with one entry changed
abbrev pub changed : {A : Type 0} → (ℕ → A) → ℕ → A → ℕ → A
changed f k v i = if nat_eq i k then v else f i

-- a table with numbers written from an index on
abbrev pub written : (ℕ → ℕ) → ℕ → List ℕ → ℕ → ℕ
written f at xs i = if nat_le at i && nat_lt i (at + length xs) then slice_index xs (i - at) else f i

-- words cut into regions of these sizes, in order
abbrev pub cut : List ℕ → List ℕ → List (List ℕ)
cut [] words = []
cut (size ∷ sizes) words = take size words ∷ cut sizes (drop size words)

-- a region's words as a table of words
abbrev pub words_in : List ℕ → ℕ → ℕ
words_in words k = slice_index words k

-- as a table of bits, 64 a word, the lowest first
abbrev pub bits_in : List ℕ → ℕ → Bool
bits_in words k = slice_index (table 1 64 words) k == 1

-- as a table of reference counts, the lowest first
abbrev pub counts_in : List ℕ → ℕ → ℕ
counts_in words k = slice_index (table COUNT_BITS COUNTS_IN_WORD words) k

-- as a table of 32-bit halves, the low half first
abbrev pub halves_in : List ℕ → ℕ → ℕ
halves_in words k = slice_index (table 32 2 words) k

-- the tables of so many words in these regions
abbrev pub tables_from : ℕ → List (List ℕ) → Tables
tables_from size regions =
    let region : ℕ → List ℕ = λ n. slice_index_or regions n [] in
    record {
      size = size;
      heap = words_in (region heap_region);
      counts = counts_in (region counts_region);
      starts = bits_in (region starts_region);
      marks = bits_in (region marks_region);
      grays = bits_in (region grays_region);
      dones = bits_in (region dones_region);
      unlogged = bits_in (region unlogged_region);
      reuse = halves_in (region reuse_region);
      outs = bits_in (region outs_region);
      states = words_in (region states_region);
      runs = words_in (region runs_region);
      frees = words_in (region frees_region);
      decs = words_in (region decs_region);
      remembered = words_in (region remembered_region);
      cursors = words_in (region cursors_region);
    }

-- the tables that words are, by the limits of their space
unfoldable pub tables_in : Limits → List ℕ → Tables
tables_in limits words = tables_from (length words) (cut (region_sizes limits) words)

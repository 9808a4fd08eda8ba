-- Unlogged bits and logs: for each reference, one word or one log entry keeps the value that it had at the beginning.
use Rattle.std.specs.Prelude.{◌≡◌, ℕ, ◌+◌, ◌/◌, ◌^◌, ◌<◌, ◌≤◌, ◌⊎◌, Option, Some, None, List, [], length, map, nat_eq, slice_get, slice_index}
use Rattle.std.specs.List.{All, sum_by, count_by}
use Rattle.lxr_layout.specs.declared.Place.{Place}
use Rattle.lxr_layout.specs.declared.limits.Regions.{Regions}
use Rattle.lxr_layout.specs.declared.runs.LogEntry.{LogEntry}
use Rattle.lxr_base.specs.Roomy.{pushed}
use Rattle.lxr_tables.specs.Entries.{bits_from}
use Rattle.lxr_barrier.specs.declared.machines.StorePhase.{StorePhase}
use Rattle.lxr_barrier.specs.declared.machines.StorePhase.TheVariants.{Begun, Unlogged, Loaded, Logged, Ended}
use Rattle.lxr_barrier.specs.Storing.{Storing, IsPastBarrier, bit_word, entry_of, reference_word, target}
use Rattle.lxr_barrier.specs.Storers.{Logging}

-- what a log and a store machine show of themselves here
pub record StoreView : Type 0 where
  pub log : List LogEntry
  -- what it has loaded of a reference whose bit it is about to clear: the entry that it records if it is the first
  pub loaded : Option LogEntry
  -- the heap word that it is about to store to
  pub ready : Option ℕ

-- the entry that it records if it is the first to clear the bit
abbrev pub loaded_by : Storing → StorePhase → Option LogEntry
loaded_by s Begun = None
loaded_by s Unlogged = None
loaded_by s (Loaded old) = Some (entry_of s old)
loaded_by s Logged = None
loaded_by s (Ended how) = None

-- where it is about to store
abbrev pub ready_for : Storing → StorePhase → Option ℕ
ready_for s Begun = None
ready_for s Unlogged = None
ready_for s (Loaded old) = None
ready_for s Logged = Some (target s)
ready_for s (Ended how) = None

-- what a storer shows
abbrev pub store_view : Logging → StoreView
store_view s = record { log = s.log.items; loaded = loaded_by s.store s.store.phase; ready = ready_for s.store s.store.phase }

-- the heap word of an entry's reference
abbrev pub entry_word : LogEntry → ℕ
entry_word e = reference_word e.place e.index

-- how many entries the logs have for the reference at a heap word
abbrev pub entries_for : ℕ → List StoreView → ℕ
entries_for at views = sum_by (λ v. count_by (λ e. nat_eq (entry_word e) at) v.log) views

-- the old value of an entry is what its reference held in the opening words
abbrev pub HasFirstValue : List ℕ → LogEntry → Type 0
HasFirstValue opening e = e.old.0 ≡ slice_index opening (entry_word e)

module _ (r : Regions) where
  -- the unlogged bit of a heap word, from the table of these bits: 1 where it is set
  abbrev pub unlogged_bit : List ℕ → ℕ → ℕ
  unlogged_bit words at = slice_index (bits_from words r.unlogged) at

  -- a heap word whose unlogged bit is set
  abbrev pub IsUnlogged : List ℕ → ℕ → Type 0
  IsUnlogged words at = (at < r.counts) × (unlogged_bit words at ≡ 1)

  -- a heap word whose unlogged bit is clear
  abbrev pub IsLogged : List ℕ → ℕ → Type 0
  IsLogged words at = (at < r.counts) × (unlogged_bit words at ≡ 0)

  -- The words and logs that lead from the opening words: a reference is a heap word whose bit was set then, and
  -- its first value is what it held.
  pub record UnloggedBitsAndLogs (opening words : List ℕ) (views : List StoreView) : Type 0 where
    -- first values are places, or nil
    pub places : (at : ℕ) → IsUnlogged opening at → slice_index opening at < 2 ^ 32
    -- bits are set only at references
    pub only : (at : ℕ) → IsUnlogged words at → IsUnlogged opening at
    -- where the bit is set, the word holds the first value
    pub unwritten : (at : ℕ) → IsUnlogged words at → slice_index words at ≡ slice_index opening at
    -- either the bit is set, or exactly one log has exactly one entry
    pub once : (at : ℕ) → IsUnlogged opening at → entries_for at views + unlogged_bit words at ≡ 1
    -- each entry is for a reference, and has its first value
    pub entries : All (λ v. All (λ e. IsUnlogged opening (entry_word e) × HasFirstValue opening e) v.log) views
    -- what was loaded is the first value while the bit is set
    pub loaded : All (λ v. (e : LogEntry) → v.loaded ≡ Some e → IsUnlogged words (entry_word e) → HasFirstValue opening e) views
    -- who is about to store has the bit clear
    pub ready : All (λ v. (at : ℕ) → v.ready ≡ Some at → IsLogged words at) views

  -- the words and the logs of these storers lead from the opening words
  abbrev pub KeepFirstValues : List ℕ → List ℕ → List Logging → Type 0
  KeepFirstValues opening words storers = UnloggedBitsAndLogs opening words (map store_view storers)

  -- each heap word has its bit among the words, behind the heap
  pub record HasBits (words : List ℕ) : Type 0 where
    pub behind : r.counts ≤ r.unlogged
    pub exist : (at : ℕ) → at < r.counts → r.unlogged + at / 64 < length words

  -- a store whose bit is one of these, and whose reference is a word of the heap
  pub record IsStoreIn (s : Storing) : Type 0 where
    pub bits : s.unlogged ≡ r.unlogged
    pub heap : target s < r.counts

  -- storers on words of these regions
  abbrev pub AreStorersIn : List ℕ → List Logging → Type 0
  AreStorersIn words storers = HasBits words × All (λ s. IsStoreIn s.store) storers

  -- a beginning: no store has taken a step, the logs are empty, and references hold places, or nil
  pub record IsBeginning (words : List ℕ) (storers : List Logging) : Type 0 where
    pub begun : All (λ s. (s.store.phase ≡ Begun) × (s.log.items ≡ [])) storers
    pub places : (at : ℕ) → IsUnlogged words at → slice_index words at < 2 ^ 32

  -- a heap word and its bit stay as they were as long as no store to it is past the barrier
  abbrev pub ChangesOnlyBehindBarrier : List ℕ → List ℕ → List Logging → Type 0
  ChangesOnlyBehindBarrier words words' storers' =
      (at : ℕ) → at < r.counts → All (λ t. target t.store ≡ at → ¬ IsPastBarrier t.store.phase) storers'
      → (slice_index words' at ≡ slice_index words at) × (unlogged_bit words' at ≡ unlogged_bit words at)

-- each word with a storer's bit, and its reference, exist
abbrev pub HaveWords : List ℕ → List Logging → Type 0
HaveWords words storers = All (λ s. (bit_word s.store < length words) × (target s.store < length words)) storers

-- a storer and what becomes of it: its log has at most one entry more, for its own reference, and only once it is
-- past the barrier
pub record KeepsOwnLog (s t : Logging) : Type 0 where
  pub store : t.store ≡ record s.store { phase = t.store.phase }
  pub log : (t.log ≡ s.log) ⊎ (IsPastBarrier t.store.phase × ((old : Place) × (t.log ≡ pushed s.log (entry_of s.store old))))

-- each storer and what becomes of it
abbrev pub KeepOwnLogs : List Logging → List Logging → Type 0
KeepOwnLogs storers storers' = (i : ℕ) (s t : Logging) → slice_get storers i ≡ Some s → slice_get storers' i ≡ Some t → KeepsOwnLog s t

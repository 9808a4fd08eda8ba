-- Which blocks are taken, as a list of one `Bool` a block.
use Rattle.std.specs.Prelude.{◌≡◌, ℕ, suc, ◌+◌, ◌<◌, ◌≤◌, ◌&&◌, nat_le, nat_lt, Bool, true, false, List, [], ◌∷◌, if◌then◌else◌, length, slice_index_or}
use Rattle.std.specs.List.{AllByRecursion, list_any}
use Rattle.lxr_large_bodies.specs.declared.entries.Entry.{Entry}

-- none of so many blocks from one on is taken
abbrev pub AreFree : List Bool → ℕ → ℕ → Type 0
AreFree taken first blocks = (k : ℕ) → first ≤ k → k < first + blocks → slice_index_or taken k false ≡ false

-- how many blocks are taken
abbrev pub taken_count : List Bool → ℕ
taken_count [] = 0
taken_count (true ∷ bs) = suc (taken_count bs)
taken_count (false ∷ bs) = taken_count bs

-- block k is one of so many from one on
abbrev pub is_within : ℕ → ℕ → ℕ → Bool
is_within first blocks k = nat_le first k && nat_lt k (first + blocks)

-- so many blocks from one on are taken now, and all others as they were
pub record TakesRun (old new : List Bool) (first blocks : ℕ) : Type 0 where
  pub as_many : length new ≡ length old
  pub each : (k : ℕ) → slice_index_or new k false ≡ (if is_within first blocks k then true else slice_index_or old k false)
  pub count : taken_count new ≡ taken_count old + blocks

-- an entry has a block
abbrev pub covers : ℕ → Entry → Bool
covers k e = is_within e.first e.blocks k

-- how many blocks these entries have
abbrev pub block_count : List Entry → ℕ
block_count [] = 0
block_count (e ∷ es) = e.blocks + block_count es

-- the blocks that these entries have are taken, and no other; each is one entry's
pub record AreTaken (taken : List Bool) (entries : List Entry) : Type 0 where
  pub each : (k : ℕ) → slice_index_or taken k false ≡ list_any (covers k) entries
  pub count : taken_count taken ≡ block_count entries

-- the blocks of each entry are among so many
abbrev pub AreWithin : ℕ → List Entry → Type 0
AreWithin blocks es = AllByRecursion (λ e. e.first + e.blocks ≤ blocks) es

-- The entries of bodies, and the bodies that they stand for.
use Rattle.std.specs.Prelude.{◌≡◌, ◌≢◌, ℕ, ◌+◌, ◌*◌, ◌^◌, ◌<◌, ◌≤◌, ◌⊎◌, nat_le, nat_lt, not, Bool, Option, Some, None, List, [], ◌∷◌, if◌then◌else◌, length, take, drop, slice_get, slice_index_or}
use Rattle.std.specs.List.{AllByRecursion}
use Rattle.lxr_layout.specs.declared.Name.{Name}
use Rattle.lxr_layout.specs.declared.TheConstants.{WORDS_IN_BLOCK}
use Rattle.lxr_graph.specs.Names.{has, same_name}
use Rattle.lxr_graph.specs.Renewing.{renewed_name}
use Rattle.lxr_large_bodies.specs.declared.entries.Entry.{Entry}
use Rattle.lxr_large_bodies.specs.Blocks.{AreTaken, AreWithin}
use Rattle.lxr_large_bodies.specs.Bodies.{Body, rank_of}

-- the words of so many blocks from one on
abbrev pub words_in : List ℕ → ℕ → ℕ → List ℕ
words_in words first blocks = take (WORDS_IN_BLOCK * blocks) (drop (WORDS_IN_BLOCK * first) words)

-- the body of an entry, by the words of all blocks
abbrev pub body_at : List ℕ → Entry → Body
body_at words e = record { name = e.name; first = e.first; blocks = e.blocks; young = not e.settled; words = words_in words e.first e.blocks }

-- an entry's name stands before another's, and the two share no block
pub record ComesBefore (e f : Entry) : Type 0 where
  pub before : rank_of e.name < rank_of f.name
  pub apart : (e.first + e.blocks ≤ f.first) ⊎ (f.first + f.blocks ≤ e.first)

-- an entry is one of a name that there may be, and has a block
pub record IsEntry (e : Entry) : Type 0 where
  pub serial : e.name.serial < 2 ^ 32
  pub some : 1 ≤ e.blocks

-- entries stand in order of names and share no block
abbrev pub AreSorted : List Entry → Type 0
AreSorted [] = Unit {0}
AreSorted (e ∷ es) = IsEntry e × AllByRecursion (ComesBefore e) es × AreSorted es

-- the entry of a name
abbrev pub entry_of : List Entry → Name → Option Entry
entry_of [] n = None
entry_of (e ∷ es) n = if same_name n e.name then Some e else entry_of es n

-- so many entries stand before a rank, and no others do
pub record IsLowerBound (es : List Entry) (rank at : ℕ) : Type 0 where
  pub within : at ≤ length es
  pub below : (k : ℕ) (e : Entry) → k < at → slice_get es k ≡ Some e → rank_of e.name < rank
  pub above : (k : ℕ) (e : Entry) → at ≤ k → slice_get es k ≡ Some e → rank ≤ rank_of e.name

-- no entry has this name
abbrev pub HasNone : List Entry → Name → Type 0
HasNone es n = (k : ℕ) (e : Entry) → slice_get es k ≡ Some e → rank_of e.name ≢ rank_of n

-- the entry of this name stands at an index
pub record IsIndexOf (es : List Entry) (n : Name) (at : ℕ) : Type 0 where
  pub within : at < length es
  pub bound : IsLowerBound es (rank_of n) at
  pub same : (e : Entry) → slice_get es at ≡ Some e → rank_of e.name ≡ rank_of n

-- where so many words of an entry's body begin among all words, from one of an index on
abbrev pub start_in : Option Entry → ℕ → ℕ → Option ℕ
start_in None i count = None
start_in (Some e) i count = if nat_le (i + count) (WORDS_IN_BLOCK * e.blocks) then Some (WORDS_IN_BLOCK * e.first + i) else None

-- an entry put where its name belongs
abbrev pub inserted : List Entry → Entry → List Entry
inserted [] e = e ∷ []
inserted (f ∷ fs) e = if nat_lt (rank_of f.name) (rank_of e.name) then f ∷ inserted fs e else e ∷ f ∷ fs

-- whether an entry is settled is said anew where its name is one of these
abbrev pub settled_where : List Name → Bool → Entry → Entry
settled_where ns value e = record e { settled = if has ns e.name then value else e.settled }

-- an entry under the new name of its body's object
abbrev pub renamed_entry : List Name → Entry → Entry
renamed_entry ns e = record e { name = renewed_name ns e.name }

-- an entry is settled
abbrev pub is_settled : Entry → Bool
is_settled e = e.settled

-- Bodies are kept by these entries: in order, apart, in blocks that are taken, and with words that were written. There is room for an entry
-- a block and for all words.
pub record AreBodies (entries : List Entry) (room : ℕ) (blocks : List Bool) (words : List ℕ) (words_room : ℕ) : Type 0 where
  pub few : length blocks ≤ 65536
  pub sorted : AreSorted entries
  pub within : AreWithin (length blocks) entries
  pub taken : AreTaken blocks entries
  pub written : AllByRecursion (λ e. WORDS_IN_BLOCK * (e.first + e.blocks) ≤ length words) entries
  pub roomy : length blocks ≤ room
  pub roomy_words : WORDS_IN_BLOCK * length blocks ≤ words_room
  pub fits : length words ≤ WORDS_IN_BLOCK * length blocks

-- blocks from one on are zeros now, and words before and behind them are as they were
pub record ClearsBlocks (old new : List ℕ) (first blocks : ℕ) : Type 0 where
  pub longer : length old ≤ length new
  pub reaches : WORDS_IN_BLOCK * (first + blocks) ≤ length new
  pub fits : (length new ≤ length old) ⊎ (length new ≤ WORDS_IN_BLOCK * (first + blocks))
  pub zeros : (i : ℕ) (d : ℕ) → i < WORDS_IN_BLOCK * blocks → slice_index_or new (WORDS_IN_BLOCK * first + i) d ≡ 0
  pub others : (i : ℕ) (d : ℕ) → i < length old → (i < WORDS_IN_BLOCK * first) ⊎ (WORDS_IN_BLOCK * (first + blocks) ≤ i) → slice_index_or new i d ≡ slice_index_or old i d

-- The bodies of large objects, each in a run of blocks.
use Rattle.std.specs.Prelude.{◌≡◌, ℕ, ◌+◌, ◌*◌, ◌^◌, ◌<◌, ◌≤◌, ◌&&◌, ◌||◌, not, nat_le, nat_lt, Bool, true, false, Option, Some, None, List, [], ◌∷◌, ◌++◌, if◌then◌else◌, IsTrue, length, take, drop, map, filter, replicate, slice_get}
use Rattle.std.specs.List.{AllByRecursion, list_any}
use Rattle.lxr_layout.specs.declared.Name.{Name}
use Rattle.lxr_layout.specs.declared.TheConstants.{WORDS_IN_BLOCK}
use Rattle.lxr_graph.specs.declared.report.Count.{Count}
use Rattle.lxr_graph.specs.Names.{has, same_name}
use Rattle.lxr_graph.specs.History.{PauseReport}
use Rattle.lxr_graph.specs.Renewing.{renewed_name}
use Rattle.lxr_large_model.specs.Renewing.{counted_name}

-- the body of a large name: its first block and how many it has, whether it was placed since the last pause, and its words
pub record Body : Type 0 where
  pub name : Name
  pub first : ℕ
  pub blocks : ℕ
  pub young : Bool
  pub words : List ℕ

-- bodies in so many blocks, in order of names
pub record Held : Type 0 where
  pub blocks : ℕ
  pub bodies : List Body

-- no body yet
abbrev pub no_bodies : ℕ → Held
no_bodies blocks = record { blocks = blocks; bodies = [] }

-- the body of a name
abbrev pub body_of : List Body → Name → Option Body
body_of [] n = None
body_of (b ∷ bs) n = if same_name n b.name then Some b else body_of bs n

-- how many blocks a body has, where there is one
abbrev pub blocks_in : Option Body → ℕ
blocks_in None = 0
blocks_in (Some b) = b.blocks

-- how many blocks these bodies have
abbrev pub blocks_held : List Body → ℕ
blocks_held [] = 0
blocks_held (b ∷ bs) = b.blocks + blocks_held bs

-- a body has a block
abbrev pub takes : ℕ → Body → Bool
takes k b = nat_le b.first k && nat_lt k (b.first + b.blocks)

-- so many blocks from one on are blocks of the heap, and no body has one of them
pub record IsFreeRun (held : Held) (first blocks : ℕ) : Type 0 where
  pub within : first + blocks ≤ held.blocks
  pub free : (k : ℕ) → first ≤ k → k < first + blocks → list_any (takes k) held.bodies ≡ false

-- ---- placing

-- the thread and the serial of a name as one number, in the order of names
abbrev pub rank_of : Name → ℕ
rank_of n = n.serial + 2 ^ 32 * n.thread

-- a new body: zeros
abbrev pub fresh : Name → ℕ → ℕ → Body
fresh n first blocks = record { name = n; first = first; blocks = blocks; young = true; words = replicate (WORDS_IN_BLOCK * blocks) 0 }

-- a body joins the others, in order of names
abbrev pub with_placed : List Body → Body → List Body
with_placed [] b = b ∷ []
with_placed (c ∷ cs) b = if nat_lt (rank_of c.name) (rank_of b.name) then c ∷ with_placed cs b else b ∷ c ∷ cs

-- ---- words

-- so many words from one of an index on, where the body has them
abbrev pub range_in : Option Body → ℕ → ℕ → Option (List ℕ)
range_in None i count = None
range_in (Some b) i count = if nat_le (i + count) (WORDS_IN_BLOCK * b.blocks) then Some (take count (drop i b.words)) else None

-- such words of the body of a name
abbrev pub range_at : List Body → Name → ℕ → ℕ → Option (List ℕ)
range_at bs n i count = range_in (body_of bs n) i count

-- a word of a body
abbrev pub word_in : Option Body → ℕ → Option ℕ
word_in None i = None
word_in (Some b) i = slice_get b.words i

-- a word of the body of a name
abbrev pub word_at : List Body → Name → ℕ → Option ℕ
word_at bs n i = word_in (body_of bs n) i

-- a body whose words are changed where it is that of a name
abbrev pub changed_at : Name → (List ℕ → List ℕ) → Body → Body
changed_at n change b = if same_name n b.name then (record b { words = change b.words }) else b

-- the bodies with the words of a name's changed
abbrev pub with_words : List Body → Name → (List ℕ → List ℕ) → List Body
with_words bs n change = map (changed_at n change) bs

-- words with others written over them, from an index on
abbrev pub overwritten : ℕ → List ℕ → List ℕ → List ℕ
overwritten i more words = take i words ++ (more ++ drop (i + length more) words)

-- ---- pauses

-- what a pause leaves of a body: it stays where its name is neither dead nor swept, and a young one only where it is promoted
abbrev pub stays : PauseReport → Body → Bool
stays r b = not (has r.swept b.name) && (not (has r.dead b.name) && (has r.promoted b.name || not b.young))

-- a body that has stayed through a pause isn't young
abbrev pub settled : Body → Body
settled b = record b { young = false }

-- the bodies that a pause leaves
abbrev pub left_by : PauseReport → List Body → List Body
left_by r bs = map settled (filter (stays r) bs)

-- ---- names

-- a body under the new name of its object, where these names are renewed
abbrev pub renamed : List Name → Body → Body
renamed ns b = record b { name = renewed_name ns b.name }

-- each body is that of one of the names that are counted
abbrev pub AreAmong : List Count → List Body → Type 0
AreAmong counts bs = AllByRecursion (λ (b : Body). IsTrue (has (map counted_name counts) b.name)) bs

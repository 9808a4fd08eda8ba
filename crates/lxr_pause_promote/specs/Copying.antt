-- One new object copied.
use Rattle.std.specs.Prelude.{◌≡◌, ◌≢◌, ℕ, ◌+◌, ◌-◌, ◌/◌, ◌≤◌, nat_eq, if◌then◌else◌}
use Rattle.lxr_layout.specs.declared.TheConstants.{WORDS_IN_BLOCK}
use Rattle.lxr_layout.specs.declared.Name.{Name}
use Rattle.lxr_layout.specs.declared.Place.{Place}
use Rattle.lxr_layout.specs.declared.Shape.{Shape}
use Rattle.lxr_layout.specs.Objects.{moved_word, word_count}
use Rattle.lxr_layout.specs.Places.{first_word}
use Rattle.lxr_image.specs.declared.space.Space.{Space}
use Rattle.lxr_image.specs.Tables.{Tables}
use Rattle.lxr_image.specs.Spaces.{IsSpace, Turns, tables_of}
use Rattle.lxr_image.specs.Reads.{StandsWhole, granule_of}
use Rattle.lxr_blocks.specs.Handing.{is_between}
use Rattle.lxr_blocks.specs.Kept.{IsAmong, KeepsGranules}
use Rattle.lxr_blocks.specs.Placing.{IsPlaced, IsRest, granule_count}

-- an object of this name and shape stands at a place
pub record StandsAt (s : Space) (p : Place) (n : Name) (shape : Shape) : Type 0 where
  pub space : IsSpace s
  pub placed : 1 ≤ p.0
  pub whole : StandsWhole (tables_of s) s.limits.blocks (granule_of p.0) n shape

-- some object does
abbrev pub HasObjectAt : Space → Place → Type 0
HasObjectAt s p = (n : Name) × (shape : Shape) × StandsAt s p n shape

-- and nothing may be placed on it: its granules are kept
pub record StandsKept (s : Space) (p : Place) (n : Name) (shape : Shape) : Type 0 where
  pub stands : StandsAt s p n shape
  pub rest : IsRest s
  pub kept : KeepsGranules s (IsAmong (granule_of p.0) (granule_count shape))

-- some object does
abbrev pub HasKeptAt : Space → Place → Type 0
HasKeptAt s p = (n : Name) × (shape : Shape) × StandsKept s p n shape

-- so many words in a row lie in one block, and the first isn't 0
pub record IsUsedRow (t : Tables) (first words : ℕ) : Type 0 where
  pub some : t.heap first ≢ 0
  pub in_block : first / WORDS_IN_BLOCK ≡ (first + words - 1) / WORDS_IN_BLOCK

-- the tables with so many words from one on written from another on too, but for the first of them
abbrev pub with_words : Tables → ℕ → ℕ → ℕ → Tables
with_words t from to words = record t { heap = λ w. if is_between (to + 1) (to + words) w then t.heap (from + (w - to)) else t.heap w }

-- the tables with the references and the data of the object at place p written to place q too, which its header tells already, and
-- with the word at p that tells where it stands now
abbrev pub with_copy : Tables → ℕ → ℕ → Shape → Tables
with_copy t p q shape = record t {
  heap = λ w. if nat_eq w (first_word p) then moved_word q
      else (if is_between (first_word q + 1) (first_word q + word_count shape) w then t.heap (first_word p + (w - first_word q)) else t.heap w);
}

-- n's object of a shape at place p is copied to place q, where it was placed as any object is, and p tells where it stands now
pub record Evacuates (before after : Space) (p q : Place) (n : Name) (shape : Shape) : Type 0 where
  pub middle : Space
  pub placed : IsPlaced before middle n shape q
  pub turns : Turns middle after (with_copy (tables_of middle) p.0 q.0 shape)

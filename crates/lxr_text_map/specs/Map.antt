-- The text of a heap: a line for each block, and then a line for each object, in order of places.
use Rattle.std.specs.Prelude.{ℕ, ◌+◌, ◌*◌, List, [], ◌∷◌, ◌++◌, codes, decimal, if◌then◌else◌}
use Rattle.lxr_layout.specs.declared.Header.{Header}
use Rattle.lxr_layout.specs.declared.Header.TheVariants.{Object, Moved}
use Rattle.lxr_layout.specs.declared.TheConstants.{GRANULES_IN_BLOCK}
use Rattle.lxr_layout.specs.Objects.{header_of}
use Rattle.lxr_image.specs.declared.space.Space.{Space}
use Rattle.lxr_image.specs.Reads.{StartsStandWhole}
use Rattle.lxr_image.specs.Spaces.{IsSpace, tables_of}
use Rattle.lxr_image.specs.Tables.{Tables}
use Rattle.lxr_blocks.specs.declared.states.BlockState.{BlockState}
use Rattle.lxr_blocks.specs.declared.states.BlockState.TheVariants.{Chosen, Free, Partly, Whole, World}
use Rattle.lxr_blocks.specs.Listing.{joined}
use Rattle.lxr_blocks.specs.States.{state_in}
use Rattle.lxr_invariant.specs.Lines.{NoneChosen}
use Rattle.lxr_evac_blocks.specs.Choosing.{taken_count}
use Rattle.lxr_text_print.specs.Lines.{line, name_text}

-- the word of a block's state; a heap with Chosen blocks isn't printed
abbrev pub state_word : BlockState → List ℕ
state_word Free = codes "free"
state_word Partly = codes "partly"
state_word Whole = codes "whole"
state_word Chosen = []
state_word World = codes "world"

-- the line of a block: its number, its state, and how many of its lines aren't free
unfoldable pub block_line : ℕ → BlockState → ℕ → List ℕ
block_line b state taken = line (codes "block" ∷ decimal b ∷ state_word state ∷ decimal taken ∷ [])

-- the line of a block of these tables
abbrev pub block_text : Tables → ℕ → List ℕ
block_text t b = block_line b (state_in t b) (taken_count t b)

-- the line of an object with this header: its place, its name, and how many references and data words it has; a moved object has none
unfoldable pub object_line : ℕ → Header → List ℕ
object_line place (Object name shape) = line (codes "object" ∷ decimal place ∷ name_text name ∷ decimal shape.refs ∷ decimal shape.values ∷ [])
object_line place (Moved to) = []

-- the line of the object that begins at a granule, where one does; places count from 1, granules from 0
abbrev pub granule_text : Tables → ℕ → List ℕ
granule_text t g = if t.starts g then object_line (g + 1) (header_of (t.heap (2 * g))) else []

-- the lines of the first so many blocks
abbrev pub blocks_text : Tables → ℕ → List ℕ
blocks_text t blocks = joined (block_text t) blocks

-- the lines of the objects that begin at the first so many granules
abbrev pub objects_text : Tables → ℕ → List ℕ
objects_text t granules = joined (granule_text t) granules

-- the text of a heap
abbrev pub map_text : Space → List ℕ
map_text s = blocks_text (tables_of s) s.limits.blocks ++ objects_text (tables_of s) (GRANULES_IN_BLOCK * s.limits.blocks)

-- a heap that can be printed: each start bit stands at the header of an object that lies whole in one block, and no block is Chosen
pub record CanBeMapped (s : Space) : Type 0 where
  pub space : IsSpace s
  pub starts : StartsStandWhole (tables_of s) s.limits.blocks
  pub none_chosen : NoneChosen (tables_of s) s.limits.blocks

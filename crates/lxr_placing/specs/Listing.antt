-- What is listed anew between epochs.
use Rattle.std.specs.Prelude.{◌≡◌, ℕ, nat_lt, if◌then◌else◌}
use Rattle.lxr_layout.specs.declared.limits.Limits.{Limits}
use Rattle.lxr_image.specs.declared.space.Space.{Space}
use Rattle.lxr_image.specs.Opened.{IsOpened}
use Rattle.lxr_image.specs.Spaces.{IsSpace, tables_of}
use Rattle.lxr_blocks.specs.InTurn.{ListsInTurn, round_from}
use Rattle.lxr_blocks.specs.Listing.{TurnsWithRest, listed_frees, listed_runs, with_lists}
use Rattle.lxr_invariant.specs.Listed.{IsListedWhole}
use Rattle.lxr_placing.specs.declared.listing.ToList.{ToList}
use Rattle.lxr_placing.specs.declared.listing.ToList.TheVariants.{All, InTurn}

-- The tables have the runs of all Partly and World blocks, each as long as can be, and the numbers of all Free blocks, both in
-- order, and nothing is drawn of them yet. Nothing is left of the lines that were placed on last, and nothing else has changed.
abbrev pub ListsAll : Space → Space → Type 0
ListsAll before after =
    let blocks = before.limits.blocks in
    let t = tables_of before in
    TurnsWithRest before after (with_lists t (listed_runs t blocks) (listed_frees t blocks)) 0 0

-- a block of the heap; the first one stands for one that it hasn't
abbrev pub block_or_first : ℕ → ℕ → ℕ
block_or_first blocks block = if nat_lt block blocks then block else 0

-- The tables have runs of blocks from one on and round the heap, at most so many, and all Free blocks; and the next listing begins at the block behind
-- the last one that was passed.
abbrev pub ListsSome : ℕ → ℕ → Space → Space → ℕ → Type 0
ListsSome from most before after next =
    let first = block_or_first before.limits.blocks from in
    (many : ℕ) × ListsInTurn first most many before after × (next ≡ round_from before.limits.blocks first many)

-- a listing of the runs that are to be listed, and those that are to be listed at the next one
abbrev pub Lists : ToList → Space → Space → ToList → Type 0
Lists All before after next = ListsAll before after × (next ≡ All)
Lists (InTurn most from) before after next = (block : ℕ) × ListsSome from most before after block × (next ≡ InTurn most block)

-- each opened space is listed, so that listing it would change nothing
abbrev pub OpenedIsListed : Type 0
OpenedIsListed = (space : Space) (limits : Limits) → IsSpace space → IsOpened space limits → IsListedWhole space × ListsAll space space

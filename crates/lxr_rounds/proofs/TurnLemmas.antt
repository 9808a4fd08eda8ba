-- Listings in turn are turns.
use Rattle.std.proofs.Common.{◌≡◌, ℕ, ◌<◌, ◌∙◌, ap, subst, sym, arith, true, false}
use Rattle.std.proofs.lemmas.Bool.Decides.{nat_tests}
use Rattle.std.specs.Prelude.{nat_lt, if◌then◌else◌}
use Rattle.lxr_image.specs.declared.space.Space.{Space}
use Rattle.lxr_blocks.specs.InTurn.{ListsInTurn, round_from}
use Rattle.lxr_blocks.proofs.RoundLemmas.{round_within}
use Rattle.lxr_placing.specs.declared.listing.ToList.{ToList}
use Rattle.lxr_placing.specs.declared.listing.ToList.TheVariants.{All, InTurn}
use Rattle.lxr_placing.specs.Listing.{block_or_first}
use Rattle.lxr_rounds.specs.Turns.{ListingsAreTurns}

-- the block that a listing in turn begins at
abbrev begins_at : ToList → ℕ
begins_at All = 0
begins_at (InTurn most from) = from

same_block : (blocks from : ℕ) → from < blocks → block_or_first blocks from ≡ from
same_block blocks from within = ap (λ b. if b then from else 0) (let e : nat_lt from blocks ≡ true = grind (arith, nat_tests) in e)

pub listings_are_turns : ListingsAreTurns
listings_are_turns most from next before after within (block, (many, lists, is), same) =
    let first = same_block before.limits.blocks from within in
    let turn : ListsInTurn from most many before after = subst (λ b. ListsInTurn b most many before after) first lists in
    let once = turn.once in
    let goes_on : next ≡ round_from before.limits.blocks from many = ap begins_at same ∙ is ∙ ap (λ b. round_from before.limits.blocks b many) first in (
      subst (λ b. b < before.limits.blocks) (sym goes_on) (round_within before.limits.blocks from many within once),
      (
        many,
        record {
          begins = within;
          once = once;
          full = turn.full;
          goes_on = goes_on;
        },
      ),
    )

use Rattle.std.proofs.Common.{◌*◌, ◌%◌, ◌^◌, ◌∙◌}
use Rattle.std.specs.Int.{bit_at}
use Rattle.std.specs.Int.Bits.{bit_or}
use Rattle.lxr_tables.proofs.BitLemmas.{joined_above, joined_below}
use Rattle.lxr_blocks.proofs.masks.joined.Goals as goal

pub returns-clause-below : goal.returns-clause-below
returns-clause-below c i within =
    (λ j. bit_at (bit_or (c.from.ensures j * 2 ^ 64 % 2 ^ 128) (c.from-2.ensures j)) i) ∙ joined_below c.args.high c.args.low i c.ranges.high.fits c.ranges.low.fits within

pub returns-clause-above : goal.returns-clause-above
returns-clause-above c i behind =
    (λ j. bit_at (bit_or (c.from.ensures j * 2 ^ 64 % 2 ^ 128) (c.from-2.ensures j)) i) ∙ joined_above c.args.high c.args.low i c.ranges.high.fits c.ranges.low.fits behind

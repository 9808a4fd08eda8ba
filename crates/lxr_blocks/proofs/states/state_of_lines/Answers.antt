use Rattle.lxr_blocks.proofs.MaskLemmas.{empty_mask, full_mask, part_mask}
use Rattle.lxr_blocks.proofs.states.state_of_lines.Goals as goal

pub returns-then-free-eq340282366920938463463374607431768211455 : goal.returns-then-free-eq340282366920938463463374607431768211455
returns-then-free-eq340282366920938463463374607431768211455 c t b is = full_mask t b c.args.free c.if-free-eq340282366920938463463374607431768211455.true is

pub returns-then-free-eq0 : goal.returns-then-free-eq0
returns-then-free-eq0 c t b is = empty_mask t b c.args.free c.if-free-eq0.true is

pub returns : goal.returns
returns c t b is = part_mask t b c.args.free c.ranges.free.fits c.if-free-eq340282366920938463463374607431768211455.false c.if-free-eq0.false is

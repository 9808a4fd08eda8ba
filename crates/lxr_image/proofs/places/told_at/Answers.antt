use Rattle.std.proofs.Common.{inl, inr, arith}
use Rattle.lxr_image.proofs.PlaceLemmas.{counts_written, lines_stay, misses_counts, misses_outs, misses_starts, misses_states}
use Rattle.lxr_image.proofs.places.told_at.Goals as goal

pub returns-then-at-counts : goal.returns-then-at-counts
returns-then-at-counts c words value =
    let blocks = c.args.blocks in
    let at = c.args.at in
    let below = c.if-at-counts.true in
    lines_stay blocks words at value (misses_counts blocks at (inl (omega (arith, below)))) (misses_starts blocks at (inl (omega (arith, below)))) (misses_outs blocks at (inl (omega (arith, below))))
    (misses_states blocks at (inl (omega (arith, below))))

pub returns-then-at-starts : goal.returns-then-at-starts
returns-then-at-starts c words value =
    let below = c.if-at-starts.true in
    let from = c.if-at-counts.false in
    counts_written c.args.blocks words c.args.at value (omega (arith, from)) (omega (arith, below))

pub returns-then-at-outs : goal.returns-then-at-outs
returns-then-at-outs c words value =
    let blocks = c.args.blocks in
    let at = c.args.at in
    let from = c.if-at-marks.false in
    let apart = c.then-at-outs.either in
    lines_stay blocks words at value (misses_counts blocks at (inr (omega (arith, from)))) (misses_starts blocks at (inr (omega (arith, from))))
    (misses_outs blocks at (elim apart [ inl before ↦ inl (omega (arith, before)) | inr past ↦ inr (omega (arith, past)) ]))
    (misses_states blocks at (elim apart [ inl before ↦ inl (omega (arith, before)) | inr past ↦ inr (omega (arith, past)) ]))

-- How many objects the pauses of a run have moved and kept: each at most as many as the heap has granules, so that the numbers fit.
use Rattle.std.proofs.Common.{◌≡◌, ℕ, ◌+◌, ◌*◌, ◌^◌, ◌<◌, ◌≤◌, sym, subst, arith}
use Rattle.std.proofs.Math.Nat.{mul-add}
use Rattle.std.proofs.lemmas.Nat.{mul-le}
use Rattle.lxr_layout.specs.declared.limits.Limits.{Limits}
use Rattle.lxr_layout.specs.declared.TheConstants.{GRANULES_IN_BLOCK, MOST_BLOCKS}
use Rattle.lxr_image.specs.declared.space.Space.{Space}
use Rattle.lxr_rounds_invariant.specs.LoopInvariant.{HasEvacuatedFew}

-- at the opening there are none
pub none_evacuated : (s : Space) → s.tally.moved ≡ 0 → s.tally.kept ≡ 0 → HasEvacuatedFew s
none_evacuated s moved kept =
    subst (λ n. n + s.tally.kept ≤ GRANULES_IN_BLOCK * s.limits.blocks * s.pauses) (sym moved)
    (subst (λ n. 0 + n ≤ GRANULES_IN_BLOCK * s.limits.blocks * s.pauses) (sym kept) (omega arith))

-- where these numbers stay, and so do the limits and the pauses, they are still few
pub evacuated_still : (s u : Space) → u.tally.moved ≡ s.tally.moved → u.tally.kept ≡ s.tally.kept → u.limits ≡ s.limits → u.pauses ≡ s.pauses → HasEvacuatedFew s → HasEvacuatedFew u
evacuated_still s u moved kept limits pauses few =
    subst (λ (l : Limits). u.tally.moved + u.tally.kept ≤ GRANULES_IN_BLOCK * l.blocks * u.pauses) (sym limits)
    (subst (λ n. u.tally.moved + u.tally.kept ≤ GRANULES_IN_BLOCK * s.limits.blocks * n) (sym pauses)
    (subst (λ n. n + u.tally.kept ≤ GRANULES_IN_BLOCK * s.limits.blocks * s.pauses) (sym moved)
    (subst (λ n. s.tally.moved + n ≤ GRANULES_IN_BLOCK * s.limits.blocks * s.pauses) (sym kept) few)))

-- a pause moves and keeps no more together than the heap has granules
pub evacuated_more : (granules pauses moved kept more stay : ℕ) → moved + kept ≤ granules * pauses → more + stay ≤ granules → (moved + more) + (kept + stay) ≤ granules * (pauses + 1)
evacuated_more granules pauses moved kept more stay within few =
    let one = mul-add granules pauses 1 in
    let own : granules * 1 ≡ granules = omega arith in
    omega (arith, within, few, one, own)

-- so the numbers fit
pub moved_fits : (s : Space) → HasEvacuatedFew s → s.limits.blocks ≤ MOST_BLOCKS → s.pauses + 1 < 2 ^ 32 → (s.tally.moved < 2 ^ 63) × (s.tally.kept < 2 ^ 63)
moved_fits s few blocks pauses =
    let most = mul-le (GRANULES_IN_BLOCK * s.limits.blocks) s.pauses (GRANULES_IN_BLOCK * MOST_BLOCKS) (2 ^ 32) (omega arith) (omega arith) in
    (omega (arith, few, most), omega (arith, few, most))

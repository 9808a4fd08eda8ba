use Rattle.std.proofs.Common.{◌≡◌, ◌+◌, ◌-◌, ◌%◌, ◌^◌, ◌<◌, ◌∙◌, ap, arith, rules, subst, sym}
use Rattle.std.specs.Int.{bit_at, trailing_zeros, w64, w128}
use Rattle.std.proofs.lemmas.Nat.Bits.{bit_at-zero}
use Rattle.lxr_blocks.proofs.HalvesLemmas.{IsRest, lower_place, lower_rest, upper_place, upper_rest}
use Rattle.lxr_blocks.proofs.masks.take_lowest.Goals as goal

pub returns-then-low-eq0 : goal.returns-then-low-eq0
returns-then-low-eq0 c =
    let none : c.args.bits % 2 ^ 64 ≡ 0 = sym c.low_half-low.ensures ∙ c.if-low-eq0.true in
    let rest = c.without_lowest.ensures in
    let left : IsRest w128 c.args.bits c.joined.result =
    upper_rest c.args.bits c.without_lowest.result c.joined.result c.ranges.bits.fits none (subst (λ h. IsRest w64 h c.without_lowest.result) c.high_half-high.ensures (rest.lowest, rest.others))
    (λ i within. c.joined.ensures.below i within ∙ bit_at-zero i) c.joined.ensures.above in
    record {
      place = ap (λ h. 64 + trailing_zeros w64 h) c.high_half-high.ensures ∙ sym (upper_place c.args.bits c.ranges.bits.fits none);
      within = search rules;
      lowest = left.0;
      others = left.1;
    }

pub returns : goal.returns
returns c =
    let ne = c.if-low-eq0.false in let low = c.low_half-low.ensures in
    let some : 0 < c.args.bits % 2 ^ 64 = omega arith in
    let rest = c.without_lowest-2.ensures in
    let left : IsRest w128 c.args.bits c.joined-2.result =
    lower_rest c.args.bits c.without_lowest-2.result c.joined-2.result c.ranges.bits.fits some (subst (λ h. IsRest w64 h c.without_lowest-2.result) low (rest.lowest, rest.others))
    c.joined-2.ensures.below (λ i behind. c.joined-2.ensures.above i behind ∙ ap (λ h. bit_at h (i - 64)) c.high_half-high.ensures) in
    record {
      place = ap (trailing_zeros w64) low ∙ sym (lower_place c.args.bits c.ranges.bits.fits some);
      within = search rules;
      lowest = left.0;
      others = left.1;
    }

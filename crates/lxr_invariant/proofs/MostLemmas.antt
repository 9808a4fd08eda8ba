-- How many references a trace may have remembered: what a pause adds at most in the largest heap, and the sum over the pauses so far.
use Rattle.std.proofs.Common.{◌≡◌, ℕ, ◌+◌, ◌*◌, ◌≤◌, arith, mul-le-mul, mul-le-mul_left, mul-le-mul_right}
use Rattle.lxr_layout.specs.declared.TheConstants.{MOST_WORDS}
use Rattle.lxr_layout.specs.declared.limits.Limits.{Limits}
use Rattle.lxr_layout.specs.Spaces.{AreLimits}
use Rattle.lxr_invariant.specs.Tracing.{most_remembered}

-- in any heap
pub most_any_heap : (l : Limits) → AreLimits l → most_remembered l ≤ 2 * MOST_WORDS
most_any_heap l are =
    let blocks = are.blocks.1 in
    let logs : l.threads * l.log ≤ 255 * 65536 = mul-le-mul are.threads.1 are.log.1 in
    omega (arith, blocks, logs)

-- the next pause adds no more than one part
pub part_more : (most before more number : ℕ) → before ≤ most * (number + 1) → more ≤ most → before + more ≤ most * (number + 1 + 1)
part_more most before more number few adds = let sum : most * (number + 1 + 1) ≡ most * (number + 1) + most = grind arith in omega (arith, few, adds, sum)

-- what stands after some pauses stands after more
pub parts_later : (most before number later : ℕ) → before ≤ most * (number + 1) → number ≤ later → before ≤ most * (later + 1)
parts_later most before number later few order = let more = mul-le-mul_left most (let next : number + 1 ≤ later + 1 = omega (arith, order) in next) in omega (arith, few, more)

-- and it is less than it would be by larger parts
pub parts_larger : (most larger before number : ℕ) → before ≤ most * (number + 1) → most ≤ larger → before ≤ larger * (number + 1)
parts_larger most larger before number few order = let more = mul-le-mul_right (number + 1) order in omega (arith, few, more)

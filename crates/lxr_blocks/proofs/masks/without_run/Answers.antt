use Rattle.std.proofs.Common.{◌≡◌, ℕ, ◌+◌, ◌-◌, ◌^◌, ◌∙◌, ap, arith, bit_and}
use Rattle.std.specs.Int.{bit_at, bit_not, w128}
use Rattle.lxr_blocks.proofs.LeftLemmas.{later_fewer, without_run_bits}
use Rattle.lxr_blocks.proofs.masks.without_run.Goals as goal

pub overflow_sub-result : goal.overflow_sub-result
overflow_sub-result c =
    let first = c.from-first.ensures in let lines = c.from.ensures in let within = c.requires in
    let fewer = later_fewer c.from-first.result (c.from-first.result + c.from.result) (omega arith) (omega arith) in
    let from = c.bits_from.ensures in let to = c.bits_from-2.ensures in omega arith

pub returns : goal.returns
returns c i within =
    let line : ℕ = c.args.run.line in
    let end : ℕ = line + c.args.run.lines in
    let from : c.bits_from.result ≡ 2 ^ 128 - 2 ^ line = c.bits_from.ensures ∙ ap (λ x. 2 ^ 128 - 2 ^ x) c.from-first.ensures in
    let to : c.bits_from-2.result ≡ 2 ^ 128 - 2 ^ end = c.bits_from-2.ensures ∙ (λ j. 2 ^ 128 - 2 ^ (c.from-first.ensures j + c.from.ensures j)) in
    (λ j. bit_at (bit_and c.args.mask (bit_not w128 (from j - to j))) i) ∙ without_run_bits c.args.mask line end i (omega arith) c.requires within

use Rattle.std.proofs.Common.{◌≡◌, ℕ, ◌+◌, ◌*◌, ◌<◌, ◌∙◌, ap, arith, false, sym}
use Rattle.std.specs.Prelude.{◌↔◌, ◌&&◌, IsTrue, not}
use Rattle.lxr_layout.specs.declared.TheConstants.{GRANULES_IN_LINE, LINES_IN_BLOCK}
use Rattle.lxr_image.specs.Spaces.{tables_of}
use Rattle.lxr_blocks.specs.Lines.{are_zero}
use Rattle.lxr_blocks.proofs.SkippingLemmas.{zero_told}
use Rattle.lxr_blocks.proofs.masks.is_free_line.Goals as goal

pub returns-then-not-has_out : goal.returns-then-not-has_out
returns-then-not-has_out c =
    let t = tables_of c.args.space.now in
    let n : ℕ = LINES_IN_BLOCK * c.args.block + c.args.line in
    let none : t.outs n ≡ false = sym c.has_out.ensures ∙ c.if-not-has_out.true in
    let place : (k : ℕ) → 2048 * c.args.block + 16 * c.args.line + k ≡ GRANULES_IN_LINE * n + k = λ k. omega arith in
    let told : IsTrue c.is_uncounted.result ↔ ((k : ℕ) → k < GRANULES_IN_LINE → t.counts (GRANULES_IN_LINE * n + k) ≡ 0) =
    ((λ is k h. sym (ap t.counts (place k)) ∙ c.is_uncounted.ensures.0 is k h), (λ each. c.is_uncounted.ensures.1 (λ k h. ap t.counts (place k) ∙ each k h))) in
    zero_told t.counts (GRANULES_IN_LINE * n) GRANULES_IN_LINE c.is_uncounted.result told ∙ sym (ap (λ o. not o && are_zero t.counts (GRANULES_IN_LINE * n) GRANULES_IN_LINE) none)

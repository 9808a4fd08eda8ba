use Rattle.std.proofs.Common.{ℕ, ◌∙◌, ap, subst}
use Rattle.std.specs.Int.{bit_not, w64}
use Rattle.std.specs.Int.Bits.{bit_and}
use Rattle.lxr_image.specs.Spaces.{Turns, replaced_bits, tables_of}
use Rattle.lxr_blocks.proofs.ClearingLemmas.{part_cleared}
use Rattle.lxr_blocks.proofs.clearing.clear_logs_in.Goals as goal

pub returns : goal.returns
returns c =
    let t = tables_of c.args.space.now in
    let word : ℕ = c.unlogged_word-word.result in
    subst (λ f. Turns c.args.space.now c.put_unlogged_word.new.self (record t { unlogged = f }))
    (λ j k. (ap (λ m. replaced_bits t.unlogged c.args.at (bit_and word (bit_not w64 m)) k) c.bits_between.ensures
    ∙ part_cleared t.unlogged c.args.at word c.args.from c.args.end k c.requires.range.0 c.requires.range.1 c.unlogged_word-word.ensures) j)
    c.put_unlogged_word.ensures

use Rattle.std.proofs.Common.{◌+◌, ◌*◌, ◌%◌, ◌^◌, subst, sym}
use Rattle.std.specs.Prelude.{◌↔◌, IsBitSet, IsTrue}
use Rattle.std.specs.Int.Bits.{bit_or}
use Rattle.lxr_layout.specs.declared.TheConstants.{LINES_IN_BLOCK}
use Rattle.lxr_image.specs.Spaces.{tables_of}
use Rattle.lxr_image.proofs.OutLemmas.{outs_joined}
use Rattle.lxr_image.proofs.space.Space.out_lines.Goals as goal

pub returns : goal.returns
returns c i within =
    let outs = (tables_of c.args.self.now).outs in
    subst (λ h. IsBitSet (bit_or (h * 2 ^ 64 % 2 ^ 128) c.from-2.result) i ↔ IsTrue (outs (LINES_IN_BLOCK * c.args.block + i))) (sym c.from.ensures)
    (subst (λ l. IsBitSet (bit_or (c.out_word-high.result * 2 ^ 64 % 2 ^ 128) l) i ↔ IsTrue (outs (LINES_IN_BLOCK * c.args.block + i))) (sym c.from-2.ensures)
    (outs_joined outs c.args.block c.out_word-high.result c.out_word-low.result i c.out_word-high.type_inv c.out_word-low.type_inv c.out_word-low.ensures c.out_word-high.ensures within))

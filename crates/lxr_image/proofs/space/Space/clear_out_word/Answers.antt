use Rattle.std.proofs.Common.{◌∙◌, ap}
use Rattle.lxr_image.specs.Spaces.{tables_of}
use Rattle.lxr_image.proofs.BitWordLemmas.{cleared_bits}
use Rattle.lxr_image.proofs.space.Space.clear_out_word.Goals as goal

pub returns : goal.returns
returns c =
    let t = tables_of c.args.self.now in
    record {
      tables = c.put_bit_word_in.ensures.tables ∙ ap (λ bits. record t { outs = bits }) (cleared_bits t.outs c.args.at);
      rest = c.put_bit_word_in.ensures.rest;
    }

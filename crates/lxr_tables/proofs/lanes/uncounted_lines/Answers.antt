use Rattle.std.proofs.Common.{◌+◌, ◌<◌, ◌^◌, ap, subst, sym, ◌∙◌}
use Rattle.std.specs.Prelude.{slice_index}
use Rattle.lxr_tables.proofs.LanesLemmas.{word_tells}
use Rattle.lxr_tables.proofs.lanes.uncounted_lines.Goals as goal

pub returns : goal.returns
returns g c i within =
    let words = g.W.Words.words_of c.args.words.now in
    let place = ap (λ f. slice_index words (f + i)) c.word_at-first.ensures in
    let bit = c.zero_words.ensures.told i within in
    let told = word_tells words c.args.base c.args.block i (subst (λ w. w < 2 ^ 64) place (c.zero_words.ensures.range i within)) c.requires within in
    ((λ set. told.0 (sym place ∙ bit.0 set)), (λ each. bit.1 (place ∙ told.1 each)))

use Rattle.std.proofs.Common.{◌+◌, ◌^◌, ◌<◌, ◌∙◌, ap, eqb-true, eq-eqb, subst, sym}
use Rattle.std.specs.Prelude.{slice_index}
use Rattle.lxr_tables.proofs.LanesLemmas.{word_tells}
use Rattle.lxr_tables.proofs.lanes.is_uncounted.Goals as goal

pub returns : goal.returns
returns g c =
    let words = g.W.Words.words_of c.args.words.now in
    let read = c.get.ensures ∙ ap (slice_index words) (c.word_at.ensures ∙ ap (λ f. f + c.args.line) c.word_at-first.ensures) in
    let told = word_tells words c.args.base c.args.block c.args.line (subst (λ w. w < 2 ^ 64) read c.get.type_inv) c.requires.block c.requires.line in
    ((λ is. told.0 (sym read ∙ eqb-true c.get.result 0 is)), (λ each. eq-eqb c.get.result 0 (read ∙ told.1 each)))

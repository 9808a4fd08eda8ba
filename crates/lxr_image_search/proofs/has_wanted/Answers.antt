use Rattle.lxr_image.specs.Spaces.{tables_of}
use Rattle.lxr_image_search.proofs.SearchLemmas.{none_of_word, none_seen}
use Rattle.lxr_image_search.proofs.has_wanted.Goals as goal

pub loop-at-preserved : goal.loop-at-preserved
loop-at-preserved c =
    let t = tables_of c.args.space.now in
    let word = c.wanted_word-seen.result in
    none_seen t c.args.wanted c.args.block c.loop-at.at c.loop-at.seen word c.loop-at.invariant (none_of_word t c.args.wanted c.loop-at.at word c.wanted_word-seen.ensures)

use Rattle.lxr_image.specs.Spaces.{tables_of}
use Rattle.lxr_image_search.proofs.SearchLemmas.{first_in_word, none_in_word}
use Rattle.lxr_image_search.proofs.next_in_word.Goals as goal

pub returns-then-rest-eq0-clause-none : goal.returns-then-rest-eq0-clause-none
returns-then-rest-eq0-clause-none c =
    none_in_word (tables_of c.args.space.now) c.args.wanted c.args.from c.wanted_word.result c.wanted_word.type_inv c.wanted_word.ensures c.if-rest-eq0.true

pub returns-clause-next : goal.returns-clause-next
returns-clause-next c = first_in_word (tables_of c.args.space.now) c.args.wanted c.args.from c.wanted_word.result c.wanted_word.type_inv c.wanted_word.ensures c.if-rest-eq0.false

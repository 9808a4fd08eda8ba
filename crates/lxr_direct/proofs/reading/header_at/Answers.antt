use Rattle.std.proofs.Common.{subst, sym, arith, rules}
use Rattle.lxr_image.specs.Spaces.{IsInUsedBlock}
use Rattle.lxr_direct.proofs.HeldLemmas.{has_object, header_used, is_place, object_words}
use Rattle.lxr_direct.proofs.reading.header_at.Goals as goal

pub word_of-at-requires : goal.word_of-at-requires
word_of-at-requires c = let (g, v, is) = c.requires.stands in is_place c.args.space.now g c.args.place v is.rests (has_object c.args.space.now g c.args.place v is c.requires.some)

pub used_word-requires-clause-at : goal.used_word-requires-clause-at
used_word-requires-clause-at c =
    let (g, v, is) = c.requires.stands in
    let words = object_words c.args.space.now g c.args.place v (has_object c.args.space.now g c.args.place v is c.requires.some) in
    let first = c.word_of-at.ensures in
    omega (arith, words, first)

pub used_word-requires-clause-used : goal.used_word-requires-clause-used
used_word-requires-clause-used c =
    let (g, v, is) = c.requires.stands in
    subst (IsInUsedBlock c.args.space.now) (sym c.word_of-at.ensures) (header_used c.args.space.now g c.args.place v is c.requires.some (search rules))

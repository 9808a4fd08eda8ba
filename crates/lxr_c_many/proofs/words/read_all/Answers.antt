use Rattle.std.proofs.Common.{arith, refl, length, ◌+◌}
use Rattle.lxr_large_model.specs.History.{large_state}
use Rattle.lxr_c_many.proofs.FieldLemmas.{fewer_words}
use Rattle.lxr_c_many.proofs.WordLemmas.{read_all, read_more, read_none}
use Rattle.lxr_c_many.proofs.words.read_all.Goals as goal

pub loop-i-init : goal.loop-i-init
loop-i-init c = λ h is has. read_none (large_state h) c.args.object.register c.args.first c.args.words.now

pub word_at-requires-clause-index : goal.word_at-requires-clause-index
word_at-requires-clause-index c = let there = c.requires.there in omega (arith, there)

pub loop-i-preserved : goal.loop-i-preserved
loop-i-preserved c = λ h is has.
    read_more (large_state h) c.args.object.register c.args.first c.args.words.now c.loop-i.i _ c.word_at.result c.loop-i.words has (c.loop-i.invariant h is has) (omega arith) refl
    (c.word_at.ensures h is (fewer_words (large_state h) c.args.object.register (c.args.first + length c.args.words.now) _ has (omega arith)))

pub returns : goal.returns
returns c = λ h is has. read_all (large_state h) c.args.object.register c.args.first c.loop-i.i c.args.words.now c.loop-i.words has (c.loop-i.invariant h is has) (omega arith)

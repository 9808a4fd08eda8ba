use Rattle.std.proofs.Common.{◌≡◌, ◌+◌, ◌*◌, ◌<◌, ◌≤◌, ◌∙◌, ap, arith, subst, sym}
use Rattle.lxr_image.specs.Spaces.{Turns, tables_of}
use Rattle.lxr_blocks.specs.ClearingAll.{with_clear, words_in_block}
use Rattle.lxr_blocks.proofs.ClearingAllLemmas.{clear_begin, clear_space, clear_then, in_words, words_all, words_more, words_none, words_within}
use Rattle.lxr_blocks.proofs.clearing_all.clear_block.Goals as goal

pub loop-at-init : goal.loop-at-init
loop-at-init c =
    let words = c.words_in_block-words.ensures in
    record {
      space = c.requires.space;
      turns = clear_begin c.args.space.now c.args.bits (in_words c.args.bits c.args.block (c.words_in_block-words.result * c.args.block))
          (λ k. ap (λ w. in_words c.args.bits c.args.block (w * c.args.block) k) words ∙ words_none c.args.bits c.args.block k);
    }

pub clear_word-requires : goal.clear_word-requires
clear_word-requires c =
    let words = c.words_in_block-words.ensures in
    let below : c.loop-at.at < words_in_block c.args.bits * c.args.block + words_in_block c.args.bits = subst (λ w. c.loop-at.at < w * c.args.block + w) words c.loop-at-test.true in
    record {
      space = c.loop-at.invariant.space;
      at = subst (λ s. c.loop-at.at < words_in_block c.args.bits * s.limits.blocks) (sym c.loop-at.invariant.turns.rest) (words_within c.args.bits c.args.block c.args.space.now.limits.blocks c.loop-at.at c.requires.block below);
    }

pub loop-at-preserved : goal.loop-at-preserved
loop-at-preserved c =
    let words = c.words_in_block-words.ensures in
    let from : words_in_block c.args.bits * c.args.block ≤ c.loop-at.at = subst (λ w. w * c.args.block ≤ c.loop-at.at) words c.loop-at.auto.at in
    record {
      space = clear_space c.loop-at.space c.clear_word.new.space c.args.bits _ c.loop-at.invariant.space c.clear_word.ensures;
      turns = clear_then c.args.space.now c.loop-at.space c.clear_word.new.space c.args.bits _ _ (in_words c.args.bits c.args.block (c.loop-at.at + 1)) (λ k x. words_more c.args.bits c.args.block c.loop-at.at k x from)
          c.loop-at.invariant.turns c.clear_word.ensures;
    }

pub returns : goal.returns
returns c =
    let words = c.words_in_block-words.ensures in
    let past = c.loop-at-test.false in
    let within = c.loop-at.auto.at-end in
    let end : c.loop-at.at ≡ words_in_block c.args.bits * c.args.block + words_in_block c.args.bits = subst (λ w. c.loop-at.at ≡ w * c.args.block + w) words (omega (arith, past, within)) in
    subst (λ g. Turns c.args.space.now c.loop-at.space (with_clear (tables_of c.args.space.now) c.args.bits g))
    (λ j k. (ap (λ z. in_words c.args.bits c.args.block z k) end ∙ words_all c.args.bits c.args.block k) j) c.loop-at.invariant.turns

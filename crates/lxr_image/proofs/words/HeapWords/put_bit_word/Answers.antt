use Rattle.std.proofs.Common.{◌≡◌, ◌+◌, ◌<◌, ◌∙◌, ap, subst, sym, length}
use Rattle.std.specs.Prelude.{slice_set}
use Rattle.lxr_image.specs.Spaces.{with_bit_word}
use Rattle.lxr_image.specs.Tables.{tables_in}
use Rattle.lxr_image.proofs.BitWordLemmas.{bit_word_written}
use Rattle.lxr_image.proofs.TableLaws.{bit_word_within}
use Rattle.lxr_image.proofs.WriteLemmas.{bit_word_known, size_is}
use Rattle.lxr_image.proofs.words.HeapWords.put_bit_word.Goals as goal

pub set-requires : goal.set-requires
set-requires c = subst (λ b. b + c.args.at < length c.self.inside.plain) (sym c.begin.ensures)
    (bit_word_within c.args.limits c.self.inside.plain c.args.table c.args.at (size_is c.args.limits c.self.inside.plain ∙ ap length c.self.view_is ∙ c.requires.size) c.requires.at)

-- one word of bits has changed
written : (c : goal.After-set) → tables_in c.args.limits c.set.new.self ≡ with_bit_word (tables_in c.args.limits c.self.inside.plain) c.args.table c.args.at c.args.value
written c = ap (tables_in c.args.limits) (c.set.ensures ∙ ap (λ b. slice_set c.self.inside.plain (b + c.args.at) c.args.value) c.begin.ensures)
    ∙ bit_word_written c.args.limits c.self.inside.plain c.args.table c.args.at c.args.value (size_is c.args.limits c.self.inside.plain ∙ ap length c.self.view_is ∙ c.requires.size) c.requires.at

pub invariant_of-self : goal.invariant_of-self
invariant_of-self c = bit_word_known c.self.inside.settled c.note_bit.new.self c.args.limits c.self.inside.plain c.set.new.self c.note_bit.ensures.blocks c.args.table c.block_of.result c.args.at c.args.value c.block_of.ensures c.note_bit.ensures.knows (written c) c.self.invariant

pub returns : goal.returns
returns c = written c ∙ ap (λ words. with_bit_word (tables_in c.args.limits words) c.args.table c.args.at c.args.value) c.self.view_is

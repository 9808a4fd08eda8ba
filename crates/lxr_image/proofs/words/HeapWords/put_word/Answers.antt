use Rattle.std.proofs.Common.{◌≡◌, ◌+◌, ◌<◌, ◌∙◌, ap, subst, sym, length}
use Rattle.std.specs.Prelude.{slice_set}
use Rattle.lxr_image.specs.Spaces.{with_word}
use Rattle.lxr_image.specs.Tables.{tables_in}
use Rattle.lxr_image.proofs.TableLaws.{word_within, word_written}
use Rattle.lxr_image.proofs.WriteLemmas.{size_is, word_known}
use Rattle.lxr_image.proofs.words.HeapWords.put_word.Goals as goal

pub set-requires : goal.set-requires
set-requires c = subst (λ b. b + c.args.index < length c.self.inside.plain) (sym c.begin.ensures)
    (word_within c.args.limits c.self.inside.plain c.args.table c.args.index (size_is c.args.limits c.self.inside.plain ∙ ap length c.self.view_is ∙ c.requires.size) c.requires.index)

-- one word of a table has changed
written : (c : goal.After-set) → tables_in c.args.limits c.set.new.self ≡ with_word (tables_in c.args.limits c.self.inside.plain) c.args.table c.args.index c.args.value
written c = ap (tables_in c.args.limits) (c.set.ensures ∙ ap (λ b. slice_set c.self.inside.plain (b + c.args.index) c.args.value) c.begin.ensures)
    ∙ word_written c.args.limits c.self.inside.plain c.args.table c.args.index c.args.value (size_is c.args.limits c.self.inside.plain ∙ ap length c.self.view_is ∙ c.requires.size) c.requires.index

pub invariant_of-self : goal.invariant_of-self
invariant_of-self c = word_known c.self.inside.settled c.note_word.new.self c.args.limits c.self.inside.plain c.set.new.self c.note_word.ensures.blocks c.args.table c.args.index c.args.value c.note_word.ensures.knows (written c) c.self.invariant

pub returns : goal.returns
returns c = written c ∙ ap (λ words. with_word (tables_in c.args.limits words) c.args.table c.args.index c.args.value) c.self.view_is

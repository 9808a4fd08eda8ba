use Rattle.std.proofs.Common.{◌≡◌, ◌∙◌, ap, subst, sym, length}
use Rattle.lxr_image.specs.Spaces.{with_word}
use Rattle.lxr_image.specs.Tables.{tables_in}
use Rattle.lxr_image.specs.declared.tables.WordTable.TheVariants as word
use Rattle.lxr_image.proofs.UsedLemmas.{heap_inside, heap_written}
use Rattle.lxr_image.proofs.WriteLemmas.{size_is, word_known}
use Rattle.lxr_tables.specs.Pages.{IsInUsedPage}
use Rattle.lxr_image.proofs.words.HeapWords.put_used.Goals as goal

pub set_used-requires-clause-within : goal.set_used-requires-clause-within
set_used-requires-clause-within c = heap_inside c.args.limits c.self.inside.plain c.args.at c.requires.at (size_is c.args.limits c.self.inside.plain ∙ ap length c.self.view_is ∙ c.requires.size)

pub set_used-requires-clause-used : goal.set_used-requires-clause-used
set_used-requires-clause-used c = subst (λ words. IsInUsedPage words c.args.at) (sym c.self.view_is) c.requires.used

-- one word of the heap has changed
written : (c : goal.After-set_used) → tables_in c.args.limits c.set_used.new.self ≡ with_word (tables_in c.args.limits c.self.inside.plain) word.Heap c.args.at c.args.value
written c = ap (tables_in c.args.limits) c.set_used.ensures
    ∙ heap_written c.args.limits c.self.inside.plain c.args.at c.requires.at c.args.value (size_is c.args.limits c.self.inside.plain ∙ ap length c.self.view_is ∙ c.requires.size)

pub invariant_of-self : goal.invariant_of-self
invariant_of-self c = word_known c.self.inside.settled c.note_word.new.self c.args.limits c.self.inside.plain c.set_used.new.self c.note_word.ensures.blocks word.Heap c.args.at c.args.value c.note_word.ensures.knows (written c) c.self.invariant

pub returns : goal.returns
returns c = written c ∙ ap (λ words. with_word (tables_in c.args.limits words) word.Heap c.args.at c.args.value) c.self.view_is

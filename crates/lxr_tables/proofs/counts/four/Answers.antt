use Rattle.std.proofs.Common.{◌∙◌, lit<}
use Rattle.lxr_layout.specs.declared.TheConstants.{COUNT_BITS}
use Rattle.lxr_tables.specs.declared.counts.TheConstants.{COUNTS_IN_WORD}
use Rattle.lxr_tables.proofs.EntryLemmas.{read_at}
use Rattle.lxr_tables.proofs.counts.four.Goals as goal

pub returns-clause-value : goal.returns-clause-value
returns-clause-value g c =
    c.count_in.ensures ∙ read_at COUNT_BITS COUNTS_IN_WORD c.args.base c.args.index (g.W.Words.words_of c.args.words.now) _ _ _ (lit< tt) c.requires c.word_at.ensures c.get-word.ensures c.shift_of.ensures

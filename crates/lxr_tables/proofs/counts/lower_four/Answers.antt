use Rattle.std.proofs.Common.{◌%◌, ◌∙◌, ap, sym, lit<, arith}
use Rattle.std.proofs.lemmas.List.{set-get_or}
use Rattle.std.specs.Prelude.{slice_set}
use Rattle.lxr_layout.specs.declared.TheConstants.{COUNT_BITS}
use Rattle.lxr_tables.specs.declared.counts.TheConstants.{COUNTS_IN_WORD}
use Rattle.lxr_tables.specs.Counts.{lowered_count, lowered_of}
use Rattle.lxr_tables.specs.Entries.{counts_from}
use Rattle.lxr_tables.proofs.EntryLemmas.{read_at, written_at}
use Rattle.lxr_tables.proofs.MaskLemmas.{count_below, lower_fits, lower_stuck, lower_written, lowered_below}
use Rattle.lxr_tables.proofs.counts.lower_four.Goals as goal

pub overflow_sub-word : goal.overflow_sub-word
overflow_sub-word g c =
    let entry = read_at COUNT_BITS COUNTS_IN_WORD c.args.base c.args.index (g.W.Words.words_of c.args.words.now) _ _ _ (lit< tt) c.requires.place c.word_at-at.ensures c.get-word.ensures c.shift_of-shift.ensures in
    lower_fits c.get-word.result c.shift_of-shift.result c.count_in-old.result c.from.result (omega arith) c.count_in-old.ensures (λ z. c.requires.counted (sym entry ∙ sym c.count_in-old.ensures ∙ z))
    (c.from.ensures ∙ c.from-fall.ensures)

pub what_became_of-requires : goal.what_became_of-requires
what_became_of-requires g c = λ z. c.requires.counted
    (sym (read_at COUNT_BITS COUNTS_IN_WORD c.args.base c.args.index (g.W.Words.words_of c.args.words.now) _ _ _ (lit< tt) c.requires.place c.word_at-at.ensures c.get-word.ensures c.shift_of-shift.ensures) ∙ sym c.count_in-old.ensures ∙ z)

pub returns-clause-answer : goal.returns-clause-answer
returns-clause-answer g c =
    c.what_became_of.ensures
    ∙ ap lowered_of (c.count_in-old.ensures ∙ read_at COUNT_BITS COUNTS_IN_WORD c.args.base c.args.index (g.W.Words.words_of c.args.words.now) _ _ _ (lit< tt) c.requires.place c.word_at-at.ensures c.get-word.ensures c.shift_of-shift.ensures)

pub returns-clause-table : goal.returns-clause-table
returns-clause-table g c =
    let entry = c.count_in-old.ensures ∙ read_at COUNT_BITS COUNTS_IN_WORD c.args.base c.args.index (g.W.Words.words_of c.args.words.now) _ _ _ (lit< tt) c.requires.place c.word_at-at.ensures c.get-word.ensures c.shift_of-shift.ensures in
    written_at COUNT_BITS COUNTS_IN_WORD c.args.base c.args.index _ _ _ _ _ (lowered_count c.count_in-old.result) (lit< tt) c.requires.place (lowered_below c.count_in-old.result (count_below c.get-word.result c.shift_of-shift.result c.count_in-old.result c.count_in-old.ensures))
    c.word_at-at.ensures c.get-word.ensures c.set.ensures
    (lower_written c.get-word.result (c.args.index % COUNTS_IN_WORD) c.shift_of-shift.result c.count_in-old.result c.from.result c.shift_of-shift.ensures (omega arith) c.count_in-old.ensures (λ z. c.requires.counted (sym entry ∙ z))
    (c.from.ensures ∙ c.from-fall.ensures))
    ∙ ap (λ n. slice_set (counts_from (g.W.Words.words_of c.args.words.now) c.args.base) c.args.index (lowered_count n)) entry

pub returns-clause-stuck : goal.returns-clause-stuck
returns-clause-stuck g c = λ stuck.
    let entry = c.count_in-old.ensures ∙ read_at COUNT_BITS COUNTS_IN_WORD c.args.base c.args.index (g.W.Words.words_of c.args.words.now) _ _ _ (lit< tt) c.requires.place c.word_at-at.ensures c.get-word.ensures c.shift_of-shift.ensures in
    c.set.ensures
    ∙ ap (slice_set (g.W.Words.words_of c.args.words.now) c.word_at-at.result) (lower_stuck c.get-word.result c.shift_of-shift.result c.count_in-old.result c.from.result (c.from.ensures ∙ c.from-fall.ensures) (entry ∙ stuck) ∙ c.get-word.ensures)
    ∙ set-get_or (g.W.Words.words_of c.args.words.now) c.word_at-at.result 0

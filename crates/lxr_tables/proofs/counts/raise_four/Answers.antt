use Rattle.std.proofs.Common.{◌+◌, ◌*◌, ◌%◌, ◌^◌, ◌<◌, ◌∙◌, subst, lit<, arith}
use Rattle.lxr_layout.specs.declared.TheConstants.{COUNT_BITS}
use Rattle.lxr_tables.specs.declared.counts.TheConstants.{COUNTS_IN_WORD}
use Rattle.lxr_tables.proofs.EntryLemmas.{IsWritten, read_at, written_at}
use Rattle.lxr_tables.proofs.MaskLemmas.{raise_below, raise_fits, raise_written}
use Rattle.lxr_tables.proofs.counts.raise_four.Goals as goal

pub overflow_add-word : goal.overflow_add-word
overflow_add-word g c =
    let fits : c.get-word.result + c.from.result * 2 ^ c.shift_of-shift.result % 2 ^ 64 < 2 ^ 64 =
    raise_fits c.get-word.result (c.args.index % COUNTS_IN_WORD) c.shift_of-shift.result c.count_in-old.result c.from.result c.get-word.type_inv c.shift_of-shift.ensures (omega arith) c.count_in-old.ensures
    (c.from.ensures ∙ c.from-rise.ensures) in
    omega arith

pub returns-clause-old : goal.returns-clause-old
returns-clause-old g c =
    c.count_in-old.ensures ∙ read_at COUNT_BITS COUNTS_IN_WORD c.args.base c.args.index (g.W.Words.words_of c.args.words.now) _ _ _ (lit< tt) c.requires c.word_at-at.ensures c.get-word.ensures c.shift_of-shift.ensures

pub returns-clause-table : goal.returns-clause-table
returns-clause-table g c =
    written_at COUNT_BITS COUNTS_IN_WORD c.args.base c.args.index _ _ _ _ _ _ (lit< tt) c.requires (raise_below c.get-word.result c.shift_of-shift.result c.count_in-old.result c.from-rise.result c.count_in-old.ensures c.from-rise.ensures)
    c.word_at-at.ensures c.get-word.ensures c.set.ensures
    (subst (λ d. IsWritten COUNT_BITS c.get-word.result (c.get-word.result + c.from.result * 2 ^ c.shift_of-shift.result % 2 ^ 64) (c.args.index % COUNTS_IN_WORD) (c.count_in-old.result + d)) c.from.ensures
    (raise_written c.get-word.result (c.args.index % COUNTS_IN_WORD) c.shift_of-shift.result c.count_in-old.result c.from.result c.shift_of-shift.ensures (omega arith) c.count_in-old.ensures (c.from.ensures ∙ c.from-rise.ensures)))

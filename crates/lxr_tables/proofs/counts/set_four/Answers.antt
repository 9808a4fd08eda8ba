use Rattle.std.proofs.Common.{◌%◌, lit<, arith}
use Rattle.lxr_layout.specs.declared.TheConstants.{COUNT_BITS}
use Rattle.lxr_tables.specs.declared.counts.TheConstants.{COUNTS_IN_WORD}
use Rattle.lxr_tables.proofs.EntryLemmas.{written_at}
use Rattle.lxr_tables.proofs.MaskLemmas.{set_written}
use Rattle.lxr_tables.proofs.counts.set_four.Goals as goal

pub returns-clause-table : goal.returns-clause-table
returns-clause-table g c =
    written_at COUNT_BITS COUNTS_IN_WORD c.args.base c.args.index _ _ _ _ _ c.args.value (lit< tt) c.requires.place (omega arith) c.word_at-at.ensures c.get-word.ensures c.set.ensures
    (set_written c.get-word.result (c.args.index % COUNTS_IN_WORD) c.shift_of-shift.result c.from.result c.from-2.result c.args.value c.get-word.type_inv c.shift_of-shift.ensures (omega arith) (omega arith)
    c.from.ensures c.from-2.ensures)

use Rattle.std.proofs.Common.{◌%◌, lit<, arith}
use Rattle.lxr_tables.proofs.EntryLemmas.{written_at}
use Rattle.lxr_tables.proofs.MaskLemmas.{bit_set}
use Rattle.lxr_tables.proofs.bits.set_bit.Goals as goal

pub returns-clause-table : goal.returns-clause-table
returns-clause-table g c =
    written_at 1 64 c.args.base c.args.index _ _ _ _ _ 1 (lit< tt) c.requires (lit< tt) c.word_at-at.ensures c.get-word.ensures c.set.ensures
    (bit_set c.get-word.result (c.args.index % 64) (omega arith))

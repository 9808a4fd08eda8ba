use Rattle.std.proofs.Common.{rules}
use Rattle.lxr_base.proofs.BitLemmas.{takes_lowest}
use Rattle.lxr_base.proofs.bits.take_bit.Goals as goal

pub returns-clause-taken : goal.returns-clause-taken
returns-clause-taken c = takes_lowest c.args.word.now (search rules) c.if-whole-eq0.false

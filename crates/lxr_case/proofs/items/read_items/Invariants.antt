use Rattle.std.proofs.Common.{length}
use Rattle.lxr_case.proofs.ItemLemmas.{ReadSoFar}
use Rattle.lxr_case.proofs.items.read_items.Given as goal

abbrev pub invariant-loop-rest : goal.invariant-loop-rest
invariant-loop-rest l = ReadSoFar l.threads l.text l.rest l.number l.items.items

abbrev pub decreases-loop-rest : goal.decreases-loop-rest
decreases-loop-rest l = length l.rest

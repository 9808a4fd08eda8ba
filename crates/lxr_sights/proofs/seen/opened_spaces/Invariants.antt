use Rattle.lxr_sights.proofs.CopyLemmas.{AreOpened}
use Rattle.lxr_sights.proofs.seen.opened_spaces.Given as goal

abbrev pub invariant-loop : goal.invariant-loop
invariant-loop l = AreOpened l.limits l.spaces l.counter l.count

use Rattle.std.proofs.Common.{◌≡◌, ◌++◌, take}
use Rattle.lxr_core.proofs.CollectingLemmas.{with_items}
use Rattle.lxr_core.proofs.closing.collect_entries.Given as goal

abbrev pub invariant-loop-at : goal.invariant-loop-at
invariant-loop-at l = l.entries ≡ with_items l.fn.entries (l.fn.entries.items ++ take l.at l.log.items)

use Rattle.lxr_barrier.specs.Unlogged.{HaveWords}
use Rattle.test_threads.proofs.stores.tests.storers.Given as goal

abbrev pub invariant-loop-number : goal.invariant-loop-number
invariant-loop-number l = HaveWords l.words l.all.items

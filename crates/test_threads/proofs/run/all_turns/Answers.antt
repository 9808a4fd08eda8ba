use Rattle.std.proofs.Common.{rules}
use Rattle.test_threads.proofs.Served.{same-map}
use Rattle.test_threads.proofs.run.all_turns.Goals as goal

pub returns-clause-numbers : goal.returns-clause-numbers
returns-clause-numbers g c = same-map (λ p. p.number) c.args.passes.now c.for_each_mut.new.s c.for_each_mut.auto.s (λ k d lt. let t = c.for_each_mut.ensures k d lt in search rules)

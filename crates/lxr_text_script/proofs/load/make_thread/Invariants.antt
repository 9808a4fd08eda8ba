use Rattle.std.proofs.Common.{◌≡◌, ◌-◌, ◌++◌}
use Rattle.lxr_text_script.specs.Load.{rounds}
use Rattle.lxr_text_script.proofs.load.make_thread.Given as goal

abbrev pub invariant-loop : goal.invariant-loop
invariant-loop l = l.operations.items ++ rounds (l.rounds - l.counter) l.thread l.generator.state ≡ rounds l.rounds l.thread l.initial.generator.state

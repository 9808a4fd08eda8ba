use Rattle.std.proofs.Common.{◌≡◌, ◌+◌, ◌-◌, ◌++◌, map}
use Rattle.lxr_text_script.specs.Load.{load, threads_from}
use Rattle.lxr_text_script.proofs.load.make_load.Given as goal

abbrev pub invariant-loop-made : goal.invariant-loop-made
invariant-loop-made l = map (λ operations. operations.items) l.lists.items ++ threads_from l.seed l.rounds (l.threads - l.made) (l.made + 1) ≡ load l.seed l.threads l.rounds

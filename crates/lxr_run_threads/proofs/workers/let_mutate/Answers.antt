use Rattle.std.proofs.Common.{◌∙◌}
use Rattle.lxr_run_threads.proofs.GateLemmas.{turn_passed}
use Rattle.lxr_run_threads.proofs.workers.let_mutate.Goals as goal

pub returns-clause-passed : goal.returns-clause-passed
returns-clause-passed g c = λ passes.
    let unit = c.mutate.ensures.unit in
    turn_passed (g.G.Gate.passed c.args.gate.now) unit.0 c.args.pass.now c.mutate.new.pass (λ m is. c.call_gate.ensures m (c.actor-2.ensures ∙ is)) unit.1 passes

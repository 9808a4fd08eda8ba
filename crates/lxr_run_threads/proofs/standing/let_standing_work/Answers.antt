use Rattle.std.proofs.Common.{◌<◌, All, arith, sym, subst, ap, map, ◌∙◌}
use Rattle.lxr_run_threads.specs.Standing.{IsStanding}
use Rattle.lxr_run_threads.specs.Working.{HaveWorked}
use Rattle.lxr_run_threads.specs.declared.standing.Standing.{Standing}
use Rattle.lxr_run_threads.proofs.StandingLemmas.{all_standing, first_passes, relayed}
use Rattle.lxr_run_threads.proofs.standing.let_standing_work.Goals as goal

pub relay-requires-clause-fit : goal.relay-requires-clause-fit
relay-requires-clause-fit g c κs within =
    let bound = c.max.ensures in
    let some : 0 < c.max.result = omega (arith, bound) in
    subst (All (IsStanding c.args.table.now c.max.result)) (sym c.stand_up.ensures) (all_standing c.args.table.now c.max.result c.args.passes.items c.requires.can some c.requires.passes)

pub returns-in-Ok-relay-clause-worked : goal.returns-in-Ok-relay-clause-worked
returns-in-Ok-relay-clause-worked g c =
    subst (HaveWorked c.args.table.now (g.G.Gate.passed c.args.gate.now) c.args.passes.items) (sym c.sit_down.ensures)
    (relayed c.args.table.now (g.G.Gate.passed c.args.gate.now) c.max.result c.args.passes.items c.stand_up.new.standing.items c.in-Ok-relay.standing.items c.stand_up.ensures c.requires.passes c.in-Ok-relay.ensures.relayed)

pub returns-in-Err-clause-refused : goal.returns-in-Err-clause-refused
returns-in-Err-clause-refused g c =
    c.sit_down-in-Err.ensures ∙ (ap (map (λ (s : Standing). s.pass)) (c.in-Err.ensures.relayed ∙ c.stand_up.ensures) ∙ first_passes c.args.passes.items)

use Rattle.std.proofs.Common.{◌≡◌, ◌∙◌, ◌+◌, ◌≤◌, arith, false, sym}
use Rattle.lxr_stations.specs.Stations.{is_mutator}
use Rattle.lxr_stations.proofs.UnitLemmas.{helps_less}
use Rattle.lxr_stations.proofs.station.Station.help.Goals as goal

pub returns-then-not-help_once-clause-units : goal.returns-then-not-help_once-clause-units
returns-then-not-help_once-clause-units c =
    let helper : is_mutator c.args.self.now.pass.actor ≡ false = cc in
    let none : c.help_once.result ≡ false = cc in
    let less : c.loop.counter + 1 ≤ c.args.units = (let before = c.loop-test.true in omega (arith, before)) in
    helps_less c.args.units c.loop.counter c.args.self.now.pass c.loop.self.pass c.help_once.new.self.pass helper less c.loop.invariant.0 c.help_once.ensures.unit (sym c.help_once.ensures.found ∙ none)

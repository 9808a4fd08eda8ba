use Rattle.std.proofs.Common.{◌≡◌, ◌∙◌, sym}
use Rattle.lxr_stations.proofs.ReplyLemmas.{none_came, one_came}
use Rattle.lxr_stations.proofs.station.Station.carry_out.Goals as goal

pub returns-then-done-clause-reply : goal.returns-then-done-clause-reply
returns-then-done-clause-reply c =
    let before = c.done-done.ensures in
    let after = c.done.ensures in
    let same : c.done.result ≡ c.done-done.result = cc in
    none_came c.args.self.now.pass c.unit_of.new.self.pass c.requires.open (c.unit_of.ensures.unit.0, c.unit_of.ensures.unit.2) (cc)

pub returns-else-done-clause-reply : goal.returns-else-done-clause-reply
returns-else-done-clause-reply c =
    let before = c.done-done.ensures in
    let after = c.done.ensures in
    one_came c.args.self.now.pass c.unit_of.new.self.pass c.newest.result c.requires.open (c.unit_of.ensures.unit.0, c.unit_of.ensures.unit.2) (λ same. c.if-done.false (after ∙ same ∙ sym before)) c.newest.ensures

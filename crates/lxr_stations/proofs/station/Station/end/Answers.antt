use Rattle.std.proofs.Common.{◌≡◌, inl, inr, true}
use Rattle.lxr_stations.specs.Stations.{HasTurned, IsOpen, is_mutator}
use Rattle.lxr_stations.proofs.ReplyLemmas.{asked_stays}
use Rattle.lxr_stations.proofs.station.Station.end.Goals as goal

pub returns-clause-ended : goal.returns-clause-ended
returns-clause-ended c =
    let turned : HasTurned c.args.self.now.pass c.turn.new.self.pass = (c.turn.ensures.unit.0, c.turn.ensures.unit.2) in
    let mutator : is_mutator c.args.self.now.pass.actor ≡ true = cc in
    let shut : ¬ IsOpen c.args.self.now.pass.actor = λ pending. (let yes = c.is_open.ensures.open.1 pending in absurd (cc)) in
    record {
      answer = c.has_ended-2.ensures;
      unit = λ is not_open. turned;
      else_none = λ other. elim other [ inl helper ↦ absurd (cc) | inr pending ↦ absurd (shut pending) ];
      asked = asked_stays c.args.self.now.pass c.turn.new.self.pass turned;
    }

use Rattle.std.proofs.Common.{◌≡◌, ◌∙◌, Some, None, true, false, sym, ap, subst}
use Rattle.std.specs.Arc.{arc_value}
use Rattle.lxr_actor.specs.declared.Event.TheVariants.{Order}
use Rattle.lxr_core.specs.Actors.{any_machine}
use Rattle.lxr_shared_passes.specs.Passing.{Told}
use Rattle.lxr_stations.specs.Stations.{IsNoOrder, Stationed, StaysPassOf, table_of}
use Rattle.lxr_stations.proofs.ReplyLemmas.{answered, next_ordered, opened, unanswered}
use Rattle.lxr_stations.proofs.StayingLemmas.{absent_on, ordered_stays, station_stays, stays_further, told_from}
use Rattle.lxr_stations.proofs.station.Station.operate.Goals as goal

pub returns-then-not-order_at-clause-answer : goal.returns-then-not-order_at-clause-answer
returns-then-not-order_at-clause-answer c =
    let is = ap (λ (s : Stationed). s.pass) c.self.view_is in
    let not : c.order_at.result ≡ false = cc in
    unanswered c.args.self.now.pass c.order_at.new.self c.args.op c.why_not.result (subst (λ p. any_machine.rests p.actor ≡ true) is c.self.invariant.pass.rests)
    (ap (λ b. (c.order_at.new.self.actor, b)) (sym not) ∙ c.order_at.ensures.answer ∙ ap (λ p. any_machine.ordered p.actor c.args.op) is)
    (subst (λ a. IsNoOrder a c.why_not.result) c.actor.ensures c.why_not.ensures)

pub carry_out-requires-clause-open : goal.carry_out-requires-clause-open
carry_out-requires-clause-open c =
    let taken : c.order_at.result ≡ true = cc in
    opened c.args.self.now.pass.actor c.order_at.new.self.actor c.args.op
    (ap (λ b. (c.order_at.new.self.actor, b)) (sym taken) ∙ c.order_at.ensures.answer ∙ ap (λ (s : Stationed). any_machine.ordered s.pass.actor c.args.op) c.self.view_is)
    c.is_open.ensures.no_more

pub carry_out-requires-clause-op : goal.carry_out-requires-clause-op
carry_out-requires-clause-op c =
    let taken : c.order_at.result ≡ true = cc in
    next_ordered c.args.self.now.pass.actor c.order_at.new.self.actor c.args.op
    (ap (λ b. (c.order_at.new.self.actor, b)) (sym taken) ∙ c.order_at.ensures.answer ∙ ap (λ (s : Stationed). any_machine.ordered s.pass.actor c.args.op) c.self.view_is)
    c.is_open.ensures.no_more

pub returns-in-Some-clause-answer : goal.returns-in-Some-clause-answer
returns-in-Some-clause-answer c =
    let is = ap (λ (s : Stationed). s.pass) c.self.view_is in
    let taken : c.order_at.result ≡ true = cc in
    answered c.args.self.now.pass c.order_at.new.self c.carry_out.new.self.pass c.args.op (Some c.in-Some.reply)
    (subst (λ p. Told any_machine p (Order p.number c.args.op) c.order_at.new.self) is c.order_at.ensures.event)
    (ap (λ b. (c.order_at.new.self.actor, b)) (sym taken) ∙ c.order_at.ensures.answer ∙ ap (λ p. any_machine.ordered p.actor c.args.op) is)
    c.is_open.ensures.no_more
    c.in-Some.ensures.reply

pub returns-in-None-clause-answer : goal.returns-in-None-clause-answer
returns-in-None-clause-answer c =
    let is = ap (λ (s : Stationed). s.pass) c.self.view_is in
    let taken : c.order_at.result ≡ true = cc in
    answered c.args.self.now.pass c.order_at.new.self c.carry_out.new.self.pass c.args.op None
    (subst (λ p. Told any_machine p (Order p.number c.args.op) c.order_at.new.self) is c.order_at.ensures.event)
    (ap (λ b. (c.order_at.new.self.actor, b)) (sym taken) ∙ c.order_at.ensures.answer ∙ ap (λ p. any_machine.ordered p.actor c.args.op) is)
    c.is_open.ensures.no_more
    c.in-None.ensures.reply

pub returns-then-not-order_at-clause-stays : goal.returns-then-not-order_at-clause-stays
returns-then-not-order_at-clause-stays c =
    let homes = (arc_value c.self.inside.shared).homes in
    let before : Stationed = record { pass = c.self.inside.pass; homes = homes } in
    let after : Stationed = record { pass = c.order_at.new.self; homes = homes } in
    subst (λ s. StaysPassOf s after) c.self.view_is
    (station_stays before c.order_at.new.self (ordered_stays c.self.inside.pass c.args.op c.order_at.result c.order_at.new.self c.order_at.ensures.event c.order_at.ensures.answer))

pub returns-in-Some-clause-stays : goal.returns-in-Some-clause-stays
returns-in-Some-clause-stays c =
    let homes = (arc_value c.self.inside.shared).homes in
    let before : Stationed = record { pass = c.self.inside.pass; homes = homes } in
    let after : Stationed = record { pass = c.order_at.new.self; homes = homes } in
    subst (λ s. StaysPassOf s c.carry_out.new.self) c.self.view_is
    (stays_further before after c.carry_out.new.self
    (station_stays before c.order_at.new.self (ordered_stays c.self.inside.pass c.args.op c.order_at.result c.order_at.new.self c.order_at.ensures.event c.order_at.ensures.answer)) c.carry_out.ensures.stays)

pub returns-in-None-clause-stays : goal.returns-in-None-clause-stays
returns-in-None-clause-stays c =
    let homes = (arc_value c.self.inside.shared).homes in
    let before : Stationed = record { pass = c.self.inside.pass; homes = homes } in
    let after : Stationed = record { pass = c.order_at.new.self; homes = homes } in
    subst (λ s. StaysPassOf s c.carry_out.new.self) c.self.view_is
    (stays_further before after c.carry_out.new.self
    (station_stays before c.order_at.new.self (ordered_stays c.self.inside.pass c.args.op c.order_at.result c.order_at.new.self c.order_at.ensures.event c.order_at.ensures.answer)) c.carry_out.ensures.stays)

pub invariant_of-self : goal.invariant_of-self
invariant_of-self c = record {
  pass = ordered_stays c.self.inside.pass c.args.op c.order_at.result c.order_at.new.self c.order_at.ensures.event c.order_at.ensures.answer (table_of (arc_value c.self.inside.shared)) c.self.inside.absence.number c.self.invariant.pass;
  absent = absent_on (arc_value c.self.inside.shared).homes c.self.inside.absence.number c.self.inside.pass c.order_at.new.self c.self.inside.absence (told_from c.self.inside.pass (Order c.self.inside.pass.number c.args.op) c.order_at.new.self c.order_at.ensures.event) c.self.invariant.absent;
}

pub invariant_of-self-2 : goal.invariant_of-self-2
invariant_of-self-2 c = record {
  pass = ordered_stays c.self.inside.pass c.args.op c.order_at.result c.order_at.new.self c.order_at.ensures.event c.order_at.ensures.answer (table_of (arc_value c.self.inside.shared)) c.self.inside.absence.number c.self.invariant.pass;
  absent = absent_on (arc_value c.self.inside.shared).homes c.self.inside.absence.number c.self.inside.pass c.order_at.new.self c.self.inside.absence (told_from c.self.inside.pass (Order c.self.inside.pass.number c.args.op) c.order_at.new.self c.order_at.ensures.event) c.self.invariant.absent;
}

use Rattle.std.proofs.Common.{◌≡◌, ap, sym, subst}
use Rattle.lxr_mutator.specs.Dialogues.{Dialogue}
use Rattle.lxr_mutator.specs.Mutating.{Mutating, rests_in, tally_of}
use Rattle.lxr_mutator.specs.Mutators.{IsMutator, MayTakeOrder}
use Rattle.lxr_mutator.specs.Seen.{seen}
use Rattle.lxr_mutator.proofs.NowLemmas.{unwiped_between}
use Rattle.lxr_mutator.proofs.OrderLemmas.{with_order_stays}
use Rattle.lxr_mutator.proofs.mutator.Mutator.append.Goals as goal

pub invariant_of-self : goal.invariant_of-self
invariant_of-self c =
    let m = seen c.self.inside in
    let may : MayTakeOrder m c.args.op = subst (λ (x : Mutating). MayTakeOrder x c.args.op) (sym c.self.view_is) c.requires in
    let seen_with : Dialogue → Mutating = λ d. record m { operations = d.operations; replies = d.replies } in
    record {
      sound = subst (λ d. IsMutator (seen_with d)) (sym c.order.ensures) (with_order_stays m c.args.op may c.self.invariant.sound);
      few = c.self.invariant.few;
      others = c.self.invariant.others;
      tally = subst (λ (d : Dialogue). c.self.inside.tally ≡ tally_of d.replies.items) (sym c.order.ensures) c.self.invariant.tally;
      words = unwiped_between _ _ _ (ap rests_in may.ready);
    }

use Rattle.std.proofs.Common.{◌≡◌, suc, ◌+◌, ◌-◌, ◌<◌, ◌++◌, [], ◌∷◌, Some, All, arith, refl, sym, subst, ap, ◌∙◌, slice_get, slice_set, le_refl}
use Rattle.std.proofs.lemmas.List.Elements.{All-pop, All-push}
use mathlib.Core.List.{map-append}
use Rattle.lxr_run_threads.specs.Dealing.{AreDealt, IsAmong, numbers_from, numbers_of, worker_of}
use Rattle.lxr_run_threads.specs.Working.{IsPassOf}
use Rattle.lxr_run_threads.proofs.DealingLemmas.{all_among, dealt_more, last_number, none_of_any, nothing_dealt, numbers_at, of_each_set, worker_at}
use Rattle.lxr_run_threads.proofs.dealing.Dealing.deal.Goals as goal

pub loop-pass-init : goal.loop-pass-init
loop-pass-init c = record {
  order = c.requires.order;
  few = le_refl _;
  dealt = nothing_dealt c.args.self _ c.in_ok-hands.hands.items c.in_ok-hands.ensures;
  room = refl;
  each = λ epoch each. (each, none_of_any c.args.self (IsPassOf epoch) c.in_ok-hands.hands.items c.in_ok-hands.ensures);
  among = (all_among c.args.passes.now.items, none_of_any c.args.self (IsAmong c.args.passes.now.items) c.in_ok-hands.hands.items c.in_ok-hands.ensures);
}

pub loop-pass-preserved : goal.loop-pass-preserved
loop-pass-preserved c =
    let d = c.args.self in
    let count = c.args.passes.now.len in
    let few = c.pop.new.self.len in
    let hands = c.loop-pass.hands.items in
    let worker = c.worker_of-worker.result in
    let hand = c.index_mut.result.now in
    let pass = c.in-Some.pass in
    let before = c.loop-pass.invariant in
    let last : few + 1 ≡ c.loop-pass.passes.len = c.in-Some.ensures.len in
    let whose : worker ≡ worker_of d few = c.worker_of-worker.ensures ∙ ap (worker_of d) c.len.ensures in
    let at : slice_get hands worker ≡ Some hand = worker_at d _ hands few worker hand c.requires.workers.0 before.dealt whose c.index_mut.ensures.value in
    let (order, number) = last_number c.pop.new.self.items pass few (ap numbers_of (sym c.in-Some.ensures.items) ∙ (before.order ∙ ap (numbers_from 0) (let e : c.loop-pass.passes.len ≡ suc few = omega arith in e))) in
    let pushed : c.push.new.self.items ≡ hand.passes.items ++ pass ∷ [] = c.in_ok-push.ensures.items in
    let more : numbers_of c.push.new.self.items ≡ numbers_of hand.passes.items ++ few ∷ [] =
    ap numbers_of pushed ∙ (map-append (λ p. p.number) hand.passes.items (pass ∷ []) ∙ ap (λ n. numbers_of hand.passes.items ++ n ∷ []) number) in
    let low : few < count = let most = before.few in omega arith in
    record {
      order = order;
      few = let most = before.few in omega arith;
      dealt = subst (λ ns. AreDealt d ns (slice_set hands worker (record hand { passes = c.push.new.self }))) (sym (numbers_at few count low))
          (dealt_more d _ hands few worker hand (record hand { passes = c.push.new.self }) (subst (λ n. AreDealt d (numbers_from n (count - n)) hands) (sym last) before.dealt) at whose more);
      room = c.pop.ensures.capacity ∙ before.room;
      each = λ epoch each.
          let (of_passes, of_hands) = before.each epoch each in
          let (rest, of_last) = All-pop (IsPassOf epoch) c.loop-pass.passes.items c.pop.new.self.items (Some pass) c.in-Some.ensures.items of_passes in (
            rest,
            of_each_set (IsPassOf epoch) hands worker hand (record hand { passes = c.push.new.self }) of_hands at
                (subst (All (IsPassOf epoch)) (sym pushed) (All-push (IsPassOf epoch) hand.passes.items pass (of_hands worker hand at) of_last)),
          );
      among =
          let all = c.args.passes.now.items in
          let (of_passes, of_hands) = before.among in
          let (rest, of_last) = All-pop (IsAmong all) c.loop-pass.passes.items c.pop.new.self.items (Some pass) c.in-Some.ensures.items of_passes in (
            rest,
            of_each_set (IsAmong all) hands worker hand (record hand { passes = c.push.new.self }) of_hands at
                (subst (All (IsAmong all)) (sym pushed) (All-push (IsAmong all) hand.passes.items pass (of_hands worker hand at) of_last)),
          );
    }

pub returns-clause-each : goal.returns-clause-each
returns-clause-each c = λ table each. (c.loop-pass.invariant.each table each).1

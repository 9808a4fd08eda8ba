use Rattle.std.proofs.Common.{◌≡◌, ◌+◌, ◌-◌, ◌<◌, ◌++◌, [], ◌∷◌, Some, All, arith, sym, subst, ap, ◌∙◌, length, slice_get, slice_index_or}
use Rattle.std.proofs.lemmas.List.Elements.{All-nil, All-pop, All-push}
use Rattle.lxr_run_threads.specs.declared.dealing.Hand.{Hand}
use Rattle.lxr_run_threads.specs.Dealing.{AreDealt, IsAmongHands, numbers_from, numbers_of}
use Rattle.lxr_run_threads.specs.Working.{IsDoneOf}
use Rattle.lxr_run_threads.proofs.DealingLemmas.{hands_among, next_number, numbers_at, of_each_set, some_left, taken, worker_at}
use Rattle.lxr_run_threads.proofs.dealing.Dealing.gather.Goals as goal

pub unreachable-requires : goal.unreachable-requires
unreachable-requires c =
    let d = c.args.self in
    let number = c.loop-number.number in
    let hands = c.loop-number.hands in
    let worker = c.worker_of-worker.result in
    let hand = c.index-hands-worker.result in
    let at : slice_get hands worker ≡ Some hand = worker_at d _ hands number worker hand c.requires.workers c.loop-number.invariant.dealt c.worker_of-worker.ensures c.index-hands-worker.is in
    let next = subst (λ ns. AreDealt d ns hands) (numbers_at number c.args.count c.loop-number-test.true) c.loop-number.invariant.dealt in
    let some : 0 < length hand.passes.items = some_left d _ hands number worker hand next at c.worker_of-worker.ensures in
    let some' = subst (λ (h : Hand). 0 < length h.passes.items) c.index-hands-worker.is some in
    let many = (slice_index_or hands worker hand).passes.ok in
    let (none, none') = c.in_default.ensures.cases in
    absurd (omega arith)

pub loop-number-init : goal.loop-number-init
loop-number-init c =
    let all : c.args.count ≡ c.args.count - 0 = omega arith in
    let ok = c.args.passes.now.ok in
    let none = ap length c.requires.room.0 in
    record {
      dealt = subst (λ n. AreDealt c.args.self (numbers_from 0 n) c.args.hands.now) all c.requires.dealt;
      order = ap numbers_of c.requires.room.0;
      many = omega arith;
      room = c.requires.room.1;
      each = λ table of_each. (of_each, subst (All (IsDoneOf table)) (sym c.requires.room.0) (All-nil (IsDoneOf table)));
      among = (hands_among c.args.hands.now, subst (All (IsAmongHands c.args.hands.now)) (sym c.requires.room.0) (All-nil (IsAmongHands c.args.hands.now)));
    }

pub loop-number-preserved : goal.loop-number-preserved
loop-number-preserved c =
    let d = c.args.self in
    let number = c.loop-number.number in
    let hands = c.loop-number.hands in
    let worker = c.worker_of-worker.result in
    let hand = c.index-hands-worker.result in
    let hand' : Hand = record (slice_index_or hands worker hand) { passes = c.pop.new.self } in
    let pass = c.in-Some.pass in
    let before = c.loop-number.invariant in
    let at : slice_get hands worker ≡ Some hand = worker_at d _ hands number worker hand c.requires.workers before.dealt c.worker_of-worker.ensures c.index-hands-worker.is in
    let next = subst (λ ns. AreDealt d ns hands) (numbers_at number c.args.count c.loop-number-test.true) before.dealt in
    let popped : hand.passes.items ≡ c.pop.new.self.items ++ pass ∷ [] = ap (λ (h : Hand). h.passes.items) c.index-hands-worker.is ∙ c.in-Some.ensures.items in
    let t = taken d _ hands number worker hand (hand') pass next at c.worker_of-worker.ensures popped in
    record {
      dealt = t.dealt;
      order = ap (λ ps. numbers_of ps) c.push_reserved.ensures.items ∙ next_number c.loop-number.passes.items pass number before.order t.number_is;
      many = c.push_reserved.ensures.len ∙ ap (λ n. n + 1) before.many;
      room = let room = before.room in let same = c.push_reserved.ensures.capacity in omega arith;
      each = λ epoch of_each.
          let (of_hands, of_passes) = before.each epoch of_each in
          let of_hand = of_hands worker hand at in
          let (rest, last) = All-pop (IsDoneOf epoch) hand.passes.items c.pop.new.self.items (Some pass) popped of_hand in (
            of_each_set (IsDoneOf epoch) hands worker hand (hand') of_hands at rest,
            subst (All (IsDoneOf epoch)) (sym c.push_reserved.ensures.items) (All-push (IsDoneOf epoch) c.loop-number.passes.items pass of_passes last),
          );
      among =
          let all = c.args.hands.now in
          let (of_hands, of_passes) = before.among in
          let (rest, last) = All-pop (IsAmongHands all) hand.passes.items c.pop.new.self.items (Some pass) popped (of_hands worker hand at) in (
            of_each_set (IsAmongHands all) hands worker hand (hand') of_hands at rest,
            subst (All (IsAmongHands all)) (sym c.push_reserved.ensures.items) (All-push (IsAmongHands all) c.loop-number.passes.items pass of_passes last),
          );
    }

pub returns-clause-each : goal.returns-clause-each
returns-clause-each c epoch each = (c.loop-number.invariant.each epoch each).1

pub returns-clause-among : goal.returns-clause-among
returns-clause-among c = c.loop-number.invariant.among.1

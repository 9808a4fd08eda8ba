use Rattle.std.proofs.Common.{◌≡◌, ℕ, ◌+◌, ◌≤◌, ◌++◌, ◌∷◌, arith, sym, subst, ap, ◌∙◌}
use Rattle.std.specs.Prelude.{vec_len}
use Rattle.crossbeam_channel.specs.Claims.{view}
use Rattle.lxr_stand.specs.declared.rule.Baton.{Baton}
use Rattle.lxr_stand.specs.declared.rule.Holding.{Holding}
use Rattle.lxr_stand.specs.Relaying.{IsFinished, below, price, weigh, with_sent}
use Rattle.lxr_stand.specs.Turning.{Finishes}
use Rattle.lxr_stand.specs.Working.{AreSlots, HasKept}
use Rattle.lxr_stand.proofs.KeeperLemmas.{way_finished}
use Rattle.lxr_stand.proofs.SendLemmas.{back_slots, begins_fewer, fewer_out, fewer_paid, next_paid, next_way, sent_fewer, sent_paid, sent_slots}
use Rattle.lxr_stand.proofs.keeper.send_all.Goals as goal

-- The value that was popped is the last of those that begin the list.

pub send-requires-clause-way : goal.send-requires-clause-way
send-requires-clause-way g c =
    let sent = c.loop-value.invariant.begins in
    let more : vec_len c.loop-value.values ≡ c.len.result + 1 = let is = c.len.ensures in let all = c.in-Some.ensures.len in omega arith in
    next_way _ c.len.result more g.L.Channel.fits g.L.Channel.made g.L.Channel.left g.L.Channel.values c.pop.new.self.items sent.0 c.in-Some.value (ap (λ xs. xs ++ sent.0) (sym c.in-Some.ensures.items) ∙ sent.1)
    (c.len.ensures ∙ c.pop.new.self.ok.0) c.requires.fit

pub send-requires-clause-paid : goal.send-requires-clause-paid
send-requires-clause-paid g c =
    let more : vec_len c.loop-value.values ≡ c.len.result + 1 = let is = c.len.ensures in let all = c.in-Some.ensures.len in omega arith in
    next_paid _ c.len.result more g.L.Channel.left c.pop.new.self.items c.in-Some.value (view c.loop-value.keeper.pass)
    (subst (λ xs. weigh (price g.L.Channel.left) xs ≤ (view c.loop-value.keeper.pass).tokens) c.in-Some.ensures.items c.loop-value.invariant.paid)

pub finish_here-requires-clause-fit : goal.finish_here-requires-clause-fit
finish_here-requires-clause-fit g c κs within =
    let sent = c.loop-value.invariant.begins in
    let more : vec_len c.loop-value.values ≡ c.len.result + 1 = let is = c.len.ensures in let all = c.in-Some.ensures.len in omega arith in
    let way = next_way _ c.len.result more g.L.Channel.fits g.L.Channel.made g.L.Channel.left g.L.Channel.values c.pop.new.self.items sent.0 c.in-Some.value (ap (λ xs. xs ++ sent.0) (sym c.in-Some.ensures.items) ∙ sent.1)
    (c.len.ensures ∙ c.pop.new.self.ok.0) c.requires.fit in
    subst (λ (b : Baton g.row.T.Denot). g.W.Turns.fits c.args.work.now b.value) (sym c.in-Err.ensures.sent.0) (c.requires.race.fit_back c.in-Some.value way.fit)

pub loop-value-preserved-in-Err : goal.loop-value-preserved-in-Err
loop-value-preserved-in-Err g c =
    let k = vec_len c.pop.new.self in
    let n = vec_len c.loop-value.values in
    let x = c.in-Some.value in
    let init = c.pop.new.self.items in
    let before = c.loop-value.invariant in
    let v = view c.loop-value.keeper.pass in
    let (back, same) = c.in-Err.ensures.sent in
    let more : n ≡ k + 1 = let all = c.in-Some.ensures.len in omega arith in
    let all = ap (λ xs. xs ++ before.begins.0) (sym c.in-Some.ensures.items) ∙ before.begins.1 in
    let way = next_way n k more g.L.Channel.fits g.L.Channel.made g.L.Channel.left g.L.Channel.values init before.begins.0 x all c.pop.new.self.ok.0 c.requires.fit in
    let made' = g.W.Turns.made c.args.work.now in
    let slots = c.loop-value.keeper.slots.items in
    let slots' = c.finish_here.new.slots.items in
    let place : c.in-Err.back.place ≡ k = ap (λ (b : Baton g.row.T.Denot). b.place) back ∙ c.len.ensures in
    let value : c.in-Err.back.value ≡ x = ap (λ (b : Baton g.row.T.Denot). b.value) back in
    let kept = subst (λ (y : ℕ × g.row.T.Denot). HasKept (Finishes made' y.1) y.0 slots slots') (λ i. (place i, value i)) c.finish_here.ensures in
    let finished : HasKept (λ w. IsFinished g.L.Channel.made g.L.Channel.values (record { place = k; value = w })) k slots slots' = record {
      value = kept.value;
      such = way_finished g.L.Channel.fits g.L.Channel.made g.L.Channel.left _ _ _ c.requires.race g.L.Channel.values (record { place = k; value = x }) kept.value way kept.such;
      is = kept.is;
    } in
    record {
      keeper = record {
        seated = c.send.ensures.at;
        slots = subst (λ (u : Holding). AreSlots g.L.Channel.made g.L.Channel.values (below k) u.out slots') (sym same) (back_slots n k more g.L.Channel.made g.L.Channel.values v.out slots slots' before.keeper.slots finished);
      };
      begins = (x ∷ before.begins.0, begins_fewer n k more g.L.Channel.fits g.L.Channel.made g.L.Channel.left g.L.Channel.values init before.begins.0 x all c.pop.new.self.ok.0);
      paid = subst (λ (u : Holding). weigh (price g.L.Channel.left) init ≤ u.tokens) (sym same)
          (fewer_paid n k more g.L.Channel.left init x v (subst (λ xs. weigh (price g.L.Channel.left) xs ≤ v.tokens) c.in-Some.ensures.items before.paid));
      out = λ h. subst (λ (u : Holding). weigh h (below k) ≤ weigh h u.out) (sym same) (fewer_out n k more v.out before.out h);
      parts = ap (λ (u : Holding). u.parts) same ∙ before.parts;
      room = c.pop.ensures.capacity ∙ before.room;
    }

pub loop-value-preserved : goal.loop-value-preserved
loop-value-preserved g c =
    let k = vec_len c.pop.new.self in
    let n = vec_len c.loop-value.values in
    let x = c.in-Some.value in
    let init = c.pop.new.self.items in
    let before = c.loop-value.invariant in
    let v = view c.loop-value.keeper.pass in
    let w = view c.send.new.pass in
    let more : n ≡ k + 1 = let all = c.in-Some.ensures.len in omega arith in
    let all = ap (λ xs. xs ++ before.begins.0) (sym c.in-Some.ensures.items) ∙ before.begins.1 in
    let paid = subst (λ xs. weigh (price g.L.Channel.left) xs ≤ v.tokens) c.in-Some.ensures.items before.paid in
    let gone : w ≡ with_sent g.L.Channel.left v (record { place = k; value = x }) = c.in_default-send.ensures.sent ∙ ap (λ (p : ℕ). with_sent g.L.Channel.left v (record { place = p; value = x })) c.len.ensures in
    record {
      keeper = record {
        seated = c.send.ensures.at;
        slots = sent_slots n k more g.L.Channel.left init x v paid w gone before.out g.L.Channel.made g.L.Channel.values c.loop-value.keeper.slots.items before.keeper.slots;
      };
      begins = (x ∷ before.begins.0, begins_fewer n k more g.L.Channel.fits g.L.Channel.made g.L.Channel.left g.L.Channel.values init before.begins.0 x all c.pop.new.self.ok.0);
      paid = sent_paid n k more g.L.Channel.left init x v paid w gone before.out;
      out = sent_fewer n k more g.L.Channel.left init x v paid w gone before.out;
      parts = ap (λ (u : Holding). u.parts) gone ∙ before.parts;
      room = c.pop.ensures.capacity ∙ before.room;
    }

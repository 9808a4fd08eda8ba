use Rattle.std.proofs.Common.{◌∙◌, ap, option_map, refl, sym}
use Rattle.lxr_run_loop.proofs.OrderLemmas.{replays_in_order, replays_unnoted}
use Rattle.lxr_run_loop.proofs.order.Order.replay.Goals as goal
use Rattle.lxr_run_loop.proofs.order.Order.replay.Goals.{in-Some+in_ok-order_epoch-in-Some, in-None}

pub returns : goal.returns
returns g c = elim c.match-self.branch [
  | in-Some+in_ok-order_epoch-in-Some w ↦
      let done = w.in_ok-order_epoch-in-Some.ensures in
      rw w.space-is (rw w.actors-is (rw w.x-is (rw w.self-inside-is
      (replays_in_order c.args.space.now w.order_epoch.new.space c.args.actors.now w.order_epoch.new.actors c.args.x.now w.order_epoch.new.x w.in-Some.items.items w.order_epoch.new.items.items done.schedule done.finished done.resting
      done.rest _ _ (sym c.self.view_is ∙ ap (option_map (λ l. l.items)) w.in-Some.is) refl))))
  | in-None w ↦
      let done = w.replay_epoch.ensures in
      rw w.space-is (rw w.actors-is (rw w.x-is (rw w.self-inside-is
      (replays_unnoted c.args.space.now w.replay_epoch.new.space c.args.actors.now w.replay_epoch.new.actors c.args.x.now w.replay_epoch.new.x done.schedule done.finished done.resting done.rest _ _ (ap (option_map (λ l. l.items)) w.in-None.is)))))
]

use Rattle.std.proofs.Common.{ap, arith, length}
use Rattle.std.proofs.lemmas.Result.{on_err_weaker}
use Rattle.lxr_text_print.specs.Orders.{item_text, order_heading}
use Rattle.lxr_text_print.proofs.PageLemmas.{AppendsFront-moved, OnErr-always}
use Rattle.lxr_text_print.proofs.TextLemmas.{AppendsFront-items, Moves-item, Moves-items}
use Rattle.lxr_text_print.proofs.orders.print_order.Goals as goal

pub returns-in_err-make_room-clause-err : goal.returns-in_err-make_room-clause-err
returns-in_err-make_room-clause-err g c =
    OnErr-always _ (AppendsFront-items order_heading item_text c.args.items.now.items c.loop-item.item-index c.loop-item.invariant.moved c.in_err-make_room.ensures.err)

pub loop-item-preserved : goal.loop-item-preserved
loop-item-preserved g c = record {
  moved = Moves-item order_heading item_text c.args.items.now.items c.loop-item.item-index _ (omega (arith, ap length c.as_slice-item-items.ensures)) c.loop-item.invariant.moved c.in_ok-make_room.ensures.ok
      (rw c.as_slice-item-items.ensures at c.push_item.ensures);
  faults = omega (arith, c.in_ok-make_room.ensures.faults);
}

pub returns-clause-err : goal.returns-clause-err
returns-clause-err g c =
    let many = ap length c.as_slice-item-items.ensures in
    let all = Moves-items order_heading item_text c.args.items.now.items c.loop-item.item-index (omega (arith, many, c.loop-item-test.false, c.loop-item.auto.item-index-end)) c.loop-item.invariant.moved in
    on_err_weaker c.flush.result (AppendsFront-moved all) c.flush.ensures.err

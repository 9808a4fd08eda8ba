use Rattle.std.proofs.Common.{◌≤◌, ◌++◌, take}
use Rattle.std.specs.Prelude.{flat_map}
use Rattle.lxr_text_print.specs.Orders.{item_text, order_heading}
use Rattle.lxr_text_print.specs.Pages.{Moves}
use Rattle.lxr_text_print.proofs.orders.print_order.Given as goal

abbrev pub invariant-loop-item : goal.invariant-loop-item
invariant-loop-item g l =
    record {
      moved : Moves (g.O.Sink.written l.fn.output) (g.O.Sink.written l.output)
          (order_heading ++ flat_map item_text (take l.item-index l.items.items)) l.page;
      faults : g.O.Sink.faults l.fn.output ≤ g.O.Sink.faults l.output;
    }

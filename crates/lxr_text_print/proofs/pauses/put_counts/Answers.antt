use Rattle.std.proofs.Common.{ap, arith, length}
use Rattle.lxr_text_print.specs.Reports.{count_text}
use Rattle.lxr_text_print.proofs.PageLemmas.{OnErr-always}
use Rattle.lxr_text_print.proofs.TextLemmas.{AppendsFront-items, Moves-item}
use Rattle.lxr_text_print.proofs.pauses.put_counts.Goals as goal

pub returns-in_err-make_room-clause-err : goal.returns-in_err-make_room-clause-err
returns-in_err-make_room-clause-err g c =
    OnErr-always _ (AppendsFront-items c.args.page.now count_text c.args.counts.now.items c.loop-count.count-index c.loop-count.invariant.moved c.in_err-make_room.ensures.err)

pub loop-count-preserved : goal.loop-count-preserved
loop-count-preserved g c = record {
  moved = Moves-item c.args.page.now count_text c.args.counts.now.items c.loop-count.count-index _ (omega (arith, ap length c.as_slice-count-items.ensures)) c.loop-count.invariant.moved c.in_ok-make_room.ensures.ok
      (rw c.as_slice-count-items.ensures at c.push_count.ensures);
  faults = omega (arith, c.in_ok-make_room.ensures.faults);
}

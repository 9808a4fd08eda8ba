use Rattle.std.proofs.Common.{◌++◌, codes, ap, length, arith, append_assoc}
use Rattle.std.specs.Prelude.{flat_map}
use Rattle.lxr_text_print.specs.Lines.{spaced_name}
use Rattle.lxr_text_print.specs.Reports.{names_text}
use Rattle.lxr_text_print.proofs.PageLemmas.{AppendsFront-part, Moves-push, OnErr-always}
use Rattle.lxr_text_print.proofs.TextLemmas.{AppendsFront-items, Moves-item, Moves-items, names_front, names_text-is}
use Rattle.lxr_text_stream.proofs.StreamLemmas.{AppendsFront-before}
use Rattle.lxr_text_print.proofs.pauses.put_names.Goals as goal

pub returns-in_err-make_room-clause-err : goal.returns-in_err-make_room-clause-err
returns-in_err-make_room-clause-err g c =
    OnErr-always _ (AppendsFront-before _ _ c.args.page.now (names_text c.args.label.now c.args.names.now.items) c.in_err-make_room.ensures.err)

pub returns-in_err-make_room-2-clause-err : goal.returns-in_err-make_room-2-clause-err
returns-in_err-make_room-2-clause-err g c =
    let page = c.args.page.now in
    let label = c.args.label.now in
    let names = c.args.names.now.items in
    let front = names_front label (length names) in
    let part = AppendsFront-items (page ++ front) spaced_name names c.loop-name.name-index c.loop-name.invariant.moved c.in_err-make_room-2.ensures.err in
    OnErr-always _ (AppendsFront-part _ _ page (front ++ flat_map spaced_name names) (codes "\n") (names_text label names) (names_text-is label names)
    (rw append_assoc at part))

pub loop-name-preserved : goal.loop-name-preserved
loop-name-preserved g c = record {
  moved = Moves-item (c.args.page.now ++ names_front c.args.label.now (length c.args.names.now.items)) spaced_name c.args.names.now.items c.loop-name.name-index _
      (omega (arith, ap length c.as_slice-name-items.ensures)) c.loop-name.invariant.moved c.in_ok-make_room-2.ensures.ok
      (rw c.as_slice-name-items.ensures at c.push_name.ensures.text);
  room = c.push_name.ensures.short;
  faults = omega (arith, c.in_ok-make_room-2.ensures.faults);
}

pub returns-clause-ok : goal.returns-clause-ok
returns-clause-ok g c =
    let page = c.args.page.now in
    let label = c.args.label.now in
    let names = c.args.names.now.items in
    let front = names_front label (length names) in
    let all = Moves-items (page ++ front) spaced_name names c.loop-name.name-index (omega (arith, ap length c.as_slice-name-items.ensures)) c.loop-name.invariant.moved in
    rw (c.push.ensures, names_text-is label names, ← append_assoc page (front ++ flat_map spaced_name names) (codes "\n"), ← append_assoc page front (flat_map spaced_name names))
    (Moves-push (codes "\n") all)

use Rattle.std.proofs.Common.{arith}
use Rattle.std.specs.List.{zip}
use Rattle.std.proofs.lemmas.Result.{on_err_weaker, on_ok_weaker}
use Rattle.std.proofs.lemmas.Slice.Zip.{length-zip}
use Rattle.lxr_large_model.specs.declared.LargeOp.{LargeOp}
use Rattle.lxr_large_model.specs.declared.LargeReply.{LargeReply}
use Rattle.lxr_text_print.specs.Replies.{heading_text}
use Rattle.lxr_text_print.proofs.PageLemmas.{Appends-moved, AppendsFront-moved, OnErr-always}
use Rattle.lxr_text_print.proofs.TextLemmas.{AppendsFront-items, Moves-items}
use Rattle.lxr_large_text.specs.Replies.{one_text}
use Rattle.lxr_large_text.proofs.Lines.{Moves-line}
use Rattle.lxr_large_text.proofs.printing.print_large.Goals as goal

pub returns-in_err-make_room-clause-err : goal.returns-in_err-make_room-clause-err
returns-in_err-make_room-clause-err g c =
    OnErr-always _ (AppendsFront-items (heading_text 1) (λ (x : LargeOp × LargeReply). one_text x.0 x.1) (zip c.args.operations.now c.args.replies.now) c.loop-i.i c.loop-i.invariant.moved c.in_err-make_room.ensures.err)

pub loop-i-preserved : goal.loop-i-preserved
loop-i-preserved g c =
    let below = c.loop-i-test.true in
    record {
      moved = Moves-line (heading_text 1) c.args.operations.now c.args.replies.now c.loop-i.i _ _ (omega arith) (omega (arith, c.requires.replied)) c.loop-i.invariant.moved c.in_ok-make_room.ensures.ok c.push_one.ensures;
      faults = omega (arith, c.in_ok-make_room.ensures.faults);
    }

pub returns-clause-ok : goal.returns-clause-ok
returns-clause-ok g c =
    let os = c.args.operations.now in
    let rs = c.args.replies.now in
    let all = Moves-items (heading_text 1) (λ (x : LargeOp × LargeReply). one_text x.0 x.1) (zip os rs) c.loop-i.i
    (omega (arith, length-zip os rs, c.loop-i-test.false)) c.loop-i.invariant.moved in
    on_ok_weaker c.flush.result (Appends-moved all) c.flush.ensures.ok

pub returns-clause-err : goal.returns-clause-err
returns-clause-err g c =
    let os = c.args.operations.now in
    let rs = c.args.replies.now in
    let all = Moves-items (heading_text 1) (λ (x : LargeOp × LargeReply). one_text x.0 x.1) (zip os rs) c.loop-i.i
    (omega (arith, length-zip os rs, c.loop-i-test.false)) c.loop-i.invariant.moved in
    on_err_weaker c.flush.result (AppendsFront-moved all) c.flush.ensures.err

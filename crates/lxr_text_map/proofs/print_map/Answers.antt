-- The blocks' lines move first, and the objects' behind them.
use Rattle.std.proofs.Common.{ℕ, ◌*◌, List}
use Rattle.std.proofs.lemmas.Result.{on_err_weaker, on_ok_weaker}
use Rattle.lxr_layout.specs.declared.TheConstants.{GRANULES_IN_BLOCK}
use Rattle.lxr_image.specs.declared.space.Space.{Space}
use Rattle.lxr_image.specs.Spaces.{tables_of}
use Rattle.lxr_text_stream.proofs.StreamLemmas.{AppendsFront-before}
use Rattle.lxr_text_print.specs.Pages.{Moves}
use Rattle.lxr_text_print.proofs.PageLemmas.{Appends-moved, AppendsFront-behind, AppendsFront-moved, Moves-behind, OnErr-always}
use Rattle.lxr_text_map.specs.Map.{blocks_text, objects_text}
use Rattle.lxr_text_map.proofs.print_map.Goals as goal

abbrev blocks_of : Space → List ℕ
blocks_of s = blocks_text (tables_of s) s.limits.blocks

abbrev objects_of : Space → List ℕ
objects_of s = objects_text (tables_of s) (GRANULES_IN_BLOCK * s.limits.blocks)

pub returns-in_err-put_blocks-clause-err : goal.returns-in_err-put_blocks-clause-err
returns-in_err-put_blocks-clause-err g c =
    OnErr-always _ (AppendsFront-before _ _ (blocks_of c.args.space.now) (objects_of c.args.space.now) (rw c.new-page.ensures at c.in_err-put_blocks.ensures.err))

pub returns-in_err-put_objects-clause-err : goal.returns-in_err-put_objects-clause-err
returns-in_err-put_objects-clause-err g c =
    let moved : Moves (g.O.Sink.written c.args.output.now) (g.O.Sink.written c.put_blocks.new.output) (blocks_of c.args.space.now) c.put_blocks.new.page =
    rw c.new-page.ensures at c.in_ok-put_blocks.ensures.ok in
    OnErr-always _ (AppendsFront-behind (objects_of c.args.space.now) moved c.in_err-put_objects.ensures.err)

pub returns-clause-ok : goal.returns-clause-ok
returns-clause-ok g c =
    let moved : Moves (g.O.Sink.written c.args.output.now) (g.O.Sink.written c.put_blocks.new.output) (blocks_of c.args.space.now) c.put_blocks.new.page =
    rw c.new-page.ensures at c.in_ok-put_blocks.ensures.ok in
    on_ok_weaker c.flush.result (Appends-moved (Moves-behind (objects_of c.args.space.now) moved c.in_ok-put_objects.ensures.ok)) c.flush.ensures.ok

pub returns-clause-err : goal.returns-clause-err
returns-clause-err g c =
    let moved : Moves (g.O.Sink.written c.args.output.now) (g.O.Sink.written c.put_blocks.new.output) (blocks_of c.args.space.now) c.put_blocks.new.page =
    rw c.new-page.ensures at c.in_ok-put_blocks.ensures.ok in
    on_err_weaker c.flush.result (AppendsFront-moved (Moves-behind (objects_of c.args.space.now) moved c.in_ok-put_objects.ensures.ok)) c.flush.ensures.err

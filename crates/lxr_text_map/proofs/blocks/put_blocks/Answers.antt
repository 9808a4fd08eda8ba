use Rattle.std.proofs.Common.{◌++◌, sym, ◌∙◌, arith}
use Rattle.lxr_image.specs.Spaces.{tables_of}
use Rattle.lxr_invariant.proofs.BlockLemmas.{none_counted}
use Rattle.lxr_text_print.proofs.PageLemmas.{OnErr-always}
use Rattle.lxr_text_map.specs.Map.{block_line, block_text}
use Rattle.lxr_text_map.proofs.JoinedLemmas.{AppendsFront-joined, Moves-no_piece, Moves-piece}
use Rattle.lxr_text_map.proofs.blocks.put_blocks.Goals as goal

pub loop-block-init : goal.loop-block-init
loop-block-init g c = record {
  moved = Moves-no_piece (g.O.Sink.written c.args.output.now) c.args.page.now (block_text (tables_of c.args.space.now));
  faults = omega arith;
}

pub returns-in_err-make_room-clause-err : goal.returns-in_err-make_room-clause-err
returns-in_err-make_room-clause-err g c =
    let s = c.args.space.now in
    OnErr-always _ (AppendsFront-joined c.args.page.now (block_text (tables_of s)) c.loop-block.block s.limits.blocks (omega arith) c.loop-block.invariant.moved c.in_err-make_room.ensures.err)

pub push_block-requires-clause-unchosen : goal.push_block-requires-clause-unchosen
push_block-requires-clause-unchosen g c is =
    let s = c.args.space.now in
    none_counted (tables_of s) s.limits.blocks c.loop-block.block c.requires.none_chosen (omega arith) (sym c.state.ensures ∙ is)

pub loop-block-preserved : goal.loop-block-preserved
loop-block-preserved g c = record {
  moved = Moves-piece c.args.page.now (block_text (tables_of c.args.space.now)) c.loop-block.block c.loop-block.invariant.moved c.in_ok-make_room.ensures.ok
      (c.push_block.ensures ∙ (λ j. c.make_room.new.self ++ block_line c.loop-block.block (c.state.ensures j) (c.taken_lines.ensures j)));
  faults = omega (arith, c.in_ok-make_room.ensures.faults);
}

use Rattle.std.proofs.Common.{◌+◌, ◌*◌, ◌∙◌, ap, subst, sym}
use Rattle.lxr_layout.specs.declared.TheConstants.{LINES_IN_BLOCK}
use Rattle.lxr_image.specs.Spaces.{tables_of}
use Rattle.lxr_blocks.specs.Handing.{with_lines_out}
use Rattle.lxr_blocks.specs.Lines.{free_in}
use Rattle.lxr_blocks.specs.Masks.{IsMask}
use Rattle.lxr_blocks.proofs.LeftLemmas.{left_mask}
use Rattle.lxr_blocks.proofs.handing.hand_out_of.Goals as goal

pub put_state_by-requires-clause-free : goal.put_state_by-requires-clause-free
put_state_by-requires-clause-free c =
    let t = tables_of c.args.space.now in
    let run = c.args.run in
    subst (λ u. IsMask c.without_run.result (free_in u run.block))
    (sym (c.take_lines.ensures.tables ∙ ap (λ line. with_lines_out t (LINES_IN_BLOCK * run.block + line) (LINES_IN_BLOCK * run.block + line + run.lines)) c.from.ensures))
    (left_mask t run c.args.free c.without_run.result c.requires.free c.without_run.ensures)

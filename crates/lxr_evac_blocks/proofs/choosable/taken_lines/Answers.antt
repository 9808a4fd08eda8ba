use Rattle.std.proofs.Common.{◌-◌, ap}
use Rattle.lxr_layout.specs.declared.TheConstants.{LINES_IN_BLOCK}
use Rattle.lxr_image.specs.Spaces.{tables_of}
use Rattle.lxr_blocks.specs.Lines.{free_in}
use Rattle.lxr_evac_blocks.proofs.CountLemmas.{ones_are_free}
use Rattle.lxr_evac_blocks.proofs.choosable.taken_lines.Goals as goal

pub returns : goal.returns
returns c = ap (λ n. LINES_IN_BLOCK - n) (ones_are_free c.free_mask.result (free_in (tables_of c.args.space.now) c.args.block) c.free_mask.type_inv c.free_mask.ensures)

use Rattle.std.proofs.lemmas.List.{get_or-replicate}
use Rattle.lxr_layout.specs.declared.TheConstants.{REGISTERS}
use Rattle.lxr_layout.specs.Registers.{nil}
use Rattle.lxr_image.proofs.registers.RegisterFile.clear_row.Goals as goal

pub put_row-requires-clause-others : goal.put_row-requires-clause-others
put_row-requires-clause-others c k from few = get_or-replicate REGISTERS k nil nil few

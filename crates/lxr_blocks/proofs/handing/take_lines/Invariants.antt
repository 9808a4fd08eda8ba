use Rattle.lxr_image.specs.Spaces.{IsSpace, Turns, tables_of}
use Rattle.lxr_blocks.specs.Handing.{with_lines_out}
use Rattle.lxr_blocks.proofs.handing.take_lines.Given as goal

abbrev pub invariant-loop-line : goal.invariant-loop-line
invariant-loop-line l = record { space : IsSpace l.space; turns : Turns l.initial.space l.space (with_lines_out (tables_of l.initial.space) l.first l.line) }

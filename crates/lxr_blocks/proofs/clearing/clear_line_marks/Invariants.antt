use Rattle.lxr_image.specs.Spaces.{Turns, tables_of}
use Rattle.lxr_blocks.specs.Lines.{next_line}
use Rattle.lxr_blocks.specs.Clearing.{unmarked_between}
use Rattle.lxr_blocks.proofs.clearing.clear_line_marks.Given as goal

abbrev pub invariant-loop-line : goal.invariant-loop-line
invariant-loop-line l = Turns l.fn.space l.space (record (tables_of l.fn.space) { counts = unmarked_between (tables_of l.fn.space).counts (next_line l.granule) l.line })

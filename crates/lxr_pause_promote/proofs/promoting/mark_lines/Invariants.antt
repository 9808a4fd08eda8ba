use Rattle.lxr_image.specs.Spaces.{IsSpace, Turns, tables_of}
use Rattle.lxr_blocks.specs.Lines.{next_line}
use Rattle.lxr_pause_promote.specs.Promotion.{marked_between}
use Rattle.lxr_pause_promote.proofs.promoting.mark_lines.Given as goal

abbrev pub invariant-loop-line : goal.invariant-loop-line
invariant-loop-line l = record {
  space : IsSpace l.space;
  turns : Turns l.initial.space l.space (record (tables_of l.initial.space) { counts = marked_between (tables_of l.initial.space).counts (next_line l.granule) l.line });
}

use Rattle.lxr_image.specs.Spaces.{IsSpace, Turns, tables_of}
use Rattle.lxr_evac_blocks.specs.Choosing.{with_choices}
use Rattle.lxr_evac_blocks.specs.Ranks.{AreNumbers, fewer_taken}
use Rattle.lxr_evac_blocks.proofs.choosing.choose_emptiest.Given as goal

abbrev pub invariant-loop-block : goal.invariant-loop-block
invariant-loop-block l = record {
  space : IsSpace l.space;
  turns : Turns l.initial.space l.space (with_choices l.initial.space.limits (tables_of l.initial.space) l.block);
  next : AreNumbers (tables_of l.initial.space) (λ lines. fewer_taken (tables_of l.initial.space) lines l.initial.space.limits.blocks) l.block l.next;
}

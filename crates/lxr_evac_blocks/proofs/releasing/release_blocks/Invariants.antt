use Rattle.lxr_image.specs.Spaces.{IsSpace, Turns, tables_of}
use Rattle.lxr_evac_blocks.specs.Releasing.{with_releases}
use Rattle.lxr_evac_blocks.proofs.releasing.release_blocks.Given as goal

abbrev pub invariant-loop-block : goal.invariant-loop-block
invariant-loop-block l = record {
  space : IsSpace l.space;
  turns : Turns l.initial.space l.space (with_releases (tables_of l.initial.space) l.block);
}

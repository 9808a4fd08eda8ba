use Rattle.std.proofs.Common.{◌+◌}
use Rattle.lxr_image.specs.Spaces.{IsSpace, Turns, tables_of}
use Rattle.lxr_blocks.proofs.HandingLemmas.{begun}
use Rattle.lxr_blocks.proofs.placing.write_object.Given as goal

abbrev pub invariant-loop-at : goal.invariant-loop-at
invariant-loop-at l = record { space : IsSpace l.space; turns : Turns l.fn.space l.space (begun (tables_of l.fn.space) l.first l.at l.fn.name l.fn.shape) }

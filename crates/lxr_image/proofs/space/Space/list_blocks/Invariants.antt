use Rattle.lxr_image.specs.Spaces.{IsSpace, Turns, tables_of}
use Rattle.lxr_image.proofs.OpenLemmas.{frees_below}
use Rattle.lxr_image.proofs.space.Space.list_blocks.Given as goal

abbrev pub invariant-loop-block : goal.invariant-loop-block
invariant-loop-block l = record { space : IsSpace l.self; turns : Turns l.initial.self l.self (frees_below l.block (tables_of l.initial.self)) }

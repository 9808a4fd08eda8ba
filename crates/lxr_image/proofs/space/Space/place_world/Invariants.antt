use Rattle.lxr_image.specs.Spaces.{IsSpace, Turns, tables_of}
use Rattle.lxr_image.proofs.OpenLemmas.{unlogged_below}
use Rattle.lxr_image.proofs.space.Space.place_world.Given as goal

abbrev pub invariant-loop-at : goal.invariant-loop-at
invariant-loop-at l = record { space : IsSpace l.self; turns : Turns l.initial.self l.self (unlogged_below l.at (tables_of l.initial.self)) }

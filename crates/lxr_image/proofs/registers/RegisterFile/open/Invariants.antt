use Rattle.std.proofs.Common.{◌≡◌}
use Rattle.std.specs.Prelude.{map}
use Rattle.lxr_graph.specs.State.{opening_registers}
use Rattle.lxr_image.specs.Opened.{opening_place}
use Rattle.lxr_image.proofs.registers.RegisterFile.open.Given as goal

abbrev pub invariant-loop : goal.invariant-loop
invariant-loop l = l.places.items ≡ map opening_place (opening_registers l.counter)

use Rattle.std.proofs.Common.{◌≡◌}
use Rattle.lxr_image.specs.Spaces.{IsSpace}
use Rattle.test_space.proofs.remembering.handed_out.Given as goal

abbrev pub invariant-loop : goal.invariant-loop
invariant-loop g l = record { space : IsSpace l.space; blocks : l.space.limits.blocks ≡ 1 }

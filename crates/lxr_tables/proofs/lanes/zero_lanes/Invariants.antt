use Rattle.std.proofs.Common.{◌≡◌, ◌*◌, ◌^◌, ◌<◌}
use Rattle.std.specs.Prelude.{slice_index}
use Rattle.lxr_tables.specs.declared.lanes.TheConstants.{LANES}
use Rattle.lxr_tables.proofs.BitLemmas.{TellsOf}
use Rattle.lxr_tables.proofs.lanes.zero_lanes.Given as goal

abbrev pub invariant-loop-group : goal.invariant-loop-group
invariant-loop-group l =
    record {
      fit : l.zeros < 2 ^ (LANES * l.group);
      told : TellsOf (λ i. slice_index l.words i ≡ 0) (LANES * l.group) l.zeros;
    }

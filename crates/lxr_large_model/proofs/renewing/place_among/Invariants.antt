use Rattle.std.proofs.Common.{◌-◌, map}
use Rattle.lxr_large_model.specs.Renewing.{counted_name}
use Rattle.lxr_large_model.proofs.SerialLemmas.{Halves}
use Rattle.lxr_large_model.proofs.renewing.place_among.Given as goal

abbrev pub invariant-loop-from : goal.invariant-loop-from
invariant-loop-from l = Halves (map counted_name l.counts) l.name l.from l.end

abbrev pub decreases-loop-from : goal.decreases-loop-from
decreases-loop-from l = l.end - l.from

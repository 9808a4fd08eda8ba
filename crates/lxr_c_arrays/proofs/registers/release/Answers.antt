use Rattle.std.proofs.Common.{[], ◌∷◌}
use Rattle.lxr_c_base.specs.declared.codes.Code.TheVariants as code
use Rattle.lxr_c_arrays.specs.Operations.{nil_of}
use Rattle.lxr_c_arrays.proofs.RunLemmas.{same_on, turn_on}
use Rattle.lxr_c_arrays.proofs.registers.release.Goals as goal

pub returns-clause-runs : goal.returns-clause-runs
returns-clause-runs c = turn_on c.args.heap.now c.nil.new.heap c.nil-2.new.heap (nil_of c.args.own.first ∷ []) (nil_of c.args.own.second ∷ []) code.Done c.nil.ensures.runs c.nil-2.ensures.runs

pub returns-clause-same : goal.returns-clause-same
returns-clause-same c = same_on c.args.heap.now c.nil.new.heap c.nil-2.new.heap c.nil.ensures.same c.nil-2.ensures.same

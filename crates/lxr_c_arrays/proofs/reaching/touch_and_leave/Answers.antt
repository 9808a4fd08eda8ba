use Rattle.std.proofs.Common.{subst, sym, [], ◌∷◌, ◌<◌}
use Rattle.lxr_c_arrays.specs.Operations.{nil_of}
use Rattle.lxr_c_arrays.specs.Plans.{touching}
use Rattle.lxr_c_arrays.proofs.PlanLemmas.{carried}
use Rattle.lxr_c_arrays.proofs.RunLemmas.{same_on}
use Rattle.lxr_c_arrays.proofs.reaching.touch_and_leave.Goals as goal

pub nil-requires-clause-dest : goal.nil-requires-clause-dest
nil-requires-clause-dest c = subst (λ n. c.args.part < n) (sym c.touch-code.ensures.same.all) c.requires.registers.1

pub returns-clause-plan : goal.returns-clause-plan
returns-clause-plan c =
    carried c.args.heap.now c.touch-code.new.heap c.nil.new.heap (record { steps = touching c.args.access c.args.other c.args.part c.args.index ∷ []; last = nil_of c.args.part ∷ [] }) c.touch-code.result c.touch-code.ensures.runs c.nil.ensures.runs

pub returns-clause-same : goal.returns-clause-same
returns-clause-same c = same_on c.args.heap.now c.touch-code.new.heap c.nil.new.heap c.touch-code.ensures.same c.nil.ensures.same

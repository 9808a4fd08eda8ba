use Rattle.std.proofs.Common.{subst, sym, [], ◌∷◌, ◌<◌, ◌/◌, ◌%◌}
use Rattle.lxr_c_arrays.specs.declared.side.TheConstants.{PART}
use Rattle.lxr_c_arrays.specs.Operations.{load_of, nil_of}
use Rattle.lxr_c_arrays.specs.Plans.{touching}
use Rattle.lxr_c_arrays.specs.Running.{InTurn}
use Rattle.lxr_c_arrays.proofs.PlanLemmas.{carried_on, carried_short}
use Rattle.lxr_c_arrays.proofs.RunLemmas.{same_on}
use Rattle.lxr_c_arrays.proofs.reaching.reach_aside.Goals as goal

pub load-requires-clause-registers : goal.load-requires-clause-registers
load-requires-clause-registers c = (c.requires.part, c.requires.pair.0)

pub touch_and_leave-requires-clause-registers : goal.touch_and_leave-requires-clause-registers
touch_and_leave-requires-clause-registers c = subst (λ n. (c.args.pair.other < n) × (c.args.part < n)) (sym c.load.ensures.same.all) (c.requires.pair.1, c.requires.part)

pub returns-in-Done-clause-plan : goal.returns-in-Done-clause-plan
returns-in-Done-clause-plan c =
    carried_on c.args.heap.now c.load.new.heap c.touch_and_leave.new.heap (load_of c.args.part c.args.pair.array (c.args.index / PART)) (touching c.args.access c.args.pair.other c.args.part (c.args.index % PART) ∷ []) (nil_of c.args.part ∷ []) c.touch_and_leave.result
    (subst (λ q. InTurn c.args.heap.now (load_of c.args.part c.args.pair.array (c.args.index / PART) ∷ []) c.load.new.heap q) c.in-Done.is c.load.ensures.runs) c.touch_and_leave.ensures.plan

pub returns-in-Done-clause-same : goal.returns-in-Done-clause-same
returns-in-Done-clause-same c = same_on c.args.heap.now c.load.new.heap c.touch_and_leave.new.heap c.load.ensures.same c.touch_and_leave.ensures.same

pub nil-requires-clause-dest : goal.nil-requires-clause-dest
nil-requires-clause-dest c = subst (λ n. c.args.part < n) (sym c.load.ensures.same.all) c.requires.part

pub returns-in_default-clause-plan : goal.returns-in_default-clause-plan
returns-in_default-clause-plan c =
    carried_short c.args.heap.now c.load.new.heap c.nil.new.heap (load_of c.args.part c.args.pair.array (c.args.index / PART)) (touching c.args.access c.args.pair.other c.args.part (c.args.index % PART) ∷ []) (nil_of c.args.part ∷ []) c.load.result
    c.load.ensures.runs c.in_default.not-Done c.nil.ensures.runs

pub returns-in_default-clause-same : goal.returns-in_default-clause-same
returns-in_default-clause-same c = same_on c.args.heap.now c.load.new.heap c.nil.new.heap c.load.ensures.same c.nil.ensures.same

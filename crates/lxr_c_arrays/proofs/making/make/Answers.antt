use Rattle.std.proofs.Common.{[], ◌∷◌, arith, subst, sym}
use Rattle.std.proofs.lemmas.Bool.{le-leb}
use Rattle.std.specs.Prelude.{Ok, if◌then◌else◌}
use Rattle.lxr_c_heap.specs.Hosting.{own_in}
use Rattle.lxr_c_heap.proofs.RegisterLemmas.{named_few}
use Rattle.lxr_c_arrays.specs.declared.side.TheConstants.{PART}
use Rattle.lxr_c_arrays.specs.Operations.{new_of}
use Rattle.lxr_c_arrays.specs.Plans.{parts_plan}
use Rattle.lxr_c_arrays.specs.Running.{Carries, Plan}
use Rattle.lxr_c_arrays.proofs.PlanLemmas.{carried}
use Rattle.lxr_c_arrays.proofs.RunLemmas.{turn_none}
use Rattle.lxr_c_arrays.proofs.making.make.Goals as goal

pub make-requires-clause-dest : goal.make-requires-clause-dest
make-requires-clause-dest c =
    let few = named_few c.args.heap.now c.requires.serving.holds in
    let dest = c.requires.wanted.0 in
    omega (arith, few, dest)

pub returns-clause-makes : goal.returns-clause-makes
returns-clause-makes c = λ h is.
    let one : Plan = record { steps = new_of c.args.wanted.dest c.args.wanted.length 0 ∷ []; last = [] } in
    subst (λ b. Carries c.args.heap.now c.make.new.heap h (if b then Ok one else parts_plan (own_in c.args.heap.now) c.args.wanted) c.make.result) (sym (le-leb c.args.wanted.length PART (omega arith)))
    (carried c.args.heap.now c.make.new.heap c.make.new.heap one c.make.result c.make.ensures.runs (turn_none c.make.new.heap) h is)

pub returns-clause-registers : goal.returns-clause-registers
returns-clause-registers c = c.make.ensures.same.named

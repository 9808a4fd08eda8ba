use Rattle.std.proofs.Common.{◌∙◌, refl, sym, subst, arith}
use Rattle.lxr_c_base.specs.declared.codes.Code.TheVariants as code
use Rattle.lxr_c_heap.proofs.RegisterLemmas.{named_few}
use Rattle.lxr_c_arrays.specs.Plans.{IsOwn, making, parts_plan}
use Rattle.lxr_c_arrays.specs.Running.{Carries}
use Rattle.lxr_c_arrays.proofs.PlanLemmas.{carried, own_there}
use Rattle.lxr_c_arrays.proofs.making.make_in_parts.Goals as goal

pub returns-in_default-clause-makes : goal.returns-in_default-clause-makes
returns-in_default-clause-makes c = λ h is.
    subst (λ own. Carries c.args.heap.now c.args.heap.now h (parts_plan own c.args.wanted) code.Register) (sym c.in_default.is ∙ c.own.ensures) (refl, refl)

pub make_whole-code-requires-clause-own : goal.make_whole-code-requires-clause-own
make_whole-code-requires-clause-own c = own_there c.args.heap.now c.in-Some.own (sym c.own.ensures ∙ c.in-Some.is)

pub make_whole-code-requires-clause-wanted : goal.make_whole-code-requires-clause-wanted
make_whole-code-requires-clause-wanted c =
    let few = named_few c.args.heap.now c.requires.serving.holds in
    let dest = c.requires.wanted.0 in
    (omega (arith, few, dest), c.requires.wanted.1)

pub release-requires-clause-own : goal.release-requires-clause-own
release-requires-clause-own c = subst (λ n. IsOwn n c.in-Some.own) (sym c.make_whole-code.ensures.same.all) (own_there c.args.heap.now c.in-Some.own (sym c.own.ensures ∙ c.in-Some.is))

pub returns-clause-makes : goal.returns-clause-makes
returns-clause-makes c = λ h is.
    subst (λ own. Carries c.args.heap.now c.release.new.heap h (parts_plan own c.args.wanted) c.make_whole-code.result) (sym c.in-Some.is ∙ c.own.ensures)
    (carried c.args.heap.now c.make_whole-code.new.heap c.release.new.heap (making c.args.wanted c.in-Some.own) c.make_whole-code.result c.make_whole-code.ensures.runs c.release.ensures.runs h is)

pub returns-clause-registers : goal.returns-clause-registers
returns-clause-registers c = c.release.ensures.same.named ∙ c.make_whole-code.ensures.same.named

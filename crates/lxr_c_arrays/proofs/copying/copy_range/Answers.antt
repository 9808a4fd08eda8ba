use Rattle.std.proofs.Common.{◌∙◌, refl, sym, subst}
use Rattle.lxr_large_model.specs.History.{large_state}
use Rattle.lxr_c_base.specs.declared.codes.Code.TheVariants as code
use Rattle.lxr_c_heap.specs.Hosting.{all_registers_in}
use Rattle.lxr_c_arrays.specs.Plans.{IsOwn, copy_by, copying, copying_of}
use Rattle.lxr_c_arrays.specs.Running.{Carries}
use Rattle.lxr_c_arrays.proofs.PlanLemmas.{carried_not, carried_with, own_there, pair_there}
use Rattle.lxr_c_arrays.proofs.copying.copy_range.Goals as goal

pub returns-in_default-clause-copies : goal.returns-in_default-clause-copies
returns-in_default-clause-copies c = λ h is.
    subst (λ own. Carries c.args.heap.now c.args.heap.now h (copy_by own (large_state h) c.args.at c.args.first c.args.count c.args.pair) code.Register) (sym c.in_default.is ∙ c.own.ensures) (refl, refl)

pub returns-in-Err-clause-copies : goal.returns-in-Err-clause-copies
returns-in-Err-clause-copies c = λ h is.
    subst (λ own. Carries c.args.heap.now c.args.heap.now h (copy_by own (large_state h) c.args.at c.args.first c.args.count c.args.pair) c.in-Err.code) (sym c.in-Some.is ∙ c.own.ensures)
    (carried_not c.args.heap.now (copying c.in-Some.own) (copying_of (large_state h) c.in-Some.own c.args.pair c.args.at c.args.first c.args.count) c.in-Err.code h (sym c.in-Err.is ∙ c.copying_of.ensures.copying h is.heap))

pub check_and_copy-code-requires-clause-copying : goal.check_and_copy-code-requires-clause-copying
check_and_copy-code-requires-clause-copying c =
    c.in-Ok.ensures.fits (all_registers_in c.args.heap.now) (own_there c.args.heap.now c.in-Some.own (sym c.own.ensures ∙ c.in-Some.is)) (pair_there c.args.heap.now c.args.pair c.requires.serving.holds c.requires.pair)

pub release-requires-clause-own : goal.release-requires-clause-own
release-requires-clause-own c = subst (λ n. IsOwn n c.in-Some.own) (sym c.check_and_copy-code.ensures.same.all) (own_there c.args.heap.now c.in-Some.own (sym c.own.ensures ∙ c.in-Some.is))

pub returns-in-Ok-clause-copies : goal.returns-in-Ok-clause-copies
returns-in-Ok-clause-copies c = λ h is.
    subst (λ own. Carries c.args.heap.now c.release.new.heap h (copy_by own (large_state h) c.args.at c.args.first c.args.count c.args.pair) c.check_and_copy-code.result) (sym c.in-Some.is ∙ c.own.ensures)
    (carried_with c.args.heap.now c.check_and_copy-code.new.heap c.release.new.heap (copying c.in-Some.own) (copying_of (large_state h) c.in-Some.own c.args.pair c.args.at c.args.first c.args.count) c.in-Ok.copying
    c.check_and_copy-code.result h is (sym c.in-Ok.is ∙ c.copying_of.ensures.copying h is.heap) c.check_and_copy-code.ensures.runs c.release.ensures.runs)

pub returns-in-Ok-clause-registers : goal.returns-in-Ok-clause-registers
returns-in-Ok-clause-registers c = c.release.ensures.same.named ∙ c.check_and_copy-code.ensures.same.named

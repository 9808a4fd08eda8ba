use Rattle.std.proofs.Common.{subst, sym}
use Rattle.lxr_c_base.specs.declared.codes.Code.TheVariants as code
use Rattle.lxr_c_arrays.specs.declared.side.Side.TheVariants as side
use Rattle.lxr_c_arrays.specs.Running.{InTurn}
use Rattle.lxr_c_arrays.specs.Sides.{checks}
use Rattle.lxr_c_arrays.proofs.RunLemmas.{turn_none}
use Rattle.lxr_c_arrays.proofs.SideLemmas.{checks_some}
use Rattle.lxr_c_arrays.proofs.checking.check.Goals as goal

pub returns-in-Whole-clause-runs : goal.returns-in-Whole-clause-runs
returns-in-Whole-clause-runs c = subst (λ s. InTurn c.args.heap.now (checks s c.args.first c.args.count) c.args.heap.now code.Done) (sym c.in-Whole.is) (turn_none c.args.heap.now)

pub returns-then-count-eq0-clause-runs : goal.returns-then-count-eq0-clause-runs
returns-then-count-eq0-clause-runs c =
    subst (λ s. InTurn c.args.heap.now (checks s c.args.first c.args.count) c.args.heap.now code.Done) (sym c.in-Parts.is)
    (subst (λ n. InTurn c.args.heap.now (checks (side.Parts c.in-Parts.root c.in-Parts.part) c.args.first n) c.args.heap.now code.Done) (sym c.if-count-eq0.true) (turn_none c.args.heap.now))

pub returns-else-count-eq0-clause-runs : goal.returns-else-count-eq0-clause-runs
returns-else-count-eq0-clause-runs c =
    subst (λ s. InTurn c.args.heap.now (checks s c.args.first c.args.count) c.check_parts.new.heap c.check_parts.result) (sym c.in-Parts.is)
    (subst (λ ops. InTurn c.args.heap.now ops c.check_parts.new.heap c.check_parts.result) (sym (checks_some c.in-Parts.root c.in-Parts.part c.args.first c.args.count c.if-count-eq0.false)) c.check_parts.ensures.runs)

use Rattle.std.proofs.Common.{◌+◌, ◌∙◌, arith, sym}
use Rattle.lxr_c_arrays.specs.declared.side.Side.TheVariants.{Parts}
use Rattle.lxr_c_arrays.specs.Plans.{first_own, reaching}
use Rattle.lxr_c_arrays.specs.Sides.{parts_side}
use Rattle.lxr_c_arrays.proofs.PlanLemmas.{carried_by, carried_not, first_beyond}
use Rattle.lxr_c_arrays.proofs.SideLemmas.{no_own, past_end, within_end}
use Rattle.lxr_c_arrays.proofs.reaching.reach_in_parts.Goals as goal

pub returns-in_default-clause-reaches : goal.returns-in_default-clause-reaches
returns-in_default-clause-reaches c = λ h is.
    carried_not c.args.heap.now (reaching c.args.access c.args.pair c.args.index) _ _ h (no_own c.args.root.elements (first_own c.args.heap.now) c.args.pair.array (c.args.index + 1) (sym c.first_own.ensures.first ∙ c.in_default.is))

pub returns-then-index-root-clause-reaches : goal.returns-then-index-root-clause-reaches
returns-then-index-root-clause-reaches c = λ h is.
    carried_not c.args.heap.now (reaching c.args.access c.args.pair c.args.index) _ _ h (past_end c.args.root.elements (first_own c.args.heap.now) c.args.pair.array c.args.index c.in-Some.part (sym c.first_own.ensures.first ∙ c.in-Some.is) c.if-index-root.true)

pub returns-clause-reaches : goal.returns-clause-reaches
returns-clause-reaches c =
    carried_by c.args.heap.now c.reach_part.new.heap (reaching c.args.access c.args.pair c.args.index) (parts_side c.args.root.elements (first_own c.args.heap.now) c.args.pair.array (c.args.index + 1)) (Parts c.args.pair.array c.in-Some.part) c.reach_part.result
    (within_end c.args.root.elements (first_own c.args.heap.now) c.args.pair.array c.args.index c.in-Some.part (sym c.first_own.ensures.first ∙ c.in-Some.is) c.if-index-root.false) c.reach_part.ensures.plan

pub reach_part-requires-clause-apart : goal.reach_part-requires-clause-apart
reach_part-requires-clause-apart c = λ e.
    let less = c.requires.pair.1 in
    let is = first_beyond c.args.heap.now c.in-Some.part (sym c.first_own.ensures.first ∙ c.in-Some.is) in
    omega (arith, less, is, e)

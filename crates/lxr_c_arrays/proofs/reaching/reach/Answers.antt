use Rattle.std.proofs.Common.{◌∙◌, ap, sym, subst, [], ◌∷◌}
use Rattle.std.specs.Prelude.{option_map}
use Rattle.lxr_c_arrays.specs.declared.side.Side.TheVariants.{Whole}
use Rattle.lxr_c_arrays.specs.Plans.{first_own, planned, reaching, touching}
use Rattle.lxr_c_arrays.specs.Running.{Carries, InTurn}
use Rattle.lxr_c_arrays.specs.Sides.{side_by}
use Rattle.lxr_c_arrays.proofs.PlanLemmas.{carried_with, pair_there}
use Rattle.lxr_c_arrays.proofs.RunLemmas.{turn_none}
use Rattle.lxr_c_arrays.proofs.reaching.reach.Goals as goal

pub touch-requires-clause-registers : goal.touch-requires-clause-registers
touch-requires-clause-registers c = let there = pair_there c.args.heap.now c.args.pair c.requires.serving.holds c.requires.pair in (there.1, there.0)

pub returns-in-None-clause-reaches : goal.returns-in-None-clause-reaches
returns-in-None-clause-reaches c = λ h is.
    let x = c.args.heap.now in
    let root = sym (ap (option_map (λ root. root.elements)) c.in-None.is) ∙ c.root_in.ensures.told h is.heap in
    carried_with x c.touch.new.heap c.touch.new.heap (reaching c.args.access c.args.pair c.args.index) _ (Whole c.args.pair.array) c.touch.result h is (ap (λ q. side_by q (first_own x) c.args.pair.array c.args.index) root)
    (subst (λ i. InTurn x (touching c.args.access c.args.pair.other c.args.pair.array i ∷ []) c.touch.new.heap c.touch.result) c.index_of.ensures c.touch.ensures.runs) (turn_none c.touch.new.heap)

pub returns-in-Some-clause-reaches : goal.returns-in-Some-clause-reaches
returns-in-Some-clause-reaches c = λ h is.
    let x = c.args.heap.now in
    let root = sym (ap (option_map (λ root. root.elements)) c.in-Some.is) ∙ c.root_in.ensures.told h is.heap in
    subst (λ q. Carries x c.reach_in_parts.new.heap h (planned (reaching c.args.access c.args.pair c.args.index) (side_by q (first_own x) c.args.pair.array c.args.index)) c.reach_in_parts.result) root (c.reach_in_parts.ensures.reaches h is)

use Rattle.std.proofs.Common.{[], subst}
use Rattle.lxr_graph.specs.Names.{has}
use Rattle.lxr_model.specs.Dead.{Promoted}
use Rattle.lxr_judge_sets.specs.Leading.{Finds}
use Rattle.lxr_judge_sets.proofs.LeadingLemmas.{promoted_found, set_found}
use Rattle.lxr_judge_sets.proofs.search.promoted.Goals as goal

pub returns : goal.returns
returns c =
    let state = c.args.graph.now in
    let kept = c.args.kept.now in
    let made = c.args.made.now in
    let one = c.find_held.new.found in
    let begun = c.find_from.new.found in
    let found = c.follow.new.found in
    let first : Finds (has made) [] state.registers one =
    subst (λ rs. Finds (has made) [] rs one) c.registers.ensures
    (subst (λ ns. Finds (has made) ns c.registers.result.now one) c.in_ok-found.ensures c.in_ok-find_held.ensures) in
    set_found c.in_order.result found (Promoted state kept made) c.in_order.ensures.order c.in_order.ensures.members
    (promoted_found state kept made one begun found first c.in_ok-find_from.ensures c.in_ok-follow.ensures)

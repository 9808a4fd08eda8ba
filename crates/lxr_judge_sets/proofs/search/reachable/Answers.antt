use Rattle.std.proofs.Common.{[], ◌∷◌, subst, true}
use Rattle.std.specs.Prelude.{Some}
use Rattle.lxr_graph.specs.State.{world_name}
use Rattle.lxr_model.specs.Reachable.{Reachable}
use Rattle.lxr_judge_sets.specs.Leading.{Finds}
use Rattle.lxr_judge_sets.proofs.LeadingLemmas.{reachable_found, set_found}
use Rattle.lxr_judge_sets.proofs.search.reachable.Goals as goal

pub returns : goal.returns
returns c =
    let state = c.args.graph.now in
    let one = c.find.new.found in
    let begun = c.find_held.new.found in
    let found = c.follow.new.found in
    let first : Finds (λ n. true) [] (Some world_name ∷ []) one =
    subst (λ ns. Finds (λ n. true) ns (Some world_name ∷ []) one) c.in_ok-found.ensures c.in_ok-find.ensures in
    let second : Finds (λ n. true) one state.registers begun =
    subst (λ rs. Finds (λ n. true) one rs begun) c.registers.ensures c.in_ok-find_held.ensures in
    set_found c.in_order.result found (Reachable state) c.in_order.ensures.order c.in_order.ensures.members
    (reachable_found state one begun found first second c.in_ok-follow.ensures)

use Rattle.std.proofs.Common.{sym, subst, arith}
use Rattle.std.specs.List.Sorted.{IsPermutation}
use Rattle.lxr_base.specs.Roomy.{Roomy}
use Rattle.lxr_base.proofs.RoomyLemmas.{turned_permutes}
use Rattle.lxr_graph.proofs.names.turn_upwards.Goals as goal

pub returns-then-is_above_last-clause-permutation : goal.returns-then-is_above_last-clause-permutation
returns-then-is_above_last-clause-permutation g c =
    let list = c.args.list.now in
    subst (λ (l : Roomy _). IsPermutation list.items l.items) (sym c.reverse_within.ensures) (turned_permutes list 0 c.len-count.result (omega arith))

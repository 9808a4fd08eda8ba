use Rattle.std.proofs.Common.{ap, arith, length, subst, sym, ◌∙◌}
use Rattle.std.proofs.lemmas.List.Sorted.{IsPermutation-trans, length_permutation}
use Rattle.std.specs.List.Sorted.{IsPermutation}
use Rattle.lxr_base.specs.Roomy.{Roomy}
use Rattle.lxr_base.proofs.RoomyLemmas.{turned_permutes}
use Rattle.lxr_graph.proofs.names.turn_runs.Goals as goal

pub loop-from-preserved : goal.loop-from-preserved
loop-from-preserved g c =
    let was = c.loop-from.list in
    let now = c.reverse_within.new.self in
    let run = c.falling_end-end.ensures in
    let turned = turned_permutes was c.loop-from.from c.falling_end-end.result (omega (arith, run)) in
    let moved : IsPermutation was.items now.items = subst (λ (l : Roomy _). IsPermutation was.items l.items) (sym c.reverse_within.ensures) turned in
    let long = length_permutation _ _ moved in
    let seen = ap length c.as_slice.ensures in
    record {
      within = omega (arith, run, long, seen);
      permutation = IsPermutation-trans _ _ _ c.loop-from.invariant.permutation moved;
      room = ap (λ (l : Roomy _). l.room) c.reverse_within.ensures ∙ c.loop-from.invariant.room;
    }

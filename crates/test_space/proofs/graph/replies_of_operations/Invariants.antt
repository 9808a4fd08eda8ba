use Rattle.std.proofs.Common.{◌≡◌, ◌≤◌, length}
use Rattle.std.specs.List.{AllByRecursion}
use Rattle.lxr_graph.specs.State.{row_of}
use Rattle.lxr_graph.specs.Step.{IsWellFormed}
use Rattle.test_space.proofs.graph.replies_of_operations.Given as goal

abbrev pub invariant-loop-op : goal.invariant-loop-op
invariant-loop-op g l =
    record {
      rows : length l.graph.graph ≡ 2;
      room : length (row_of l.graph.graph 1) ≤ l.op-index;
      formed : AllByRecursion (λ p. IsWellFormed p.0) l.op-items;
    }

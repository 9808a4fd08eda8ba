use Rattle.std.proofs.Common.{◌<◌, arith}
use Rattle.std.proofs.lemmas.List.Elements.{All-from_recursion}
use Rattle.lxr_graph.specs.declared.Op.{Op}
use Rattle.lxr_graph.specs.declared.Reply.{Reply}
use Rattle.lxr_graph.specs.Step.{IsWellFormed}
use Rattle.test_space.proofs.graph.replies_of_operations.Goals as goal

pub apply-requires-clause-op : goal.apply-requires-clause-op
apply-requires-clause-op g c =
    let below : c.loop-op.op-index < 4 = omega arith in
    search (All-from_recursion (λ (p : Op × Reply). IsWellFormed p.0), c.loop-op.invariant.formed, below)

use Rattle.std.proofs.Common.{◌≡◌, ◌+◌, ◌≤◌, List, ◌++◌, map, length, vec_len, vec_capacity}
use Rattle.std.specs.Vec.Iter.{into_iter_items, into_iter_len}
use Rattle.lxr_graph.specs.declared.Op.{Op}
use Rattle.lxr_base.specs.Roomy.{Roomy}
use Rattle.lxr_run_loop.specs.Made.{AreMade}
use Rattle.lxr_run_loop.proofs.opening.make_mutators.Given as goal

abbrev pub invariant-loop-operations : goal.invariant-loop-operations
invariant-loop-operations l = record {
  taken : (taken : List (Roomy Op)) × (l.fn.script.items ≡ taken ++ into_iter_items l.operations-iterator)
      × AreMade l.limits l.every 0 0 (map (λ (o : Roomy Op). o.items) taken) l.actors.items;
  room : vec_len l.actors + into_iter_len l.operations-iterator + l.fn.more ≤ vec_capacity l.actors;
  count : vec_len l.actors ≡ length l.actors.items;
  limits : l.limits ≡ l.fn.limits;
  every : l.every ≡ l.fn.every;
}

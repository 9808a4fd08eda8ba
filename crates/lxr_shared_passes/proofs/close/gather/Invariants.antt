use Rattle.std.proofs.Common.{◌≡◌, ◌+◌, ◌≤◌, List, [], ◌++◌, map, vec_len, vec_capacity}
use Rattle.std.specs.Vec.Iter.{into_iter_items, into_iter_len}
use Rattle.lxr_actor.specs.Run.{core_of}
use Rattle.lxr_shared_passes.specs.Passing.{Passing}
use Rattle.lxr_shared_passes.specs.Rule.{view, held_of}
use Rattle.lxr_shared_passes.proofs.close.gather.Given as goal

abbrev pub invariant-loop-pass : goal.invariant-loop-pass
invariant-loop-pass g l = record {
  table : l.main.table_id ≡ l.fn.main.table_id;
  room : vec_len l.actors + into_iter_len l.rest ≤ vec_capacity l.actors;
  taken : (taken : List (Passing g.row.A.Denot)) × (l.fn.passes.items ≡ taken ++ into_iter_items l.rest)
      × (l.main.me ≡ (view (core_of l.table.shared.key.words l.table.shared.key.actors.items) (map held_of taken), []))
      × (l.actors.items ≡ map (λ p. p.actor) taken);
}

abbrev pub decreases-loop-pass : goal.decreases-loop-pass
decreases-loop-pass g l = into_iter_len l.rest

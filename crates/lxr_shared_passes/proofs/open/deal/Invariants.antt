use Rattle.std.proofs.Common.{◌≡◌, ◌+◌, ◌≤◌, List, [], ◌++◌, length, vec_len, vec_capacity}
use Rattle.std.specs.Vec.Iter.{into_iter_items, into_iter_len}
use Rattle.lxr_shared_passes.specs.Passing.{dealt}
use Rattle.lxr_shared_passes.specs.Rule.{view, entries}
use Rattle.lxr_shared_passes.proofs.open.deal.Given as goal

abbrev pub invariant-loop-actor : goal.invariant-loop-actor
invariant-loop-actor g l = record {
  main : l.main.me ≡ (view l.fn.main.me.0.core (entries l.number (into_iter_items l.rest)), []);
  table : l.main.table_id ≡ l.fn.main.table_id;
  count : l.number ≡ vec_len l.passes;
  room : vec_len l.passes + into_iter_len l.rest ≤ vec_capacity l.passes;
  taken : (taken : List g.row.A.Denot) × (length taken ≡ l.number) × (l.fn.actors.items ≡ taken ++ into_iter_items l.rest)
      × (l.passes.items ≡ dealt l.fn.main.table_id l.fn.main.me.0.core 0 taken);
}

abbrev pub decreases-loop-actor : goal.decreases-loop-actor
decreases-loop-actor g l = into_iter_len l.rest

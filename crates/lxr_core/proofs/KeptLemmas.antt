-- Each event of a mutator and each step of a helper keeps the invariant of an epoch: its parts are kept side by side, each by lemmas of its
-- own crate. A helper's step leaves all of them but those that speak of helpers: counts and pending decrements, what tracers know, the
-- trace's cover and marks, and what is remembered.
use Rattle.std.specs.Prelude.{List, slice_set}
use Rattle.lxr_image.specs.Tables.{Tables}
use Rattle.lxr_core_access.specs.Accesses.{done_to}
use Rattle.lxr_core_access.specs.Decrementers.{Decrementing}
use Rattle.lxr_core_access.specs.Tracers.{Tracing}
use Rattle.lxr_core_invariant.specs.EpochStates.{Beginning, EpochState}
use Rattle.lxr_core_invariant.specs.Decremented.{LeavesTables}
use Rattle.lxr_core_invariant.specs.Counted.{AreCountedIn}
use Rattle.lxr_core_invariant.specs.Traced.{AreScannedIn}
use Rattle.lxr_core_invariant.specs.Covered.{SnapshotIsCoveredIn}
use Rattle.lxr_core_invariant.specs.Inside.{MarksStayInsideIn}
use Rattle.lxr_core_invariant.specs.Remembered.{AreRememberedIn}
use Rattle.lxr_core_invariant.specs.Epoch.{IsEpoch}
use Rattle.lxr_core_invariant.specs.Laws.{DecrementersKeepEpoch, EpochIsKept, TracersKeepEpoch}
use Rattle.lxr_core_inv_counts.proofs.KeepingLemmas.{counts_are_kept, decrementers_are_sound, decrementers_keep_counts, tracers_keep_counts}
use Rattle.lxr_core_inv_history.proofs.EventLemmas.{history_is_kept}
use Rattle.lxr_core_inv_history.proofs.LeftLemmas.{history_is_left}
use Rattle.lxr_core_inv_heap.proofs.ImageLeftLemmas.{placed_is_left}
use Rattle.lxr_core_inv_heap.proofs.ImagePlacedLemmas.{placed_is_kept}
use Rattle.lxr_core_inv_trace.proofs.InsideKeepingLemmas.{decrementers_keep_inside, inside_is_kept, tracers_keep_inside}
use Rattle.lxr_core_inv_heap.proofs.LogsEventLemmas.{events_keep}
use Rattle.lxr_core_inv_heap.proofs.LogsLeftLemmas.{bits_and_logs_are_left}
use Rattle.lxr_core_inv_memory.proofs.DrawnLemmas.{drawn_memory_is_kept}
use Rattle.lxr_core_inv_memory.proofs.FixedLemmas.{fixed_tables_are_kept, fixed_tables_are_left}
use Rattle.lxr_core_inv_memory.proofs.LeftLemmas.{drawn_memory_is_left}
use Rattle.lxr_core_inv_trace.proofs.RememberedKeepingLemmas.{decrementers_keep_remembered, remembered_is_kept, tracers_keep_remembered}
use Rattle.lxr_core_inv_history.proofs.KeepingLemmas.{registers_are_kept}
use Rattle.lxr_core_inv_history.proofs.RegistersLeftLemmas.{registers_are_left}
use Rattle.lxr_core_inv_history.proofs.ReplyLemmas.{replies_are_steps}
use Rattle.lxr_core_inv_trace.proofs.ScansKeepingLemmas.{decrementers_keep_knowledge, knowledge_is_kept, tracers_are_sound, tracers_keep_knowledge}
use Rattle.lxr_core_inv_trace.proofs.SnapshotHelperLemmas.{decrementers_keep_cover, tracers_keep_cover}
use Rattle.lxr_core_inv_trace.proofs.SnapshotMutatorLemmas.{cover_is_kept}

-- all parts are kept, so all of it is
pub epoch_is_kept : EpochIsKept
epoch_is_kept b s i v e epoch shown may =
    let history = history_is_kept replies_are_steps b s i v e epoch shown may in
    record {
      begins = epoch.begins;
      extends = history.extends;
      lives = history.lives;
      image = record { placed = placed_is_kept replies_are_steps b s i v e epoch shown may; registers = registers_are_kept b s i v e epoch shown may };
      logged = events_keep replies_are_steps b s i v e epoch shown may;
      counted = counts_are_kept b s i v e epoch shown may;
      scanned = knowledge_is_kept b s i v e epoch shown may;
      covered = cover_is_kept b s i v e epoch shown may;
      inside = inside_is_kept b s i v e epoch shown may;
      remembered = remembered_is_kept b s i v e epoch shown may;
      drawn = drawn_memory_is_kept b s i v e epoch shown may;
      fixed = fixed_tables_are_kept b s i v e epoch shown may;
      called = history.called;
    }

-- the parts that speak of what helpers do
record KeepsOfHelpers (b : Beginning) (s : EpochState) : Type 0 where
  counted : AreCountedIn b s
  scanned : AreScannedIn b s
  covered : SnapshotIsCoveredIn b s
  inside : MarksStayInsideIn b s
  remembered : AreRememberedIn b s

-- where a helper's step keeps these, all others are left
helpers_keep : (b : Beginning) (s : EpochState) (u : Tables) (ds : List Decrementing) (ts : List Tracing) → IsEpoch b s → LeavesTables s.tables u
    → KeepsOfHelpers b (record s { tables = u; decrementers = ds; tracers = ts }) → IsEpoch b (record s { tables = u; decrementers = ds; tracers = ts })
helpers_keep b s u ds ts epoch leaves keeps =
    let history = history_is_left b s u ds ts epoch leaves in
    record {
      begins = epoch.begins;
      extends = history.extends;
      lives = history.lives;
      image = record { placed = placed_is_left b s u ds ts epoch leaves; registers = registers_are_left b s u ds ts epoch leaves };
      logged = bits_and_logs_are_left b s u ds ts epoch leaves;
      counted = keeps.counted;
      scanned = keeps.scanned;
      covered = keeps.covered;
      inside = keeps.inside;
      remembered = keeps.remembered;
      drawn = drawn_memory_is_left b s u ds ts epoch leaves;
      fixed = fixed_tables_are_left b s u ds ts epoch leaves;
      called = history.called;
    }

-- so it is with a decrementer's step
pub decrementers_keep_epoch : DecrementersKeepEpoch
decrementers_keep_epoch b s i access after epoch may =
    helpers_keep b s (done_to s.tables access) (slice_set s.decrementers i after) s.tracers epoch (decrementers_are_sound b s i access after epoch may).0.leaves (record {
      counted = decrementers_keep_counts b s i access after epoch may;
      scanned = decrementers_keep_knowledge b s i access after epoch may;
      covered = decrementers_keep_cover b s i access after epoch may;
      inside = decrementers_keep_inside decrementers_keep_counts b s i access after epoch may;
      remembered = decrementers_keep_remembered b s i access after epoch may;
    })

-- and with a tracer's
pub tracers_keep_epoch : TracersKeepEpoch
tracers_keep_epoch b s i access after epoch may =
    helpers_keep b s (done_to s.tables access) s.decrementers (slice_set s.tracers i after) epoch (tracers_are_sound b s i access after epoch may).0.leaves (record {
      counted = tracers_keep_counts b s i access after epoch may;
      scanned = tracers_keep_knowledge b s i access after epoch may;
      covered = tracers_keep_cover b s i access after epoch may;
      inside = tracers_keep_inside b s i access after epoch may;
      remembered = tracers_keep_remembered b s i access after epoch may;
    })

-- What the increments of a pause do.
use Rattle.std.specs.Prelude.{◌≡◌, ◌≢◌, ℕ, ◌+◌, ◌≤◌, ◌↔◌, ◌⊎◌, Bool, Option, Some, None, List, [], IsTrue, length}
use Rattle.lxr_layout.specs.declared.TheConstants.{DECREMENT_COUNT, REMEMBERED_CURSOR}
use Rattle.lxr_layout.specs.declared.Name.{Name}
use Rattle.lxr_layout.specs.declared.LogEntry.{LogEntry}
use Rattle.lxr_graph.specs.Names.{has}
use Rattle.lxr_image.specs.declared.space.Space.{Space}
use Rattle.lxr_image.specs.Spaces.{tables_of}
use Rattle.lxr_image.specs.Reads.{granule_of}
use Rattle.lxr_blocks.specs.States.{KeepsState}
use Rattle.lxr_model.specs.Moments.{Moment, Trace}
use Rattle.lxr_model.specs.References.{reference_slots}
use Rattle.lxr_model_counting.specs.Distinct.{has_field}
use Rattle.lxr_invariant.specs.Counting.{IsUndecremented}
use Rattle.lxr_invariant.specs.Copied.{CopiesLieOnFreeLines, CopiesPromoted, StayForWantOfLines}
use Rattle.lxr_invariant.specs.Keeping.{KeepsLists}
use Rattle.lxr_invariant.specs.Lines.{AvoidChosen}
use Rattle.lxr_invariant.specs.Quiescent.{HoldsMoment}
use Rattle.lxr_invariant.specs.Raised.{IsRaised}
use Rattle.lxr_invariant.specs.Tracing.{IsOldValue}
use Rattle.lxr_remset.specs.Remembering.{CanRemember, EntersOnce, Remembers, with_remembered_of}

-- Counts may be raised: the space holds a moment whose dead are gone, no decrement waits, nothing is reported as promoted or stuck
-- yet, and references may be remembered.
pub record CanRaise (s : Space) (m : Moment) (at : Name → ℕ) : Type 0 where
  pub holds : HoldsMoment s m at
  pub undecremented : IsUndecremented (tables_of s) m at
  pub empty : (tables_of s).cursors DECREMENT_COUNT ≡ 0
  pub none_promoted : s.report.promoted.items ≡ []
  pub none_stuck : s.report.stuck.items ≡ []
  pub remembers : CanRemember m.trace (tables_of s)

-- While a trace runs, the promoted objects are marked, since the trace wouldn't find them; no other mark bit changes.
abbrev pub RaisesMarks : Option Trace → (ℕ → Bool) → (ℕ → Bool) → (Name → ℕ) → List Name → Type 0
RaisesMarks None before after at promoted = after ≡ before
RaisesMarks (Some trace) before after at promoted =
    (k : ℕ) → IsTrue (after k) ↔ (IsTrue (before k) ⊎ ((n : Name) × IsTrue (has promoted n) × (k ≡ granule_of (at n))))

-- While a trace runs, the old values of logged references are made gray, since the snapshot held them; no other gray bit changes.
abbrev pub RaisesGrays : Option Trace → (ℕ → Bool) → (ℕ → Bool) → List LogEntry → Type 0
RaisesGrays None before after entries = after ≡ before
RaisesGrays (Some trace) before after entries =
    (k : ℕ) → IsTrue (after k) ↔ (IsTrue (before k) ⊎ ((p : ℕ) × IsOldValue entries p × (p ≢ 0) × (k ≡ granule_of p)))

-- Counts are raised, and what the report has is what was promoted and became stuck. The promoted objects are copied where lines fit
-- them, and stand at their new places, which registers hold. While a trace runs, what is promoted is marked, and what logged references
-- held is made gray. Each reference of a promoted object, and each that was written, is remembered where it leads into a Chosen block,
-- and no more are remembered than there are such references: one number is drawn for each that leads into a Chosen block and is entered, for
-- none twice, and no other. Other lists and the entries of the table of decrements stay, and no block
-- has become Chosen or World or ceased to be so; no promoted object stands in a Chosen block. Nothing else has changed, but that no line
-- is out, and no rest is left of the lines that a pause placed on last.
pub record Raises (before after : Space) (m : Moment) (at at' : Name → ℕ) : Type 0 where
  pub raised : IsRaised after m at' after.report.promoted.items after.report.stuck.items
  pub copies : CopiesPromoted (tables_of before) (tables_of after) m at at' after.report.promoted.items
  pub onto : CopiesLieOnFreeLines before m at at' after.report.promoted.items
  pub stay : StayForWantOfLines (tables_of before) (tables_of after) before.limits.blocks m at at' after.report.promoted.items (λ line. ⊥)
  pub keeps : KeepsLists (with_remembered_of (tables_of before) (tables_of after)) (tables_of after)
  pub remembers : Remembers before.limits (tables_of before) (tables_of after) m at at' (λ n i. IsTrue (has after.report.promoted.items n) ⊎ IsTrue (has_field m.written (n, i)))
  pub entered : EntersOnce before.limits (tables_of before) (tables_of after) m at' (λ n i. IsTrue (has after.report.promoted.items n) ⊎ IsTrue (has_field m.written (n, i)))
  pub bound : (tables_of after).cursors REMEMBERED_CURSOR ≤ (tables_of before).cursors REMEMBERED_CURSOR + reference_slots m.state.graph after.report.promoted.items + length m.written
  pub states : (b : ℕ) → KeepsState (tables_of before) (tables_of after) b
  pub unchosen : AvoidChosen (tables_of after) at' after.report.promoted.items
  pub marks : RaisesMarks m.trace (tables_of before).marks (tables_of after).marks at' after.report.promoted.items
  pub grays : RaisesGrays m.trace (tables_of before).grays (tables_of after).grays before.logged.items
  pub decs : (tables_of after).decs ≡ (tables_of before).decs
  pub space : after ≡ record before {
    words = after.words;
    registers = record before.registers { items = after.registers.items };
    report = record before.report {
      promoted = record before.report.promoted { items = after.report.promoted.items };
      stuck = record before.report.stuck { items = after.report.stuck.items };
    };
    rest_next = 0;
    rest_end = 0;
  }

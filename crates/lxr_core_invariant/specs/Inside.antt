-- While a trace runs, its marks stay inside the snapshot: neither it nor anything that tracers have in hand leads to what was garbage when
-- it began.
use Rattle.std.specs.Prelude.{◌≡◌, ℕ, ⊤, Option, Some, None, List, IsTrue, slice_get}
use Rattle.lxr_layout.specs.declared.Name.{Name}
use Rattle.lxr_graph.specs.Names.{has}
use Rattle.lxr_image.specs.Tables.{Tables}
use Rattle.lxr_model.specs.Moments.{Moment, Trace}
use Rattle.lxr_invariant.specs.Tracing.{IsInSnapshot, MarksStayInside}
use Rattle.lxr_core_access.specs.Tracers.{Tracing}
use Rattle.lxr_core_invariant.specs.EpochStates.{Beginning, EpochState, moment_of}
use Rattle.lxr_core_invariant.specs.Covered.{grayed_by}

-- marks, grays and dones stay inside the snapshot of a trace, and so does what tracers have loaded as a reference
pub record StaysInside (t : Tables) (m : Moment) (at : Name → ℕ) (ts : List Tracing) (trace : Trace) : Type 0 where
  pub marks : MarksStayInside t m at trace
  pub loaded : (i : ℕ) (d : Tracing) (n : Name) → slice_get ts i ≡ Some d → grayed_by d ≡ Some (at n) → IsTrue (has m.unreclaimed n) → IsInSnapshot m trace n

abbrev pub StaysInsideWhile : Beginning → EpochState → Option Trace → Type 0
StaysInsideWhile b s None = ⊤
StaysInsideWhile b s (Some trace) = StaysInside s.tables (moment_of b s) s.at s.tracers trace

abbrev pub MarksStayInsideIn : Beginning → EpochState → Type 0
MarksStayInsideIn b s = StaysInsideWhile b s (moment_of b s).trace

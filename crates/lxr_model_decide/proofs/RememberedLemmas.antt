-- The trace that runs behind the history is computed, and so is its snapshot.
use Rattle.std.proofs.Common.{refl, [], ◌∷◌}
use Rattle.std.specs.Prelude.{reverse}
use Rattle.lxr_graph.specs.declared.report.Kind.TheVariants as kind
use Rattle.lxr_graph.specs.History.{Pause}
use Rattle.lxr_model.specs.Moments.{Trace, moment, trace_from}
use Rattle.lxr_model_decide.specs.Sets.{reachable_names}
use Rattle.lxr_model_decide.proofs.SetLemmas.{reachable_right}
use Rattle.lxr_model_decide.proofs.LegalityLemmas.{legal_so_far}
use Rattle.lxr_model_decide.specs.ExampleWords.{asks, quiet, world_count}
use Rattle.lxr_model_decide.specs.Remembered.{RememberedAreSummed, longer_traces, remembering}

-- the trace as it began, with what was promoted and stored to since
abbrev trace : Trace
trace = record (trace_from (moment 1 (asks ∷ Pause (quiet 1 kind.Plain []) ∷ asks ∷ [])) (quiet 2 kind.Begin (world_count ∷ []))) { promoted_slots = 2; written_slots = 1 }

pub remembered_are_summed : RememberedAreSummed
remembered_are_summed = record {
  legal = legal_so_far longer_traces (reverse remembering) refl refl;
  trace = trace;
  running = refl;
  snapshot = reachable_names trace.state;
  reachable = reachable_right trace.state;
  sum = refl;
}

-- How many references a trace may have remembered, counted in a history.
use Rattle.std.specs.Prelude.{◌≡◌, ℕ, Some, List, [], ◌∷◌, reverse}
use Rattle.lxr_layout.specs.declared.Name.{Name}
use Rattle.lxr_graph.specs.declared.report.Kind.TheVariants as kind
use Rattle.lxr_graph.specs.Names.{IsSetOf}
use Rattle.lxr_graph.specs.History.{Item, Pause}
use Rattle.lxr_model.specs.Terms.{Terms}
use Rattle.lxr_model.specs.Reachable.{Reachable}
use Rattle.lxr_model.specs.Moments.{Trace, rememberable, trace_at}
use Rattle.lxr_model.specs.Legal.{IsLegalSoFar}
use Rattle.lxr_model_decide.specs.ExampleWords.{usual_terms, made, makes, stores, clears, asks, quiet, world_count}

-- behind these items, oldest first, a trace runs that may have remembered so many references
pub record MayHaveRemembered (terms : Terms) (items : List Item) (most : ℕ) : Type 0 where
  pub legal : IsLegalSoFar terms (reverse items)
  pub trace : Trace
  pub running : trace_at terms (reverse items) ≡ Some trace
  pub snapshot : List Name
  pub reachable : IsSetOf snapshot (Reachable trace.state)
  pub sum : rememberable trace snapshot ≡ most

-- a trace begins at each second pause at which none runs, and ends two pauses later
abbrev pub longer_traces : Terms
longer_traces = record usual_terms { trace = 2; within = 2 }

-- While a trace runs, 1.1 with two references is stored to the world and promoted at the next pause. 1.2, which nothing holds
-- then, isn't.
abbrev pub remembering : List Item
remembering =
    asks ∷ Pause (quiet 1 kind.Plain [])
    ∷ asks ∷ Pause (quiet 2 kind.Begin (world_count ∷ []))
    ∷ makes 1 2 1 ∷ makes 2 5 2 ∷ stores 0 0 1 ∷ clears 2 ∷ asks
    ∷ Pause (record (quiet 3 kind.Plain []) { promoted = made 1 ∷ [] })
    ∷ []

-- the world has 64 references, 1.1 has two, and one was stored to
abbrev pub RememberedAreSummed : Type 0
RememberedAreSummed = MayHaveRemembered longer_traces remembering 67

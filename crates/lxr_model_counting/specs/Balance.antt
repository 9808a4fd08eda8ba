-- What increments add and what decrements take away, against the references at the last pause and now.
use Rattle.std.specs.Prelude.{ℕ, ◌+◌, not, ◌&&◌, Option, Some, List, count_by}
use Rattle.std.specs.List.{zip}
use Rattle.lxr_layout.specs.declared.Name.{Name}
use Rattle.lxr_graph.specs.Names.{same_held}
use Rattle.lxr_model.specs.Moments.{Moment}
use Rattle.lxr_model.specs.Reports.{field_holds}

-- the registers that held o before and don't now
abbrev pub newly_dropped : List (Option Name) → List (Option Name) → Name → ℕ
newly_dropped before now o = count_by (λ p. same_held (Some o) p.0 && not (same_held (Some o) p.1)) (zip before now)

-- how often o is to be lowered: written fields that held it at the last pause, and registers that hold it no more
abbrev pub lowered : Moment → Name → ℕ
lowered m o = count_by (field_holds m.last.graph o) m.written + newly_dropped m.last.registers m.state.registers o

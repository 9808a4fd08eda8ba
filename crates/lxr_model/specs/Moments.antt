-- The moment that a history leads to: all that the next item depends on. Items stand newest first.
use Rattle.std.specs.Prelude.{ℕ, ◌+◌, ◌&&◌, nat_eq, if◌then◌else◌, Bool, Option, Some, None, List, [], ◌∷◌, length, map}
use Rattle.std.specs.List.{list_any}
use Rattle.lxr_layout.specs.declared.Name.{Name}
use Rattle.lxr_graph.specs.declared.Op.{Op}
use Rattle.lxr_graph.specs.declared.Op.TheVariants as op
use Rattle.lxr_graph.specs.declared.Reply.{Reply}
use Rattle.lxr_graph.specs.declared.Reply.TheVariants as reply
use Rattle.lxr_graph.specs.declared.report.Kind.{Kind}
use Rattle.lxr_graph.specs.declared.report.Kind.TheVariants as kind
use Rattle.lxr_graph.specs.Names.{same_name, has, without, insert_name, union}
use Rattle.lxr_graph.specs.State.{State, opening, world_name, register_at}
use Rattle.lxr_graph.specs.Step.{state_after}
use Rattle.lxr_graph.specs.History.{PauseReport, Item, Call, Pause, Renew}
use Rattle.lxr_graph.specs.Renewing.{renewed_name, renewed_state}
use Rattle.lxr_model.specs.Terms.{Terms}
use Rattle.lxr_model.specs.References.{reference_slots}

-- a reference as a place in the graph: an object's name and an index
abbrev pub Field : Type 0
Field = Name × ℕ

-- two fields are the same reference of the same object
abbrev pub same_field : Field → Field → Bool
same_field a b = same_name a.0 b.0 && nat_eq a.1 b.1

-- a trace that runs: the number of the pause at which it began, with the state and the unreclaimed names there; and of the
-- pauses since, how many references the objects that they promoted have, and how many references of unreclaimed objects
-- were written before them
pub record Trace : Type 0 where
  pub began : ℕ
  pub state : State
  pub unreclaimed : List Name
  pub promoted_slots : ℕ
  pub written_slots : ℕ

-- the state now and at the last pause; that pause's number, and the unreclaimed and the stuck names after it; the trace
-- that runs; since that pause, the names made and the references of unreclaimed objects that were written
pub record Moment : Type 0 where
  pub state : State
  pub last : State
  pub number : ℕ
  pub unreclaimed : List Name
  pub stuck : List Name
  pub trace : Option Trace
  pub made : List Name
  pub written : List Field

-- the opening: nothing is unreclaimed but the world, which is stuck from the start
abbrev pub opening_moment : ℕ → Moment
opening_moment threads = record {
  state = opening threads;
  last = opening threads;
  number = 0;
  unreclaimed = world_name ∷ [];
  stuck = world_name ∷ [];
  trace = None;
  made = [];
  written = [];
}

-- a name that was made joins those made since the last pause
abbrev pub made_after : List Name → Reply → List Name
made_after ns (reply.New n) = insert_name n ns
made_after ns _ = ns

-- a field joins the written ones, each once
abbrev pub with_field : List Field → Field → List Field
with_field ws w = if list_any (same_field w) ws then ws else w ∷ ws

-- the written fields after a write to what the base register holds: those of unreclaimed objects count
abbrev pub written_with : List Name → List Field → Option Name → ℕ → List Field
written_with us ws None i = ws
written_with us ws (Some n) i = if has us n then with_field ws (n, i) else ws

-- a `store` that replied ok, and a `swap` that replied a name or nil, writes a field
abbrev pub written_after : Moment → ℕ → Op → Reply → List Field
written_after m t (op.Store base index source) reply.Stored = written_with m.unreclaimed m.written (register_at m.state t base) index
written_after m t (op.Swap dest base index source) (reply.Swapped old) = written_with m.unreclaimed m.written (register_at m.state t base) index
written_after m t _ _ = m.written

-- the moment after a call
abbrev pub after_call : Moment → ℕ → Op → Reply → Moment
after_call m t o r = record m { state = state_after m.state t o r; made = made_after m.made r; written = written_after m t o r }

-- what a pause leaves of these names: neither dead nor swept
abbrev pub left_by : PauseReport → List Name → List Name
left_by report ns = without (without ns report.dead) report.swept

-- the unreclaimed names after a pause: those before it and the promoted, as it leaves them
abbrev pub unreclaimed_after : Moment → PauseReport → List Name
unreclaimed_after m report = left_by report (union report.promoted m.unreclaimed)

-- the stuck names after a pause: those before it and those that became stuck, as it leaves them
abbrev pub stuck_after : Moment → PauseReport → List Name
stuck_after m report = left_by report (union report.stuck m.stuck)

-- a trace that goes on at a pause counts the references of what the pause promotes, and those that were written before it
abbrev pub going_on : Moment → PauseReport → Option Trace → Option Trace
going_on m report None = None
going_on m report (Some trace) = Some (record trace {
  promoted_slots = trace.promoted_slots + reference_slots m.state.graph report.promoted;
  written_slots = trace.written_slots + length m.written;
})

-- the trace that begins at a pause
abbrev pub trace_from : Moment → PauseReport → Trace
trace_from m report = record {
  began = report.number;
  state = m.state;
  unreclaimed = unreclaimed_after m report;
  promoted_slots = 0;
  written_slots = 0;
}

-- the trace that runs after a pause of this kind
abbrev pub trace_after : Moment → PauseReport → Kind → Option Trace
trace_after m report kind.Plain = going_on m report m.trace
trace_after m report kind.Begin = Some (trace_from m report)
trace_after m report (kind.End j) = None
trace_after m report kind.Collect = None

-- the moment after a pause, which changes no state
abbrev pub after_pause : Moment → PauseReport → Moment
after_pause m report = record {
  state = m.state;
  last = m.state;
  number = report.number;
  unreclaimed = unreclaimed_after m report;
  stuck = stuck_after m report;
  trace = trace_after m report report.kind;
  made = [];
  written = [];
}

-- The moment, of so many threads, with all its names renewed: pauses are counted from 0 again, no trace runs, and nothing was made or written
-- since the last pause.
abbrev pub renewed_moment : ℕ → List Name → Moment → Moment
renewed_moment threads ns m = record {
  state = renewed_state threads ns m.state;
  last = renewed_state threads ns m.last;
  number = 0;
  unreclaimed = map (renewed_name ns) m.unreclaimed;
  stuck = map (renewed_name ns) m.stuck;
  trace = None;
  made = [];
  written = [];
}

-- the moment that a history of so many threads leads to
abbrev pub moment : ℕ → List Item → Moment
moment threads [] = opening_moment threads
moment threads (Renew ns ∷ h) = renewed_moment threads ns (moment threads h)
moment threads (Call t o r ∷ h) = after_call (moment threads h) t o r
moment threads (Pause report ∷ h) = after_pause (moment threads h) report

-- the state that a history under these terms leads to, with the unreclaimed and the stuck names and the running trace
abbrev pub state_at : Terms → List Item → State
state_at terms h = (moment terms.threads h).state

abbrev pub unreclaimed_at : Terms → List Item → List Name
unreclaimed_at terms h = (moment terms.threads h).unreclaimed

abbrev pub stuck_at : Terms → List Item → List Name
stuck_at terms h = (moment terms.threads h).stuck

abbrev pub trace_at : Terms → List Item → Option Trace
trace_at terms h = (moment terms.threads h).trace

-- ---- the remembered set

-- How many references a trace may have remembered so far, where these names are its snapshot: those of the snapshot's
-- objects, those of the objects promoted since it began, and those written before each pause since.
abbrev pub rememberable : Trace → List Name → ℕ
rememberable trace snapshot = reference_slots trace.state.graph snapshot + trace.promoted_slots + trace.written_slots

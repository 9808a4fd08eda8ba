-- What a pause does to places and blocks: which blocks it chooses and releases, which objects it moves out of them, and where what it
-- promoted and moved stands.
use Rattle.std.specs.Prelude.{◌≡◌, ◌≢◌, ℕ, ◌+◌, ◌*◌, ◌%◌, ◌^◌, ◌<◌, ◌≤◌, ◌↔◌, ◌⊎◌, Bool, false, if◌then◌else◌, Option, Some, None, List, [], IsTrue, length}
use Rattle.lxr_layout.specs.declared.Name.{Name}
use Rattle.lxr_layout.specs.declared.TheConstants.{GRANULES_IN_BLOCK}
use Rattle.lxr_layout.specs.declared.runs.Run.{Run}
use Rattle.lxr_layout.specs.Objects.{line_count, moved_word}
use Rattle.lxr_layout.specs.Places.{first_word}
use Rattle.lxr_layout.specs.declared.limits.Limits.{Limits}
use Rattle.lxr_graph.specs.declared.report.Kind.{Kind}
use Rattle.lxr_graph.specs.declared.report.Kind.TheVariants as kind
use Rattle.lxr_graph.specs.History.{report_of}
use Rattle.lxr_graph.specs.Names.{IsSetOf, has}
use Rattle.lxr_graph.specs.State.{Object, object_at, shape_of}
use Rattle.lxr_image.specs.declared.space.Space.{Space}
use Rattle.lxr_image.specs.Spaces.{tables_of}
use Rattle.lxr_image.specs.Tables.{Tables}
use Rattle.lxr_blocks.specs.declared.states.BlockState.TheVariants.{Chosen}
use Rattle.lxr_blocks.specs.States.{IsOpenRun, state_in}
use Rattle.lxr_model.specs.Moments.{Field, Trace, going_on, rememberable}
use Rattle.lxr_model.specs.Reachable.{Reachable}
use Rattle.lxr_model_counting.specs.Distinct.{has_field}
use Rattle.lxr_invariant.specs.AbstractState.{AbstractState, leaving}
use Rattle.lxr_invariant.specs.Copied.{HasCopy, HasWord}
use Rattle.lxr_invariant.specs.Lines.{NoneChosen}
use Rattle.lxr_invariant.specs.Standing.{word_of_field}
use Rattle.lxr_invariant.specs.Tracing.{HasOverflowed, IsInChosen}
use Rattle.lxr_evac_blocks.specs.Choosing.{is_sparse, sparse_before}
use Rattle.lxr_evac_moving.specs.Evacuation.{RefersToOne}

-- ---- blocks

-- Which blocks are Chosen after a pause of a kind: after a plain one those that were; after one that begins a trace, of the blocks after the
-- world's of which some lines and at most 32 aren't free, exactly those before which fewer such go than may be Chosen; and none after one that
-- ends a trace or collects.
abbrev pub ChoosesBlocks : Kind → Tables → Tables → Limits → Type 0
ChoosesBlocks kind.Plain t u l = (b : ℕ) → (state_in u b ≡ Chosen) ↔ (state_in t b ≡ Chosen)
ChoosesBlocks kind.Begin t u l = (b : ℕ) → b < l.blocks → (state_in u b ≡ Chosen) ↔ (IsTrue (is_sparse u b) × (sparse_before l.blocks u b < l.evacuate))
ChoosesBlocks (kind.End j) t u l = NoneChosen u l.blocks
ChoosesBlocks kind.Collect t u l = NoneChosen u l.blocks

-- ---- evacuation

-- the kind of a pause that ends a trace
abbrev pub IsEnd : Kind → Type 0
IsEnd k = (j : ℕ) × (k ≡ kind.End j)

-- an object is to be moved: it stood in a Chosen block as a pause began that ended a trace, and is one of those that the pause leaves
pub record IsEvacuee (before after : Space) (g : AbstractState) (left : List Name) (n : Name) : Type 0 where
  pub ends : IsEnd after.report.kind
  pub stays : IsTrue (has left n)
  pub chosen : IsInChosen (tables_of before) g.at n

-- the names of the snapshot of a trace
abbrev pub IsSnapshotOf : Option Trace → List Name → Type 0
IsSnapshotOf None snapshot = ⊥
IsSnapshotOf (Some trace) snapshot = IsSetOf snapshot (Reachable trace.state)

-- how many references a trace may have remembered where these names are its snapshot
abbrev pub rememberable_by : Option Trace → List Name → ℕ
rememberable_by None snapshot = 0
rememberable_by (Some trace) snapshot = rememberable trace snapshot

-- What a pause moves out of Chosen blocks of what it leaves, and what it keeps there: it moves where lines outside these blocks fit, unless
-- the remembered set has overflowed. At the end of a trace that has happened only where more references may have been remembered than there
-- is room for: those of the snapshot, those of what was promoted since the trace began, and those that were written, with what this pause adds.
pub record Evacuates (before after : Space) (g : AbstractState) (at' : Name → ℕ) (left moved kept : List Name) : Type 0 where
  pub moved_are : IsSetOf moved (λ n. IsEvacuee before after g left n × (at' n ≢ g.at n))
  pub kept_are : IsSetOf kept (λ n. IsEvacuee before after g left n × (at' n ≡ g.at n))
  pub few : length moved + length kept ≤ GRANULES_IN_BLOCK * before.limits.blocks
  pub away : (n : Name) → IsTrue (has moved n) → ¬ IsInChosen (tables_of before) at' n
  pub wanting : (n : Name) (o : Object) → IsTrue (has kept n) → object_at g.moment.state.graph n ≡ Some o
      → HasOverflowed after.limits (tables_of after)
      ⊎ ((q : Run) → IsOpenRun (record (tables_of after) { states = (tables_of before).states }) before.limits.blocks q → q.lines < line_count (shape_of o))
  pub all_kept : HasOverflowed after.limits (tables_of after) → moved ≡ []
  pub overflows : (snapshot : List Name) → IsEnd after.report.kind → HasOverflowed after.limits (tables_of after)
      → IsSnapshotOf g.moment.trace snapshot → after.limits.remember < rememberable_by (going_on g.moment (report_of after.report) g.moment.trace) snapshot

-- ---- places

-- a count of hand-outs goes on by one where a condition holds
abbrev pub one_where : Bool → ℕ
one_where b = if b then 1 else 0

-- Objects that were promoted or moved may stand elsewhere now, and no others. Where one that was copied stood, the word of its new place is
-- left, unless a moved object lies there now. A heap word is as it was but for these, for those of promoted and moved objects now, for
-- references that were written since the last pause, and for references to what has moved of the objects that the pause leaves. A line is
-- counted as handed out once more where it has a promoted object's copy and wasn't out, and once more where it has a moved object.
pub record Relocates (before after : Space) (g : AbstractState) (at' : Name → ℕ) (left promoted moved : List Name) : Type 0 where
  pub others : (n : Name) → has promoted n ≡ false → has moved n ≡ false → at' n ≡ g.at n
  pub left_behind : (n : Name) → IsTrue (has promoted n) → at' n ≢ g.at n → ((u : Name) → IsTrue (has moved u) → ¬ HasWord g.moment.state.graph at' u (first_word (g.at n)))
      → (tables_of after).heap (first_word (g.at n)) ≡ moved_word (at' n)
  pub moved_from : (n : Name) → IsTrue (has moved n) → (tables_of after).heap (first_word (g.at n)) ≡ moved_word (at' n)
  pub heap : (w : ℕ) → ((n : Name) → IsTrue (has promoted n) → at' n ≢ g.at n → w ≢ first_word (g.at n)) → ((n : Name) → IsTrue (has promoted n) → ¬ HasWord g.moment.state.graph at' n w)
      → ((n : Name) → IsTrue (has moved n) → (w ≢ first_word (g.at n)) × ¬ HasWord g.moment.state.graph at' n w)
      → ((field : Field) → IsTrue (has_field g.moment.written field) → w ≢ word_of_field g.at field.0 field.1)
      → ¬ RefersToOne (leaving g.moment left) at' moved w → (tables_of after).heap w ≡ (tables_of before).heap w
  pub counted : (line : ℕ) (copied received : Bool) → (IsTrue copied ↔ (HasCopy g.moment.state.graph g.at at' promoted line × ((tables_of before).outs line ≡ false)))
      → (IsTrue received ↔ HasCopy g.moment.state.graph g.at at' moved line)
      → (tables_of after).reuse line ≡ ((tables_of before).reuse line + one_where copied + one_where received) % 2 ^ 32

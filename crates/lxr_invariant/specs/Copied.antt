-- What a pause changes of the heap: objects that it promotes are copied where lines fit them, and what referred to them refers to
-- the copies.
use Rattle.std.specs.Prelude.{◌≡◌, ◌≢◌, ℕ, ◌+◌, ◌/◌, ◌%◌, ◌^◌, ◌<◌, ◌≤◌, ◌⊎◌, false, Some, List, IsTrue}
use Rattle.lxr_layout.specs.declared.Name.{Name}
use Rattle.lxr_layout.specs.declared.TheConstants.{GRANULES_IN_LINE}
use Rattle.lxr_layout.specs.declared.runs.Run.{Run}
use Rattle.lxr_layout.specs.Objects.{line_count, moved_word, word_count}
use Rattle.lxr_layout.specs.Places.{first_word}
use Rattle.lxr_graph.specs.Names.{has}
use Rattle.lxr_graph.specs.State.{Graph, Object, object_at, shape_of}
use Rattle.lxr_image.specs.declared.space.Space.{Space}
use Rattle.lxr_image.specs.Tables.{Tables}
use Rattle.lxr_image.specs.Spaces.{tables_of}
use Rattle.lxr_blocks.specs.Handing.{first_line}
use Rattle.lxr_blocks.specs.Kept.{IsOpenGranule}
use Rattle.lxr_blocks.specs.States.{IsOpenRun}
use Rattle.lxr_model.specs.Dead.{Dead}
use Rattle.lxr_model.specs.Moments.{Field, Moment}
use Rattle.lxr_model_counting.specs.Distinct.{has_field}
use Rattle.lxr_invariant.specs.AbstractState.{AbstractState}
use Rattle.lxr_invariant.specs.Lines.{Covers}
use Rattle.lxr_invariant.specs.Standing.{word_of_field}

-- the abstract state with its objects at other places
abbrev pub standing : AbstractState → (Name → ℕ) → AbstractState
standing g at = record g { at = at }

-- a heap word is one of the object of a name, where a map of places says
pub record HasWord (g : Graph) (at : Name → ℕ) (n : Name) (w : ℕ) : Type 0 where
  pub object : Object
  pub is : object_at g n ≡ Some object
  pub first : first_word (at n) ≤ w
  pub behind : w < first_word (at n) + word_count (shape_of object)

-- a line has a granule of a copy: of a promoted object that stands elsewhere than it did
pub record HasCopy (g : Graph) (at at' : Name → ℕ) (promoted : List Name) (line : ℕ) : Type 0 where
  pub name : Name
  pub promoted_is : IsTrue (has promoted name)
  pub moved : at' name ≢ at name
  pub object : Object
  pub granule : ℕ
  pub covers : Covers g at' name object granule
  pub line_is : granule / GRANULES_IN_LINE ≡ line

-- Objects that are promoted may stand elsewhere now, and no others. Where a copied one stood, the word of its place is left. A heap word
-- is as it was but for these, for those of promoted objects now, and for references that were written since the last pause. A line is
-- counted as handed out once more exactly where it has a copy and wasn't out.
pub record CopiesPromoted (t u : Tables) (m : Moment) (at at' : Name → ℕ) (promoted : List Name) : Type 0 where
  pub others : (n : Name) → has promoted n ≡ false → at' n ≡ at n
  pub left_behind : (n : Name) → IsTrue (has promoted n) → at' n ≢ at n → u.heap (first_word (at n)) ≡ moved_word (at' n)
  pub heap : (w : ℕ) → ((n : Name) → IsTrue (has promoted n) → at' n ≢ at n → w ≢ first_word (at n)) → ((n : Name) → IsTrue (has promoted n) → ¬ HasWord m.state.graph at' n w)
      → ((field : Field) → IsTrue (has_field m.written field) → w ≢ word_of_field at field.0 field.1) → u.heap w ≡ t.heap w
  pub counted : (line : ℕ) → HasCopy m.state.graph at at' promoted line → t.outs line ≡ false → u.reuse line ≡ (t.reuse line + 1) % 2 ^ 32
  pub uncounted : (line : ℕ) → ¬ (HasCopy m.state.graph at at' promoted line × (t.outs line ≡ false)) → u.reuse line ≡ t.reuse line

-- copies lie on lines that were free, or on what was left of the lines that a pause placed on last
abbrev pub CopiesLieOnFreeLines : Space → Moment → (Name → ℕ) → (Name → ℕ) → List Name → Type 0
CopiesLieOnFreeLines s m at at' promoted = (n : Name) (o : Object) (k : ℕ) → IsTrue (has promoted n) → at' n ≢ at n → Covers m.state.graph at' n o k → IsOpenGranule s k

-- Copies lie on lines that weren't out and have no granule of an unreclaimed object that lives on, or on what was left of the lines that
-- a pause placed on last.
abbrev pub CopiesLieApart : Space → AbstractState → (Name → ℕ) → List Name → Type 0
CopiesLieApart s g at' promoted = (n : Name) (o : Object) (k : ℕ) → IsTrue (has promoted n) → at' n ≢ g.at n → Covers g.moment.state.graph at' n o k
    → (((tables_of s).outs (k / GRANULES_IN_LINE) ≡ false)
    × ((u : Name) (a : Object) (j : ℕ) → IsTrue (has g.moment.unreclaimed u) → ¬ Dead g.moment.last g.moment.unreclaimed g.moment.stuck u → Covers g.moment.state.graph g.at u a j
    → j / GRANULES_IN_LINE ≢ k / GRANULES_IN_LINE))
    ⊎ ((s.rest_next ≤ k) × (k < s.rest_end))

-- A promoted object stays where it was made only if no free lines in a row outside Chosen blocks fit it. Lines that were out as the pause
-- began don't count, nor do those that are excepted.
abbrev pub StayForWantOfLines : Tables → Tables → ℕ → Moment → (Name → ℕ) → (Name → ℕ) → List Name → (ℕ → Type 0) → Type 0
StayForWantOfLines t u blocks m at at' promoted excepted = (n : Name) (o : Object) (q : Run) → IsTrue (has promoted n) → at' n ≡ at n → object_at m.state.graph n ≡ Some o
    → IsOpenRun (record u { outs = t.outs; states = t.states }) blocks q → ((line : ℕ) → first_line q ≤ line → line < first_line q + q.lines → ¬ excepted line) → q.lines < line_count (shape_of o)

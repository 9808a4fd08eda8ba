-- What is known of lines, by names: where objects that aren't reclaimed have no granule.
use Rattle.std.specs.Prelude.{◌≡◌, ◌≢◌, ℕ, ◌<◌, ◌↔◌, false, List, IsBitSet, IsTrue, slice_index}
use Rattle.lxr_layout.specs.declared.Name.{Name}
use Rattle.lxr_layout.specs.declared.TheConstants.{LINES_IN_BLOCK}
use Rattle.lxr_graph.specs.Names.{has}
use Rattle.lxr_graph.specs.State.{Graph}
use Rattle.lxr_image.specs.declared.settled.Settled.{Settled}
use Rattle.lxr_image.specs.declared.space.Space.{Space}
use Rattle.lxr_image.specs.Tables.{Tables}
use Rattle.lxr_image.specs.Spaces.{tables_of}
use Rattle.lxr_image.specs.Settled.{IsFreeLine, IsLongest, IsOpenLine, IsSettled, IsStateOf, KnowsWords, line_of}
use Rattle.lxr_model.specs.Moments.{Moment}
use Rattle.lxr_invariant.specs.Counting.{count_at}
use Rattle.lxr_invariant.specs.Lines.{IsTakenBy}
use Rattle.lxr_invariant.specs.Quiescent.{HoldsMoment}
use Rattle.lxr_invariant.specs.Raised.{IsRaised, with_promoted}

-- a line is neither out nor overlapped by one of these objects
pub record IsVacant (t : Tables) (g : Graph) (at : Name → ℕ) (us : List Name) (line : ℕ) : Type 0 where
  pub in_hand : t.outs line ≡ false
  pub untaken : ¬ IsTakenBy g at us line

-- the open lines of a heap are those that are neither out nor overlapped by one of these objects
abbrev pub OpenAreVacant : Tables → Graph → (Name → ℕ) → List Name → Type 0
OpenAreVacant t g at us = (line : ℕ) → IsOpenLine t line ↔ IsVacant t g at us line

-- its free lines are
abbrev pub FreeAreVacant : Tables → Graph → (Name → ℕ) → List Name → Type 0
FreeAreVacant t g at us = (line : ℕ) → IsFreeLine t line ↔ IsVacant t g at us line

-- none of these objects has count 0
abbrev pub NoneIsUncounted : Tables → (Name → ℕ) → List Name → Type 0
NoneIsUncounted t at us = (n : Name) → IsTrue (has us n) → count_at t at n ≢ 0

-- A mask has exactly those lines of a block that are neither out nor overlapped by one of these objects, the longest run of them has so many, and the
-- block's state is theirs; where all its lines are such, it is Free.
pub record IsMaskOfVacant (t : Tables) (g : Graph) (at : Name → ℕ) (us : List Name) (b mask most : ℕ) : Type 0 where
  pub lines : (i : ℕ) → i < LINES_IN_BLOCK → IsBitSet mask i ↔ IsVacant t g at us (line_of b i)
  pub longest : IsLongest (λ i. IsVacant t g at us (line_of b i)) most
  pub state : IsStateOf (λ i. IsVacant t g at us (line_of b i)) (t.states b)
  pub whole : ((i : ℕ) → i < LINES_IN_BLOCK → IsVacant t g at us (line_of b i)) → t.states b ≡ 0

-- what is known of a space's words is so of each settled block
abbrev pub SettledAreVacant : Space → Graph → (Name → ℕ) → List Name → Type 0
SettledAreVacant s g at us = (known : Settled) → known.blocks ≡ s.limits.blocks → KnowsWords known s.words → (b : ℕ) → IsSettled known b
    → IsMaskOfVacant (tables_of s) g at us b (slice_index known.lines.items b) (slice_index known.longest b)

-- What is known of lines is that of these objects.
pub record LinesAreVacant (s : Space) (g : Graph) (at : Name → ℕ) (us : List Name) : Type 0 where
  pub opened : OpenAreVacant (tables_of s) g at us
  pub free : NoneIsUncounted (tables_of s) at us → FreeAreVacant (tables_of s) g at us
  pub settled : SettledAreVacant s g at us

-- it is, of the unreclaimed objects of each moment that a space holds: between epochs, at a safepoint, and between the steps of a pause
abbrev pub HeldLinesAreVacant : Type 0
HeldLinesAreVacant = (s : Space) (m : Moment) (at : Name → ℕ) → HoldsMoment s m at → LinesAreVacant s m.state.graph at m.unreclaimed

-- and in the middle of a pause, of those with the promoted ones
abbrev pub RaisedLinesAreVacant : Type 0
RaisedLinesAreVacant = (s : Space) (m : Moment) (at : Name → ℕ) (promoted stuck : List Name) → IsRaised s m at promoted stuck
    → LinesAreVacant s m.state.graph at (with_promoted m promoted)

-- Objects that take all lines that aren't free, as a pause leaves them, and how many slots they touch at most.
use Rattle.std.specs.Prelude.{◌≡◌, ◌≢◌, ℕ, ◌+◌, ◌-◌, ◌*◌, ◌<◌, ◌≤◌, false, Some, List, IsTrue}
use Rattle.lxr_layout.specs.declared.TheConstants.{GRANULES_IN_LINE, LINES_IN_BLOCK, WORLD_LINES}
use Rattle.lxr_layout.specs.declared.Name.{Name}
use Rattle.lxr_layout.specs.declared.runs.Run.{Run}
use Rattle.lxr_graph.specs.State.{Object, Graph, object_at}
use Rattle.lxr_graph.specs.Names.{has}
use Rattle.lxr_model.specs.Full.{LeaveNoRun, slots_taken}
use Rattle.lxr_image.specs.Tables.{Tables}
use Rattle.lxr_image.specs.Reads.{granule_of}
use Rattle.lxr_image.specs.Image.{IsImage, granules_of}
use Rattle.lxr_blocks.specs.declared.states.BlockState.TheVariants.{Chosen}
use Rattle.lxr_blocks.specs.Lines.{is_free}
use Rattle.lxr_blocks.specs.States.{IsOpenRun, state_in}
use Rattle.lxr_invariant.specs.Lines.{chosen_count}
use Rattle.lxr_full.specs.Touched.{touched_slots}

-- a line, counted over the whole heap, is overlapped by the object of one of these names
abbrev pub IsOverlapped : (Name → ℕ) → Graph → List Name → ℕ → Type 0
IsOverlapped at g ns line =
    (n : Name) × (o : Object) × IsTrue (has ns n) × (object_at g n ≡ Some o)
    × (granule_of (at n) < GRANULES_IN_LINE * line + GRANULES_IN_LINE) × (GRANULES_IN_LINE * line < granule_of (at n) + granules_of o)

-- each line of the heap behind the world's that isn't free is overlapped by one of these objects
abbrev pub LinesAreTaken : Tables → ℕ → (Name → ℕ) → Graph → List Name → Type 0
LinesAreTaken t blocks at g ns = (line : ℕ) → WORLD_LINES ≤ line → line < LINES_IN_BLOCK * blocks → is_free t line ≡ false → IsOverlapped at g ns line

-- some of the objects of an image take each line that isn't free
pub record TakeAllLines (t : Tables) (blocks : ℕ) (at : Name → ℕ) (g : Graph) (ms ns : List Name) : Type 0 where
  pub image : IsImage t blocks at g ms
  pub among : (n : Name) → IsTrue (has ns n) → IsTrue (has ms n)
  pub lines : LinesAreTaken t blocks at g ns

-- such objects touch no more slots than so many lines in a row overlap, summed over them
abbrev pub TakenTouchesFew : Type 0
TakenTouchesFew = (t : Tables) (blocks : ℕ) (at : Name → ℕ) (g : Graph) (ms ns : List Name) (k : ℕ) → 1 ≤ k
    → TakeAllLines t blocks at g ms ns → touched_slots t blocks k ≤ slots_taken g k ns

-- so they can leave no run of k lines in as many blocks as aren't Chosen, where no free lines in a row of these are k or more
abbrev pub TakenLeavesNoRun : Type 0
TakenLeavesNoRun = (t : Tables) (blocks : ℕ) (at : Name → ℕ) (g : Graph) (ms ns : List Name) (k : ℕ) → 1 ≤ k → 1 ≤ blocks → state_in t 0 ≢ Chosen
    → TakeAllLines t blocks at g ms ns → ((q : Run) → IsOpenRun t blocks q → k ≤ q.lines → ⊥) → LeaveNoRun g ns (blocks - chosen_count t blocks) k

-- What a pass over the heap looks for, and where it stands next.
use Rattle.std.specs.Prelude.{◌≡◌, ◌≢◌, ℕ, ◌*◌, ◌/◌, ◌<◌, ◌≤◌, ◌&&◌, not, Bool, false, IsTrue}
use Rattle.lxr_layout.specs.declared.TheConstants.{GRANULES_IN_BLOCK}
use Rattle.lxr_image.specs.Tables.{Tables}
use Rattle.lxr_blocks.specs.declared.states.BlockState.TheVariants.{Free}
use Rattle.lxr_blocks.specs.States.{state_in}
use Rattle.lxr_image_search.specs.declared.Wanted.{Wanted}
use Rattle.lxr_image_search.specs.declared.Wanted.TheVariants.{Object, ToScan, Unmarked}

-- a granule has it
abbrev pub is_wanted : Tables → Wanted → ℕ → Bool
is_wanted t Object k = t.starts k
is_wanted t Unmarked k = t.starts k && not (t.marks k)
is_wanted t ToScan k = t.grays k && not (t.marks k)

-- no granule of a block whose state is Free has it
abbrev pub AvoidsFree : Tables → Wanted → Type 0
AvoidsFree t wanted = (k : ℕ) → IsTrue (is_wanted t wanted k) → state_in t (k / GRANULES_IN_BLOCK) ≢ Free

-- no granule from one on and below another has it
abbrev pub NoneWanted : Tables → Wanted → ℕ → ℕ → Type 0
NoneWanted t wanted from end = (k : ℕ) → from ≤ k → k < end → is_wanted t wanted k ≡ false

-- the first from a granule on that has it is another, which is below the end
pub record IsNextWanted (t : Tables) (wanted : Wanted) (from end granule : ℕ) : Type 0 where
  pub reached : from ≤ granule
  pub within : granule < end
  pub is : IsTrue (is_wanted t wanted granule)
  pub passed : NoneWanted t wanted from granule

-- the first block from one on that isn't Free and may have it is another, which is below the end: no block that was passed has it
pub record IsNextBlock (t : Tables) (wanted : Wanted) (from end block : ℕ) : Type 0 where
  pub reached : from ≤ block
  pub within : block < end
  pub used : state_in t block ≢ Free
  pub passed : NoneWanted t wanted (GRANULES_IN_BLOCK * from) (GRANULES_IN_BLOCK * block)

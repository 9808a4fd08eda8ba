-- A watch that keeps copies of what it sees, in room that it has from the start.
use Rattle.std.specs.Prelude.{◌≡◌, ℕ, ◌-◌, ◌*◌, ◌≤◌, Bool, IsTrue, Option, Some, None, List, [], ◌∷◌, ◌++◌, length, if◌then◌else◌}
use Rattle.lxr_layout.specs.declared.TheConstants.{GRANULES_IN_BLOCK, REGISTERS}
use Rattle.lxr_layout.specs.declared.limits.Limits.{Limits}
use Rattle.lxr_layout.specs.Spaces.{all_regions, region_begin}
use Rattle.lxr_graph.specs.declared.report.Report.{Report}
use Rattle.lxr_image.specs.declared.space.Space.{Space}
use Rattle.lxr_image.specs.Opened.{HasRoom}
use Rattle.lxr_image.specs.Registers.{Registers}
use Rattle.lxr_image.specs.Spaces.{IsSpace}
use Rattle.lxr_sights.specs.Sights.{Sight}

-- no list of a report has more items than that of an opened space of so many granules has room for
pub record FitsReportRoom (r : Report) (granules : ℕ) : Type 0 where
  pub promoted : length r.promoted.items ≤ granules
  pub dead : length r.dead.items ≤ 2 * granules
  pub stuck : length r.stuck.items ≤ granules
  pub swept : length r.swept.items ≤ granules
  pub told : length r.told.items ≤ granules

-- the registers of all threads of these limits, of which each thread may name as many as they say
pub record AreRegistersFor (r : Registers) (l : Limits) : Type 0 where
  pub as_many : length r.items ≡ REGISTERS * l.threads
  pub width : r.width ≡ l.registers

-- a space fits the room of one that is opened with these limits: it has as many words and the same registers, and no list has more items
-- than that one has room for
pub record FitsRoom (s : Space) (l : Limits) : Type 0 where
  pub words : length s.words ≡ region_begin l all_regions
  pub registers : AreRegistersFor s.registers l
  pub deferred : AreRegistersFor s.deferred l
  pub logged : length s.logged.items ≤ l.threads * l.log
  pub work : length s.work.items ≤ GRANULES_IN_BLOCK * l.blocks
  pub report : FitsReportRoom s.report (GRANULES_IN_BLOCK * l.blocks)

-- a report's lists have room for the items of another's
pub record HasReportRoomFor (to from : Report) : Type 0 where
  pub promoted : length from.promoted.items ≤ to.promoted.room
  pub dead : length from.dead.items ≤ to.dead.room
  pub stuck : length from.stuck.items ≤ to.stuck.room
  pub swept : length from.swept.items ≤ to.swept.room
  pub told : length from.told.items ≤ to.told.room

-- registers of as many threads, of which each may name as many
pub record AreAlike (r q : Registers) : Type 0 where
  pub as_many : length r.items ≡ length q.items
  pub width : r.width ≡ q.width

-- a space has the registers of another, and its lists have room for the items of that one's
pub record HasRoomFor (to from : Space) : Type 0 where
  pub registers : AreAlike to.registers from.registers
  pub deferred : AreAlike to.deferred from.deferred
  pub logged : length from.logged.items ≤ to.logged.room
  pub work : length from.work.items ≤ to.work.room
  pub report : HasReportRoomFor to.report from.report

-- what contracts see of a watch that keeps copies
pub record Copies : Type 0 where
  -- the limits whose room each copy has
  pub limits : Limits
  -- what it has kept, oldest first
  pub sights : List Sight
  -- how many more it has room for
  pub left : ℕ
  pub told : Bool

-- what it tells
abbrev pub seen_by : Copies → Option (List Sight)
seen_by w = if w.told then Some w.sights else None

-- it tells, it has room for one more, and the space fits that room
pub record CanKeep (w : Copies) (s : Space) : Type 0 where
  pub told : IsTrue w.told
  pub left : 1 ≤ w.left
  pub fits : FitsRoom s w.limits

-- one sight more is kept
abbrev pub with_sight : Copies → Sight → Copies
with_sight w sight = record w { sights = w.sights ++ sight ∷ []; left = w.left - 1 }

-- each item of a list is such a one
abbrev pub Every : {T : Type 0} → (T → Type 0) → List T → Type 0
Every P [] = Unit {0}
Every P (x ∷ xs) = P x × Every P xs

-- a space that has the registers and the room of one opened with these limits
pub record IsSpare (l : Limits) (s : Space) : Type 0 where
  pub limits : s.limits ≡ l
  pub space : IsSpace s
  pub registers : AreRegistersFor s.registers l
  pub deferred : AreRegistersFor s.deferred l
  pub room : HasRoom s

-- a space that has the registers of such a one, and whose lists are no longer than the room of that one, fits
abbrev pub RoomySpacesFit : Type 0
RoomySpacesFit = (s spare : Space) → IsSpace s → IsSpare s.limits spare → HasRoomFor spare s → FitsRoom s s.limits

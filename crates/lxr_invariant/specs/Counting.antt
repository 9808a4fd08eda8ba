-- Reference counts, and the decrements that wait.
use Rattle.std.specs.Prelude.{◌≡◌, ◌≢◌, ℕ, zero, suc, ◌+◌, ◌*◌, ◌<◌, ◌≤◌, ◌==◌, ◌&&◌, nat_le, not, Bool, false, Option, List, [], ◌∷◌, IsTrue, filter, if◌then◌else◌}
use Rattle.lxr_layout.specs.declared.limits.Limits.{Limits}
use Rattle.lxr_layout.specs.declared.Name.{Name}
use Rattle.lxr_layout.specs.declared.TheConstants.{DECREMENT_COUNT, DECREMENT_CURSOR, STUCK}
use Rattle.lxr_graph.specs.Names.{has}
use Rattle.lxr_image.specs.Tables.{Tables}
use Rattle.lxr_image.specs.Reads.{granule_of}
use Rattle.lxr_model.specs.Dead.{Dead}
use Rattle.lxr_model.specs.References.{occurrences, references}
use Rattle.lxr_model.specs.Moments.{Moment}

-- how many of the numbers below one pass a test
abbrev pub passing : (ℕ → Bool) → ℕ → ℕ
passing test zero = 0
passing test (suc k) = passing test k + (if test k then 1 else 0)

-- how often o stands among these references, from number i on
abbrev pub occurrences_from : List (Option Name) → ℕ → Name → ℕ
occurrences_from rs zero o = occurrences rs o
occurrences_from [] (suc i) o = 0
occurrences_from (r ∷ rs) (suc i) o = occurrences_from rs i o

-- what the table of counts says of an object
abbrev pub count_at : Tables → (Name → ℕ) → Name → ℕ
count_at t at n = t.counts (granule_of (at n))

-- a decrementer has claimed the object, which is dead, and lowers, or has lowered, what it refers to
abbrev pub is_done : Tables → (Name → ℕ) → Name → Bool
is_done t at n = t.dones (granule_of (at n))

-- the names whose references still count
abbrev pub undone : Tables → (Name → ℕ) → List Name → List Name
undone t at us = filter (λ n. not (is_done t at n)) us

-- how many of the numbers from one on and below another have this entry
abbrev pub entries_between : (ℕ → ℕ) → ℕ → ℕ → ℕ → ℕ
entries_between f from zero p = 0
entries_between f from (suc k) p = (if nat_le from k && (f k == p) then 1 else 0) + entries_between f from k p

-- how often a place waits in the list of decrements: the decrement cursor tells how many of its
-- entries are drawn, the decrement count how many it has
abbrev pub waiting_at : Tables → ℕ → ℕ
waiting_at t p = entries_between t.decs (t.cursors DECREMENT_CURSOR) (t.cursors DECREMENT_COUNT) p

-- how often a place stands in the list of decrements, drawn or not
abbrev pub listed_at : Tables → ℕ → ℕ
listed_at t p = entries_between t.decs 0 (t.cursors DECREMENT_COUNT) p

-- The count of a stuck object is STUCK. That of another is below it, and is the references to the object at the last
-- pause, without those of what is done, and the decrements of it that wait. What is done is dead and has count 0.
-- Each unstuck object was referred to at the last pause or stands in the list of decrements, drawn or not: none had
-- count 0 when the pause was over.
pub record HasCounts (t : Tables) (m : Moment) (at : Name → ℕ) : Type 0 where
  pub stuck : (n : Name) → IsTrue (has m.unreclaimed n) → IsTrue (has m.stuck n) → count_at t at n ≡ STUCK
  pub below : (n : Name) → IsTrue (has m.unreclaimed n) → has m.stuck n ≡ false → count_at t at n < STUCK
  pub exact : (n : Name) → IsTrue (has m.unreclaimed n) → has m.stuck n ≡ false
      → count_at t at n ≡ references m.last (undone t at m.unreclaimed) n + waiting_at t (at n)
  pub held : (n : Name) → IsTrue (has m.unreclaimed n) → has m.stuck n ≡ false → references m.last m.unreclaimed n + listed_at t (at n) ≢ 0
  pub done : (n : Name) → IsTrue (has m.unreclaimed n) → IsTrue (is_done t at n) → count_at t at n ≡ 0
  pub dead : (n : Name) → IsTrue (has m.unreclaimed n) → IsTrue (is_done t at n) → Dead m.last m.unreclaimed m.stuck n

-- the list of decrements has no more entries than it has room for, and each is the place of an unreclaimed object
pub record HasDecrements (l : Limits) (t : Tables) (m : Moment) (at : Name → ℕ) : Type 0 where
  pub fits : t.cursors DECREMENT_COUNT ≤ l.threads * (l.log + l.registers)
  pub places : (k : ℕ) → k < t.cursors DECREMENT_COUNT → (n : Name) × IsTrue (has m.unreclaimed n) × (t.decs k ≡ at n)

-- No decrementer has worked since the last pause: nothing is done, nothing is drawn, and no unreclaimed object has count 0.
pub record IsUndecremented (t : Tables) (m : Moment) (at : Name → ℕ) : Type 0 where
  pub none_done : (k : ℕ) → t.dones k ≡ false
  pub none_drawn : t.cursors DECREMENT_CURSOR ≡ 0
  pub positive : (n : Name) → IsTrue (has m.unreclaimed n) → count_at t at n ≢ 0

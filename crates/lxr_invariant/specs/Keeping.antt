-- What a pause doesn't change of tables, whatever else a step of it does.
use Rattle.std.specs.Prelude.{◌≡◌, ◌≢◌, ℕ}
use Rattle.lxr_layout.specs.declared.TheConstants.{DECREMENT_COUNT, DECREMENT_CURSOR}
use Rattle.lxr_image.specs.Tables.{Tables}

-- The heap, the lists of runs and of free blocks, the remembered entries, how often each line was handed out, and all cursors
-- but those of the list of decrements, how many of its entries are drawn and how many it has, are as they were.
pub record KeepsListsAndCounters (t u : Tables) : Type 0 where
  pub heap : u.heap ≡ t.heap
  pub reuse : u.reuse ≡ t.reuse
  pub runs : u.runs ≡ t.runs
  pub frees : u.frees ≡ t.frees
  pub remembered : u.remembered ≡ t.remembered
  pub cursors : (k : ℕ) → k ≢ DECREMENT_CURSOR → k ≢ DECREMENT_COUNT → u.cursors k ≡ t.cursors k

-- the same but for the heap and how often each line was handed out
abbrev pub KeepsLists : Tables → Tables → Type 0
KeepsLists t u = KeepsListsAndCounters (record t { heap = u.heap; reuse = u.reuse }) u

-- What stores in a row have to record, and when the log has no room for it.
use Rattle.std.specs.Prelude.{ℕ, zero, suc, ◌+◌, ◌<◌, ◌&&◌, not, Bool, false, Option, None, Some, List, length}
use Rattle.lxr_layout.specs.declared.Name.{Name}
use Rattle.lxr_layout.specs.Places.{field_word}
use Rattle.lxr_graph.specs.Names.{has}
use Rattle.lxr_graph.specs.State.{register_at}
use Rattle.lxr_model.specs.Moments.{Moment}
use Rattle.lxr_model_counting.specs.Distinct.{has_field}
use Rattle.lxr_blocks.specs.Masks.{one_if}
use Rattle.lxr_large_model.specs.History.{LargeItem, large_moment}
use Rattle.lxr_heap.specs.declared.heap.Heap.{Heap}

-- Reference i of what is held has to be recorded before it is stored to: it is one of an unreclaimed object, and wasn't stored to since the last
-- pause.
abbrev pub is_to_record : Moment → Option Name → ℕ → Bool
is_to_record m None i = false
is_to_record m (Some n) i = has m.unreclaimed n && not (has_field m.written (n, i))

-- how many of so many references from an index on have to be recorded
abbrev pub to_record : Moment → Option Name → ℕ → ℕ → ℕ
to_record m held first zero = 0
to_record m held first (suc count) = to_record m held first count + one_if (is_to_record m held (first + count))

-- A heap's log has no room for what stores to so many references from an index on record: with those that were stored to since the last pause they
-- are more than it has entries.
abbrev pub LogIsShort : Heap → List LargeItem → ℕ → ℕ → ℕ → Type 0
LogIsShort x h base first count =
    x.space.limits.log < length (large_moment h).written + to_record (large_moment h) (register_at (large_moment h).state 1 base) first count

-- how many of so many unlogged bits are set, of the references from an index on of an object at a place
abbrev pub unlogged_bits : (ℕ → Bool) → ℕ → ℕ → ℕ → ℕ
unlogged_bits bits place first zero = 0
unlogged_bits bits place first (suc count) = unlogged_bits bits place first count + one_if (bits (field_word place (first + count)))

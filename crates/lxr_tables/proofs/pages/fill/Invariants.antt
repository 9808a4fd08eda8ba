use Rattle.std.proofs.Common.{◌≡◌, ℕ, ◌<◌, ◌≤◌, true, false, slice_index_or}
use Rattle.std.specs.Mem.Slots.{slots_items, slots_filled, SamePlaces}
use Rattle.lxr_tables.proofs.pages.fill.Given as goal

abbrev pub invariant-loop-at : goal.invariant-loop-at
invariant-loop-at l =
    record {
      words : slots_items l.row ≡ slots_items l.initial.row;
      written : (k : ℕ) → l.start ≤ k → k < l.at → slice_index_or (slots_filled l.row) k false ≡ true;
      others : (k : ℕ) → slice_index_or (slots_filled l.initial.row) k false ≡ true → slice_index_or (slots_filled l.row) k false ≡ true;
      places : SamePlaces l.initial.row l.row;
    }

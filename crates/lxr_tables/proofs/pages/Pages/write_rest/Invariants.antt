use Rattle.std.proofs.Common.{◌≡◌, ℕ, ◌/◌, ◌<◌, true, false, slice_index_or}
use Rattle.std.specs.Mem.Slots.{slots_items, slots_filled, slots_len, SamePlaces}
use Rattle.lxr_tables.specs.declared.pages.TheConstants.{WORDS_IN_PAGE}
use Rattle.lxr_tables.proofs.pages.Pages.write_rest.Given as goal

abbrev pub invariant-loop-number : goal.invariant-loop-number
invariant-loop-number g l =
    record {
      words : slots_items l.row ≡ slots_items l.initial.row;
      written : (k : ℕ) → k < slots_len l.row → k / WORDS_IN_PAGE < l.number → slice_index_or (slots_filled l.row) k false ≡ true;
      others : (k : ℕ) → slice_index_or (slots_filled l.initial.row) k false ≡ true → slice_index_or (slots_filled l.row) k false ≡ true;
      places : SamePlaces l.initial.row l.row;
    }

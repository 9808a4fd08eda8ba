use Rattle.std.proofs.Common.{◌≡◌, ◌+◌, ◌++◌, take, drop}
use Rattle.std.specs.Mem.Slots.{slots_items, SamePlaces}
use Rattle.lxr_tables.specs.Pages.{IsPaged}
use Rattle.lxr_tables.proofs.pages.Pages.put_all.Given as goal

abbrev pub invariant-loop-offset : goal.invariant-loop-offset
invariant-loop-offset g l =
    record {
      paged : IsPaged l.row l.self;
      words : slots_items l.row ≡ take l.at (slots_items l.initial.row) ++ take l.offset l.values ++ drop (l.at + l.offset) (slots_items l.initial.row);
      places : SamePlaces l.initial.row l.row;
    }

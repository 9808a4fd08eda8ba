use Rattle.std.proofs.Common.{◌≡◌, List, length}
use Rattle.lxr_large_model.specs.History.{LargeItem}
use Rattle.lxr_c_heap.specs.Hosting.{IsHostOf, IsServing, registers_in}
use Rattle.lxr_c_many.specs.declared.applying.Told.{Told}
use Rattle.lxr_c_many.specs.Applying.{all_told}
use Rattle.lxr_c_many.proofs.ApplyLemmas.{GoesOn}
use Rattle.lxr_c_many.proofs.applying.perform_all.Given as goal

abbrev pub invariant-loop-i : goal.invariant-loop-i
invariant-loop-i l = record {
  serving : IsServing l.heap;
  registers : registers_in l.heap ≡ registers_in l.initial.heap;
  told : List Told;
  entries : l.entries ≡ all_told l.initial.entries told;
  long : length told ≡ l.i;
  goes : (h : List LargeItem) → IsHostOf l.initial.heap h → (k : List LargeItem) × IsHostOf l.heap k × GoesOn l.initial.heap h l.initial.entries l.i told l.heap k;
}

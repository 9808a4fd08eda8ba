-- A call that takes one array in hand: it is refused, or done and its part let go.
use Rattle.std.proofs.Common.{◌≡◌, ◌∙◌, ℕ, ◌<◌, ap, subst, sym, List, Option}
use Rattle.std.specs.Prelude.{IfSome, Result, Ok, Err}
use Rattle.lxr_large_model.specs.History.{LargeItem, large_state}
use Rattle.lxr_large_model.specs.State.{LargeState}
use Rattle.lxr_heap.specs.Holding.{IsHeapOf}
use Rattle.lxr_c_base.specs.declared.codes.Code.{Code}
use Rattle.lxr_c_base.specs.declared.codes.Code.TheVariants as code
use Rattle.lxr_c_heap.specs.declared.host.HostHeap.{HostHeap}
use Rattle.lxr_c_heap.specs.Hosting.{IsHostOf, IsServing, all_registers_in, registers_in}
use Rattle.lxr_c_arrays.specs.declared.registers.Pair.{Pair}
use Rattle.lxr_c_arrays.specs.declared.side.Side.{Side}
use Rattle.lxr_c_arrays.specs.Plans.{IsPair, first_own, planned}
use Rattle.lxr_c_arrays.specs.Running.{Carries, InTurn, Plan, SameRegisters}
use Rattle.lxr_c_arrays.specs.Sides.{IsSide}
use Rattle.lxr_c_arrays.proofs.PlanLemmas.{carried_not, carried_with, pair_there}

-- what is found by the register for a part that the heap has
module _ (x : HostHeap) (part : Option ℕ) (by_part : LargeState → Option ℕ → Result Side Code) (found : Result Side Code) (plan : Side → Plan) (own : part ≡ first_own x)
    (told : (h : List LargeItem) → IsHeapOf x.heap h → found ≡ by_part (large_state h) part) where
  found_there : (h : List LargeItem) → IsHostOf x h → found ≡ by_part (large_state h) (first_own x)
  found_there h is = told h is.heap ∙ ap (by_part (large_state h)) own

  pub taken_not : (e : Code) → Err e ≡ found → (h : List LargeItem) → IsHostOf x h → Carries x x h (planned plan (by_part (large_state h) (first_own x))) e
  taken_not e refused h is = carried_not x plan (by_part (large_state h) (first_own x)) e h (refused ∙ found_there h is)

  pub taken : (m y : HostHeap) (a : Side) (c : Code) → Ok a ≡ found → InTurn x (plan a).steps m c → InTurn m (plan a).last y code.Done → (h : List LargeItem) → IsHostOf x h
      → Carries x y h (planned plan (by_part (large_state h) (first_own x))) c
  taken m y a c is_found ran ended h is = carried_with x m y plan (by_part (large_state h) (first_own x)) a c h is (is_found ∙ found_there h is) ran ended

-- its registers are there, also after what left as many
module _ (x : HostHeap) (pair : Pair) (part : Option ℕ) (a : Side) (serving : IsServing x) (fits : IsPair (registers_in x) pair) (there : IfSome part (λ p. p < all_registers_in x))
    (registers : (n : ℕ) → pair.array < n → IfSome part (λ p. p < n) → IsSide n a) where
  pub side_there : IsSide (all_registers_in x) a
  side_there = registers (all_registers_in x) (pair_there x pair serving.holds fits).0 there

  pub side_left : (y : HostHeap) → SameRegisters x y → IsSide (all_registers_in y) a
  side_left y same = subst (λ n. IsSide n a) (sym same.all) side_there

-- Operations that a call does in turn, each as the single call of its name does it, with the pauses that come.
use Rattle.std.specs.Prelude.{◌≡◌, ◌≢◌, ℕ, zero, suc, ◌⊎◌, Result, Ok, Err, List, [], ◌∷◌, ◌++◌}
use Rattle.lxr_large_model.specs.History.{LargeItem}
use Rattle.lxr_c_base.specs.declared.codes.Code.{Code}
use Rattle.lxr_c_base.specs.declared.codes.Code.TheVariants as code
use Rattle.lxr_c_heap.specs.declared.host.HostHeap.{HostHeap}
use Rattle.lxr_c_heap.specs.Hosting.{IsHostOf, all_registers_in, registers_in}
use Rattle.lxr_c_many.specs.declared.applying.Told.{Told}
use Rattle.lxr_c_many.specs.declared.asked.Asked.{Asked}
use Rattle.lxr_c_many.specs.Applying.{Performs}

-- Operations were done in turn on a heap x of history h, up to the first whose code isn't that of success: y and k are the heap and its history
-- behind them, and this is the code of the last.
abbrev pub Runs : HostHeap → List LargeItem → List Asked → HostHeap → List LargeItem → Code → Type 0
Runs x h [] y k c = (y ≡ x) × (k ≡ h) × (c ≡ code.Done)
Runs x h (a ∷ ops) y k c =
    (m : HostHeap) × (j : List LargeItem) × (t : Told) × Performs x h a m j t
    × (((t.code ≡ code.Done) × Runs m j ops y k c) ⊎ ((t.code ≢ code.Done) × (y ≡ m) × (k ≡ j) × (c ≡ t.code)))

-- so they were, whatever history the heap is of
abbrev pub InTurn : HostHeap → List Asked → HostHeap → Code → Type 0
InTurn x ops y c = (h : List LargeItem) → IsHostOf x h → (k : List LargeItem) × Runs x h ops y k c

-- the operations of so many rounds, in order
abbrev pub in_turn : (ℕ → List Asked) → ℕ → List Asked
in_turn ops zero = []
in_turn ops (suc n) = in_turn ops n ++ ops n

-- the host may name as many registers, and there are as many
pub record SameRegisters (x y : HostHeap) : Type 0 where
  pub named : registers_in y ≡ registers_in x
  pub all : all_registers_in y ≡ all_registers_in x

-- What a call does: steps in turn, up to the first whose code isn't that of success, and then the last ones, whatever that code was.
pub record Plan : Type 0 where
  pub steps : List Asked
  pub last : List Asked

-- A call was carried out: its arguments don't fit what the heap has and nothing has changed, or it did what is planned. It tells the code of its
-- steps; the last ones are done with success.
abbrev pub Carries : HostHeap → HostHeap → List LargeItem → Result Plan Code → Code → Type 0
Carries x y h (Err e) told = (told ≡ e) × (y ≡ x)
Carries x y h (Ok plan) told = (m : HostHeap) × (j : List LargeItem) × (k : List LargeItem) × Runs x h plan.steps m j told × Runs m j plan.last y k code.Done

-- so it did what is planned, whatever history the heap is of
abbrev pub InPlan : HostHeap → Plan → HostHeap → Code → Type 0
InPlan x plan y told = (h : List LargeItem) → IsHostOf x h → Carries x y h (Ok plan) told

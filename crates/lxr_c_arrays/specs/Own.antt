-- The library's own registers between calls: they are nil.
use Rattle.std.specs.Prelude.{◌≡◌, ⊤, ℕ, Bool, Option, None, Some, Ok, List, [], ◌∷◌, ◌++◌}
use Rattle.lxr_graph.specs.State.{register_at}
use Rattle.lxr_pause_decrements.specs.declared.slices.Slice.{Slice}
use Rattle.lxr_large_model.specs.History.{LargeItem, Called, Paused, Renewed, large_state}
use Rattle.lxr_large_model.specs.State.{LargeState}
use Rattle.lxr_heap.specs.declared.bulk.BodyReply.{BodyReply}
use Rattle.lxr_heap.specs.Acting.{MayBeCalled}
use Rattle.lxr_heap.specs.Bulk.{WritesWords, with_written}
use Rattle.lxr_c_base.specs.declared.codes.Code.{Code}
use Rattle.lxr_c_base.specs.declared.codes.Code.TheVariants as code
use Rattle.lxr_c_heap.specs.declared.host.HostHeap.{HostHeap}
use Rattle.lxr_c_heap.specs.declared.own.OwnRegisters.{OwnRegisters}
use Rattle.lxr_c_heap.specs.declared.settings.Settings.{Settings}
use Rattle.lxr_c_heap.specs.Hosting.{IsHostOf, IsOpened, Pauses, Settles, behind_pause, own_in, registers_in}
use Rattle.lxr_c_heap.specs.Settings.{AreSettings}
use Rattle.lxr_c_heap.specs.Trimming.{TrimsHost}
use Rattle.lxr_c_heap.specs.Working.{Works}
use Rattle.lxr_c_many.specs.declared.applying.Told.{Told}
use Rattle.lxr_c_many.specs.declared.asked.Asked.{Asked}
use Rattle.lxr_c_many.specs.Applying.{MayBeAsked, Performs}
use Rattle.lxr_c_many.specs.Following.{Follows}
use Rattle.lxr_c_arrays.specs.declared.making.NewArray.{NewArray}
use Rattle.lxr_c_arrays.specs.declared.registers.Pair.{Pair}
use Rattle.lxr_c_arrays.specs.Plans.{CopiesElements, FillsElements, IsNewArray, IsPair, LoadsElement, MakesArray, StoresElement, copy_plan, fill_plan, load_plan, new_plan, store_plan}
use Rattle.lxr_c_arrays.specs.Running.{Plan, Runs}

-- they are nil, where the heap has them
abbrev pub OwnAreNil : HostHeap → List LargeItem → Type 0
OwnAreNil x h = (own : OwnRegisters) → own_in x ≡ Some own → (register_at (large_state h).small 1 own.first ≡ None) × (register_at (large_state h).small 1 own.second ≡ None)

-- where they were before a call, they are after it, with this history
abbrev pub KeepNil : HostHeap → List LargeItem → HostHeap → List LargeItem → Type 0
KeepNil x h y k = OwnAreNil x h → IsHostOf y k × OwnAreNil y k

-- or with some history
abbrev pub StayNil : HostHeap → List LargeItem → HostHeap → Type 0
StayNil x h y = OwnAreNil x h → (k : List LargeItem) × IsHostOf y k × OwnAreNil y k

-- so they stay at each call on arrays, whatever it tells
pub record ArraysKeepNil : Type 0 where
  pub made : (x y : HostHeap) (h : List LargeItem) (wanted : NewArray) (told : Code) → IsHostOf x h → IsNewArray (registers_in x) wanted → MakesArray x y h wanted told → StayNil x h y
  pub loaded : (x y : HostHeap) (h : List LargeItem) (index : ℕ) (pair : Pair) (told : Code) → IsHostOf x h → IsPair (registers_in x) pair → LoadsElement index x y h pair told → StayNil x h y
  pub stored : (x y : HostHeap) (h : List LargeItem) (index : ℕ) (pair : Pair) (told : Code) → IsHostOf x h → IsPair (registers_in x) pair → StoresElement index x y h pair told → StayNil x h y
  pub filled : (x y : HostHeap) (h : List LargeItem) (first count : ℕ) (pair : Pair) (told : Code) → IsHostOf x h → IsPair (registers_in x) pair → FillsElements first count x y h pair told → StayNil x h y
  pub copied : (x y : HostHeap) (h : List LargeItem) (at first count : ℕ) (pair : Pair) (told : Code) → IsHostOf x h → IsPair (registers_in x) pair → CopiesElements at first count x y h pair told → StayNil x h y

-- ---- from the opening on

-- a call on arrays plans this, by what the heap has
pub data IsPlanned (x : HostHeap) (s : LargeState) (plan : Plan) : Type 0 where
  makes : (wanted : NewArray) → IsNewArray (registers_in x) wanted → new_plan x wanted ≡ Ok plan → IsPlanned x s plan
  loads : (index : ℕ) (pair : Pair) → IsPair (registers_in x) pair → load_plan x s index pair ≡ Ok plan → IsPlanned x s plan
  stores : (index : ℕ) (pair : Pair) → IsPair (registers_in x) pair → store_plan x s index pair ≡ Ok plan → IsPlanned x s plan
  fills : (first count : ℕ) (pair : Pair) → IsPair (registers_in x) pair → fill_plan x s first count pair ≡ Ok plan → IsPlanned x s plan
  copies : (at first count : ℕ) (pair : Pair) → IsPair (registers_in x) pair → copy_plan x s at first count pair ≡ Ok plan → IsPlanned x s plan

-- these are calls on registers that the host may name
abbrev pub AllMayBeCalled : ℕ → List LargeItem → Type 0
AllMayBeCalled registers [] = ⊤
AllMayBeCalled registers (Called o r ∷ items) = MayBeCalled registers o × AllMayBeCalled registers items
AllMayBeCalled registers (Paused report ∷ items) = ⊥
AllMayBeCalled registers (Renewed ns ∷ items) = ⊥

-- A host was led to a heap of a history: it opened one, and made calls on it. What a call does is made of these. An operation on registers that the
-- host may name is done with the pauses that come before it. The heap settles, and a pause is made, whatever for. Operations are done one after
-- another with no pause between them. Words are written over those of a body in a row. It is set when pauses come, and how much is done before
-- them, which leaves the heap as it is. Some of the decrements that wait are done, and the words of a Free block become 0: neither is in the history.
-- And the plan of a call on arrays is carried out.
pub data IsLed : HostHeap → List LargeItem → Type 0 where
  opened : (x : HostHeap) (s : Settings) → AreSettings s → IsOpened x s → IsLed x []
  asked : (x y : HostHeap) (h k : List LargeItem) (a : Asked) (told : Told) → IsLed x h → MayBeAsked (registers_in x) a → Performs x h a y k told → IsLed y k
  settled : (x y : HostHeap) (h k : List LargeItem) → IsLed x h → Settles x h y k → IsLed y k
  paused : (x y : HostHeap) (h : List LargeItem) (collect : Bool) → IsLed x h → Pauses x y h collect → IsLed y (behind_pause y h)
  followed : (x y : HostHeap) (h new : List LargeItem) → IsLed x h → AllMayBeCalled (registers_in x) new → Follows x h y new → IsLed y (new ++ h)
  written : (x y : HostHeap) (h : List LargeItem) (base i : ℕ) (words : List ℕ) (r : BodyReply) → IsLed x h → WritesWords x.heap y.heap h base i words r → y ≡ record x { heap = y.heap } → IsLed y (with_written r h base i words)
  set : (x y : HostHeap) (h : List LargeItem) → IsLed x h → y.heap ≡ x.heap → y.named ≡ x.named → y.bytes ≡ x.bytes → IsLed y h
  worked : (x y : HostHeap) (h : List LargeItem) (units : ℕ) (next : Option ℕ) (slice : Slice) → IsLed x h → Works x y h units next slice → IsLed y h
  trimmed : (x y : HostHeap) (h : List LargeItem) (from : ℕ) (block : Option ℕ) → IsLed x h → TrimsHost from x y block → IsLed y h
  carried : (x m y : HostHeap) (h j k : List LargeItem) (plan : Plan) (told : Code) → IsLed x h → IsPlanned x (large_state h) plan → Runs x h plan.steps m j told → Runs m j plan.last y k code.Done → IsLed y k

-- the library's own registers are nil at the opening, and after each call
abbrev pub OwnStayNil : Type 0
OwnStayNil = (x : HostHeap) (h : List LargeItem) → IsLed x h → IsHostOf x h × OwnAreNil x h

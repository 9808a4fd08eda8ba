-- A heap has as many registers as before, whatever is called: its terms stay over calls, pauses and renewals.
use Rattle.std.proofs.Common.{◌≡◌, ℕ, ◌≤◌, ◌∙◌, sym, ap, arith, inl, inr, Bool, true, List, Option, Some}
use mathlib.Core.Logic.{∥∥₁_elim}
use Rattle.std.specs.Coded.{le_prop}
use Rattle.std.proofs.Math.Nat.{ℕ_set}
use Rattle.lxr_layout.specs.declared.TheConstants.{LEAST_REGISTERS, REGISTERS}
use Rattle.lxr_large_model.specs.declared.LargeOp.{LargeOp}
use Rattle.lxr_large_model.specs.declared.LargeReply.{LargeReply}
use Rattle.lxr_large_model.specs.Full.{LargeTerms}
use Rattle.lxr_large_model.specs.History.{LargeItem}
use Rattle.lxr_pause_decrements.specs.declared.slices.Slice.{Slice}
use Rattle.lxr_c_heap.specs.declared.host.Ends.{Ends}
use Rattle.lxr_c_heap.specs.declared.host.HostHeap.{HostHeap}
use Rattle.lxr_c_heap.specs.Hosting.{Acts, IsHostOf, Makes, Pauses, PausesAsked, PausesFor, PausesWhere, Renews, Replies, SettlesAt, Stores, Turns, all_registers_in, behind_pause, registers_in}
use Rattle.lxr_c_base.specs.declared.codes.Code.{Code}
use Rattle.lxr_c_heap.specs.Calling.{SetsGrow, SetsRoom, SetsWork}
use Rattle.lxr_c_heap.specs.Working.{Works, WorksAsked, WorksWhere}
use Rattle.lxr_heap.specs.declared.heap.Heap.{Heap}
use Rattle.lxr_c_heap.specs.Keeping.{Kept, registers_kept}
use Rattle.lxr_c_heap.proofs.RoomLemmas.{SomeHistory}

-- ---- what each history tells

-- two numbers are the same where each history of a heap tells so
pub known : (x : HostHeap) (m n : ℕ) → SomeHistory x → ((h : List LargeItem) → IsHostOf x h → m ≡ n) → m ≡ n
known x m n some told = ∥∥₁_elim some (ℕ_set m n) (λ of. told of.0 of.1)

-- a heap has no more registers than there are, and its host names so many at least, and none that it hasn't
pub some_registers : (x : HostHeap) → SomeHistory x → LEAST_REGISTERS ≤ registers_in x
some_registers x some = ∥∥₁_elim some le_prop (λ of. of.1.named.0)

pub all_few : (x : HostHeap) → SomeHistory x → all_registers_in x ≤ REGISTERS
all_few x some = ∥∥₁_elim some le_prop (λ of. of.1.heap.stands.0.safepoint.holds.space.limits.registers.1)

pub named_few : (x : HostHeap) → SomeHistory x → registers_in x ≤ all_registers_in x
named_few x some = ∥∥₁_elim some le_prop (λ of. of.1.named.1)

pub few_registers : (x : HostHeap) → SomeHistory x → registers_in x ≤ REGISTERS
few_registers x some = let all = all_few x some in let few = named_few x some in omega (arith, all, few)

-- ---- each relation

-- A number of a heap that replies, pauses and renewals leave as it is is as before each pause for a cause and behind each operation.
module _ (number : HostHeap → ℕ) (replied : (x y : HostHeap) (h : List LargeItem) (o : LargeOp) (r : LargeReply) → Replies x y h o r → number y ≡ number x)
    (paused : (x y : HostHeap) (h : List LargeItem) (collect : Bool) → Pauses x y h collect → number y ≡ number x) (renewed : (x y : HostHeap) (h k : List LargeItem) → Renews x y h k → number y ≡ number x)
    (worked : (x y : HostHeap) (h : List LargeItem) (units : ℕ) (next : Option ℕ) (slice : Slice) → Works x y h units next slice → number y ≡ number x) where
  where_same : (cause : Type 0) (collect : Bool) (x y : HostHeap) (h k : List LargeItem) → PausesWhere cause collect x h y k → number y ≡ number x
  where_same cause collect x y h k (inl (there, made, same)) = paused x y h collect made
  where_same cause collect x y h k (inr (none, left, same)) = ap number left

  settled_same : (ends : Ends) (x y : HostHeap) (h k : List LargeItem) → SettlesAt ends x h y k → number y ≡ number x
  settled_same ends x y h k (inl (there, m, made, anew)) = renewed m y (behind_pause m h) k anew ∙ paused x m h true made
  settled_same ends x y h k (inr (none, left, same)) = ap number left

  for_same : (o : LargeOp) (x y : HostHeap) (h k : List LargeItem) → PausesFor o x h y k → number y ≡ number x
  for_same o x y h k (inl (collect, needs, made, same)) = paused x y h collect made
  for_same o x y h k (inr (none, left, same)) = ap number left

  acted_same : (x y : HostHeap) (h : List LargeItem) (o : LargeOp) (r : LargeReply) → Acts x y h o r → number y ≡ number x
  acted_same x y h o r acts = replied acts.middle y acts.history o r acts.replies ∙ for_same o x acts.middle h acts.history acts.pauses

  stored_same : (x y : HostHeap) (h : List LargeItem) (o : LargeOp) (r : LargeReply) → Stores x y h o r → number y ≡ number x
  stored_same x y h o r stores = acted_same stores.settled y stores.history o r stores.acts ∙ settled_same _ x stores.settled h stores.history stores.settles

  sliced_same : (x y : HostHeap) (h : List LargeItem) → WorksWhere x h y → number y ≡ number x
  sliced_same x y h (inl (due, slice, works)) = worked x y h _ _ slice works
  sliced_same x y h (inr (none, left)) = ap number left

  turned_same : (x y : HostHeap) (h : List LargeItem) → Turns x h y → number y ≡ number x
  turned_same x y h turns = where_same _ _ turns.worked y h turns.history turns.pauses ∙ sliced_same x turns.worked h turns.works

  made_same : (x y : HostHeap) (h : List LargeItem) (o : LargeOp) (r : LargeReply) → Makes x y h o r → number y ≡ number x
  made_same x y h o r makes =
      acted_same makes.paused y makes.turns.history o r makes.acts
      ∙ turned_same makes.settled makes.paused makes.settled_history makes.turns
      ∙ settled_same _ x makes.settled h makes.settled_history makes.settles

-- those that the host may name
pub replied_keeps : (x y : HostHeap) (h : List LargeItem) (o : LargeOp) (r : LargeReply) → Replies x y h o r → registers_in y ≡ registers_in x
replied_keeps x y h o r replies = ap registers_in replies.rest

pub paused_keeps : (x y : HostHeap) (h : List LargeItem) (collect : Bool) → Pauses x y h collect → registers_in y ≡ registers_in x
paused_keeps x y h collect paused = ap registers_in paused.rest

renewed_keeps : (x y : HostHeap) (h k : List LargeItem) → Renews x y h k → registers_in y ≡ registers_in x
renewed_keeps x y h k renewed = ap registers_in renewed.rest

pub worked_keeps : (x y : HostHeap) (h : List LargeItem) (units : ℕ) (next : Option ℕ) (slice : Slice) → Works x y h units next slice → registers_in y ≡ registers_in x
worked_keeps x y h units next slice works = ap registers_in works.rest

pub settled_keeps : (ends : Ends) (x y : HostHeap) (h k : List LargeItem) → SettlesAt ends x h y k → registers_in y ≡ registers_in x
settled_keeps = settled_same registers_in replied_keeps paused_keeps renewed_keeps worked_keeps

pub stored_keeps : (x y : HostHeap) (h : List LargeItem) (o : LargeOp) (r : LargeReply) → Stores x y h o r → registers_in y ≡ registers_in x
stored_keeps = stored_same registers_in replied_keeps paused_keeps renewed_keeps worked_keeps

pub made_keeps : (x y : HostHeap) (h : List LargeItem) (o : LargeOp) (r : LargeReply) → Makes x y h o r → registers_in y ≡ registers_in x
made_keeps = made_same registers_in replied_keeps paused_keeps renewed_keeps worked_keeps

pub asked_keeps : (x y : HostHeap) (h : List LargeItem) (collect : Bool) → PausesAsked x y h collect → registers_in y ≡ registers_in x
asked_keeps x y h collect asked = paused_keeps asked.settled y asked.history collect asked.pauses ∙ settled_keeps _ x asked.settled h asked.history asked.settles

pub sliced_keeps : (x y : HostHeap) (h : List LargeItem) (units : ℕ) (more : Bool) → WorksAsked units x y h more → registers_in y ≡ registers_in x
sliced_keeps x y h units more (slice, works, told) = worked_keeps x y h units x.slice slice works

pub room_keeps : (blocks : ℕ) (x y : HostHeap) (answer : Code) → SetsRoom blocks x y answer → registers_in y ≡ registers_in x
room_keeps blocks x y answer (inl (fits, done, set)) = ap registers_in set
room_keeps blocks x y answer (inr (out, size, same)) = ap registers_in same

pub grow_keeps : (grow : ℕ) (x y : HostHeap) (answer : Code) → SetsGrow grow x y answer → registers_in y ≡ registers_in x
grow_keeps grow x y answer (inl (fits, done, set)) = ap registers_in set
grow_keeps grow x y answer (inr (out, size, same)) = ap registers_in same

pub work_keeps : (units : ℕ) (x y : HostHeap) (answer : Code) → SetsWork units x y answer → registers_in y ≡ registers_in x
work_keeps units x y answer (inl (fits, done, set)) = ap registers_in set
work_keeps units x y answer (inr (out, size, same)) = ap registers_in same

-- and all that there are
pub replied_all : (x y : HostHeap) (h : List LargeItem) (o : LargeOp) (r : LargeReply) → Replies x y h o r → all_registers_in y ≡ all_registers_in x
replied_all x y h o r replies = ap (λ (t : LargeTerms). t.registers) replies.heap.terms

paused_all : (x y : HostHeap) (h : List LargeItem) (collect : Bool) → Pauses x y h collect → all_registers_in y ≡ all_registers_in x
paused_all x y h collect paused = ap (λ (t : LargeTerms). t.registers) paused.heap.terms

renewed_all : (x y : HostHeap) (h k : List LargeItem) → Renews x y h k → all_registers_in y ≡ all_registers_in x
renewed_all x y h k renewed = ap (λ (t : LargeTerms). t.registers) renewed.heap.terms

worked_all : (x y : HostHeap) (h : List LargeItem) (units : ℕ) (next : Option ℕ) (slice : Slice) → Works x y h units next slice → all_registers_in y ≡ all_registers_in x
worked_all x y h units next slice works = ap (λ (z : Heap). z.space.limits.registers) works.heap.heap

pub where_all : (cause : Type 0) (collect : Bool) (x y : HostHeap) (h k : List LargeItem) → PausesWhere cause collect x h y k → all_registers_in y ≡ all_registers_in x
where_all = where_same all_registers_in replied_all paused_all renewed_all worked_all

pub turned_all : (x y : HostHeap) (h : List LargeItem) → Turns x h y → all_registers_in y ≡ all_registers_in x
turned_all = turned_same all_registers_in replied_all paused_all renewed_all worked_all

pub settled_all : (ends : Ends) (x y : HostHeap) (h k : List LargeItem) → SettlesAt ends x h y k → all_registers_in y ≡ all_registers_in x
settled_all = settled_same all_registers_in replied_all paused_all renewed_all worked_all

pub stored_all : (x y : HostHeap) (h : List LargeItem) (o : LargeOp) (r : LargeReply) → Stores x y h o r → all_registers_in y ≡ all_registers_in x
stored_all = stored_same all_registers_in replied_all paused_all renewed_all worked_all

pub made_all : (x y : HostHeap) (h : List LargeItem) (o : LargeOp) (r : LargeReply) → Makes x y h o r → all_registers_in y ≡ all_registers_in x
made_all = made_same all_registers_in replied_all paused_all renewed_all worked_all

-- ---- a handle

-- what a handle keeps has as many registers as it counts, where the heap has as many as before
pub still_counted : (before : Kept) (x y : HostHeap) (n : ℕ) → registers_kept before ≡ n → before ≡ Some x → registers_in y ≡ registers_in x → registers_kept (Some y) ≡ n
still_counted before x y n counted had same = same ∙ sym (ap registers_kept had) ∙ counted

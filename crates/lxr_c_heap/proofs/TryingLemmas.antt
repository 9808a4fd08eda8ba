-- What an operation on a field leaves of a handle where it was tried.
use Rattle.std.proofs.Common.{◌≡◌, ◌∙◌, ℕ, ◌+◌, ◌<◌, ◌≤◌, refl, sym, ap, subst, arith, cond, Bool, true, false, List, Some, None}
use Rattle.std.specs.Prelude.{nat_lt, Option, IfNone, IfSome, IsTrue, Ok, Err}
use Rattle.lxr_graph.specs.declared.Op.{Op}
use Rattle.lxr_graph.specs.declared.Op.TheVariants as op
use Rattle.lxr_graph.specs.declared.Reply.{Reply}
use Rattle.lxr_graph.specs.declared.Reply.TheVariants as reply
use Rattle.lxr_large_model.specs.declared.LargeOp.TheVariants as large_op
use Rattle.lxr_large_model.specs.declared.LargeReply.TheVariants as large_reply
use Rattle.lxr_large_model.specs.History.{LargeItem, large_state}
use Rattle.lxr_large_model.specs.Step.{IsLargeReply}
use Rattle.lxr_heap.specs.declared.heap.Heap.{Heap}
use Rattle.lxr_heap.specs.Acting.{IsReplied}
use Rattle.lxr_heap.specs.Holding.{IsHeapOf}
use Rattle.lxr_heap.specs.Trying.{Does, IsDoing}
use Rattle.lxr_heap.specs.Trying as heap
use Rattle.lxr_c_base.specs.declared.codes.Code.{Code}
use Rattle.lxr_c_base.specs.Codes.{answered}
use Rattle.lxr_c_base.specs.Requests as asking
use Rattle.lxr_c_base.specs.Requests.{IsQuiet, Request, index_of, register_of}
use Rattle.lxr_c_heap.specs.declared.host.HostHeap.{HostHeap}
use Rattle.lxr_c_heap.specs.Calling.{Calls}
use Rattle.lxr_c_heap.specs.Hosting.{IsHostOf, IsServing, Replies, all_registers_in, registers_in}
use Rattle.lxr_c_heap.specs.Keeping.{Kept, registers_kept}
use Rattle.lxr_c_heap.specs.Trying.{Finds, Misses}
use Rattle.lxr_c_heap.proofs.CallLemmas.{asks_done}
use Rattle.lxr_c_heap.proofs.RegisterLemmas.{named_few}
use Rattle.lxr_c_heap.proofs.RoomLemmas.{quiet_room, quiet_same}

-- ---- requests

-- an index that isn't cut off stays as it is
stays_at : (few : Bool) (i : ℕ) → few ≡ true → cond few i 65535 ≡ i
stays_at true i e = refl
stays_at false i e = absurd (cc)

pub index_stays : (i : ℕ) → i < 65536 → index_of i ≡ i
index_stays i few = stays_at (nat_lt i 65536) i (let below : nat_lt i 65536 ≡ true = grind (arith, few) in below)

module _ (n base index b : ℕ) (named : register_of n base ≡ Ok b) (few : index < 65536) where
  pub asked_load : (dest d : ℕ) → register_of n dest ≡ Ok d → asking.load n dest base index ≡ Ok (large_op.Small (op.Load d b index))
  asked_load dest d first =
      subst (λ i. asking.load n dest base index ≡ Ok (large_op.Small (op.Load d b i))) (index_stays index few)
      (ap (λ q. asking.with_number q (λ x. asking.with_number (register_of n base) (λ y. Ok (large_op.Small (op.Load x y (index_of index)))))) first
      ∙ ap (λ q. asking.with_number q (λ y. Ok (large_op.Small (op.Load d y (index_of index))))) named)

  pub asked_get : asking.get n base index ≡ Ok (large_op.Small (op.Get b index))
  asked_get = subst (λ i. asking.get n base index ≡ Ok (large_op.Small (op.Get b i))) (index_stays index few)
      (ap (λ q. asking.with_number q (λ y. Ok (large_op.Small (op.Get y (index_of index))))) named)

  pub asked_put : (value : ℕ) → asking.put n base index value ≡ Ok (large_op.Small (op.Put b index value))
  asked_put value = subst (λ i. asking.put n base index value ≡ Ok (large_op.Small (op.Put b i value))) (index_stays index few)
      (ap (λ q. asking.with_number q (λ y. Ok (large_op.Small (op.Put y (index_of index) value)))) named)

-- a register that the host may name is one of all that there are
pub named_within : (before : Kept) (x : HostHeap) (n d : ℕ) → before ≡ Some x → n ≡ registers_kept before → d < n → IsServing x → d < all_registers_in x
named_within before x n d had count named serving =
    let kept : registers_kept before ≡ registers_in x = ap registers_kept had in
    let few = named_few x serving.holds in
    omega (arith, named, count, kept, few)

-- ---- what is found, and where nothing is

pub some_both : (P Q R : ℕ → Type 0) (found : Option ℕ) → IfSome found P → IfSome found Q → ((w : ℕ) → P w → Q w → R w) → IfSome found R
some_both P Q R None one other then = tt
some_both P Q R (Some w) one other then = then w one other

pub none_then : (P Q : Type 0) (found : Option ℕ) → IfNone found P → (P → Q) → IfNone found Q
none_then P Q None is then = then is
none_then P Q (Some w) is then = tt

-- ---- what stands against an operation

pub misses_unfit : (before : Kept) (request : Request) (e : Code) → request ≡ Err e → Misses before request
misses_unfit None request e is = tt
misses_unfit (Some x) request e is = subst (λ q. Misses (Some x) q) (sym is) tt

pub misses_field : (before : Kept) (x : HostHeap) (request : Request) (o : Op) → before ≡ Some x → request ≡ Ok (large_op.Small o) → ((h : List LargeItem) → IsHostOf x h → heap.Misses h o) → Misses before request
misses_field before x request o had is each = subst (λ k. Misses k request) (sym had) (subst (λ q. Misses (Some x) q) (sym is) each)

pub finds_field : (before : Kept) (x : HostHeap) (request : Request) (o : Op) (word : ℕ) → before ≡ Some x → request ≡ Ok (large_op.Small o)
    → ((h : List LargeItem) → IsHeapOf x.heap h → IsLargeReply (large_state h) (large_op.Small o) (large_reply.Small (reply.Got word))) → Finds before request word
finds_field before x request o word had is each = subst (λ k. Finds k request word) (sym had) (subst (λ q. Finds (Some x) q word) (sym is) each)

-- ---- what is done

-- the program gets 0
pub doing_zero : (r : Reply) → IsDoing r → 0 ≡ answered (Ok (large_reply.Small r))
doing_zero (reply.Loaded held) such = refl
doing_zero reply.Put such = refl
doing_zero reply.Stored such = refl
doing_zero reply.Cleared such = refl
doing_zero r such = absurd such

module _ (x : HostHeap) (y : Heap) (o : Op) (quiet : IsQuiet (all_registers_in x) (large_op.Small o)) where
  abbrev after : HostHeap
  after = record x { heap = y }

  replies : (r : Reply) → ((h : List LargeItem) → IsHeapOf x.heap h → IsReplied x.heap y h (large_op.Small o) (large_reply.Small r)) → (h : List LargeItem) → IsHeapOf x.heap h
      → Replies x after h (large_op.Small o) (large_reply.Small r)
  replies r each h is = record { heap = each h is; rest = quiet_same x y (large_op.Small o) (large_reply.Small r) quiet }

  pub tried_serves : (done : Bool) → IsServing x → (IsTrue done → Does x.heap y o) → (done ≡ false → y ≡ x.heap) → IsServing after
  tried_serves true serving does same = let (r, such, each) = does refl in quiet_room x after (large_op.Small o) (large_reply.Small r) quiet serving (replies r each)
  tried_serves false serving does same = subst (λ z. IsServing (record x { heap = z })) (sym (same refl)) serving

  pub tried_calls : (before : Kept) (request : Request) → before ≡ Some x → request ≡ Ok (large_op.Small o) → Does x.heap y o → Calls Replies before (Some after) request 0
  tried_calls before request had is (r, such, each) =
      (Ok (large_reply.Small r), asks_done Replies before (Some after) x after request (large_op.Small o) (large_reply.Small r) had refl is (λ h at. replies r each h at.heap), doing_zero r such)

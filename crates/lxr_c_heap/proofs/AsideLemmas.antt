-- What a store that was tried leaves of a handle.
use Rattle.std.proofs.Common.{◌≡◌, ◌∙◌, ℕ, ◌+◌, ◌<◌, refl, sym, ap, subst, arith, inl, inr, true, false, List, Some, None}
use Rattle.std.specs.Prelude.{◌⊎◌, IsTrue, Bool, Ok, Err}
use mathlib.Core.Logic.{∥∥₁_elim, ∥∥₁_prop}
use Rattle.lxr_graph.specs.declared.Op.{Op}
use Rattle.lxr_graph.specs.declared.Op.TheVariants as op
use Rattle.lxr_graph.specs.declared.Reply.{Reply}
use Rattle.lxr_large_model.specs.declared.LargeOp.TheVariants as large_op
use Rattle.lxr_large_model.specs.declared.LargeReply.TheVariants as large_reply
use Rattle.lxr_large_model.specs.History.{LargeItem}
use Rattle.lxr_heap.specs.declared.heap.Heap.{Heap}
use Rattle.lxr_heap.specs.Acting.{IsCallable, IsReplied}
use Rattle.lxr_heap.specs.Holding.{IsHeapOf}
use Rattle.lxr_heap.specs.Trying.{Does, IsDoing}
use Rattle.lxr_heap.specs.Trying as heap
use Rattle.lxr_c_base.specs.declared.codes.Code.{Code}
use Rattle.lxr_c_base.specs.Requests as asking
use Rattle.lxr_c_base.specs.Requests.{Request, index_of, register_of}
use Rattle.lxr_c_heap.specs.declared.host.HostHeap.{HostHeap}
use Rattle.lxr_c_heap.specs.declared.host.TheConstants.{ENDS}
use Rattle.lxr_c_heap.specs.Calling.{Calls}
use Rattle.lxr_c_heap.specs.Hosting.{IsAtEnd, IsHostOf, IsServing, Replies, Stores}
use Rattle.lxr_c_heap.specs.Keeping.{Kept}
use Rattle.lxr_c_heap.specs.Trying.{StaysAside}
use Rattle.lxr_c_heap.proofs.CallLemmas.{asks_done}
use Rattle.lxr_c_heap.proofs.RoomLemmas.{early_room, replied_needs_none, replied_room, weaker_room}
use Rattle.lxr_c_heap.proofs.TryingLemmas.{doing_zero, index_stays}

-- ---- requests

pub asked_store : (n base index b : ℕ) → register_of n base ≡ Ok b → index < 65536 → (source s : ℕ) → register_of n source ≡ Ok s → asking.store n base index source ≡ Ok (large_op.Small (op.Store b index s))
asked_store n base index b named few source s second =
    subst (λ i. asking.store n base index source ≡ Ok (large_op.Small (op.Store b i s))) (index_stays index few)
    (ap (λ q. asking.with_number q (λ x. asking.with_number (register_of n source) (λ y. Ok (large_op.Small (op.Store x (index_of index) y))))) named
    ∙ ap (λ q. asking.with_number q (λ y. Ok (large_op.Small (op.Store b (index_of index) y)))) second)

-- ---- what stands against a store

pub aside_unfit : (before : Kept) (request : Request) (e : Code) → request ≡ Err e → StaysAside before request
aside_unfit None request e is = tt
aside_unfit (Some x) request e is = subst (λ q. StaysAside (Some x) q) (sym is) tt

aside_host : (x : HostHeap) (b i s : ℕ) → IsAtEnd ENDS x ⊎ ((h : List LargeItem) → IsHeapOf x.heap h → heap.StaysAside h b i s) → IsAtEnd ENDS x ⊎ ((h : List LargeItem) → IsHostOf x h → heap.StaysAside h b i s)
aside_host x b i s (inl end) = inl end
aside_host x b i s (inr each) = inr (λ h at. each h at.heap)

pub aside_field : (before : Kept) (x : HostHeap) (request : Request) (b i s : ℕ) → before ≡ Some x → request ≡ Ok (large_op.Small (op.Store b i s)) → IsAtEnd ENDS x ⊎ ((h : List LargeItem) → IsHeapOf x.heap h → heap.StaysAside h b i s)
    → StaysAside before request
aside_field before x request b i s had is aside = subst (λ k. StaysAside k request) (sym had) (subst (λ q. StaysAside (Some x) q) (sym is) (aside_host x b i s aside))

-- ---- what is done

module _ (x : HostHeap) (y : Heap) (b i s : ℕ) where
  abbrev after : HostHeap
  after = record x { heap = y }

  abbrev o : Op
  o = op.Store b i s

  -- a store makes no object, so no bytes are counted
  same_bytes : (r : Reply) → after ≡ record x { heap = y; bytes = x.bytes + 0 }
  same_bytes r = ap (λ n. record x { heap = y; bytes = n }) (let e : x.bytes ≡ x.bytes + 0 = omega arith in e)

  replies : (r : Reply) → ((h : List LargeItem) → IsHeapOf x.heap h → IsReplied x.heap y h (large_op.Small o) (large_reply.Small r)) → (h : List LargeItem) → IsHeapOf x.heap h
      → Replies x after h (large_op.Small o) (large_reply.Small r)
  replies r each h is = record { heap = each h is; rest = same_bytes r }

  pub stored_serves : (done : Bool) → IsCallable (large_op.Small o) → IsServing x → (IsTrue done → IsAtEnd ENDS x → ⊥) → (IsTrue done → Does x.heap y o) → (done ≡ false → y ≡ x.heap) → IsServing after
  stored_serves true may serving early does same =
      let (r, such, each) = does refl in
      weaker_room 1 3 after
      (replied_room 1 3 x after (large_op.Small o) (large_reply.Small r) may (early_room ENDS x (record { made = omega arith; pauses = omega arith }) serving (early refl))
      (∥∥₁_elim serving.holds ∥∥₁_prop (λ of. ∣ (of.0, of.1, replies r each of.0 of.1.heap) ∣₁))) (omega arith) (omega arith)
  stored_serves false may serving early does same = subst (λ z. IsServing (record x { heap = z })) (sym (same refl)) serving

  pub stores : (r : Reply) → (IsAtEnd ENDS x → ⊥) → ((h : List LargeItem) → IsHeapOf x.heap h → IsReplied x.heap y h (large_op.Small o) (large_reply.Small r)) → (h : List LargeItem) → IsHostOf x h
      → Stores x after h (large_op.Small o) (large_reply.Small r)
  stores r early each h at = record {
    settled = x;
    history = h;
    settles = inr (early, refl, refl);
    acts = record {
      middle = x;
      history = h;
      pauses = inr (replied_needs_none x y h (large_op.Small o) (large_reply.Small r) (each h at.heap), refl, refl);
      replies = replies r each h at.heap;
    };
  }

  pub stored_calls : (before : Kept) (request : Request) → before ≡ Some x → request ≡ Ok (large_op.Small o) → (IsAtEnd ENDS x → ⊥) → Does x.heap y o → Calls Stores before (Some after) request 0
  stored_calls before request had is early (r, such, each) =
      (Ok (large_reply.Small r), asks_done Stores before (Some after) x after request (large_op.Small o) (large_reply.Small r) had refl is (stores r early each), doing_zero r such)

-- One operation, as the heap does it, is a list of one.
use Rattle.std.proofs.Common.{◌≡◌, ℕ, ◌+◌, ◌∙◌, refl, sym, ap, subst, Bool, true, false, List, [], ◌∷◌}
use Rattle.std.specs.Prelude.{IsTrue}
use Rattle.lxr_graph.specs.declared.Op.{Op}
use Rattle.lxr_graph.specs.declared.Op.TheVariants as op
use Rattle.lxr_graph.specs.declared.Reply.{Reply}
use Rattle.lxr_graph.specs.declared.Reply.TheVariants as reply
use Rattle.lxr_heap.specs.declared.heap.Heap.{Heap}
use Rattle.lxr_heap.specs.Acting.{IsReplied}
use Rattle.lxr_heap.specs.Holding.{IsHeapOf}
use Rattle.lxr_heap.specs.Trying.{Does, IsDoing}
use Rattle.lxr_large_model.specs.declared.LargeOp.{LargeOp}
use Rattle.lxr_large_model.specs.declared.LargeOp.TheVariants as large_op
use Rattle.lxr_large_model.specs.declared.LargeReply.{LargeReply}
use Rattle.lxr_large_model.specs.declared.LargeReply.TheVariants as large_reply
use Rattle.lxr_large_model.specs.History.{LargeItem, Called}
use Rattle.lxr_c_base.specs.declared.codes.Code.TheVariants as code
use Rattle.lxr_c_base.specs.Codes.{code_of}
use Rattle.lxr_c_base.specs.Requests.{IsQuiet}
use Rattle.lxr_c_heap.specs.declared.host.HostHeap.{HostHeap}
use Rattle.lxr_c_heap.specs.declared.host.TheConstants.{ENDS}
use Rattle.lxr_c_heap.specs.Hosting.{IsAtEnd, IsHostOf, Makes, Replies, Stores, all_registers_in}
use Rattle.lxr_c_heap.specs.Pacing.{bytes_by}
use Rattle.lxr_c_heap.proofs.AsideLemmas.{stores}
use Rattle.lxr_c_heap.proofs.RegisterLemmas.{known, made_all, made_keeps, replied_all, replied_keeps, stored_all, stored_keeps}
use Rattle.lxr_c_heap.proofs.RoomLemmas.{SomeHistory, quiet_same}
use Rattle.lxr_c_many.specs.declared.asked.Asked.TheVariants as asked
use Rattle.lxr_c_many.specs.Applying.{told_by}
use Rattle.lxr_c_many.proofs.StepLemmas.{no_bytes}
use Rattle.lxr_c_arrays.specs.Operations.{store_of}
use Rattle.lxr_c_arrays.specs.Running.{InTurn, Runs, SameRegisters}
use Rattle.lxr_c_arrays.proofs.RunLemmas.{ran_one, same_none}

module _ (x y : HostHeap) (o : LargeOp) (r : LargeReply) where
  pub made_in_turn : ((h : List LargeItem) → IsHostOf x h → Makes x y h o r) → InTurn x (asked.Make o ∷ []) y (code_of r)
  made_in_turn made = λ h is.
      let makes = made h is in
      let k : List LargeItem = Called o r ∷ makes.acts.history in
      (k, ran_one x y h k (asked.Make o) (told_by r) (r, makes, refl, refl))

  pub stored_in_turn : ((h : List LargeItem) → IsHostOf x h → Stores x y h o r) → InTurn x (asked.Store o ∷ []) y (code_of r)
  stored_in_turn stored = λ h is.
      let stores = stored h is in
      let k : List LargeItem = Called o r ∷ stores.acts.history in
      (k, ran_one x y h k (asked.Store o) (told_by r) (r, stores, refl, refl))

  pub replied_in_turn : ((h : List LargeItem) → IsHeapOf x.heap h → Replies x y h o r) → InTurn x (asked.Reply o ∷ []) y (code_of r)
  replied_in_turn replied = λ h is.
      let k : List LargeItem = Called o r ∷ h in
      (k, ran_one x y h k (asked.Reply o) (told_by r) (r, replied h is.heap, refl, refl))

  -- and there are as many registers
  pub made_same : SomeHistory x → ((h : List LargeItem) → IsHostOf x h → Makes x y h o r) → SameRegisters x y
  made_same some made = record { named = known x _ _ some (λ h is. made_keeps x y h o r (made h is)); all = known x _ _ some (λ h is. made_all x y h o r (made h is)) }

  pub stored_same : SomeHistory x → ((h : List LargeItem) → IsHostOf x h → Stores x y h o r) → SameRegisters x y
  stored_same some stored = record { named = known x _ _ some (λ h is. stored_keeps x y h o r (stored h is)); all = known x _ _ some (λ h is. stored_all x y h o r (stored h is)) }

  pub replied_same : SomeHistory x → ((h : List LargeItem) → IsHeapOf x.heap h → Replies x y h o r) → SameRegisters x y
  replied_same some replied = record { named = known x _ _ some (λ h is. replied_keeps x y h o r (replied h is.heap)); all = known x _ _ some (λ h is. replied_all x y h o r (replied h is.heap)) }

-- a load that finds a reference is replied success
doing_done : (r : Reply) → IsDoing r → code_of (large_reply.Small r) ≡ code.Done
doing_done (reply.Loaded held) such = refl
doing_done reply.Put such = refl
doing_done reply.Stored such = refl
doing_done reply.Cleared such = refl
doing_done r such = absurd such

module _ (x : HostHeap) (y : Heap) (o : Op) (quiet : IsQuiet (all_registers_in x) (large_op.Small o)) where
  abbrev after : HostHeap
  after = record x { heap = y }

  tried_replies : (r : Reply) → ((h : List LargeItem) → IsHeapOf x.heap h → IsReplied x.heap y h (large_op.Small o) (large_reply.Small r)) → (h : List LargeItem) → IsHeapOf x.heap h
      → Replies x after h (large_op.Small o) (large_reply.Small r)
  tried_replies r each h is = record { heap = each h is; rest = quiet_same x y (large_op.Small o) (large_reply.Small r) quiet }

  pub tried_in_turn : Does x.heap y o → InTurn x (asked.Reply (large_op.Small o) ∷ []) after code.Done
  tried_in_turn (r, such, each) =
      subst (InTurn x (asked.Reply (large_op.Small o) ∷ []) after) (doing_done r such) (replied_in_turn x after (large_op.Small o) (large_reply.Small r) (tried_replies r each))

  tried_same : SomeHistory x → Does x.heap y o → SameRegisters x after
  tried_same some (r, such, each) = replied_same x after (large_op.Small o) (large_reply.Small r) some (tried_replies r each)

  -- whether it was done or not
  pub tried_keeps : (done : Bool) → SomeHistory x → (IsTrue done → Does x.heap y o) → (done ≡ false → y ≡ x.heap) → SameRegisters x after
  tried_keeps true some does same = tried_same some (does refl)
  tried_keeps false some does same = subst (λ (z : Heap). SameRegisters x (record x { heap = z })) (sym (same refl)) (same_none x)

-- a store that finds nothing to record
module _ (x : HostHeap) (y : Heap) (b i s : ℕ) where
  pub tried_stored : (IsAtEnd ENDS x → ⊥) → Does x.heap y (op.Store b i s) → InTurn x (store_of b i s ∷ []) (record x { heap = y }) code.Done
  tried_stored early (r, such, each) =
      subst (InTurn x (store_of b i s ∷ []) (record x { heap = y })) (doing_done r such)
      (stored_in_turn x (record x { heap = y }) (large_op.Small (op.Store b i s)) (large_reply.Small r) (stores x y b i s r early each))

  pub tried_stored_keeps : (done : Bool) → SomeHistory x → (IsTrue done → IsAtEnd ENDS x → ⊥) → (IsTrue done → Does x.heap y (op.Store b i s)) → (done ≡ false → y ≡ x.heap) → SameRegisters x (record x { heap = y })
  tried_stored_keeps true some early does same =
      let (r, such, each) = does refl in stored_same x (record x { heap = y }) (large_op.Small (op.Store b i s)) (large_reply.Small r) some (stores x y b i s r (early refl) each)
  tried_stored_keeps false some early does same = subst (λ (z : Heap). SameRegisters x (record x { heap = z })) (sym (same refl)) (same_none x)

-- an operation that is replied success, whatever it tells
module _ (x : HostHeap) (y : Heap) (o : LargeOp) (r : List LargeItem → LargeReply) (done : (h : List LargeItem) → (code_of (r h) ≡ code.Done) × (bytes_by o (r h) ≡ 0)) where
  abbrev after_each : HostHeap
  after_each = record x { heap = y }

  each_replies : ((h : List LargeItem) → IsHeapOf x.heap h → IsReplied x.heap y h o (r h)) → (h : List LargeItem) → IsHeapOf x.heap h → Replies x after_each h o (r h)
  each_replies each h is = record { heap = each h is; rest = no_bytes x y ∙ ap (λ n. record x { heap = y; bytes = x.bytes + n }) (sym (done h).1) }

  pub each_in_turn : ((h : List LargeItem) → IsHeapOf x.heap h → IsReplied x.heap y h o (r h)) → InTurn x (asked.Reply o ∷ []) after_each code.Done
  each_in_turn each = λ h is.
      let k : List LargeItem = Called o (r h) ∷ h in
      (k, subst (Runs x h (asked.Reply o ∷ []) after_each k) (done h).0 (ran_one x after_each h k (asked.Reply o) (told_by (r h)) (r h, each_replies each h is.heap, refl, refl)))

  pub each_same : SomeHistory x → ((h : List LargeItem) → IsHeapOf x.heap h → IsReplied x.heap y h o (r h)) → SameRegisters x after_each
  each_same some each = record {
    named = known x _ _ some (λ h is. replied_keeps x after_each h o (r h) (each_replies each h is.heap));
    all = known x _ _ some (λ h is. replied_all x after_each h o (r h) (each_replies each h is.heap));
  }

-- a register that becomes nil is replied success, always
pub nil_done : (x y : HostHeap) (h : List LargeItem) (dest : ℕ) (r : LargeReply) → Replies x y h (large_op.Small (op.Nil dest)) r → code_of r ≡ code.Done
nil_done x y h dest r replies = let told : large_reply.Small reply.Cleared ≡ r = replies.heap.holds.legal.1.reply in ap code_of (sym told)

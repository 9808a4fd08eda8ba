-- What an entry asks for whose numbers fit, and what is left where that was done as the call of its name does it.
use Rattle.std.proofs.Common.{◌≡◌, ◌∙◌, ℕ, zero, suc, ◌<◌, ◌≤◌, refl, sym, ap, subst, arith, cond, Bool, true, false, nat_lt, nat_le, Some, None, List, ◌∷◌}
use Rattle.std.specs.Prelude.{Result, Ok, Err}
use Rattle.std.proofs.lemmas.Bool.{leb-true, lt-ltb, ltb-true}
use Rattle.lxr_graph.specs.declared.Op.{Op}
use Rattle.lxr_graph.specs.declared.Op.TheVariants as op
use Rattle.lxr_graph.specs.declared.Reply.{Reply}
use Rattle.lxr_graph.specs.declared.Reply.TheVariants as reply
use Rattle.lxr_large_model.specs.declared.LargeOp.{LargeOp}
use Rattle.lxr_large_model.specs.declared.LargeOp.TheVariants as large_op
use Rattle.lxr_large_model.specs.declared.LargeReply.{LargeReply}
use Rattle.lxr_large_model.specs.declared.LargeReply.TheVariants as large_reply
use Rattle.lxr_large_model.specs.History.{LargeItem, Called, large_state}
use Rattle.lxr_large_model.specs.Step.{IsLargeReply}
use Rattle.lxr_heap.specs.declared.heap.Heap.{Heap}
use Rattle.lxr_heap.specs.Holding.{IsHeapOf}
use Rattle.lxr_heap.specs.Trying.{Does, IsDoing}
use Rattle.lxr_c_base.specs.declared.codes.Code.{Code}
use Rattle.lxr_c_base.specs.declared.codes.Code.TheVariants as code
use Rattle.lxr_c_base.specs.Codes.{flag}
use Rattle.lxr_c_base.specs.Requests as asking
use Rattle.lxr_c_base.specs.Requests.{IsQuiet, Request, index_of, register_of, size_of, with_number}
use Rattle.lxr_c_heap.specs.declared.host.HostHeap.{HostHeap}
use Rattle.lxr_c_heap.specs.declared.host.TheConstants.{ENDS}
use Rattle.lxr_c_heap.specs.Hosting.{IsAtEnd, IsHostOf, IsServing, Makes, Replies, all_registers_in, registers_in}
use Rattle.lxr_c_heap.specs.Looking.{SeesNil}
use Rattle.lxr_c_heap.proofs.AsideLemmas.{asked_store, stores}
use Rattle.lxr_c_heap.proofs.RegisterLemmas.{named_few}
use Rattle.lxr_c_heap.proofs.RoomLemmas.{quiet_same}
use Rattle.lxr_c_heap.proofs.TryingLemmas.{asked_get, asked_load, asked_put}
use Rattle.lxr_c_many.specs.declared.applying.Told.{Told}
use Rattle.lxr_c_many.specs.declared.asked.Asked.{Asked}
use Rattle.lxr_c_many.specs.declared.asked.Asked.TheVariants as asked
use Rattle.lxr_c_many.specs.declared.asked.Operation.{Operation}
use Rattle.lxr_c_many.specs.Applying.{Asks, PerformsAt, as_asked, as_nil, asked_of, nil_asked, told_by, with_told}

-- ---- numbers that fit

module _ {T : Type 0} (n r : ℕ) (next : ℕ → Result T Code) (v : T) where
  register_if : (b : Bool) → nat_lt r n ≡ b → with_number (cond b (Ok r) (Err code.Register)) next ≡ Ok v → (r < n) × (next r ≡ Ok v)
  register_if true test is = (ltb-true r n test, is)
  register_if false test is = absurd (cc)

  pub register_fits : with_number (register_of n r) next ≡ Ok v → (r < n) × (next r ≡ Ok v)
  register_fits is = register_if (nat_lt r n) refl is

module _ {T : Type 0} (r : ℕ) (next : ℕ → Result T Code) (v : T) where
  size_if : (b : Bool) → nat_le r 1023 ≡ b → with_number (cond b (Ok r) (Err code.Size)) next ≡ Ok v → (r ≤ 1023) × (next r ≡ Ok v)
  size_if true test is = (leb-true r 1023 test, is)
  size_if false test is = absurd (cc)

  pub size_fits : with_number (size_of r) next ≡ Ok v → (r ≤ 1023) × (next r ≡ Ok v)
  size_fits is = size_if (nat_le r 1023) refl is

register_found : (n r : ℕ) → r < n → register_of n r ≡ Ok r
register_found n r few = ap (λ b. cond b (Ok r) (Err code.Register)) (lt-ltb r n few)

size_found : (r : ℕ) → r ≤ 1023 → size_of r ≡ Ok r
size_found r few = ap (λ b. cond b (Ok r) (Err code.Size)) (let fits : nat_le r 1023 ≡ true = grind (arith, few) in fits)

kind_fits : (kind : LargeOp → Asked) (q : Request) (a : Asked) → as_asked kind q ≡ Ok a → (o : LargeOp) × (q ≡ Ok o)
kind_fits kind (Ok o) a is = (o, refl)
kind_fits kind (Err e) a is = absurd (cc)

nil_fits : (n r : ℕ) (b : Bool) (a : Asked) → nat_lt r n ≡ b → as_nil (cond b (Ok r) (Err code.Register)) ≡ Ok a → r < n
nil_fits n r true a test is = ltb-true r n test
nil_fits n r false a test is = absurd (cc)

-- ---- entries

module _ (n : ℕ) (e : Operation) where
  -- an entry with this number for its own
  abbrev with_op : ℕ → Result Asked Code
  with_op number = asked_of n (record e { op = number })

  abbrev numbered : (number : ℕ) → e.op ≡ number → asked_of n e ≡ with_op number
  numbered number is = ap with_op is

  fitting : (number : ℕ) → e.op ≡ number → Asks n e → (kind : LargeOp → Asked) (q : Request) → with_op number ≡ as_asked kind q → (o : LargeOp) × (q ≡ Ok o)
  fitting number is asks kind q same = kind_fits kind q asks.0 (sym same ∙ sym (numbered number is) ∙ asks.1)

  pub new_fits : e.op ≡ 0 → Asks n e → (e.a < n) × (e.b ≤ 1023) × (e.c ≤ 1023)
  new_fits is asks =
      let (o, request) = fitting 0 is asks asked.Make (asking.new n e.a e.b e.c) refl in
      let (dest, further) = register_fits n e.a (λ d. with_number (size_of e.b) (λ r. with_number (size_of e.c) (λ w. Ok (large_op.Small (op.New d (record { refs = r; values = w })))))) o request in
      let (refs, last) = size_fits e.b (λ r. with_number (size_of e.c) (λ w. Ok (large_op.Small (op.New e.a (record { refs = r; values = w }))))) o further in
      (dest, refs, (size_fits e.c (λ w. Ok (large_op.Small (op.New e.a (record { refs = e.b; values = w })))) o last).0)

  pub load_fits : e.op ≡ 1 → Asks n e → (e.a < n) × (e.b < n)
  load_fits is asks =
      let (o, request) = fitting 1 is asks asked.Reply (asking.load n e.a e.b e.c) refl in
      let (dest, further) = register_fits n e.a (λ d. with_number (register_of n e.b) (λ b. Ok (large_op.Small (op.Load d b (index_of e.c))))) o request in
      (dest, (register_fits n e.b (λ b. Ok (large_op.Small (op.Load e.a b (index_of e.c)))) o further).0)

  pub store_fits : e.op ≡ 2 → Asks n e → (e.a < n) × (e.c < n)
  store_fits is asks =
      let (o, request) = fitting 2 is asks asked.Store (asking.store n e.a e.b e.c) refl in
      let (base, further) = register_fits n e.a (λ b. with_number (register_of n e.c) (λ s. Ok (large_op.Small (op.Store b (index_of e.b) s)))) o request in
      (base, (register_fits n e.c (λ s. Ok (large_op.Small (op.Store e.a (index_of e.b) s))) o further).0)

  pub get_fits : e.op ≡ 3 → Asks n e → e.a < n
  get_fits is asks =
      let (o, request) = fitting 3 is asks asked.See (asking.get n e.a e.b) refl in
      (register_fits n e.a (λ b. Ok (large_op.Small (op.Get b (index_of e.b)))) o request).0

  pub put_fits : e.op ≡ 4 → Asks n e → e.a < n
  put_fits is asks =
      let (o, request) = fitting 4 is asks asked.Reply (asking.put n e.a e.b e.word) refl in
      (register_fits n e.a (λ b. Ok (large_op.Small (op.Put b (index_of e.b) e.word))) o request).0

  pub same_fits : e.op ≡ 5 → Asks n e → (e.a < n) × (e.b < n)
  same_fits is asks =
      let (o, request) = fitting 5 is asks asked.See (asking.same n e.a e.b) refl in
      let (left, further) = register_fits n e.a (λ l. with_number (register_of n e.b) (λ r. Ok (large_op.Small (op.Same l r)))) o request in
      (left, (register_fits n e.b (λ r. Ok (large_op.Small (op.Same e.a r))) o further).0)

  pub move_fits : e.op ≡ 6 → Asks n e → (e.a < n) × (e.b < n)
  move_fits is asks =
      let (o, request) = fitting 6 is asks asked.Reply (asking.copy n e.a e.b) refl in
      let (dest, further) = register_fits n e.a (λ d. with_number (register_of n e.b) (λ s. Ok (large_op.Small (op.Move d s)))) o request in
      (dest, (register_fits n e.b (λ s. Ok (large_op.Small (op.Move e.a s))) o further).0)

  pub nil_fits_at : e.op ≡ 7 → Asks n e → e.a < n
  nil_fits_at is asks =
      let (o, request) = fitting 7 is asks asked.Reply (asking.nil n e.a) refl in
      (register_fits n e.a (λ d. Ok (large_op.Small (op.Nil d))) o request).0

  pub is_nil_fits : e.op ≡ 8 → Asks n e → e.a < n
  is_nil_fits is asks = nil_fits n e.a (nat_lt e.a n) asks.0 refl (sym (numbered 8 is) ∙ asks.1)

  -- ---- what each asks for

  pub asks_new : e.op ≡ 0 → e.a < n → e.b ≤ 1023 → e.c ≤ 1023 → asked_of n e ≡ Ok (asked.Make (large_op.Small (op.New e.a (record { refs = e.b; values = e.c }))))
  asks_new is dest refs values =
      numbered 0 is
      ∙ ap (λ q. as_asked asked.Make (with_number q (λ d. with_number (size_of e.b) (λ r. with_number (size_of e.c) (λ w. Ok (large_op.Small (op.New d (record { refs = r; values = w })))))))) (register_found n e.a dest)
      ∙ ap (λ q. as_asked asked.Make (with_number q (λ r. with_number (size_of e.c) (λ w. Ok (large_op.Small (op.New e.a (record { refs = r; values = w }))))))) (size_found e.b refs)
      ∙ ap (λ q. as_asked asked.Make (with_number q (λ w. Ok (large_op.Small (op.New e.a (record { refs = e.b; values = w })))))) (size_found e.c values)

  pub asks_load : e.op ≡ 1 → e.a < n → e.b < n → e.c < 65536 → asked_of n e ≡ Ok (asked.Reply (large_op.Small (op.Load e.a e.b e.c)))
  asks_load is dest base few = numbered 1 is ∙ ap (as_asked asked.Reply) (asked_load n e.b e.c e.b (register_found n e.b base) few e.a e.a (register_found n e.a dest))

  pub asks_store : e.op ≡ 2 → e.a < n → e.c < n → e.b < 65536 → asked_of n e ≡ Ok (asked.Store (large_op.Small (op.Store e.a e.b e.c)))
  asks_store is base source few = numbered 2 is ∙ ap (as_asked asked.Store) (asked_store n e.a e.b e.a (register_found n e.a base) few e.c e.c (register_found n e.c source))

  pub asks_get : e.op ≡ 3 → e.a < n → e.b < 65536 → asked_of n e ≡ Ok (asked.See (large_op.Small (op.Get e.a e.b)))
  asks_get is base few = numbered 3 is ∙ ap (as_asked asked.See) (asked_get n e.a e.b e.a (register_found n e.a base) few)

  pub asks_put : e.op ≡ 4 → e.a < n → e.b < 65536 → asked_of n e ≡ Ok (asked.Reply (large_op.Small (op.Put e.a e.b e.word)))
  asks_put is base few = numbered 4 is ∙ ap (as_asked asked.Reply) (asked_put n e.a e.b e.a (register_found n e.a base) few e.word)

  pub asks_same : e.op ≡ 5 → e.a < n → e.b < n → asked_of n e ≡ Ok (asked.See (large_op.Small (op.Same e.a e.b)))
  asks_same is left right =
      numbered 5 is
      ∙ ap (λ q. as_asked asked.See (with_number q (λ l. with_number (register_of n e.b) (λ r. Ok (large_op.Small (op.Same l r)))))) (register_found n e.a left)
      ∙ ap (λ q. as_asked asked.See (with_number q (λ r. Ok (large_op.Small (op.Same e.a r))))) (register_found n e.b right)

  pub asks_move : e.op ≡ 6 → e.a < n → e.b < n → asked_of n e ≡ Ok (asked.Reply (large_op.Small (op.Move e.a e.b)))
  asks_move is dest source =
      numbered 6 is
      ∙ ap (λ q. as_asked asked.Reply (with_number q (λ d. with_number (register_of n e.b) (λ s. Ok (large_op.Small (op.Move d s)))))) (register_found n e.a dest)
      ∙ ap (λ q. as_asked asked.Reply (with_number q (λ s. Ok (large_op.Small (op.Move e.a s))))) (register_found n e.b source)

  pub asks_nil : e.op ≡ 7 → e.a < n → asked_of n e ≡ Ok (asked.Reply (large_op.Small (op.Nil e.a)))
  asks_nil is dest = numbered 7 is ∙ ap (λ q. as_asked asked.Reply (with_number q (λ d. Ok (large_op.Small (op.Nil d))))) (register_found n e.a dest)

  pub asks_is_nil : e.op ≡ 8 → e.a < n → asked_of n e ≡ Ok (asked.IsNil e.a)
  asks_is_nil is register = numbered 8 is ∙ ap as_nil (register_found n e.a register)

-- an entry whose numbers are all below that of the registers asks for something, whatever that is
pub small_asks : (n : ℕ) (e : Operation) → n ≤ 256 → e.a < n → e.b < n → e.c < n → (k : ℕ) → e.op ≡ k → k ≤ 8 → Asks n e
small_asks n e many a b c zero is few = (_, asks_new n e is a (omega (arith, many, b)) (omega (arith, many, c)))
small_asks n e many a b c (suc zero) is few = (_, asks_load n e is a b (omega (arith, many, c)))
small_asks n e many a b c (suc (suc zero)) is few = (_, asks_store n e is a c (omega (arith, many, b)))
small_asks n e many a b c (suc (suc (suc zero))) is few = (_, asks_get n e is a (omega (arith, many, b)))
small_asks n e many a b c (suc (suc (suc (suc zero)))) is few = (_, asks_put n e is a (omega (arith, many, b)))
small_asks n e many a b c (suc (suc (suc (suc (suc zero))))) is few = (_, asks_same n e is a b)
small_asks n e many a b c (suc (suc (suc (suc (suc (suc zero)))))) is few = (_, asks_move n e is a b)
small_asks n e many a b c (suc (suc (suc (suc (suc (suc (suc zero))))))) is few = (_, asks_nil n e is a)
small_asks n e many a b c (suc (suc (suc (suc (suc (suc (suc (suc zero)))))))) is few = (_, asks_is_nil n e is a)
small_asks n e many a b c (suc (suc (suc (suc (suc (suc (suc (suc (suc k))))))))) is few = absurd (omega (arith, few))

-- ---- registers

-- a register that the host may name is one of all that there are
pub within : (x : HostHeap) (r : ℕ) → IsServing x → r < registers_in x → r < all_registers_in x
within x r serving named = let few = named_few x serving.holds in omega (arith, few, named)

-- ---- what was done

-- such a reply tells no word
doing_told : (r : Reply) → IsDoing r → record { code = code.Done; word = None } ≡ told_by (large_reply.Small r)
doing_told (reply.Loaded held) such = refl
doing_told reply.Put such = refl
doing_told reply.Stored such = refl
doing_told reply.Cleared such = refl
doing_told r such = absurd such

module _ (x : HostHeap) (e : Operation) where
  -- an object was made, and the entry is told of it
  pub made_entry : (y : HostHeap) (o : LargeOp) (r : LargeReply) (told : Told) (f : Operation) (c : Code) → asked_of (registers_in x) e ≡ Ok (asked.Make o) → ((h : List LargeItem) → IsHostOf x h → Makes x y h o r)
      → told ≡ told_by r → f ≡ with_told e told → c ≡ told.code → PerformsAt x e y f c
  made_entry y o r told f c is each tells new came = (told, came, new, λ h at. let makes = each h at in (Called o r ∷ makes.acts.history, (asked.Make o, is, (r, makes, refl, tells))))

  -- an operation was replied to that makes no object and stores no reference
  pub replied_entry : (y : HostHeap) (o : LargeOp) (r : LargeReply) (told : Told) (f : Operation) (c : Code) → asked_of (registers_in x) e ≡ Ok (asked.Reply o)
      → ((h : List LargeItem) → IsHeapOf x.heap h → Replies x y h o r) → told ≡ told_by r → f ≡ with_told e told → c ≡ told.code → PerformsAt x e y f c
  replied_entry y o r told f c is each tells new came = (told, came, new, λ h at. (Called o r ∷ h, (asked.Reply o, is, (r, each h at.heap, refl, tells))))

  -- so was one that only looks
  pub seen_entry : (o : LargeOp) (r : LargeReply) (told : Told) (f : Operation) (c : Code) → asked_of (registers_in x) e ≡ Ok (asked.See o)
      → ((h : List LargeItem) → IsHeapOf x.heap h → IsLargeReply (large_state h) o r) → told ≡ told_by r → f ≡ with_told e told → c ≡ told.code → PerformsAt x e x f c
  seen_entry o r told f c is each tells new came = (told, came, new, λ h at. (h, (asked.See o, is, (r, each h at.heap, refl, refl, tells))))

  -- a register was looked at
  pub nil_entry : (nil : Bool) (word : ℕ) → asked_of (registers_in x) e ≡ Ok (asked.IsNil e.a) → ((h : List LargeItem) → IsHeapOf x.heap h → SeesNil x h e.a nil) → word ≡ flag nil → PerformsAt x e x (record e { word = word }) code.Done
  nil_entry nil word is each tells =
      (record { code = code.Done; word = Some word }, refl, refl, λ h at. (h, (asked.IsNil e.a, is, (nil, each h at.heap, refl, refl, ap (λ w. record { code = code.Done; word = Some w }) tells))))

  -- a try did it
  pub tried_entry : (y : Heap) (o : Op) → IsQuiet (all_registers_in x) (large_op.Small o) → asked_of (registers_in x) e ≡ Ok (asked.Reply (large_op.Small o)) → Does x.heap y o → PerformsAt x e (record x { heap = y }) e code.Done
  tried_entry y o quiet is (r, such, each) = (
    record { code = code.Done; word = None },
    refl,
    refl,
    λ h at. (
      Called (large_op.Small o) (large_reply.Small r) ∷ h,
      (asked.Reply (large_op.Small o), is, (large_reply.Small r, record { heap = each h at.heap; rest = quiet_same x y (large_op.Small o) (large_reply.Small r) quiet }, refl, doing_told r such)),
    ),
  )

  pub stored_entry : (y : Heap) (b i s : ℕ) → asked_of (registers_in x) e ≡ Ok (asked.Store (large_op.Small (op.Store b i s))) → ¬ IsAtEnd ENDS x → Does x.heap y (op.Store b i s)
      → PerformsAt x e (record x { heap = y }) e code.Done
  stored_entry y b i s is early (r, such, each) = (
    record { code = code.Done; word = None },
    refl,
    refl,
    λ h at.
        let stored = stores x y b i s r early each h at in (
          Called (large_op.Small (op.Store b i s)) (large_reply.Small r) ∷ stored.acts.history,
          (asked.Store (large_op.Small (op.Store b i s)), is, (large_reply.Small r, stored, refl, doing_told r such)),
        ),
  )

  -- one that only looks found a word
  pub got_entry : (o : LargeOp) (word : ℕ) → asked_of (registers_in x) e ≡ Ok (asked.See o) → ((h : List LargeItem) → IsHeapOf x.heap h → IsLargeReply (large_state h) o (large_reply.Small (reply.Got word)))
      → PerformsAt x e x (record e { word = word }) code.Done
  got_entry o word is each = (record { code = code.Done; word = Some word }, refl, refl, λ h at. (h, (asked.See o, is, (large_reply.Small (reply.Got word), each h at.heap, refl, refl, refl))))

  -- a try that did nothing left the heap as it was
  pub after_try : (y z : HostHeap) (f : Operation) (c : Code) → y ≡ x → PerformsAt y e z f c → PerformsAt x e z f c
  after_try y z f c same performs = subst (λ w. PerformsAt w e z f c) same performs

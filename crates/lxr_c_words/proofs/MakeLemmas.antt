-- After an operation made a large object, its first body word is put; and the words of a new object are 0.
use Rattle.std.proofs.Common.{◌≡◌, ℕ, zero, suc, ◌+◌, ◌*◌, ◌<◌, ◌≤◌, ◌∙◌, refl, sym, ap, subst, arith, cond, true, false, Some, None, List, [], ◌∷◌, ◌++◌, length, take}
use Rattle.std.specs.Prelude.{option_map, replicate, slice_set}
use Rattle.std.specs.List.{AllByRecursion}
use Rattle.std.proofs.lemmas.List.{get_or-set_same, length-replicate}
use Rattle.std.proofs.lemmas.Option.{same_Some}
use Rattle.lxr_layout.specs.declared.TheConstants.{REGISTERS}
use Rattle.lxr_layout.specs.declared.Name.{Name}
use Rattle.lxr_layout.specs.declared.Shape.{Shape}
use Rattle.lxr_layout.specs.Objects.{FitsShape}
use Rattle.lxr_graph.specs.Names.{same_name}
use Rattle.lxr_graph.specs.declared.Op.TheVariants as op
use Rattle.lxr_graph.specs.declared.Reply.TheVariants as reply
use Rattle.lxr_graph.specs.State.{next_name, object_at, register_at, register_index, values_of}
use Rattle.lxr_graph.proofs.NameSets.{same_itself, same_names}
use Rattle.lxr_large_model.specs.declared.LargeOp.{LargeOp}
use Rattle.lxr_large_model.specs.declared.LargeOp.TheVariants as large_op
use Rattle.lxr_large_model.specs.declared.LargeReply.{LargeReply}
use Rattle.lxr_large_model.specs.declared.LargeReply.TheVariants as large_reply
use Rattle.lxr_large_model.specs.History.{LargeItem, Called, large_state}
use Rattle.lxr_large_model.specs.State.{Large, LargeState, body_of, fresh_body}
use Rattle.lxr_large_model.specs.Step.{large_step, put_at, put_to, word_in}
use Rattle.lxr_heap.specs.declared.heap.Heap.{Heap}
use Rattle.lxr_heap.specs.Holding.{IsHeapOf, IsMade}
use Rattle.lxr_c_base.specs.Requests.{IsMaking}
use Rattle.lxr_c_heap.specs.declared.host.HostHeap.{HostHeap}
use Rattle.lxr_c_heap.specs.Hosting.{IsHostOf, Makes, Replies}
use Rattle.lxr_c_many.proofs.HostLemmas.{making_host, makes_host}
use Rattle.lxr_c_many.specs.declared.making.Wanted.{Wanted}
use Rattle.lxr_c_many.specs.Making.{IsWanted, new_of}
use Rattle.lxr_c_many.proofs.MakingLemmas.{all_registers, held, named, there}
use Rattle.lxr_c_words.specs.Making.{HasPlaceFor, MakesWords, body_made}
use Rattle.lxr_c_words.specs.Words.{words_at, words_in_body, words_of}
use Rattle.lxr_c_words.proofs.AfterLemmas.{HasBodyOf, body_at, put_body}
use Rattle.lxr_c_words.proofs.WholeLemmas.{whole_body}

-- a large name that joins others has a body
joined : (ls : List Large) (l : Large) → (words : List ℕ) × (body_of (ls ++ l ∷ []) l.name ≡ Some words)
joined [] l = (l.words, ap (λ c. cond c (Some l.words) None) (same_itself l.name))
joined (k ∷ ks) l = elim (same_name l.name k.name) as (λ c. (words : List ℕ) × (cond c (Some k.words) (body_of (ks ++ l ∷ []) l.name) ≡ Some words)) [
  | true ↦ (k.words, refl)
  | false ↦ joined ks l
]

-- a body that has a word has a first one
first_put : (s : LargeState) (n : Name) (v : ℕ) (words : List ℕ) → 1 ≤ length words → (put_at s n 0 v (word_in (Some words) 0)).1 ≡ large_reply.Put
first_put s n v [] some = absurd (omega (arith, some))
first_put s n v (w ∷ ws) some = refl

-- what is replied to the put
module _ (x m y : HostHeap) (h : List LargeItem) (dest blocks v : ℕ) (n : Name) (r : LargeReply) (small : dest < REGISTERS) (is : IsHeapOf x.heap h) where
  abbrev k : List LargeItem
  k = Called (large_op.Big dest blocks) (large_reply.Big n) ∷ h

  abbrev new : Name
  new = next_name (large_state h).small.graph 1

  new_held : register_at (large_state k).small 1 dest ≡ Some new
  new_held = get_or-set_same (large_state h).small.registers (register_index 1 dest) (Some new) None (let all = all_registers x.heap h is in omega (arith, small, all))

  body : (words : List ℕ) × (body_of (large_state k).large new ≡ Some words)
  body = joined (large_state h).large (record { name = new; words = fresh_body blocks })

  pub count_put : IsHeapOf m.heap k → Replies m y k (large_op.BigPut dest 0 v) r → Replies m y k (large_op.BigPut dest 0 v) large_reply.Put
  count_put made replies =
      let whole = whole_body _ k new body.0 made.legal body.1 in
      let long = whole.long in
      let least = whole.some in
      let told : (large_step (large_state k) (large_op.BigPut dest 0 v)).1 ≡ r = replies.heap.holds.legal.1.reply in
      let put : (large_step (large_state k) (large_op.BigPut dest 0 v)).1 ≡ large_reply.Put =
      ap (λ b. (put_to (large_state k) 0 v b).1) new_held
      ∙ ap (λ b. (put_at (large_state k) new 0 v (word_in b 0)).1) body.1
      ∙ first_put (large_state k) new v body.0 (omega (arith, long, least)) in
      subst (Replies m y k (large_op.BigPut dest 0 v)) (sym told ∙ put) replies

-- a register that holds a new body is one that may be named
pub body_register : (registers dest : ℕ) (o : LargeOp) (r : LargeReply) → IsMaking registers o → body_made o r ≡ Some dest → dest < registers
body_register registers dest (large_op.Big d blocks) (large_reply.Big n) may told = let same : d ≡ dest = same_Some d dest told in subst (λ q. q < registers) same may.0
body_register registers dest o r may told = absurd (cc)

-- ---- words of a new object

-- a name that is next has no body yet
none_yet : (made : ℕ) (n : Name) (ls : List Large) → AllByRecursion (IsMade made) ls → n.serial ≡ made + 1 → body_of ls n ≡ None
none_yet made n [] all next = refl
none_yet made n (l ∷ ls) all next = elim (same_name n l.name) as (λ c. same_name n l.name ≡ c → cond c (Some l.words) (body_of ls n) ≡ None) [
  | true ↦ λ same.
      let is : n ≡ l.name = same_names n l.name same in
      let most = all.0.serial in
      let serial : n.serial ≡ l.name.serial = ap (λ (q : Name). q.serial) is in
      absurd (omega (arith, next, most, serial))
  | false ↦ λ other. none_yet made n ls all.1 next
] refl

-- so the body that joins is its own
joined_body : (n : Name) (words : List ℕ) (ls : List Large) → body_of ls n ≡ None → body_of (ls ++ record { name = n; words = words } ∷ []) n ≡ Some words
joined_body n words [] none = ap (λ c. cond c (Some words) None) (same_itself n)
joined_body n words (l ∷ ls) none = elim (same_name n l.name) as (λ c. cond c (Some l.words) (body_of ls n) ≡ None → cond c (Some l.words) (body_of (ls ++ record { name = n; words = words } ∷ []) n) ≡ Some words) [
  | true ↦ λ e. absurd (cc)
  | false ↦ λ e. joined_body n words ls e
] none

-- the first of zeros, as far as there are so many
take_zeros : (i size : ℕ) → i ≤ size → take {A = ℕ} i (replicate {A = ℕ} size 0) ≡ replicate {A = ℕ} i 0
take_zeros zero zero few = refl
take_zeros zero (suc size) few = refl
take_zeros (suc i) zero few = absurd (omega (arith, few))
take_zeros (suc i) (suc size) few = ap (λ (zs : List ℕ). 0 ∷ zs) (take_zeros i size (omega (arith, few)))

-- the words of a body of zeros whose first word says how many there are
zeros_in_body : (count size : ℕ) → count < size → words_in_body (slice_set (replicate {A = ℕ} size 0) 0 count) ≡ replicate {A = ℕ} count 0
zeros_in_body count zero few = absurd (omega (arith, few))
zeros_in_body count (suc size) few = take_zeros count size (omega (arith, few))

-- of one with data words
data_zeros : (registers : ℕ) → registers ≤ REGISTERS → (x y : HostHeap) (h : List LargeItem) (dest count : ℕ) (n : Name) → IsHostOf x h → dest < registers → FitsShape (record { refs = 0; values = count })
    → Replies x y h (large_op.Small (op.New dest (record { refs = 0; values = count }))) (large_reply.Small (reply.New n))
    → words_at (large_state (Called (large_op.Small (op.New dest (record { refs = 0; values = count }))) (large_reply.Small (reply.New n)) ∷ h)) dest ≡ Some (replicate count 0)
data_zeros registers few x y h dest count n host small fits replies =
    let wanted : Wanted = record { dest = dest; shape = record { refs = 0; values = count } } in
    let is : IsWanted registers [] (replicate count 0) wanted = record { dest = small; fits = fits; refs = refl; values = sym (length-replicate {A = ℕ} count 0); from = refl } in
    let next = named registers few [] (replicate count 0) wanted is x y h n host replies in
    let serial : n.serial ≡ x.heap.made + 1 = ap (λ (q : Name). q.serial) (sym next ∙ host.heap.next) in
    ap (option_map (λ q. words_of (values_of (object_at (large_state (Called (new_of wanted) (large_reply.Small (reply.New n)) ∷ h)).small.graph q)) (body_of (large_state h).large q)))
    (held registers few [] (replicate count 0) wanted is x y h n host replies)
    ∙ ap (λ b. Some (words_of (values_of (object_at (large_state (Called (new_of wanted) (large_reply.Small (reply.New n)) ∷ h)).small.graph n)) b)) (none_yet x.heap.made n (large_state h).large host.heap.names serial)
    ∙ ap (λ o. Some (values_of o)) (there registers few [] (replicate count 0) wanted is x y h n host replies)

-- of one with a body, once the number of its words was put
body_zeros : (x : Heap) (h : List LargeItem) (dest blocks count : ℕ) (n : Name) → IsHeapOf x h → dest < REGISTERS → count < 4096 * blocks
    → words_at (large_state (Called (large_op.BigPut dest 0 count) large_reply.Put ∷ Called (large_op.Big dest blocks) (large_reply.Big n) ∷ h)) dest ≡ Some (replicate count 0)
body_zeros x h dest blocks count n is small few =
    let s = large_state (Called (large_op.Big dest blocks) (large_reply.Big n) ∷ h) in
    let new = next_name (large_state h).small.graph 1 in
    let serial : new.serial ≡ x.made + 1 = ap (λ (q : Name). q.serial) is.next in
    let none = none_yet x.made new (large_state h).large is.names serial in
    let made : HasBodyOf s dest new (fresh_body blocks) = record {
      held = get_or-set_same (large_state h).small.registers (register_index 1 dest) (Some new) None (let all = all_registers x h is in omega (arith, small, all));
      found = joined_body new (fresh_body blocks) (large_state h).large none;
    } in
    let long = length-replicate {A = ℕ} (4096 * blocks) 0 in
    body_at _ dest new (slice_set (fresh_body blocks) 0 count) (put_body s dest 0 count new (fresh_body blocks) made (omega (arith, long, few))) ∙ ap Some (zeros_in_body count (4096 * blocks) few)

-- ---- the call

-- a large object is made, and its first body word put
pub large_made : (x m y : HostHeap) (h : List LargeItem) (length dest : ℕ) (o : LargeOp) (r put : LargeReply) → dest < REGISTERS → HasPlaceFor length o → body_made o r ≡ Some dest → IsHostOf x h → Makes x m h o r
    → ((k : List LargeItem) → IsHeapOf m.heap k → Replies m y k (large_op.BigPut dest 0 length) put) → MakesWords length x y h o r
large_made x m y h length dest (large_op.Big d blocks) (large_reply.Big n) put small place told host makes replies =
    let same : d ≡ dest = same_Some d dest told in
    let few : d < REGISTERS = subst (λ q. q < REGISTERS) (sym same) small in
    let made = (makes_host x m h (large_op.Big d blocks) (large_reply.Big n) host makes).heap in
    let before = (making_host x m h (large_op.Big d blocks) (large_reply.Big n) host makes).heap in
    let k = Called (large_op.Big d blocks) (large_reply.Big n) ∷ makes.acts.history in
    let after : Replies m y k (large_op.BigPut d 0 length) put = subst (λ q. Replies m y k (large_op.BigPut q 0 length) put) (sym same) (replies k made) in
    record {
      made = m;
      makes = makes;
      counts = count_put makes.acts.middle m y makes.acts.history d blocks length n put few before made after;
      zeros = λ q is. subst (λ e. words_at (large_state (Called (large_op.BigPut d 0 length) large_reply.Put ∷ k)) e ≡ Some (replicate length 0)) (same_Some d q is)
          (body_zeros makes.acts.middle.heap makes.acts.history d blocks length n before few place);
    }
large_made x m y h length dest o r put small place told host makes replies = absurd (cc)

-- a shape of so many data words alone
shape_is : (shape : Shape) (count : ℕ) → (shape.refs ≡ 0) × (shape.values ≡ count) → shape ≡ record { refs = 0; values = count }
shape_is shape count is = λ i. record { refs = is.0 i; values = is.1 i }

-- an object with data words is made, or none
pub small_made : (x m : HostHeap) (h : List LargeItem) (length registers : ℕ) (o : LargeOp) (r : LargeReply) → registers ≤ REGISTERS → IsMaking registers o → HasPlaceFor length o → body_made o r ≡ None → IsHostOf x h → Makes x m h o r
    → MakesWords length x m h o r
small_made x m h length registers (large_op.Small (op.New dest shape)) (large_reply.Small (reply.New n)) few may place told host makes =
    let before = making_host x m h (large_op.Small (op.New dest shape)) (large_reply.Small (reply.New n)) host makes in
    let zeros : words_at (large_state (Called (large_op.Small (op.New dest shape)) (large_reply.Small (reply.New n)) ∷ makes.acts.history)) dest ≡ Some (replicate length 0) =
    subst (λ q. Replies makes.acts.middle m makes.acts.history (large_op.Small (op.New dest q)) (large_reply.Small (reply.New n)) → FitsShape q
    → words_at (large_state (Called (large_op.Small (op.New dest q)) (large_reply.Small (reply.New n)) ∷ makes.acts.history)) dest ≡ Some (replicate length 0)) (sym (shape_is shape length place))
    (λ replies fits. data_zeros registers few makes.acts.middle m makes.acts.history dest length n before may.0.0 fits replies) makes.acts.replies may.0.1 in
    record {
      made = m;
      makes = makes;
      counts = refl;
      zeros = λ q is. subst (λ e. words_at (large_state (Called (large_op.Small (op.New dest shape)) (large_reply.Small (reply.New n)) ∷ makes.acts.history)) e ≡ Some (replicate length 0)) (same_Some dest q is) zeros;
    }
small_made x m h length registers (large_op.Big dest blocks) (large_reply.Big n) few may place told host makes = absurd (cc)
small_made x m h length registers o r few may place told host makes = record {
  made = m;
  makes = makes;
  counts = refl;
  zeros = λ q is. absurd (cc);
}

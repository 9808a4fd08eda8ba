-- A new object has its references and its words, and no store to it is recorded, since it was made after the last pause.
use Rattle.std.proofs.Common.{◌≡◌, ℕ, ◌<◌, ◌≤◌, ◌∙◌, refl, sym, ap, subst, arith, true, false, cond, Option, Some, None, List, ◌∷◌, ◌++◌, length}
use Rattle.std.proofs.lemmas.List.{get_or-set_same, length-replicate}
use Rattle.lxr_layout.specs.declared.TheConstants.{REGISTERS}
use Rattle.lxr_layout.specs.declared.Name.{Name}
use Rattle.lxr_graph.specs.declared.Reply.TheVariants as reply
use Rattle.lxr_graph.specs.Names.{has}
use Rattle.lxr_graph.specs.State.{Graph, State, next_name, object_at, refs_of, register_at, register_index, values_of, with_new}
use Rattle.lxr_graph.specs.Step.{fresh}
use Rattle.lxr_graph.proofs.NameSets.{same_itself}
use Rattle.lxr_graph.proofs.RowLemmas.{object_at-with_new}
use Rattle.lxr_model_counting.proofs.FollowingLemmas.{made_new}
use Rattle.lxr_large_model.specs.declared.LargeReply.{LargeReply}
use Rattle.lxr_large_model.specs.declared.LargeReply.TheVariants as large_reply
use Rattle.lxr_large_model.specs.History.{LargeItem, Called, large_moment, large_state}
use Rattle.lxr_large_model.specs.State.{LargeState}
use Rattle.lxr_heap.specs.declared.heap.Heap.{Heap}
use Rattle.lxr_heap.specs.Holding.{IsHeapOf, abstract_of}
use Rattle.lxr_heap.proofs.HeapLemmas.{one_thread}
use Rattle.lxr_heap.proofs.MomentLemmas.{one_row, two_rows}
use Rattle.lxr_c_heap.specs.declared.host.HostHeap.{HostHeap}
use Rattle.lxr_c_heap.specs.Hosting.{IsHostOf, Makes, Replies, registers_in}
use Rattle.lxr_c_heap.proofs.RegisterLemmas.{known, made_keeps}
use Rattle.lxr_c_heap.proofs.RoomLemmas.{SomeHistory}
use Rattle.lxr_c_many.specs.declared.making.Wanted.{Wanted}
use Rattle.lxr_c_many.specs.Fields.{put_of, store_of}
use Rattle.lxr_c_many.specs.Following.{Follows, newest_first}
use Rattle.lxr_c_many.specs.Making.{Fills, IsWanted, makes_one, new_of}
use Rattle.lxr_c_many.specs.Steps.{HoldsYoung}
use Rattle.lxr_c_many.proofs.HostLemmas.{making_host}

-- ---- by the reply

-- a reply that tells of an object names it
pub one_made : (r : LargeReply) → makes_one r ≡ true → (n : Name) × (r ≡ large_reply.Small (reply.New n))
one_made (large_reply.Small (reply.New n)) one = (n, refl)
one_made r one = absurd (cc)

-- and the heap has as many registers as before
pub made_same : (wanted : Wanted) (x y : HostHeap) (r : LargeReply) → SomeHistory x → ((h : List LargeItem) → IsHostOf x h → Makes x y h (new_of wanted) r) → registers_in y ≡ registers_in x
made_same wanted x y r some makes = known x (registers_in y) (registers_in x) some (λ h is. made_keeps x y h (new_of wanted) r (makes h is))

-- where it tells of none, there is nothing to fill
pub none_filled : (wanted : Wanted) (sources words : List ℕ) (m : HostHeap) (k : List LargeItem) (r : LargeReply) → makes_one r ≡ false → Fills wanted sources words m k m r
none_filled wanted sources words m k (large_reply.Small (reply.New n)) none = absurd (cc)
none_filled wanted sources words m k r none = refl

pub filled : (wanted : Wanted) (sources words : List ℕ) (m y : HostHeap) (k : List LargeItem) (r : LargeReply) → makes_one r ≡ true
    → Follows m k y (newest_first (put_of wanted.dest) 0 words ++ newest_first (store_of wanted.dest) 0 sources) → Fills wanted sources words m k y r
filled wanted sources words m y k r one follows = let made = one_made r one in subst (λ q. Fills wanted sources words m k y q) (sym made.1) follows

-- ---- the new object

-- the state has each register that a heap may have
pub all_registers : (x : Heap) (h : List LargeItem) → IsHeapOf x h → length (large_state h).small.registers ≡ REGISTERS
all_registers x h is =
    let rows_are = one_row x.space (abstract_of x h is.at) is.stands.0 (one_thread x h is) in
    let same = ap (λ (z : State). length z.registers) is.state in
    omega (arith, rows_are, same)

-- a new object is there to be filled
pub record IsNew (sources words : List ℕ) (wanted : Wanted) (y : HostHeap) (k : List LargeItem) : Type 0 where
  pub holds : IsHeapOf y.heap k
  pub young : HoldsYoung k wanted.dest (length sources) (length words)

module _ (registers : ℕ) (few : registers ≤ REGISTERS) (sources words : List ℕ) (wanted : Wanted) (is : IsWanted registers sources words wanted) (x y : HostHeap) (h : List LargeItem) (n : Name) (host : IsHostOf x h)
    (replies : Replies x y h (new_of wanted) (large_reply.Small (reply.New n))) where
  abbrev k : List LargeItem
  k = Called (new_of wanted) (large_reply.Small (reply.New n)) ∷ h

  abbrev s : LargeState
  s = large_state h

  abbrev g : Graph
  g = s.small.graph

  holds : IsHeapOf y.heap k
  holds = replies.heap.holds

  pub named : next_name g 1 ≡ n
  named = let e : large_reply.Small (reply.New (next_name g 1)) ≡ large_reply.Small (reply.New n) = holds.legal.1.reply in cc

  rows : 1 < length g
  rows =
      let two = two_rows x.heap.space (abstract_of x.heap h host.heap.at) host.heap.stands.0 (one_thread x.heap h host.heap) in
      let same = ap (λ (z : State). length z.graph) host.heap.state in
      omega (arith, two, same)

  pub held : register_at (large_state k).small 1 wanted.dest ≡ Some n
  held = get_or-set_same s.small.registers (register_index 1 wanted.dest) (Some (next_name g 1)) None (let dest = is.dest in let all = all_registers x.heap h host.heap in omega (arith, dest, all, few)) ∙ ap Some named

  pub there : object_at (large_state k).small.graph n ≡ Some (fresh wanted.shape)
  there =
      ap (object_at (with_new g 1 (fresh wanted.shape))) (sym named)
      ∙ object_at-with_new g 1 (fresh wanted.shape) (next_name g 1) rows
      ∙ ap (λ b. cond b (Some (fresh wanted.shape)) (object_at g (next_name g 1))) (same_itself (next_name g 1))

  unreclaimed : has (large_moment k).unreclaimed n ≡ false
  unreclaimed = holds.follows.apart n (made_new (large_moment h).made (reply.New n) n refl)

  new_object : IsNew sources words wanted y k
  new_object = record {
    holds = holds;
    young = record {
      references = record {
        name = n;
        held = held;
        within = subst (λ o. length sources ≤ length (refs_of o)) (sym there) (let long = length-replicate {A = Option Name} wanted.shape.refs None in let refs = is.refs in omega (arith, long, refs));
      };
      data_words = record {
        name = n;
        held = held;
        within = subst (λ o. length words ≤ length (values_of o)) (sym there) (let long = length-replicate {A = ℕ} wanted.shape.values 0 in let values = is.values in omega (arith, long, values));
      };
      young = unreclaimed;
    };
  }

-- behind a reply that tells of an object, it may be filled
pub made_object : (registers : ℕ) (sources words : List ℕ) (wanted : Wanted) (x y : HostHeap) (h : List LargeItem) (r : LargeReply) → registers ≤ REGISTERS → IsWanted registers sources words wanted → IsHostOf x h → makes_one r ≡ true → (makes : Makes x y h (new_of wanted) r)
    → IsNew sources words wanted y (Called (new_of wanted) r ∷ makes.acts.history)
made_object registers sources words wanted x y h r few is host one makes =
    let made = one_made r one in
    let before = making_host x y h (new_of wanted) r host makes in
    subst (λ q. Replies makes.acts.middle y makes.acts.history (new_of wanted) q → IsNew sources words wanted y (Called (new_of wanted) q ∷ makes.acts.history)) (sym made.1)
    (λ replies. new_object registers few sources words wanted is makes.acts.middle y makes.acts.history made.0 before replies) makes.acts.replies

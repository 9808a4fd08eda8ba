-- References that are stored one after another, for which the log has room.
use Rattle.std.proofs.Common.{◌≡◌, ℕ, ◌+◌, ◌*◌, ◌<◌, ◌≤◌, refl, sym, ap, subst, ◌∙◌, arith, Option, None, List, ◌∷◌, ◌++◌, length, get_or, take}
use Rattle.std.specs.Prelude.{IsTrue}
use Rattle.lxr_layout.specs.declared.Name.{Name}
use Rattle.lxr_graph.specs.declared.Op.TheVariants as op
use Rattle.lxr_graph.specs.declared.Reply.TheVariants as reply
use Rattle.lxr_graph.specs.State.{register_at, register_index}
use Rattle.lxr_model.specs.Moments.{Moment}
use Rattle.lxr_full.proofs.RoomLemmas.{log_is_written}
use Rattle.lxr_direct.specs.Operating.{LogIsFull}
use Rattle.lxr_large_model.specs.declared.LargeOp.TheVariants as large_op
use Rattle.lxr_large_model.specs.declared.LargeReply.TheVariants as large_reply
use Rattle.lxr_large_model.specs.History.{LargeItem, large_moment}
use Rattle.lxr_heap.specs.declared.heap.Heap.{Heap}
use Rattle.lxr_heap.specs.Acting.{WantsNoPause}
use Rattle.lxr_heap.specs.Holding.{IsHeapOf, abstract_of}
use Rattle.lxr_heap.proofs.WantingLemmas.{log_room}
use Rattle.lxr_blocks.specs.Masks.{one_if}
use Rattle.lxr_c_heap.specs.declared.host.HostHeap.{HostHeap}
use Rattle.lxr_c_heap.specs.Hosting.{Replies}
use Rattle.lxr_c_many.specs.Fields.{store_of}
use Rattle.lxr_c_many.specs.Following.{Follows, newest_first}
use Rattle.lxr_c_many.specs.Recording.{is_to_record, to_record}
use Rattle.lxr_c_many.specs.Steps.{MayBeStored}
use Rattle.lxr_c_many.proofs.FollowLemmas.{follows_holds, newest_more}
use Rattle.lxr_c_many.proofs.RecordLemmas.{fewer, one_further, one_more, record_tested, still_to_record, stored_long}
use Rattle.lxr_c_many.proofs.StateLemmas.{store_registers}

-- ---- the log

-- it has an entry for each reference that was stored to since the last pause
pub log_long : (x : Heap) (h : List LargeItem) → IsHeapOf x h → length x.space.logged.items ≡ length (large_moment h).written
log_long x h is = sym (log_is_written x.space (abstract_of x h is.at) is.stands.0.safepoint)

-- and no more than fit in it
pub log_fits : (x : Heap) (h : List LargeItem) → IsHeapOf x h → length (large_moment h).written ≤ x.space.limits.log
log_fits x h is =
    let few = is.stands.0.safepoint.holds.few_logs in
    let (all, some) = log_room x h is in
    let same = log_long x h is in
    omega (arith, few, all, same)

-- where it is full, so many were
full_log : (x : Heap) (h : List LargeItem) → IsHeapOf x h → LogIsFull x.space → x.space.limits.log ≤ length (large_moment h).written
full_log x h is full =
    let (all, some) = log_room x h is in
    let same = log_long x h is in
    omega (arith, full, all, same)

-- ---- stores

-- what a register holds at the moment that a history leads to
abbrev pub holding : List LargeItem → ℕ → Option Name
holding h base = register_at (large_moment h).state 1 base

-- so many references were stored: what is to be stored still fits into the log
pub record Stored (x : HostHeap) (h : List LargeItem) (base first : ℕ) (sources : List ℕ) (i : ℕ) (y : HostHeap) : Type 0 where
  pub follows : Follows x h y (newest_first (store_of base) first (take i sources))
  pub log : y.heap.space.limits.log ≡ x.heap.space.limits.log
  pub room : length (large_moment (newest_first (store_of base) first (take i sources) ++ h)).written + to_record (large_moment h) (holding h base) first (length sources)
      ≤ x.heap.space.limits.log + to_record (large_moment h) (holding h base) first i
  pub later : (j : ℕ) → IsTrue (is_to_record (large_moment (newest_first (store_of base) first (take i sources) ++ h)) (holding (newest_first (store_of base) first (take i sources) ++ h) base) j)
      → IsTrue (is_to_record (large_moment h) (holding h base) j)

pub stored_none : (x : HostHeap) (h : List LargeItem) (base first : ℕ) (sources : List ℕ) → MayBeStored x.heap h base first (length sources) → Stored x h base first sources 0 x
stored_none x h base first sources may = record { follows = refl; log = refl; room = let room = may.room in omega (arith, room); later = λ j is. is }

module _ (x y : HostHeap) (h : List LargeItem) (base first : ℕ) (sources : List ℕ) (i : ℕ) (stored : Stored x h base first sources i y) (within : i < length sources) where
  abbrev k : List LargeItem
  k = newest_first (store_of base) first (take i sources) ++ h

  abbrev m : Moment
  m = large_moment k

  next_fits : IsTrue (is_to_record m (holding k base) (first + i)) → length m.written + 1 ≤ x.heap.space.limits.log
  next_fits is =
      let one : one_if (is_to_record (large_moment h) (holding h base) (first + i)) ≡ 1 = ap one_if (stored.later (first + i) is) in
      let further = one_further (large_moment h) (holding h base) first i in
      let few = fewer (large_moment h) (holding h base) first (length sources) (i + 1) (omega (arith, within)) in
      let room = stored.room in
      omega (arith, one, further, few, room)

  -- the next one needs no pause
  pub next_wants_none : (index source : ℕ) → index ≡ first + i → IsHeapOf x.heap h → WantsNoPause y.heap k (large_op.Small (op.Store base index source))
  next_wants_none index source is holds = record {
    holds = here;
    fresh = λ none. absurd none;
    logs = λ full.
        let fits = next_fits (subst (λ n. IsTrue (is_to_record m (holding k base) n)) is (record_tested m base index full.0)) in
        let many = full_log y.heap k here full.1 in
        let same = stored.log in
        omega (arith, fits, many, same);
  }
    where
      here : IsHeapOf y.heap k
      here = follows_holds x y h (newest_first (store_of base) first (take i sources)) holds stored.follows

  abbrev next : LargeItem
  next = store_of base (first + i) (get_or sources i 0)

  more : newest_first (store_of base) first (take (i + 1) sources) ≡ next ∷ newest_first (store_of base) first (take i sources)
  more = newest_more (store_of base) first i sources 0 within

  same : holding (next ∷ k) base ≡ holding k base
  same = ap (λ rs. get_or rs (register_index 1 base) None) (store_registers m.state (first + i) (register_at m.state 1 (get_or sources i 0)) (register_at m.state 1 base))

  still_fits : length (large_moment (next ∷ k)).written + to_record (large_moment h) (holding h base) first (length sources) ≤ x.heap.space.limits.log + to_record (large_moment h) (holding h base) first (i + 1)
  still_fits =
      let long = stored_long m base (first + i) (get_or sources i 0) in
      let one = one_more (is_to_record m (holding k base) (first + i)) (is_to_record (large_moment h) (holding h base) (first + i)) (stored.later (first + i)) in
      let further = one_further (large_moment h) (holding h base) first i in
      let room = stored.room in
      omega (arith, long, one, further, room)

  -- and was stored
  pub stored_more : (z : HostHeap) (index : ℕ) → index ≡ first + i → Replies y z k (large_op.Small (op.Store base index (get_or sources i 0))) (large_reply.Small reply.Stored) → Stored x h base first sources (i + 1) z
  stored_more z index is replies = record {
    follows = subst (Follows x h z) (sym more) (y, stored.follows, subst (λ n. Replies y z k (large_op.Small (op.Store base n (get_or sources i 0))) (large_reply.Small reply.Stored)) is replies);
    log = replies.heap.log ∙ stored.log;
    room = subst (λ new. length (large_moment (new ++ h)).written + to_record (large_moment h) (holding h base) first (length sources) ≤ x.heap.space.limits.log + to_record (large_moment h) (holding h base) first (i + 1)) (sym more) still_fits;
    later = subst (λ new. (j : ℕ) → IsTrue (is_to_record (large_moment (new ++ h)) (holding (new ++ h) base) j) → IsTrue (is_to_record (large_moment h) (holding h base) j)) (sym more) (λ j is.
        stored.later j (still_to_record m base (first + i) (get_or sources i 0) j (holding k base) (subst (λ v. IsTrue (is_to_record (large_moment (next ∷ k)) v j)) same is)));
  }

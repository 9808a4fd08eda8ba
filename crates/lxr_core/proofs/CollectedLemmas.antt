-- Whether `collect` was called in an epoch: it was exactly where the last operation that some mutator did in it was one, since a thread that
-- has asked for a pause does nothing more before that.
use Rattle.std.proofs.Common.{◌≡◌, ℕ, zero, suc, ◌+◌, ◌-◌, ◌<◌, ◌≤◌, refl, sym, ap, subst, ◌∙◌, inl, inr, arith, Bool, true, false, List, [], ◌∷◌, ◌++◌, length, map, nat_eq, nat_lt, take, length-append}
use Rattle.std.specs.Prelude.{Option, Some, None, IsTrue, ◌||◌, ◌&&◌, ◌⊎◌, if◌then◌else◌, slice_get}
use Rattle.std.specs.List.{list_any}
use Rattle.std.proofs.lemmas.Bool.{lt-ltb, ltb-true}
use Rattle.std.proofs.lemmas.List.{take_all}
use Rattle.std.proofs.lemmas.Option.{slice_get_within}
use Rattle.lxr_layout.specs.declared.Name.{Name}
use Rattle.lxr_graph.specs.declared.Op.{Op}
use Rattle.lxr_graph.specs.declared.Op.TheVariants as op
use Rattle.lxr_graph.specs.declared.Reply.{Reply}
use Rattle.lxr_graph.specs.declared.Reply.TheVariants as reply
use Rattle.lxr_graph.specs.History.{Call, Item, calls_of, replies_of}
use Rattle.lxr_graph.specs.State.{State, object_at, refs_of, values_of, register_at}
use Rattle.lxr_graph.specs.Step.{add_to, added, get_from, got, load_from, loaded, put_at, put_to, step, store_to, stored, swap_in, swapped}
use Rattle.lxr_graph.proofs.RowLemmas.{slice_get-there}
use Rattle.lxr_invariant.proofs.EntryLemmas.{equal_numbers, same_number}
use Rattle.lxr_model.specs.Belongs.{asks_for_pause, calls_since_pause, has_asked}
use Rattle.lxr_model.specs.Kinds.{collect_called}
use Rattle.lxr_model.specs.Moments.{moment}
use Rattle.lxr_mutator.proofs.AgendaLemmas.{last_at}
use Rattle.lxr_mutator.specs.Mutating.{Mutating, has_collected, is_collected, last_reply}
use Rattle.lxr_core_invariant.specs.ThreadStates.{Reason, Stage, ThreadState, GivesUp, Names, Rests, Through, Works, all_of}
use Rattle.lxr_core_invariant.specs.ThreadStates as why
use Rattle.lxr_core_invariant.specs.EpochStates.{Beginning, EpochState, Extends, called, limits_of, same}
use Rattle.lxr_core_invariant.specs.Called.{IsWithinTurn, uncounted, waiting_in}
use Rattle.lxr_core_invariant.specs.Epoch.{IsEpoch, IsResting}
use Rattle.lxr_core_invariant.specs.Through.{IsAsHistory}
use Rattle.lxr_core_sim_mutator.specs.Showing.{thread_state_of}
use Rattle.lxr_core.proofs.CollectingLemmas.{take_one_more}

-- ---- lists

-- what stands at the last index is behind the others
behind_others : {X : Type 0} (all : List X) (x : X) → slice_get all (length all - 1) ≡ Some x → all ≡ take (length all - 1) all ++ x ∷ []
behind_others all x there =
    let inside = slice_get_within all (length all - 1) x there in
    sym (take_all (length all - 1 + 1) all (omega (arith, inside))) ∙ take_one_more all (length all - 1) x there

-- one last item
same_last : {X : Type 0} (xs ys : List X) (x y : X) → xs ++ x ∷ [] ≡ ys ++ y ∷ [] → Some x ≡ Some y
same_last xs ys x y e = sym (last_at (xs ++ x ∷ []) xs x refl) ∙ last_at (xs ++ x ∷ []) ys y e

-- ---- replies

-- only `collect` is replied to so
load_replies : (s : State) (t dest i : ℕ) (v : Option Name) → is_collected (Some (load_from s t dest i v).1) ≡ false
load_replies s t dest i None = refl
load_replies s t dest i (Some n) = by_found (slice_get (refs_of (object_at s.graph n)) i)
  where
    by_found : (o : Option (Option Name)) → is_collected (Some (loaded s t dest o).1) ≡ false
    by_found None = refl
    by_found (Some v) = refl

store_replies : (s : State) (i : ℕ) (v b : Option Name) → is_collected (Some (store_to s i v b).1) ≡ false
store_replies s i v None = refl
store_replies s i v (Some n) = by_found (slice_get (refs_of (object_at s.graph n)) i)
  where
    by_found : (o : Option (Option Name)) → is_collected (Some (stored s n i v o).1) ≡ false
    by_found None = refl
    by_found (Some old) = refl

put_replies : (s : State) (i v : ℕ) (b : Option Name) → is_collected (Some (put_to s i v b).1) ≡ false
put_replies s i v None = refl
put_replies s i v (Some n) = by_found (slice_get (values_of (object_at s.graph n)) i)
  where
    by_found : (o : Option ℕ) → is_collected (Some (put_at s n i v o).1) ≡ false
    by_found None = refl
    by_found (Some old) = refl

get_replies : (s : State) (i : ℕ) (b : Option Name) → is_collected (Some (get_from s i b).1) ≡ false
get_replies s i None = refl
get_replies s i (Some n) = by_found (slice_get (values_of (object_at s.graph n)) i)
  where
    by_found : (o : Option ℕ) → is_collected (Some (got o)) ≡ false
    by_found None = refl
    by_found (Some v) = refl

swap_replies : (s : State) (t dest i : ℕ) (v b : Option Name) → is_collected (Some (swap_in s t dest i v b).1) ≡ false
swap_replies s t dest i v None = refl
swap_replies s t dest i v (Some n) = by_found (slice_get (refs_of (object_at s.graph n)) i)
  where
    by_found : (o : Option (Option Name)) → is_collected (Some (swapped s t dest n i v o).1) ≡ false
    by_found None = refl
    by_found (Some old) = refl

add_replies : (s : State) (i v : ℕ) (b : Option Name) → is_collected (Some (add_to s i v b).1) ≡ false
add_replies s i v None = refl
add_replies s i v (Some n) = by_found (slice_get (values_of (object_at s.graph n)) i)
  where
    by_found : (o : Option ℕ) → is_collected (Some (added s n i v o).1) ≡ false
    by_found None = refl
    by_found (Some old) = refl

-- a call of `collect`
abbrev is_collect : Op → Bool
is_collect op.Collect = true
is_collect o = false

replied_so : (s : State) (t : ℕ) (o : Op) → is_collected (Some (step s t o).1) ≡ is_collect o
replied_so s t (op.New dest shape) = refl
replied_so s t (op.Load dest base index) = load_replies s t dest index (register_at s t base)
replied_so s t (op.Store base index source) = store_replies s index (register_at s t source) (register_at s t base)
replied_so s t (op.Put base index value) = put_replies s index value (register_at s t base)
replied_so s t (op.Get base index) = get_replies s index (register_at s t base)
replied_so s t (op.Swap dest base index source) = swap_replies s t dest index (register_at s t source) (register_at s t base)
replied_so s t (op.Add base index value) = add_replies s index value (register_at s t base)
replied_so s t (op.Move dest source) = refl
replied_so s t (op.Nil dest) = refl
replied_so s t (op.Same left right) = refl
replied_so s t op.Pause = refl
replied_so s t op.Collect = refl
replied_so s t op.End = refl

-- what such an operation is
the_collect : (o : Op) → is_collect o ≡ true → o ≡ op.Collect
the_collect op.Collect e = refl
the_collect (op.New dest shape) e = absurd (cc)
the_collect (op.Load dest base index) e = absurd (cc)
the_collect (op.Store base index source) e = absurd (cc)
the_collect (op.Put base index value) e = absurd (cc)
the_collect (op.Get base index) e = absurd (cc)
the_collect (op.Swap dest base index source) e = absurd (cc)
the_collect (op.Add base index value) e = absurd (cc)
the_collect (op.Move dest source) e = absurd (cc)
the_collect (op.Nil dest) e = absurd (cc)
the_collect (op.Same left right) e = absurd (cc)
the_collect op.Pause e = absurd (cc)
the_collect op.End e = absurd (cc)

-- a call says whether `collect` was called, or leaves it to those before
call_tells : (t : ℕ) (o : Op) (r : Reply) (h : List Item) → collect_called (Call t o r ∷ h) ≡ (is_collect o || collect_called h)
call_tells t (op.New dest shape) r h = refl
call_tells t (op.Load dest base index) r h = refl
call_tells t (op.Store base index source) r h = refl
call_tells t (op.Put base index value) r h = refl
call_tells t (op.Get base index) r h = refl
call_tells t (op.Swap dest base index source) r h = refl
call_tells t (op.Add base index value) r h = refl
call_tells t (op.Move dest source) r h = refl
call_tells t (op.Nil dest) r h = refl
call_tells t (op.Same left right) r h = refl
call_tells t op.Pause r h = refl
call_tells t op.Collect r h = refl
call_tells t op.End r h = refl

-- ---- histories

-- the last call of a thread is `collect`, and came since a shorter history
record CollectsSince (threads : ℕ) (first h : List Item) : Type 0 where
  thread : ℕ
  some : 1 ≤ thread
  few : thread ≤ threads
  asked : IsTrue (has_asked thread h)
  calls : (os : List Op) × (calls_of thread h ≡ os ++ op.Collect ∷ [])
  replies : (rs : List Reply) × (replies_of thread h ≡ rs ++ reply.Collected ∷ [])
  later : calls_since_pause thread first < calls_since_pause thread h

-- one call more of a thread, by whether it is this thread's
module _ (t u : ℕ) (o : Op) (r : Reply) (h : List Item) where
  calls_by : (b : Bool) → nat_eq t u ≡ b → calls_since_pause t (Call u o r ∷ h) ≡ (if b then suc (calls_since_pause t h) else calls_since_pause t h)
  calls_by b e = ap (λ c. if c then suc (calls_since_pause t h) else calls_since_pause t h) e

  ops_by : (b : Bool) → nat_eq t u ≡ b → calls_of t (Call u o r ∷ h) ≡ (if b then (calls_of t h ++ o ∷ []) else calls_of t h)
  ops_by b e = ap (λ c. if c then (calls_of t h ++ o ∷ []) else calls_of t h) e

  replies_by : (b : Bool) → nat_eq t u ≡ b → replies_of t (Call u o r ∷ h) ≡ (if b then (replies_of t h ++ r ∷ []) else replies_of t h)
  replies_by b e = ap (λ c. if c then (replies_of t h ++ r ∷ []) else replies_of t h) e

-- calls since the last pause don't become fewer
calls_grow : (threads every t : ℕ) (first h : List Item) → Extends threads every first h → calls_since_pause t first ≤ calls_since_pause t h
calls_grow threads every t first h (same) = omega arith
calls_grow threads every t first h (called k u o r before is) = grown (nat_eq t u) refl (calls_grow threads every t first k before)
  where
    grown : (b : Bool) → nat_eq t u ≡ b → calls_since_pause t first ≤ calls_since_pause t k → calls_since_pause t first ≤ calls_since_pause t (Call u o r ∷ k)
    grown true e fewer = let more = calls_by t u o r k true e in omega (arith, more, fewer)
    grown false e fewer = let as_many = calls_by t u o r k false e in omega (arith, as_many, fewer)

-- a thread that has asked has
asked_still : (t u : ℕ) (o : Op) (r : Reply) (h : List Item) → IsTrue (has_asked t h) → IsTrue (has_asked t (Call u o r ∷ h))
asked_still t u o r h asked = or_right (nat_eq t u && asks_for_pause o) (has_asked t h) asked
  where
    or_right : (a c : Bool) → IsTrue c → IsTrue (a || c)
    or_right true c holds = refl
    or_right false c holds = holds

-- where `collect` was called since, it was the last call of some thread
collected_since : (threads every : ℕ) (first h : List Item) → Extends threads every first h → collect_called first ≡ false → collect_called h ≡ true → CollectsSince threads first h
collected_since threads every first h (same) none holds = absurd (let bad : false ≡ true = sym none ∙ holds in cc)
collected_since threads every first h (called k t o r before is) none holds =
    by_call (is_collect o) refl (sym (call_tells t o r k) ∙ holds) (λ earlier. collected_since threads every first k before none earlier)
  where
    here : is_collect o ≡ true → CollectsSince threads first (Call t o r ∷ k)
    here e =
        let collects = the_collect o e in
        let own = same_number t t refl in
        let replied : r ≡ reply.Collected = sym is.reply ∙ ap (λ z. (step (moment threads k).state t z).1) collects in
        let grown = calls_grow threads every t first k before in
        let more = calls_by t t o r k true own in
        record {
          thread = t;
          some = is.thread.0;
          few = is.thread.1;
          asked = ap (λ c. (c && asks_for_pause o) || has_asked t k) own ∙ ap (λ z. asks_for_pause z || has_asked t k) collects;
          calls = (calls_of t k, ops_by t t o r k true own ∙ ap (λ z. calls_of t k ++ z ∷ []) collects);
          replies = (replies_of t k, replies_by t t o r k true own ∙ ap (λ z. replies_of t k ++ z ∷ []) replied);
          later = omega (arith, grown, more);
        }

    earlier_still : CollectsSince threads first k → CollectsSince threads first (Call t o r ∷ k)
    earlier_still was =
        let other : nat_eq was.thread t ≡ false = unlike (nat_eq was.thread t) refl in
        let as_many = calls_by was.thread t o r k false other in
        let later = was.later in
        record {
          thread = was.thread;
          some = was.some;
          few = was.few;
          asked = asked_still was.thread t o r k was.asked;
          calls = (was.calls.0, ops_by was.thread t o r k false other ∙ was.calls.1);
          replies = (was.replies.0, replies_by was.thread t o r k false other ∙ was.replies.1);
          later = omega (arith, as_many, later);
        }
      where
        unlike : (c : Bool) → nat_eq was.thread t ≡ c → c ≡ false
        unlike false e = refl
        unlike true e = let bad : true ≡ false = sym was.asked ∙ ap (λ n. has_asked n k) (equal_numbers was.thread t e) ∙ is.unasked in absurd (cc)

    by_call : (c : Bool) → is_collect o ≡ c → IsTrue (is_collect o || collect_called k) → (collect_called k ≡ true → CollectsSince threads first k) → CollectsSince threads first (Call t o r ∷ k)
    by_call true e either rest = here e
    by_call false e either rest = earlier_still (rest (sym (ap (λ c. c || collect_called k) e) ∙ either))

-- and where the last call of a thread is one, which came since, it was called
called_since : (threads every t : ℕ) (first h : List Item) (rs : List Reply) → Extends threads every first h → calls_since_pause t first < calls_since_pause t h → replies_of t h ≡ rs ++ reply.Collected ∷ [] → collect_called h ≡ true
called_since threads every t first h rs (same) later last = absurd (omega (arith, later))
called_since threads every t first h rs (called k u o r before is) later last = by_thread (nat_eq t u) refl (λ less ends. called_since threads every t first k rs before less ends)
  where
    or_right : (a c : Bool) → c ≡ true → (a || c) ≡ true
    or_right true c holds = refl
    or_right false c holds = holds

    or_left : (a c : Bool) → a ≡ true → (a || c) ≡ true
    or_left true c holds = refl
    or_left false c holds = absurd (cc)

    by_thread : (c : Bool) → nat_eq t u ≡ c → (calls_since_pause t first < calls_since_pause t k → replies_of t k ≡ rs ++ reply.Collected ∷ [] → collect_called k ≡ true) → collect_called (Call u o r ∷ k) ≡ true
    by_thread true e rest =
        let same : Some r ≡ Some reply.Collected = same_last (replies_of t k) rs r reply.Collected (sym (replies_by t u o r k true e) ∙ last) in
        let collects : is_collect o ≡ true = sym (replied_so (moment threads k).state u o) ∙ ap (λ z. is_collected (Some z)) is.reply ∙ ap is_collected same in
        call_tells u o r k ∙ or_left (is_collect o) (collect_called k) collects
    by_thread false e rest =
        let as_many = calls_by t u o r k false e in
        call_tells u o r k ∙ or_right (is_collect o) (collect_called k) (rest (omega (arith, as_many, later)) (sym (replies_by t u o r k false e) ∙ last))

-- ---- mutators

-- where it counts one call less, its end is done
ended_or_counted : (s : EpochState) (v : ThreadState) (stage : Stage) → IsResting stage → IsWithinTurn s v stage → ((uncounted stage ≡ 0) × (waiting_in stage ≡ 0)) ⊎ ((length v.replies ≡ length v.operations + 1) × (waiting_in stage ≡ 0))
ended_or_counted s v Rests rests on = inl (refl, refl)
ended_or_counted s v (Through why.NoRun) rests on = inl (refl, refl)
ended_or_counted s v (Through why.LogFull) rests on = inl (refl, refl)
ended_or_counted s v (Through why.Asked) rests on = inl (refl, refl)
ended_or_counted s v (Through why.Turns) rests on = inl (refl, refl)
ended_or_counted s v (Through why.Ended) rests on = inr (on.2, refl)
ended_or_counted s v (Works intent) rests on = absurd rests
ended_or_counted s v (Names place) rests on = absurd rests

-- two tests together
both_tell : (a c : Bool) → a ≡ true → c ≡ true → (a && c) ≡ true
both_tell true true p q = refl
both_tell true false p q = absurd (cc)
both_tell false c p q = absurd (cc)

tell_both : (a c : Bool) → (a && c) ≡ true → (a ≡ true) × (c ≡ true)
tell_both true true e = (refl, refl)
tell_both true false e = absurd (cc)
tell_both false true e = absurd (cc)
tell_both false false e = absurd (cc)

-- of a mutator that rests in an epoch
module _ (b : Beginning) (s : EpochState) (i : ℕ) (m : Mutating) (is : IsEpoch b s) (shown : slice_get s.thread_states i ≡ Some (thread_state_of m)) (rests : IsResting (thread_state_of m).stage) (told : IsAsHistory s (thread_state_of m)) where
  -- where the last call of its thread was `collect` and came in the epoch, it tells so
  pub tells_collected : (os : List Op) (rs : List Reply) → calls_of m.thread s.history ≡ os ++ op.Collect ∷ [] → replies_of m.thread s.history ≡ rs ++ reply.Collected ∷ []
      → calls_since_pause m.thread b.history < calls_since_pause m.thread s.history → has_collected m ≡ true
  tells_collected os rs calls replies later =
      let has = is.called.each i (thread_state_of m) shown in
      let short = has.short in
      let some : 0 < m.since = elim (ended_or_counted s (thread_state_of m) (thread_state_of m).stage rests has.within_turn) [
        | inl counted ↦ let none = counted.0 in let waits = counted.1 in omega (arith, short, none, waits, later)
        | inr ended ↦ absurd (
            let all : all_of m.operations ≡ os ++ op.Collect ∷ [] = sym (take_all (length m.replies.items) (all_of m.operations) (let n = ended.0 in let one = length-append m.operations (op.End ∷ []) in omega (arith, n, one))) ∙ sym told.calls ∙ calls in
            let bad : Some op.End ≡ Some op.Collect = same_last m.operations os op.End op.Collect all in
            cc)
      ] in
      both_tell (nat_lt 0 m.since) (is_collected (last_reply m)) (lt-ltb 0 m.since some) (ap is_collected (last_at m.replies.items rs reply.Collected (sym told.replies ∙ replies)))

  -- and where it tells so, `collect` was called
  pub told_collected : has_collected m ≡ true → collect_called s.history ≡ true
  told_collected tells =
      let (since, last) = tell_both (nat_lt 0 m.since) (is_collected (last_reply m)) tells in
      let some = ltb-true 0 m.since since in
      let counted = (is.called.each i (thread_state_of m) shown).counted in
      let ends : last_reply m ≡ Some reply.Collected = the_last (last_reply m) last in
      called_since (limits_of b).threads b.every m.thread b.history s.history (take (length m.replies.items - 1) m.replies.items) is.extends (omega (arith, some, counted))
      (told.replies ∙ behind_others m.replies.items reply.Collected ends)
    where
      the_last : (o : Option Reply) → is_collected o ≡ true → o ≡ Some reply.Collected
      the_last (Some reply.Collected) e = refl
      the_last o e = absurd (cc)

-- ---- all of them

-- some item passes a test
some_passes : {X : Type 0} (p : X → Bool) (xs : List X) (i : ℕ) (x : X) → slice_get xs i ≡ Some x → p x ≡ true → list_any p xs ≡ true
some_passes p [] i x there holds = absurd (cc)
some_passes p (y ∷ xs) zero x there holds = let same : x ≡ y = cc in ap (λ c. c || list_any p xs) (ap p (sym same) ∙ holds)
some_passes p (y ∷ xs) (suc i) x there holds = or_right (p y) (list_any p xs) (some_passes p xs i x there holds)
  where
    or_right : (a c : Bool) → c ≡ true → (a || c) ≡ true
    or_right true c e = refl
    or_right false c e = e

-- so there is one
passes_some : {X : Type 0} (p : X → Bool) (xs : List X) → list_any p xs ≡ true → (i : ℕ) × (x : X) × (slice_get xs i ≡ Some x) × (p x ≡ true)
passes_some p [] holds = absurd (cc)
passes_some {X = X} p (y ∷ xs) holds = by_first (p y) refl (λ rest. passes_some p xs rest)
  where
    by_first : (c : Bool) → p y ≡ c → (list_any p xs ≡ true → (i : ℕ) × (x : X) × (slice_get xs i ≡ Some x) × (p x ≡ true)) → (i : ℕ) × (x : X) × (slice_get (y ∷ xs) i ≡ Some x) × (p x ≡ true)
    by_first true e rest = (0, y, refl, e)
    by_first false e rest = let (i, x, there, passes) = rest (sym (ap (λ c. c || list_any p xs) e) ∙ holds) in (suc i, x, there, passes)

-- two tests that follow from one another are one
one_test : (a c : Bool) → (a ≡ true → c ≡ true) → (c ≡ true → a ≡ true) → a ≡ c
one_test true true p q = refl
one_test false false p q = refl
one_test true false p q = let bad : false ≡ true = p refl in absurd (cc)
one_test false true p q = let bad : false ≡ true = q refl in absurd (cc)

-- `collect` was called where some mutator tells so
pub collected_is_told : (b : Beginning) (s : EpochState) (mutators : List Mutating) → IsEpoch b s → s.thread_states ≡ map thread_state_of mutators
    → ((i : ℕ) (m : Mutating) → slice_get mutators i ≡ Some m → (slice_get s.thread_states i ≡ Some (thread_state_of m)) × IsResting (thread_state_of m).stage × IsAsHistory s (thread_state_of m))
    → length mutators ≡ (limits_of b).threads → collect_called b.history ≡ false → collect_called s.history ≡ list_any has_collected mutators
collected_is_told b s mutators is states each many none = one_test (collect_called s.history) (list_any has_collected mutators) forth back
  where
    forth : collect_called s.history ≡ true → list_any has_collected mutators ≡ true
    forth holds =
        let since = collected_since (limits_of b).threads b.every b.history s.history is.extends none holds in
        let some = since.some in let few = since.few in
        let (m, there) = slice_get-there mutators (since.thread - 1) (omega (arith, some, few, many)) in
        let (shown, rests, told) = each (since.thread - 1) m there in
        let number = is.called.threads (since.thread - 1) (thread_state_of m) shown in
        let same : since.thread ≡ m.thread = omega (arith, number, some) in
        some_passes has_collected mutators (since.thread - 1) m there
        (tells_collected b s (since.thread - 1) m is shown rests told since.calls.0 since.replies.0
        (subst (λ n. calls_of n s.history ≡ since.calls.0 ++ op.Collect ∷ []) same since.calls.1)
        (subst (λ n. replies_of n s.history ≡ since.replies.0 ++ reply.Collected ∷ []) same since.replies.1)
        (subst (λ n. calls_since_pause n b.history < calls_since_pause n s.history) same since.later))

    back : list_any has_collected mutators ≡ true → collect_called s.history ≡ true
    back holds =
        let (i, m, there, tells) = passes_some has_collected mutators holds in
        let (shown, rests, told) = each i m there in
        told_collected b s i m is shown rests told tells

-- How many ends stand in a history: the sum over threads, each of which has at most one.
use Rattle.std.proofs.Common.{◌≡◌, ◌≢◌, ℕ, zero, suc, ◌+◌, ◌-◌, ◌<◌, ◌≤◌, refl, sym, ap, subst, ◌∙◌, inl, inr, ◌⊎◌, arith, List, [], ◌∷◌, ◌++◌, length, take}
use Rattle.std.specs.Prelude.{Option, Some, None, IsTrue, true, false, slice_get, All, if◌then◌else◌}
use Rattle.std.proofs.lemmas.List.Elements.{All-head, All-tail}
use Rattle.std.proofs.lemmas.Option.{slice_get_within}
use Rattle.lxr_graph.specs.declared.Op.{Op}
use Rattle.lxr_graph.specs.declared.Op.TheVariants as op
use Rattle.lxr_graph.specs.declared.Reply.{Reply}
use Rattle.lxr_graph.specs.History.{Call, Item, Pause, Renew, calls_of}
use Rattle.lxr_graph.proofs.RowLemmas.{slice_get-there}
use Rattle.lxr_invariant.proofs.EntryLemmas.{same_number, unlike_number}
use Rattle.lxr_model.specs.Belongs.{writes_reference}
use Rattle.lxr_model.specs.Kinds.{ends}
use Rattle.lxr_model.specs.Legal.{IsLegalSoFar}
use Rattle.lxr_model.specs.Terms.{Terms}
use Rattle.lxr_core_invariant.specs.ThreadStates.{Stage, ThreadState, all_of, is_end, op_now, GivesUp, Rests, Works, Names, Through}
use Rattle.lxr_core_invariant.specs.ThreadStates as why
use Rattle.lxr_core_invariant.specs.EpochStates.{Beginning, Extends, EpochState, called, limits_of, same}
use Rattle.lxr_core_invariant.specs.Called.{IsWithinTurn, waiting_in}
use Rattle.lxr_core_invariant.specs.Epoch.{IsEpoch}
use Rattle.lxr_core_invariant.specs.Through.{EndsAreCounted}
use Rattle.lxr_core_inv_history.proofs.BusyLemmas.{ends_by, others_before_end}

-- ---- sums over numbers

-- the sum of the first n values
sum_below : (ℕ → ℕ) → ℕ → ℕ
sum_below f zero = 0
sum_below f (suc n) = sum_below f n + f n

-- equal values have equal sums
sum_same : (f g : ℕ → ℕ) (n : ℕ) → ((j : ℕ) → j < n → f j ≡ g j) → sum_below f n ≡ sum_below g n
unfolding sum_below
sum_same f g zero each = refl
sum_same f g (suc n) each =
    let rest = sum_same f g n (λ j h. each j (omega (arith, h))) in
    let last = each n (omega arith) in
    omega (arith, rest, last)

-- one summand is larger
sum_more : (f g : ℕ → ℕ) (k d n : ℕ) → k < n → f k ≡ g k + d → ((j : ℕ) → j ≢ k → f j ≡ g j) → sum_below f n ≡ sum_below g n + d
unfolding sum_below
sum_more f g k d zero within here others = absurd (omega (arith, within))
sum_more f g k d (suc n) within here others = elim (is_last k n) [
  | inl last ↦
      let rest = sum_same f g n (λ j h. others j (λ e. absurd (omega (arith, h, e, last)))) in
      let there : f n ≡ g n + d = subst (λ z. f z ≡ g z + d) last here in
      omega (arith, rest, there)
  | inr before ↦
      let rest = sum_more f g k d n (omega (arith, within, before)) here others in
      let there = others n (λ e. before (sym e)) in
      omega (arith, rest, there)
]
  where
    is_last : (k n : ℕ) → (k ≡ n) ⊎ (k ≢ n)
    is_last zero zero = inl refl
    is_last zero (suc n) = inr (λ e. absurd (omega arith))
    is_last (suc k) zero = inr (λ e. absurd (omega arith))
    is_last (suc k) (suc n) = elim (is_last k n) [ inl e ↦ inl (ap suc e) | inr e ↦ inr (λ x. e (omega arith)) ]

-- ones sum up to their number
sum_ones : (f : ℕ → ℕ) (n : ℕ) → ((j : ℕ) → j < n → f j ≡ 1) → sum_below f n ≡ n
unfolding sum_below
sum_ones f zero each = refl
sum_ones f (suc n) each =
    let rest = sum_ones f n (λ j h. each j (omega (arith, h))) in
    let last = each n (omega arith) in
    omega (arith, rest, last)

-- values of at most one sum up to at most their number
sum_few : (f : ℕ → ℕ) (n : ℕ) → ((j : ℕ) → j < n → f j ≤ 1) → sum_below f n ≤ n
unfolding sum_below
sum_few f zero each = omega arith
sum_few f (suc n) each =
    let rest = sum_few f n (λ j h. each j (omega (arith, h))) in
    let last = each n (omega arith) in
    omega (arith, rest, last)

-- where none is more than one and the sum is their number, each is one
each_one : (f : ℕ → ℕ) (n : ℕ) → ((j : ℕ) → j < n → f j ≤ 1) → sum_below f n ≡ n → (j : ℕ) → j < n → f j ≡ 1
unfolding sum_below
each_one f zero each e j within = absurd (omega (arith, within))
each_one f (suc n) each e j within =
    let few = sum_few f n (λ j h. each j (omega (arith, h))) in
    let last = each n (omega arith) in
    elim (before_or_last j n within) [
      | inl before ↦ each_one f n (λ j h. each j (omega (arith, h))) (omega (arith, e, few, last)) j before
      | inr is_last ↦ subst (λ z. f z ≡ 1) (sym is_last) (omega (arith, e, few, last))
    ]
  where
    before_or_last : (j n : ℕ) → j < suc n → (j < n) ⊎ (j ≡ n)
    before_or_last zero zero h = inr refl
    before_or_last zero (suc n) h = inl (omega arith)
    before_or_last (suc j) zero h = absurd (omega (arith, h))
    before_or_last (suc j) (suc n) h = elim (before_or_last j n (omega (arith, h))) [ inl k ↦ inl (omega (arith, k)) | inr k ↦ inr (ap suc k) ]

-- ---- ends among operations

-- 1 for the end, 0 for any other operation
one_end : Op → ℕ
one_end o = if is_end o then 1 else 0

-- how many ends stand among operations
ends_in : List Op → ℕ
ends_in [] = 0
ends_in (o ∷ os) = one_end o + ends_in os

-- one operation more
ends_more : (os : List Op) (o : Op) → ends_in (os ++ o ∷ []) ≡ ends_in os + one_end o
unfolding ends_in
ends_more [] o = omega arith
ends_more (x ∷ os) o = let rest = ends_more os o in omega (arith, rest)

-- what is no end counts for none
no_end : (o : Op) → o ≢ op.End → one_end o ≡ 0
unfolding one_end
no_end op.End other = absurd (other refl)
no_end (op.New dest shape) other = refl
no_end (op.Load dest base index) other = refl
no_end (op.Store base index source) other = refl
no_end (op.Put base index value) other = refl
no_end (op.Get base index) other = refl
no_end (op.Swap dest base index source) other = refl
no_end (op.Add base index value) other = refl
no_end (op.Move dest source) other = refl
no_end (op.Nil dest) other = refl
no_end (op.Same left right) other = refl
no_end op.Pause other = refl
no_end op.Collect other = refl

-- no end stands before the last of a thread's operations
none_before : (os : List Op) (k : ℕ) → All (λ o. o ≢ op.End) os → k ≤ length os → ends_in (take k (all_of os)) ≡ 0
unfolding ends_in
none_before [] zero endless few = refl
none_before [] (suc k) endless few = absurd (omega (arith, few))
none_before (x ∷ os) zero endless few = refl
none_before (x ∷ os) (suc k) endless few =
    let rest = none_before os k (All-tail (λ o. o ≢ op.End) x os endless) (omega (arith, few)) in
    let first = no_end x (All-head (λ o. o ≢ op.End) x os endless) in
    omega (arith, rest, first)

-- one stands among all
one_in_all : (os : List Op) → All (λ o. o ≢ op.End) os → ends_in (take (length os + 1) (all_of os)) ≡ 1
unfolding ends_in one_end
one_in_all [] endless = refl
one_in_all (x ∷ os) endless =
    let rest = one_in_all os (All-tail (λ o. o ≢ op.End) x os endless) in
    let first = no_end x (All-head (λ o. o ≢ op.End) x os endless) in
    let next : suc (length os) + 1 ≡ suc (length os + 1) = omega arith in
    ap (λ k. ends_in (take k (x ∷ all_of os))) next ∙ omega (arith, rest, first)

-- ---- ends of threads

-- each call is of one of so many threads
AreOf : ℕ → List Item → Type 0
AreOf threads [] = Unit {0}
AreOf threads (Renew ns ∷ h) = Unit {0}
AreOf threads (Pause report ∷ h) = AreOf threads h
AreOf threads (Call t o r ∷ h) = AreOf threads h × (1 ≤ t) × (t ≤ threads)

-- so it is in a legal history
legal_of : (terms : Terms) (threads : ℕ) (h : List Item) → terms.threads ≡ threads → IsLegalSoFar terms h → AreOf threads h
unfolding AreOf
legal_of terms threads [] e legal = tt
legal_of terms threads (Renew ns ∷ h) e legal = tt
legal_of terms threads (Pause report ∷ h) e legal = legal_of terms threads h e legal.0
legal_of terms threads (Call t o r ∷ h) e legal = let within = legal.2.thread in (legal_of terms threads h e legal.0, within.0, omega (arith, within.1, e))

-- and in one that goes on by steps
extended_of : (threads every : ℕ) (h k : List Item) → Extends threads every h k → AreOf threads h → AreOf threads k
unfolding AreOf
extended_of threads every h k (same) of = of
extended_of threads every h k (called l t o r before is) of = (extended_of threads every h l before of, is.thread.0, is.thread.1)

-- how many ends thread j + 1 has
ends_of : List Item → ℕ → ℕ
ends_of h j = ends_in (calls_of (j + 1) h)

-- a call of the thread itself
ends_of-own : (h : List Item) (t j : ℕ) (o : Op) (r : Reply) → t ≡ j + 1 → ends_of (Call t o r ∷ h) j ≡ ends_of h j + one_end o
unfolding ends_of
ends_of-own h t j o r e = ap (λ c. ends_in (if c then calls_of (j + 1) h ++ o ∷ [] else calls_of (j + 1) h)) (same_number (j + 1) t (sym e)) ∙ ends_more (calls_of (j + 1) h) o

-- a call of another thread
ends_of-other : (h : List Item) (t j : ℕ) (o : Op) (r : Reply) → j + 1 ≢ t → ends_of (Call t o r ∷ h) j ≡ ends_of h j
unfolding ends_of
ends_of-other h t j o r differ = ap (λ c. ends_in (if c then calls_of (j + 1) h ++ o ∷ [] else calls_of (j + 1) h)) (unlike_number (j + 1) t differ)

-- one call more, among all ends
ends_call : (t : ℕ) (o : Op) (r : Reply) (h : List Item) → ends (Call t o r ∷ h) ≡ ends h + one_end o
unfolding one_end
ends_call t op.End r h = omega arith
ends_call t (op.New dest shape) r h = omega arith
ends_call t (op.Load dest base index) r h = omega arith
ends_call t (op.Store base index source) r h = omega arith
ends_call t (op.Put base index value) r h = omega arith
ends_call t (op.Get base index) r h = omega arith
ends_call t (op.Swap dest base index source) r h = omega arith
ends_call t (op.Add base index value) r h = omega arith
ends_call t (op.Move dest source) r h = omega arith
ends_call t (op.Nil dest) r h = omega arith
ends_call t (op.Same left right) r h = omega arith
ends_call t op.Pause r h = omega arith
ends_call t op.Collect r h = omega arith

-- none stand in no history
all_none : (n : ℕ) → sum_below (ends_of []) n ≡ 0
unfolding sum_below ends_of ends_in
all_none zero = refl
all_none (suc n) = let rest = all_none n in omega (arith, rest)

-- the ends of a history are those of its threads
ends_are_sum : (threads : ℕ) (h : List Item) → AreOf threads h → ends h ≡ sum_below (ends_of h) threads
unfolding AreOf ends_of ends_in
ends_are_sum threads [] of = sym (all_none threads)
ends_are_sum threads (Renew ns ∷ h) of = sym (all_none threads)
ends_are_sum threads (Pause report ∷ h) of = ends_are_sum threads h of ∙ sum_same (ends_of h) (ends_of (Pause report ∷ h)) threads (λ j within. refl)
ends_are_sum threads (Call t o r ∷ h) of =
    let rest = ends_are_sum threads h of.0 in
    let call = ends_call t o r h in
    let some = of.1 in
    let more = sum_more (ends_of (Call t o r ∷ h)) (ends_of h) (t - 1) (one_end o) threads (omega (arith, of.1, of.2)) (ends_of-own h t (t - 1) o r (omega (arith, some)))
    (λ j differ. ends_of-other h t j o r (λ e. differ (omega (arith, e)))) in
    omega (arith, rest, call, more)

-- ---- who has ended

-- no operation that writes a reference is the end
no_writer_ends : (o : Op) → IsTrue (writes_reference (Some o)) → is_end o ≡ false
no_writer_ends o writes = elim (is_end o) as (λ c. is_end o ≡ c → c ≡ false) [
  | true ↦ λ q. let no : IsTrue (writes_reference (Some op.End)) = subst (λ z. IsTrue (writes_reference (Some z))) (ends_by o q) writes in absurd (cc)
  | false ↦ λ q. refl
] refl

-- so who writes one has its end to come
writer_before_end : (v : ThreadState) (now : Option Op) → op_now v ≡ now → IsTrue (writes_reference now) → length v.replies < length v.operations
writer_before_end v None is writes = absurd (cc)
writer_before_end v (Some o) is writes = others_before_end v.operations (length v.replies) o is (no_writer_ends o writes)

-- a mutator has done its end, or has it to come behind what stands in the history
ended_or_not : (s : EpochState) (v : ThreadState) (stage : Stage) → IsWithinTurn s v stage
    → ((stage ≡ Through why.Ended) × (length v.replies ≡ length v.operations + 1)) ⊎ (length v.replies + waiting_in stage ≤ length v.operations)
ended_or_not s v Rests on = let few = on.1 in inr (omega (arith, few))
ended_or_not s v (Works (GivesUp reason)) on = let few = on.1 in inr (omega (arith, few))
ended_or_not s v (Works intent) on = let few = on.1 in inr (omega (arith, few))
ended_or_not s v (Names place) on = let few = on.1 in inr (omega (arith, few))
ended_or_not s v (Through why.NoRun) on = let k = others_before_end v.operations (length v.replies) (op.New on.2.0.1.0 on.2.0.0) on.2.0.1.1 refl in inr (omega (arith, k))
ended_or_not s v (Through why.LogFull) on =
    let k = writer_before_end v (op_now v) refl on.2.0 in inr (omega (arith, k))
ended_or_not s v (Through why.Asked) on = let few = on.2.1 in inr (omega (arith, few))
ended_or_not s v (Through why.Turns) on = let few = on.2.1 in inr (omega (arith, few))
ended_or_not s v (Through why.Ended) on = inl (refl, on.2)

-- how many ends it has in the history, by what stands there of its operations
ends_told : (b : Beginning) (s : EpochState) (i : ℕ) (v : ThreadState) → IsEpoch b s → slice_get s.thread_states i ≡ Some v → ends_of s.history i ≡ ends_in (take (length v.replies + waiting_in v.stage) (all_of v.operations))
unfolding ends_of
ends_told b s i v is shown =
    let number : i + 1 ≡ v.thread = sym (is.called.threads i v shown) in
    ap (λ t. ends_in (calls_of t s.history)) number ∙ ap ends_in (is.called.each i v shown).calls

-- one who has done its end has one
ended_has_one : (b : Beginning) (s : EpochState) (i : ℕ) (v : ThreadState) → IsEpoch b s → slice_get s.thread_states i ≡ Some v → v.stage ≡ Through why.Ended → length v.replies ≡ length v.operations + 1 → ends_of s.history i ≡ 1
ended_has_one b s i v is shown stage all =
    let none : waiting_in v.stage ≡ 0 = ap waiting_in stage in
    ends_told b s i v is shown ∙ ap (λ k. ends_in (take k (all_of v.operations))) (omega (arith, none, all)) ∙ one_in_all v.operations (is.called.each i v shown).endless

-- so each has at most one, and has it only where it has ended
record HasEnds (s : EpochState) (i : ℕ) (v : ThreadState) : Type 0 where
  few : ends_of s.history i ≤ 1
  ended : ends_of s.history i ≡ 1 → v.stage ≡ Through why.Ended

-- so it is of each
has_ends : (b : Beginning) (s : EpochState) (i : ℕ) (v : ThreadState) → IsEpoch b s → slice_get s.thread_states i ≡ Some v → HasEnds s i v
has_ends b s i v is shown = elim (ended_or_not s v v.stage (is.called.each i v shown).within_turn) [
  | inl k ↦
      let one = ended_has_one b s i v is shown k.0 k.1 in
      record { few = omega (arith, one); ended = λ e. k.0 }
  | inr k ↦
      let none = ends_told b s i v is shown ∙ none_before v.operations (length v.replies + waiting_in v.stage) (is.called.each i v shown).endless k in
      record { few = omega (arith, none); ended = λ e. absurd (omega (arith, none, e)) }
]

-- as many ends as threads stand in the history exactly where all have ended
pub ends_are_counted : EndsAreCounted
ends_are_counted b s terms is same_threads legal =
    let threads : ℕ = (limits_of b).threads in
    let many = is.called.as_many in
    let sum : ends s.history ≡ sum_below (ends_of s.history) threads =
    ends_are_sum threads s.history (extended_of threads b.every b.history s.history is.extends (legal_of terms threads b.history same_threads legal)) in
    let thread_state_at : (j : ℕ) → j < threads → (v : ThreadState) × (slice_get s.thread_states j ≡ Some v) = λ j within. slice_get-there s.thread_states j (omega (arith, within, many)) in
    let each : (j : ℕ) (v : ThreadState) → slice_get s.thread_states j ≡ Some v → HasEnds s j v = λ j v shown. has_ends b s j v is shown in (
      λ all i v shown.
          let within = slice_get_within s.thread_states i v shown in
          (each i v shown).ended (each_one (ends_of s.history) threads (λ j small. (each j (thread_state_at j small).0 (thread_state_at j small).1).few) (sym sum ∙ all) i (omega (arith, within, many))),
      λ ended.
          sum ∙ sum_ones (ends_of s.history) threads (λ j small.
          let v : ThreadState = (thread_state_at j small).0 in
          let shown = (thread_state_at j small).1 in
          let on : IsWithinTurn s v (Through why.Ended) = subst (IsWithinTurn s v) (ended j v shown) (is.called.each j v shown).within_turn in
          ended_has_one b s j v is shown (ended j v shown) on.2),
    )

-- What mutators that rest have done, as the history has it.
use Rattle.std.proofs.Common.{◌≡◌, ◌≢◌, ℕ, zero, suc, ◌+◌, ◌-◌, ◌*◌, ◌/◌, ◌^◌, ◌<◌, ◌≤◌, ◌⊎◌, refl, sym, ap, subst, ◌∙◌, inl, inr, ⊎_elim, arith, List, [], ◌∷◌, ◌++◌, length, map, take}
use Rattle.std.specs.Prelude.{Bool, true, false, Some, if◌then◌else◌, nat_le, slice_get, slice_set, slice_index_or}
use Rattle.std.specs.Option.{option_map}
use Rattle.std.specs.List.{All, count_by}
use Rattle.std.proofs.lemmas.Bool.Decides.{nat_tests}
use Rattle.std.proofs.lemmas.List.{length-map, length_push, take_all}
use Rattle.std.proofs.lemmas.List.Elements.{All-weaker}
use Rattle.std.proofs.lemmas.Option.{get_or_from_slice_get, slice_get-map, slice_get_within}
use Rattle.lxr_layout.specs.declared.limits.Limits.{Limits}
use Rattle.lxr_alloc.specs.declared.TheConstants.{MOST_OPERATIONS}
use Rattle.lxr_graph.specs.declared.Op.TheVariants as op
use Rattle.lxr_graph.specs.declared.Reply.{Reply}
use Rattle.lxr_graph.specs.History.{Item, calls_of, replies_of}
use Rattle.lxr_graph.specs.Step.{IsFormedFor}
use Rattle.lxr_model.specs.Belongs.{Script, operations_of}
use Rattle.lxr_model.specs.Kinds.{ends}
use Rattle.lxr_model.specs.Legal.{IsLegalSoFar}
use Rattle.lxr_mutator.specs.Dialogues.{most_operations}
use Rattle.lxr_mutator.specs.Mutating.{Mutating}
use Rattle.lxr_mutator.specs.Mutators.{IsMutator, IsOperation, IsThrough}
use Rattle.lxr_mutator.specs.Naming.{blank}
use Rattle.lxr_mutator.proofs.NamingLemmas.{told_count, told_length}
use Rattle.lxr_core_invariant.specs.ThreadStates.{all_of, is_end}
use Rattle.lxr_core_sim_mutator.specs.Showing.{IsMutatorOf}
use Rattle.lxr_core.specs.Actors.{script_of}
use Rattle.lxr_core.specs.Resting.{RestsAfter}
use Rattle.lxr_rounds_history.specs.Growing.{CallsBeginScript, NamesFew}
use Rattle.lxr_rounds_history.proofs.ThreadSums.{Weight, counted_by, counted_in, counted_of, calls_counted, ending, ends_all, ends_counted, ends_within, legal_threads, one, replied, replies_counted, sum_of_threads, thread_ends_counted}
use Rattle.lxr_rounds_invariant.specs.LoopInvariant.{HasMore, HaveMutators, HaveEnded, Task, done_of, left_of, task_limits, terms_of, threads_of}

-- ---- operations

-- what stands at a number in a list within its length
pub found : {X : Type 0} (xs : List X) (i : ℕ) → i < length xs → (x : X) × (slice_get xs i ≡ Some x)
found [] i within = absurd (omega arith)
found (x ∷ xs) zero within = (x, refl)
found (x ∷ xs) (suc i) within = found xs i (omega arith)

-- the operations of a mutator are those of its thread
pub operations_at : (script : Script) (mutators : List Mutating) (i : ℕ) (a : Mutating) → script_of mutators ≡ script → slice_get mutators i ≡ Some a
    → operations_of script (i + 1) ≡ all_of a.operations
operations_at script mutators i a is at =
    let number : i + 1 - 1 ≡ i = omega arith in
    let here : slice_get (script_of mutators) i ≡ Some a.operations =
    slice_get-map (λ (a : Mutating). a.operations) mutators i ∙ ap (option_map (λ (a : Mutating). a.operations)) at in
    ap (λ n. slice_index_or script n [] ++ op.End ∷ []) number
    ∙ ap (λ z. z ++ op.End ∷ []) (ap (λ s. slice_index_or s i []) (sym is) ∙ get_or_from_slice_get (script_of mutators) i a.operations [] here)

-- none of them is an end
pub none_end : (m : Mutating) → IsMutator m → All (λ o. o ≢ op.End) m.operations
none_end m is = All-weaker (IsOperation m.width) (λ o. o ≢ op.End) (λ o operation. operation.1) m.operations is.setup.operations

-- there is a mutator for each thread
pub as_many : (task : Task) (h : List Item) (mutators : List Mutating) → HaveMutators task h mutators → length mutators ≡ threads_of task
as_many task h mutators have = have.rest.as_many

-- each thread has begun its operations
pub has_begun : (task : Task) (h : List Item) (mutators : List Mutating) → HaveMutators task h mutators → CallsBeginScript task.script h
has_begun task h mutators have = λ t low high.
    let many = as_many task h mutators have in
    let (a, at) = found mutators (t - 1) (omega arith) in
    let number : t - 1 + 1 ≡ t = omega arith in
    let rests : RestsAfter (task_limits task) task.plan.every h t a = subst (λ n. RestsAfter (task_limits task) task.plan.every h n a) number (have.rest.each (t - 1) a at) in
    let operations : operations_of task.script t ≡ all_of a.operations = subst (λ n. operations_of task.script n ≡ all_of a.operations) number (operations_at task.script mutators (t - 1) a have.script at) in
    (length a.replies.items, rests.calls ∙ ap (take (length a.replies.items)) (sym operations))

-- what mutators of a space are asked for names no more registers than its limits say
pub asked_few : (l : Limits) (mutators : List Mutating) → ((i : ℕ) (m : Mutating) → slice_get mutators i ≡ Some m → IsMutatorOf l m) → NamesFew l.registers (script_of mutators)
asked_few l mutators each = λ i d within.
    let many = length-map mutators (λ (m : Mutating). m.operations) in
    let (m, at) = found mutators i (omega (arith, many, within)) in
    let is = each i m at in
    let few : All (IsFormedFor l.registers) m.operations =
    All-weaker (IsOperation m.width) (IsFormedFor l.registers) (λ o operation. subst (λ n. IsFormedFor n o) is.width operation.0) m.operations is.sound.setup.operations in
    let here : slice_get (script_of mutators) i ≡ Some m.operations = slice_get-map (λ (m : Mutating). m.operations) mutators i ∙ ap (option_map (λ (m : Mutating). m.operations)) at in
    subst (All (IsFormedFor l.registers)) (sym (get_or_from_slice_get (script_of mutators) i m.operations d here)) few

-- so it is of those that rest
pub names_few : (task : Task) (h : List Item) (mutators : List Mutating) → HaveMutators task h mutators → NamesFew task.plan.registers task.script
names_few task h mutators have = subst (NamesFew task.plan.registers) have.script (asked_few (task_limits task) mutators (λ i m at. (have.rest.each i m at).mutator))

-- ---- sums over mutators

-- what is counted of threads from t on is a sum over their mutators
sum_is : (w : Weight) (f : Mutating → ℕ) (F : List Mutating → ℕ) → F [] ≡ 0 → ((a : Mutating) (mutators : List Mutating) → F (a ∷ mutators) ≡ f a + F mutators)
    → (h : List Item) (t : ℕ) (mutators : List Mutating) → ((i : ℕ) (a : Mutating) → slice_get mutators i ≡ Some a → counted_of w (t + i) h ≡ f a) → counted_by w t (length mutators) h ≡ F mutators
sum_is w f F none more h t [] each = sym none
sum_is w f F none more h t (a ∷ mutators) each =
    let here : counted_of w t h ≡ f a = subst (λ n. counted_of w n h ≡ f a) (omega arith) (each 0 a refl) in
    let rest : counted_by w (suc t) (length mutators) h ≡ F mutators =
    sum_is w f F none more h (suc t) mutators (λ i b at. subst (λ n. counted_of w n h ≡ f b) (omega arith) (each (suc i) b at)) in
    let sum = more a mutators in
    omega arith

-- where each counts for one at most, and one for nothing, they are fewer than the mutators
few_by : (w : Weight) (h : List Item) (t n : ℕ) → ((i : ℕ) → i < n → counted_of w (t + i) h ≤ 1) → counted_by w t n h ≤ n
few_by w h t zero each = omega arith
few_by w h t (suc n) each =
    let here : counted_of w t h ≤ 1 = subst (λ m. counted_of w m h ≤ 1) (omega arith) (each 0 (omega arith)) in
    let rest = few_by w h (suc t) n (λ i below. subst (λ m. counted_of w m h ≤ 1) (omega arith) (each (suc i) (omega arith))) in
    omega arith

fewer_by : (w : Weight) (h : List Item) (t n j : ℕ) → ((i : ℕ) → i < n → counted_of w (t + i) h ≤ 1) → j < n → counted_of w (t + j) h ≡ 0 → counted_by w t n h < n
fewer_by w h t zero j each within none = absurd (omega arith)
fewer_by w h t (suc n) zero each within none =
    let here : counted_of w t h ≡ 0 = subst (λ m. counted_of w m h ≡ 0) (omega arith) none in
    let rest = few_by w h (suc t) n (λ i below. subst (λ m. counted_of w m h ≤ 1) (omega arith) (each (suc i) (omega arith))) in
    omega arith
fewer_by w h t (suc n) (suc j) each within none =
    let here : counted_of w t h ≤ 1 = subst (λ m. counted_of w m h ≤ 1) (omega arith) (each 0 (omega arith)) in
    let rest = fewer_by w h (suc t) n j (λ i below. subst (λ m. counted_of w m h ≤ 1) (omega arith) (each (suc i) (omega arith))) (omega arith)
    (subst (λ m. counted_of w m h ≡ 0) (omega arith) none) in
    omega arith

-- a mutator that isn't through has operations or its end left
unended_few : (m : Mutating) → IsMutator m → ¬ IsThrough m → length m.replies.items ≤ length m.operations
unended_few m is more = ⊎_elim (λ through. absurd (more through)) (λ few. few) is.replies

module _ (task : Task) (h : List Item) (mutators : List Mutating) (legal : IsLegalSoFar (terms_of task) h) (have : HaveMutators task h mutators) where
  -- so what is counted of all calls
  pub all_counted : (w : Weight) (f : Mutating → ℕ) (F : List Mutating → ℕ) → F [] ≡ 0 → ((a : Mutating) (mutators : List Mutating) → F (a ∷ mutators) ≡ f a + F mutators)
      → ((i : ℕ) (a : Mutating) → slice_get mutators i ≡ Some a → counted_of w (i + 1) h ≡ f a) → counted_in w h ≡ F mutators
  all_counted w f F none more each =
      sum_of_threads w (threads_of task) h (legal_threads (terms_of task) h legal)
      ∙ ap (λ n. counted_by w 1 n h) (sym (as_many task h mutators have))
      ∙ sum_is w f F none more h 1 mutators (λ i a at. subst (λ n. counted_of w n h ≡ f a) (omega arith) (each i a at))

  -- as many calls are made as replies are kept
  pub calls_are_done : counted_in one h ≡ done_of mutators
  calls_are_done = all_counted one (λ a. length a.replies.items) done_of refl (λ a mutators. refl)
      (λ i a at. calls_counted (i + 1) h ∙ sym (told_length a.names (replies_of (i + 1) h)) ∙ ap length (have.rest.each i a at).replies)

  -- and the replies of a kind, which they have with names and without
  pub kind_is : (p : Reply → Bool) → ((r : Reply) → p (blank r) ≡ p r) → (F : List Mutating → ℕ) → F [] ≡ 0 → ((a : Mutating) (mutators : List Mutating) → F (a ∷ mutators) ≡ count_by p a.replies.items + F mutators)
      → counted_in (replied p) h ≡ F mutators
  kind_is p same F none more = all_counted (replied p) (λ a. count_by p a.replies.items) F none more
      (λ i a at. replies_counted p (i + 1) h ∙ sym (told_count p same a.names (replies_of (i + 1) h)) ∙ ap (count_by p) (have.rest.each i a at).replies)

  -- ---- ends

  -- a thread has ended once where its mutator is through, and else not
  ended_once : (i : ℕ) (a : Mutating) → slice_get mutators i ≡ Some a → IsThrough a → counted_of ending (i + 1) h ≡ 1
  ended_once i a at through =
      let rests = have.rest.each i a at in
      thread_ends_counted (i + 1) h ∙ ap (count_by is_end) rests.calls
      ∙ ends_all (length a.replies.items) a.operations (none_end a rests.mutator.sound) (rests.ended through.1)

  -- and not at all where some are left
  not_ended : (i : ℕ) (a : Mutating) → slice_get mutators i ≡ Some a → length a.replies.items ≤ length a.operations → counted_of ending (i + 1) h ≡ 0
  not_ended i a at few =
      let rests = have.rest.each i a at in
      thread_ends_counted (i + 1) h ∙ ap (count_by is_end) rests.calls
      ∙ ends_within (length a.replies.items) a.operations (none_end a rests.mutator.sound) few

  -- where all are through, as many ends stand in the history as threads
  pub ends_are_all : HaveEnded mutators → ends h ≡ threads_of task
  ends_are_all ended =
      sym (ends_counted h)
      ∙ all_counted ending (λ a. 1) (length {A = Mutating}) refl (λ a mutators. omega arith) (λ i a at. ended_once i a at (ended i a at))
      ∙ as_many task h mutators have

  -- so it has at most once
  ended_at_most_once : (i : ℕ) (a : Mutating) → slice_get mutators i ≡ Some a → counted_of ending (i + 1) h ≤ 1
  ended_at_most_once i a at =
      ⊎_elim
      (λ through. let e = ended_once i a at through in omega arith)
      (λ few. let e = not_ended i a at few in omega arith)
      (have.rest.each i a at).mutator.sound.replies

  -- where some mutator isn't, fewer do
  pub ends_are_fewer : HasMore mutators → ends h < threads_of task
  ends_are_fewer (j, b, at, more) =
      let each : (i : ℕ) → i < length mutators → counted_of ending (1 + i) h ≤ 1 = λ i below.
      let (a, here) = found mutators i below in subst (λ m. counted_of ending m h ≤ 1) (omega arith) (ended_at_most_once i a here) in
      let none : counted_of ending (1 + j) h ≡ 0 = subst (λ m. counted_of ending m h ≡ 0) (omega arith) (not_ended j b at (unended_few b (have.rest.each j b at).mutator.sound more)) in
      let fewer : counted_by ending 1 (length mutators) h < length mutators = fewer_by ending h 1 (length mutators) j each (slice_get_within mutators j b at) none in
      let many = as_many task h mutators have in
      let sum : ends h ≡ counted_by ending 1 (length mutators) h =
      sym (ends_counted h) ∙ sum_of_threads ending (threads_of task) h (legal_threads (terms_of task) h legal) ∙ ap (λ n. counted_by ending 1 n h) (sym many) in
      omega arith

  -- where all are through, each thread's calls are all its operations and its end
  pub calls_are_all : HaveEnded mutators → (i : ℕ) (a : Mutating) → slice_get mutators i ≡ Some a → calls_of (i + 1) h ≡ operations_of task.script (i + 1)
  calls_are_all ended i a at =
      let rests = have.rest.each i a at in
      let all : length a.replies.items ≡ length a.operations + 1 = rests.ended (ended i a at).1 in
      rests.calls
      ∙ take_all (length a.replies.items) (all_of a.operations) (let many = length_push a.operations op.End in omega arith)
      ∙ sym (operations_at task.script mutators i a have.script at)

  -- so it is of each thread
  pub threads_are_done : HaveEnded mutators → (t : ℕ) → 1 ≤ t → t ≤ threads_of task → calls_of t h ≡ operations_of task.script t
  threads_are_done ended = λ t low high.
      let many = as_many task h mutators have in
      let (a, at) = found mutators (t - 1) (omega arith) in
      let number : t - 1 + 1 ≡ t = omega arith in
      subst (λ n. calls_of n h ≡ operations_of task.script n) number (calls_are_all ended (t - 1) a at)

-- ---- how many operations and ends there are

-- the operations and ends of a script
abbrev pub steps_of : Script → ℕ
steps_of [] = 0
steps_of (operations ∷ script) = length operations + 1 + steps_of script

-- no more are done than there are
abbrev pub AreWithin : List Mutating → Type 0
AreWithin mutators = (i : ℕ) (a : Mutating) → slice_get mutators i ≡ Some a → length a.replies.items ≤ length a.operations + 1

-- mutators that rest have done no more
pub are_within : (task : Task) (h : List Item) (mutators : List Mutating) → HaveMutators task h mutators → AreWithin mutators
are_within task h mutators have = λ i a at. (have.rest.each i a at).mutator.sound.few_replies

-- what isn't done is left
pub done_and_left : (mutators : List Mutating) → AreWithin mutators → done_of mutators + left_of mutators ≡ steps_of (script_of mutators)
done_and_left [] within = refl
done_and_left (a ∷ mutators) within =
    let here = within 0 a refl in
    let rest = done_and_left mutators (λ i b at. within (suc i) b at) in
    omega arith

-- where more is done, less is left
pub left_falls : (script : Script) (before after : List Mutating) → script_of before ≡ script → script_of after ≡ script → AreWithin before → AreWithin after → done_of before < done_of after
    → left_of after < left_of before
left_falls script before after was is within within' more =
    let e = done_and_left before within in
    let e' = done_and_left after within' in
    let same : steps_of (script_of before) ≡ steps_of (script_of after) = ap steps_of (was ∙ sym is) in
    omega arith

-- so it is of the mutators of a run
pub left_less : (task : Task) (h h' : List Item) (before after : List Mutating) → HaveMutators task h before → HaveMutators task h' after → done_of before < done_of after → left_of after < left_of before
left_less task h h' before after have have' more = left_falls task.script before after have.script have'.script (are_within task h before have) (are_within task h' after have') more

-- of the first 16 threads each has more than the others
share_by : (k : ℕ) (first : Bool) → nat_le (k + 1) 16 ≡ first
    → (if first then MOST_OPERATIONS else MOST_OPERATIONS / 16) + 2 + (MOST_OPERATIONS - MOST_OPERATIONS / 16) * (16 - (k + 1)) ≤ MOST_OPERATIONS / 16 + 2 + (MOST_OPERATIONS - MOST_OPERATIONS / 16) * (16 - k)
share_by k true is = let low : k + 1 ≤ 16 = grind (arith, nat_tests) in omega arith
share_by k false is = omega arith

share_of : (k : ℕ) → most_operations (k + 1) + 2 + (MOST_OPERATIONS - MOST_OPERATIONS / 16) * (16 - (k + 1)) ≤ MOST_OPERATIONS / 16 + 2 + (MOST_OPERATIONS - MOST_OPERATIONS / 16) * (16 - k)
share_of k = share_by k (nat_le (k + 1) 16) refl

-- so threads after the first k do so many operations and ends at most
done_after : (k : ℕ) (mutators : List Mutating) → ((i : ℕ) (a : Mutating) → slice_get mutators i ≡ Some a → length a.replies.items ≤ most_operations (k + (i + 1)) + 2)
    → done_of mutators ≤ (MOST_OPERATIONS / 16 + 2) * length mutators + (MOST_OPERATIONS - MOST_OPERATIONS / 16) * (16 - k)
done_after k [] each = omega arith
done_after k (a ∷ mutators) each =
    let here = each 0 a refl in
    let share = share_of k in
    let rest = done_after (k + 1) mutators (λ i b at. subst (λ n. length b.replies.items ≤ most_operations n + 2) (omega arith) (each (suc i) b at)) in
    omega arith

-- and 255 threads fewer than 2^31
pub done_few : (mutators : List Mutating) → ((i : ℕ) (a : Mutating) → slice_get mutators i ≡ Some a → length a.replies.items ≤ most_operations (i + 1) + 2) → length mutators ≤ 255 → done_of mutators + 1 < 2 ^ 31
done_few mutators each few =
    let all = done_after 0 mutators (λ i a at. subst (λ n. length a.replies.items ≤ most_operations n + 2) (omega arith) (each i a at)) in
    omega (arith, all, few)

-- one mutator that is answered does one more
pub done_more : (mutators : List Mutating) (i : ℕ) (a b : Mutating) → slice_get mutators i ≡ Some a → length b.replies.items ≡ length a.replies.items + 1
    → done_of (slice_set mutators i b) ≡ done_of mutators + 1
done_more [] i a b at one = absurd (cc)
done_more (x ∷ mutators) zero a b at one =
    let is : x ≡ a = cc in
    let same : length x.replies.items ≡ length a.replies.items = ap (λ (z : Mutating). length z.replies.items) is in
    omega arith
done_more (x ∷ mutators) (suc i) a b at one = let rest = done_more mutators i a b at one in omega arith

-- and what it has still it had before
pub kept_put : {X : Type 0} (f : Mutating → X) (mutators : List Mutating) (i : ℕ) (a b : Mutating) → slice_get mutators i ≡ Some a → f b ≡ f a → map f (slice_set mutators i b) ≡ map f mutators
kept_put f [] i a b at same = refl
kept_put f (x ∷ mutators) zero a b at same =
    let is : x ≡ a = cc in
    ap (λ y. y ∷ map f mutators) (same ∙ ap f (sym is))
kept_put f (x ∷ mutators) (suc i) a b at same = ap (λ ys. f x ∷ ys) (kept_put f mutators i a b at same)

-- ---- pauses

-- After an epoch, its pause and those that waiting `new`s needed there are at most two pauses for each operation or end that is done.
pub pauses_stay_few : (pauses done pauses' after pauses'' served : ℕ) → pauses ≤ 2 * done → done ≤ after → (done < after) ⊎ (after < served) → pauses' ≡ pauses + 1 → pauses'' + after ≤ pauses' + served
    → after ≤ served → pauses'' ≤ 2 * served
pauses_stay_few pauses done pauses' after pauses'' served few grows (inl more) one each goes = omega arith
pauses_stay_few pauses done pauses' after pauses'' served few grows (inr more) one each goes = omega arith

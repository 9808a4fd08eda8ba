-- The name that a mutator gives to a new object is the next one of its thread in the model.
use Rattle.std.proofs.Common.{◌≡◌, ℕ, ◌+◌, ◌≤◌, Bool, false, arith, refl, sym, ap, ◌∙◌, cond, List, length, nat_eq}
use Rattle.std.specs.Prelude.{Some, slice_get}
use Rattle.std.specs.List.{count_by}
use Rattle.std.proofs.lemmas.Option.{slice_get_within}
use Rattle.lxr_graph.specs.declared.Reply.{Reply}
use Rattle.lxr_graph.specs.declared.Reply.TheVariants as reply
use Rattle.lxr_graph.specs.History.{Item, replies_of}
use Rattle.lxr_graph.specs.State.{next_name, row_of}
use Rattle.lxr_model.specs.Moments.{moment}
use Rattle.lxr_mutator.specs.Mutating.{Mutating, is_new, next_name as next_made}
use Rattle.lxr_core_invariant.specs.EpochStates.{Beginning, CountsObjects, EpochState, limits_of, moment_of, objects_before, tells_new}
use Rattle.lxr_core_invariant.specs.Epoch.{IsEpoch}
use Rattle.lxr_core_invariant.proofs.ObjectLemmas.{extends_before, extends_counts}
use Rattle.lxr_core_sim_mutator.specs.Showing.{thread_state_of}

-- both tests are of the same replies
same_test : (r : Reply) → tells_new r ≡ is_new r
same_test (reply.New n) = refl
same_test (reply.Full) = refl
same_test (reply.Loaded v) = refl
same_test reply.Stored = refl
same_test reply.Put = refl
same_test (reply.Got v) = refl
same_test (reply.Swapped v) = refl
same_test (reply.Added v) = refl
same_test reply.Moved = refl
same_test reply.Cleared = refl
same_test (reply.Same v) = refl
same_test reply.Paused = refl
same_test reply.Collected = refl
same_test reply.Ended = refl
same_test reply.Bad = refl
same_test reply.Range = refl

-- so both count the same
same_count : (rs : List Reply) → count_by tells_new rs ≡ count_by is_new rs
same_count rs = λ j. count_by (λ r. same_test r j) rs

-- the next serial of a thread, which is no 0
serial_from : (t n k : ℕ) → 1 ≤ t → n ≡ k → n + cond {A = ℕ} (nat_eq t 0) 0 1 ≡ k + 1
serial_from t n k some e = let other : nat_eq t 0 ≡ false = grind (arith, some) in ap (λ (c : Bool). n + cond {A = ℕ} c 0 1) other ∙ ap (λ (x : ℕ). x + 1) e

-- a mutator whose replies are those of a history, and that counts from the objects that its thread began with, names its next object as the
-- model does
pub named_after : (threads : ℕ) (h : List Item) (m : Mutating) → CountsObjects threads h → m.before ≡ objects_before m.thread h → 1 ≤ m.thread → m.thread ≤ threads → replies_of m.thread h ≡ m.replies.items
    → next_name (moment threads h).state.graph m.thread ≡ next_made m
named_after threads h m counts began some few replies =
    let row = counts.objects m.thread some few in
    let told = ap (count_by tells_new) replies ∙ same_count m.replies.items in
    let objects : length (row_of (moment threads h).state.graph m.thread) ≡ m.before + count_by is_new m.replies.items = omega (arith, row, began, told) in
    let serial = serial_from m.thread (length (row_of (moment threads h).state.graph m.thread)) (m.before + count_by is_new m.replies.items) some objects in
    λ j. record { thread = m.thread; serial = serial j }

-- so it is after each event of an epoch
pub named : (b : Beginning) (s : EpochState) (i : ℕ) (m : Mutating) → IsEpoch b s → slice_get s.thread_states i ≡ Some (thread_state_of m) → replies_of m.thread s.history ≡ m.replies.items
    → next_name (moment_of b s).state.graph m.thread ≡ next_made m
named b s i m is shown replies =
    let number = is.called.threads i (thread_state_of m) shown in
    let within = slice_get_within s.thread_states i (thread_state_of m) shown in
    let as_many = is.called.as_many in
    let some : 1 ≤ m.thread = omega (arith, number) in
    let few : m.thread ≤ (limits_of b).threads = omega (arith, number, within, as_many) in
    named_after (limits_of b).threads s.history m (extends_counts (limits_of b).threads b.every b.history s.history is.begins.counted is.extends)
    ((is.called.each i (thread_state_of m) shown).began ∙ sym (extends_before (limits_of b).threads b.every b.history s.history m.thread is.extends)) some few replies

-- What an event of one mutator leaves of what holds of the others, and what it owes of its own.
use Rattle.std.proofs.Common.{◌≡◌, ◌≢◌, ℕ, zero, suc, ◌+◌, ◌≤◌, refl, sym, ap, subst, ◌∙◌, inl, inr, ◌⊎◌, arith, IsTrue, length}
use Rattle.std.specs.Prelude.{Some, slice_get, slice_set}
use Rattle.std.proofs.lemmas.List.{length-set}
use Rattle.lxr_layout.specs.declared.TheConstants.{FREE_BLOCK_COUNT, FREE_BLOCK_CURSOR, PAUSE_WORD}
use Rattle.lxr_layout.specs.declared.Name.{Name}
use Rattle.lxr_graph.specs.Names.{has}
use Rattle.lxr_model.specs.Belongs.{has_asked}
use Rattle.lxr_invariant.specs.AbstractState.{members}
use Rattle.lxr_core_invariant.specs.ThreadStates.{Intent, Reason, Stage, ThreadState, all_of}
use Rattle.lxr_core_invariant.specs.ThreadStates.{Plain, AtReference, AtValue, Clears, Stores, DrewRun, HasRun, NeedsBlock, DrewBlock, HasBlock, Makes, GivesUp}
use Rattle.lxr_core_invariant.specs.ThreadStates.{Rests, Works, Names, Through}
use Rattle.lxr_core_invariant.specs.ThreadStates as why
use Rattle.lxr_core_invariant.specs.EpochStates.{Beginning, EpochState, moment_of}
use Rattle.lxr_core_invariant.specs.Called.{AreCalled, AreReplies, IsWithinTurn, HasCalled, HasReason, SetsPauseWord}
use Rattle.lxr_core_invariant.proofs.ShowingLemmas.{set_elsewhere, set_here, shown_cases}
use Rattle.lxr_core_inv_history.proofs.CallLemmas.{SaySame}

-- What an event leaves as it is: members stay where they are, the pause word stays set, and no block comes back.
pub record Keeps (b : Beginning) (s after : EpochState) : Type 0 where
  pub members : (n : Name) → IsTrue (has (members (moment_of b s)) n) → IsTrue (has (members (moment_of b after)) n) × (after.at n ≡ s.at n)
  pub word : s.tables.cursors PAUSE_WORD ≡ 1 → after.tables.cursors PAUSE_WORD ≡ 1
  pub blocks : s.tables.cursors FREE_BLOCK_COUNT ≤ s.tables.cursors FREE_BLOCK_CURSOR → after.tables.cursors FREE_BLOCK_COUNT ≤ after.tables.cursors FREE_BLOCK_CURSOR

-- reasons stay
pub reason_kept : (b : Beginning) (s after : EpochState) (v : ThreadState) (reason : Reason) → Keeps b s after → HasReason s v reason → HasReason after v reason
reason_kept b s after v why.NoRun keeps has = (has.0, keeps.blocks has.1)
reason_kept b s after v why.LogFull keeps has = has
reason_kept b s after v why.Asked keeps has = (keeps.word has.0, has.1)
reason_kept b s after v why.Turns keeps has = has
reason_kept b s after v why.Ended keeps has = has

-- replies stay those of the history
replies_kept : (b : Beginning) (s after : EpochState) (v : ThreadState) (stage : Stage) → Keeps b s after → SaySame v.thread s.history after.history → AreReplies b s v stage → AreReplies b after v stage
replies_kept b s after v (Names place) keeps same tells =
    let stays = keeps.members tells.name tells.member in
    record { name = tells.name; member = stays.0; stands = tells.stands ∙ sym stays.1; now = tells.now; does = tells.does; takes = tells.takes; reply = same.replies ∙ tells.reply }
replies_kept b s after v Rests keeps same replies = same.replies ∙ replies
replies_kept b s after v (Works intent) keeps same replies = same.replies ∙ replies
replies_kept b s after v (Through reason) keeps same replies = same.replies ∙ replies

-- it stands to its operations as it did
turn_kept : (b : Beginning) (s after : EpochState) (v : ThreadState) (stage : Stage) → Keeps b s after → SaySame v.thread s.history after.history → IsWithinTurn s v stage → IsWithinTurn after v stage
turn_kept b s after v Rests keeps same on = on
turn_kept b s after v (Works (GivesUp reason)) keeps same on = (on.0, on.1, same.asked ∙ on.2, on.3, reason_kept b s after v reason keeps on.4)
turn_kept b s after v (Works intent) keeps same on = (on.0, on.1, same.asked ∙ on.2)
turn_kept b s after v (Names place) keeps same on = (on.0, on.1, same.asked ∙ on.2)
turn_kept b s after v (Through reason) keeps same on = (on.0, on.1, reason_kept b s after v reason keeps on.2)

-- what holds of a mutator whose thread calls nothing stays
pub called_kept : (b : Beginning) (s after : EpochState) (v : ThreadState) → Keeps b s after → SaySame v.thread s.history after.history → HasCalled b s v → HasCalled b after v
called_kept b s after v keeps same has =
    let counted = has.counted in
    let short = has.short in
    let since = same.since in
    record {
      formed = has.formed;
      endless = has.endless;
      few = has.few;
      began = has.began;
      few_began = has.few_began;
      every = has.every;
      before = has.before;
      calls = same.calls ∙ has.calls;
      replies = replies_kept b s after v v.stage keeps same has.replies;
      counted = omega (arith, counted, since);
      short = omega (arith, short, since);
      asked = λ k. keeps.word (has.asked (sym same.asked ∙ k));
      within_turn = turn_kept b s after v v.stage keeps same has.within_turn;
    }

-- who set the pause word did so
pub sets_kept : (s after : EpochState) (v : ThreadState) (stage : Stage) → SaySame v.thread s.history after.history → SetsPauseWord s v stage → SetsPauseWord after v stage
sets_kept s after v (Through why.NoRun) same sets = tt
sets_kept s after v (Through why.LogFull) same sets = tt
sets_kept s after v (Through why.Asked) same sets = same.asked ∙ sets
sets_kept s after v (Through why.Turns) same sets = same.asked ∙ sets
sets_kept s after v (Through why.Ended) same sets = same.asked ∙ sets
sets_kept s after v Rests same sets = same.asked ∙ sets
sets_kept s after v (Works intent) same sets = same.asked ∙ sets
sets_kept s after v (Names place) same sets = same.asked ∙ sets

-- a thread that asked for a pause sets the pause word, wherever its mutator is
pub asking_sets : (s : EpochState) (v : ThreadState) (stage : Stage) → IsTrue (has_asked v.thread s.history) → SetsPauseWord s v stage
asking_sets s v (Through why.NoRun) asked = tt
asking_sets s v (Through why.LogFull) asked = tt
asking_sets s v (Through why.Asked) asked = asked
asking_sets s v (Through why.Turns) asked = asked
asking_sets s v (Through why.Ended) asked = asked
asking_sets s v Rests asked = asked
asking_sets s v (Works intent) asked = asked
asking_sets s v (Names place) asked = asked

-- ---- all mutators

-- what an event of a mutator owes: what it then shows holds of it, and where it sets the pause word it is who set it
pub record Owes (b : Beginning) (s after : EpochState) (i : ℕ) (v w : ThreadState) : Type 0 where
  pub thread_states : after.thread_states ≡ slice_set s.thread_states i w
  pub thread : w.thread ≡ v.thread
  pub keeps : Keeps b s after
  pub others : (t : ℕ) → t ≢ v.thread → SaySame t s.history after.history
  pub called : HasCalled b after w
  pub sets : after.tables.cursors PAUSE_WORD ≡ 1 → (s.tables.cursors PAUSE_WORD ≡ 1) ⊎ SetsPauseWord after w w.stage
  pub still_sets : SetsPauseWord s v v.stage → SetsPauseWord after w w.stage

-- so it holds of all mutators
pub all_called : (b : Beginning) (s after : EpochState) (i : ℕ) (v w : ThreadState) → AreCalled b s → slice_get s.thread_states i ≡ Some v → Owes b s after i v w → AreCalled b after
all_called b s after i v w are shows owes =
    let here : slice_get after.thread_states i ≡ Some w = subst (λ z. slice_get z i ≡ Some w) (sym owes.thread_states) (set_here s.thread_states i w v shows) in
    let split : (j : ℕ) (x : ThreadState) → slice_get after.thread_states j ≡ Some x → ((j ≡ i) × (x ≡ w)) ⊎ ((j ≢ i) × (slice_get s.thread_states j ≡ Some x)) =
    λ j x e. shown_cases s.thread_states i v w j x shows (subst (λ z. slice_get z j ≡ Some x) owes.thread_states e) in
    let apart : (j : ℕ) (x : ThreadState) → j ≢ i → slice_get s.thread_states j ≡ Some x → x.thread ≢ v.thread =
    λ j x differ e same. differ (next_same j i (sym (are.threads j x e) ∙ same ∙ are.threads i v shows)) in
    record {
      as_many = ap length owes.thread_states ∙ length-set s.thread_states i w ∙ are.as_many;
      threads = λ j x e. elim (split j x e) [
        | inl k ↦ ap (λ z. z.thread) k.1 ∙ owes.thread ∙ are.threads i v shows ∙ ap (λ z. z + 1) (sym k.0)
        | inr k ↦ are.threads j x k.1
      ];
      each = λ j x e. elim (split j x e) [
        | inl k ↦ subst (HasCalled b after) (sym k.1) owes.called
        | inr k ↦ called_kept b s after x owes.keeps (owes.others x.thread (apart j x k.0 k.1)) (are.each j x k.1)
      ];
      word = λ set. elim (owes.sets set) [
        | inr sets ↦ (i, w, here, sets)
        | inl was ↦ from_before (are.word was) here apart
      ];
    }
  where
    next_same : (j i : ℕ) → j + 1 ≡ i + 1 → j ≡ i
    next_same j i e = omega arith

    decide : (j i : ℕ) → (j ≡ i) ⊎ (j ≢ i)
    decide zero zero = inl refl
    decide zero (suc i) = inr (λ e. absurd (omega arith))
    decide (suc j) zero = inr (λ e. absurd (omega arith))
    decide (suc j) (suc i) = elim (decide j i) [ inl e ↦ inl (ap suc e) | inr e ↦ inr (λ k. e (omega arith)) ]

    from_before : (j : ℕ) × (x : ThreadState) × (slice_get s.thread_states j ≡ Some x) × SetsPauseWord s x x.stage → slice_get after.thread_states i ≡ Some w
        → ((j : ℕ) (x : ThreadState) → j ≢ i → slice_get s.thread_states j ≡ Some x → x.thread ≢ v.thread)
        → (j : ℕ) × (x : ThreadState) × (slice_get after.thread_states j ≡ Some x) × SetsPauseWord after x x.stage
    from_before (j, x, e, sets) here apart = elim (decide j i) [
      | inl same ↦
          let is_v : x ≡ v = thread_state_same x v (sym e ∙ ap (slice_get s.thread_states) same ∙ shows) in
          (i, w, here, owes.still_sets (subst (λ z. SetsPauseWord s z z.stage) is_v sets))
      | inr differ ↦ (
        j,
        x,
        subst (λ z. slice_get z j ≡ Some x) (sym owes.thread_states) (set_elsewhere s.thread_states i j w differ ∙ e),
        sets_kept s after x x.stage (owes.others x.thread (apart j x differ e)) sets,
      )
    ]
      where
        thread_state_same : (a c : ThreadState) → Some a ≡ Some c → a ≡ c
        thread_state_same a c e = cc

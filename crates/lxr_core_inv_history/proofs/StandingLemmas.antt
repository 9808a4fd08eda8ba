-- What an event owes where an operation comes to stand in the history, and where none does.
use Rattle.std.proofs.Common.{◌≡◌, ◌≢◌, ℕ, suc, ◌+◌, ◌≤◌, refl, sym, ap, subst, ◌∙◌, inl, inr, ◌⊎◌, arith, Bool, true, false, List, [], ◌∷◌, ◌++◌, IsTrue, length, length-append, take, nat_eq}
use Rattle.std.specs.Prelude.{Some, slice_get, slice_set, ◌||◌, if◌then◌else◌}
use Rattle.std.proofs.lemmas.Option.{slice_get_within}
use Rattle.lxr_layout.specs.declared.TheConstants.{FREE_BLOCK_COUNT, FREE_BLOCK_CURSOR, PAUSE_WORD}
use Rattle.lxr_layout.specs.declared.LogEntry.{LogEntry}
use Rattle.lxr_layout.specs.declared.Name.{Name}
use Rattle.lxr_layout.specs.declared.Place.{Place}
use Rattle.lxr_base.specs.Roomy.{Roomy}
use Rattle.lxr_graph.specs.declared.Op.{Op}
use Rattle.lxr_graph.specs.declared.Reply.{Reply}
use Rattle.lxr_graph.specs.History.{Call, Item, calls_of, replies_of}
use Rattle.lxr_graph.specs.Names.{has}
use Rattle.lxr_graph.specs.Step.{step}
use Rattle.lxr_graph.proofs.NameSets.{not_both}
use Rattle.lxr_model.specs.Belongs.{asks_for_pause, calls_since_pause, has_asked}
use Rattle.lxr_model.specs.Moments.{moment}
use Rattle.lxr_model_counting.specs.Following.{FollowsPause}
use Rattle.lxr_model_counting.proofs.FollowingLemmas.{call_follows}
use Rattle.lxr_model_counting.proofs.ReplyLemmas.{step_reply}
use Rattle.lxr_invariant.specs.AbstractState.{members}
use Rattle.lxr_invariant.proofs.EntryLemmas.{equal_numbers, same_number}
use Rattle.lxr_invariant.proofs.NameLemmas.{or_nothing}
use Rattle.lxr_alloc.specs.declared.Spans.{Spans}
use Rattle.lxr_core_invariant.specs.ThreadStates.{Intent, Reason, Stage, ThreadState, all_of, is_end}
use Rattle.lxr_core_invariant.specs.ThreadStates.{Rests, Works, Names, Through}
use Rattle.lxr_core_invariant.specs.ThreadStates as why
use Rattle.lxr_core_invariant.specs.EpochStates.{Beginning, Extends, IsStepCall, EpochState, called, limits_of, moment_of}
use Rattle.lxr_core_invariant.specs.Events.{Does, done_with}
use Rattle.lxr_core_invariant.specs.Happening.{with_call}
use Rattle.lxr_core_invariant.specs.Called.{AreCalled, IsWithinTurn, HasCalled, SetsPauseWord}
use Rattle.lxr_core_invariant.specs.Epoch.{IsEpoch}
use Rattle.lxr_core_invariant.specs.Laws.{HasHistory, RepliesAs}
use Rattle.lxr_core_invariant.proofs.ActingLemmas.{acts}
use Rattle.lxr_core_invariant.proofs.ShowingLemmas.{op_formed}
use Rattle.lxr_core_inv_history.proofs.CallLemmas.{SaySame, members_stay, other_call, own_asked, own_calls, own_replies, own_since, says_same, take_next}
use Rattle.lxr_core_inv_history.proofs.BusyLemmas.{IsBusy, end_is_last, ends_by, others_before_end}
use Rattle.lxr_core_inv_history.proofs.KeepLemmas.{Keeps, all_called, asking_sets}

-- ---- the history goes on

-- the thread of a mutator is one of the threads
pub thread_within : (b : Beginning) (s : EpochState) (i : ℕ) (v : ThreadState) → AreCalled b s → slice_get s.thread_states i ≡ Some v → (1 ≤ v.thread) × (v.thread ≤ (limits_of b).threads)
thread_within b s i v are shows =
    let number = are.threads i v shows in
    let many = are.as_many in
    let within = slice_get_within s.thread_states i v shows in
    (omega (arith, number), omega (arith, number, many, within))

-- a busy mutator's operation may stand next
pub step_call : (b : Beginning) (s : EpochState) (i : ℕ) (v : ThreadState) (o : Op) → IsEpoch b s → slice_get s.thread_states i ≡ Some v → IsBusy b s v → Does v o
    → IsStepCall (limits_of b).threads b.every s.history v.thread o (step (moment_of b s).state v.thread o).1
step_call b s i v o is shows busy does =
    let has = is.called.each i v shows in
    let every = has.every in
    let turn = busy.turn in
    let short = busy.short in
    let before = has.before in
    record {
      thread = thread_within b s i v is.called shows;
      formed = op_formed v o has.formed does;
      reply = refl;
      unasked = busy.unasked;
      turn = omega (arith, every, turn, short, before);
    }

-- a history goes on from that of the beginning, and leads to what follows the last pause
record GoesOnBy (b : Beginning) (h : List Item) : Type 0 where
  extends : Extends (limits_of b).threads b.every b.history h
  lives : FollowsPause (moment (limits_of b).threads h)

-- with it the history goes on by a step
history_goes_on : (b : Beginning) (s : EpochState) (i : ℕ) (v : ThreadState) (o : Op) → IsEpoch b s → slice_get s.thread_states i ≡ Some v → IsBusy b s v → Does v o → GoesOnBy b (with_call b s v o)
history_goes_on b s i v o is shows busy does =
    let may = step_call b s i v o is shows busy does in
    let known = acts b s i v is shows in
    record {
      extends = called s.history v.thread o (step (moment_of b s).state v.thread o).1 is.extends may;
      lives = call_follows (moment_of b s) v.thread o (step (moment_of b s).state v.thread o).1 is.lives may.formed
          (step_reply (moment_of b s).state v.thread o known.row known.thread);
    }

-- ---- what the history says of the thread once its operation stands in it

-- the thread has one call and one reply more
pub record HasStood (after : EpochState) (v : ThreadState) (o : Op) (r : Reply) (before : ℕ) : Type 0 where
  pub calls : calls_of v.thread after.history ≡ take (length v.replies + 1) (all_of v.operations)
  pub replies : replies_of v.thread after.history ≡ v.replies ++ r ∷ []
  pub since : calls_since_pause v.thread after.history ≡ suc before
  pub asked : has_asked v.thread after.history ≡ asks_for_pause o

-- so it is once the operation stands
pub has_stood : (b : Beginning) (s after : EpochState) (v : ThreadState) (o : Op) (r : Reply) → IsBusy b s v → Does v o → after.history ≡ Call v.thread o r ∷ s.history
    → HasStood after v o r (calls_since_pause v.thread s.history)
has_stood b s after v o r busy does history = record {
  calls = ap (calls_of v.thread) history ∙ own_calls v.thread o r s.history ∙ ap (λ z. z ++ o ∷ []) busy.calls ∙ sym (take_next (all_of v.operations) (length v.replies) o does);
  replies = ap (replies_of v.thread) history ∙ own_replies v.thread o r s.history ∙ ap (λ z. z ++ r ∷ []) busy.replies;
  since = ap (calls_since_pause v.thread) history ∙ own_since v.thread o r s.history;
  asked = ap (has_asked v.thread) history ∙ own_asked v.thread o r s.history ∙ ap (λ z. asks_for_pause o || z) busy.unasked ∙ or_nothing (asks_for_pause o);
}

-- ---- what is shown once an operation is done

-- the thread state by whether the operation was the end, and whether it was the last one that the mutator may do
abbrev pub done_by : ThreadState → List Place → Reply → Bool → Bool → ThreadState
done_by v registers r ended last = record v {
  registers = registers;
  replies = v.replies ++ r ∷ [];
  since = if ended then v.since else (v.since + 1);
  stage = if ended then (Through why.Ended) else (if last then (Through why.Turns) else Rests);
}

-- what holds of the mutator then
done_called : (b : Beginning) (s after : EpochState) (v : ThreadState) (registers : List Place) (o : Op) (r : Reply) (ended last : Bool) → HasCalled b s v → IsBusy b s v → Does v o
    → HasStood after v o r (calls_since_pause v.thread s.history) → (IsTrue (asks_for_pause o) → after.tables.cursors PAUSE_WORD ≡ 1) → is_end o ≡ ended → nat_eq (v.since + 1) v.every ≡ last
    → HasCalled b after (done_by v registers r ended last)
done_called b s after v registers o r true last has busy does stood asks is_ended is_last =
    let longer : length (v.replies ++ r ∷ []) ≡ length v.replies + 1 = length-append v.replies (r ∷ []) in
    let since = stood.since in
    let counted = busy.counted in
    let short = busy.short in
    let turn = busy.turn in
    let end : length v.replies ≡ length v.operations = end_is_last v.operations (length v.replies) has.endless (does ∙ ap Some (ends_by o is_ended)) in
    record {
      formed = has.formed;
      endless = has.endless;
      few = has.few;
      began = has.began;
      few_began = has.few_began;
      every = has.every;
      before = has.before;
      calls = stood.calls ∙ ap (λ w. take w (all_of v.operations)) (omega (arith, longer));
      replies = stood.replies;
      counted = omega (arith, since, counted);
      short = omega (arith, since, short);
      asked = λ k. asks (sym stood.asked ∙ k);
      within_turn = (omega (arith, turn), omega (arith, longer, end), longer ∙ ap (λ z. z + 1) end);
    }
done_called b s after v registers o r false true has busy does stood asks is_ended is_last =
    let longer : length (v.replies ++ r ∷ []) ≡ length v.replies + 1 = length-append v.replies (r ∷ []) in
    let since = stood.since in
    let counted = busy.counted in
    let short = busy.short in
    let turn = busy.turn in
    let full = equal_numbers (v.since + 1) v.every is_last in
    let before = others_before_end v.operations (length v.replies) o does is_ended in
    record {
      formed = has.formed;
      endless = has.endless;
      few = has.few;
      began = has.began;
      few_began = has.few_began;
      every = has.every;
      before = has.before;
      calls = stood.calls ∙ ap (λ w. take w (all_of v.operations)) (omega (arith, longer));
      replies = stood.replies;
      counted = omega (arith, since, counted);
      short = omega (arith, since, short);
      asked = λ k. asks (sym stood.asked ∙ k);
      within_turn = (omega (arith, turn), omega (arith, longer, before), (full, omega (arith, longer, before)));
    }
done_called b s after v registers o r false false has busy does stood asks is_ended is_last =
    let longer : length (v.replies ++ r ∷ []) ≡ length v.replies + 1 = length-append v.replies (r ∷ []) in
    let since = stood.since in
    let counted = busy.counted in
    let short = busy.short in
    let turn = busy.turn in
    let more : v.since + 1 ≢ v.every = λ e. not_both (nat_eq (v.since + 1) v.every) (same_number (v.since + 1) v.every e) is_last in
    let before = others_before_end v.operations (length v.replies) o does is_ended in
    record {
      formed = has.formed;
      endless = has.endless;
      few = has.few;
      began = has.began;
      few_began = has.few_began;
      every = has.every;
      before = has.before;
      calls = stood.calls ∙ ap (λ w. take w (all_of v.operations)) (omega (arith, longer));
      replies = stood.replies;
      counted = omega (arith, since, counted);
      short = omega (arith, since, short);
      asked = λ k. asks (sym stood.asked ∙ k);
      within_turn = (omega (arith, turn, more), omega (arith, longer, before));
    }

-- ---- an operation stands

-- What an event of a standing operation does beside: members stay where they are, no block comes or goes, and the pause word
-- is set just where the operation asks for a pause.
pub record Beside (b : Beginning) (s after : EpochState) (o : Op) : Type 0 where
  pub places : (n : Name) → IsTrue (has (members (moment_of b s)) n) → after.at n ≡ s.at n
  pub blocks : (after.tables.cursors FREE_BLOCK_CURSOR ≡ s.tables.cursors FREE_BLOCK_CURSOR) × (after.tables.cursors FREE_BLOCK_COUNT ≡ s.tables.cursors FREE_BLOCK_COUNT)
  pub word : s.tables.cursors PAUSE_WORD ≡ 1 → after.tables.cursors PAUSE_WORD ≡ 1
  pub set_by : after.tables.cursors PAUSE_WORD ≡ 1 → (s.tables.cursors PAUSE_WORD ≡ 1) ⊎ IsTrue (asks_for_pause o)
  pub asks : IsTrue (asks_for_pause o) → after.tables.cursors PAUSE_WORD ≡ 1

-- a call leaves members where they are
call_keeps : (b : Beginning) (s after : EpochState) (v : ThreadState) (o : Op) → Beside b s after o → after.history ≡ with_call b s v o → Keeps b s after
call_keeps b s after v o beside history =
    let same = beside.blocks in
    record {
      members = λ n member. (
        subst (λ h. IsTrue (has (members (moment (limits_of b).threads h)) n)) (sym history) (members_stay (moment_of b s) v.thread o (step (moment_of b s).state v.thread o).1 n member),
        beside.places n member,
      );
      word = beside.word;
      blocks = λ k. omega (arith, k, same.0, same.1);
    }

-- an operation stands in the history: the rest follows from what holds of the mutator that did it
pub stands_history : (b : Beginning) (s after : EpochState) (i : ℕ) (v w : ThreadState) (o : Op) → IsEpoch b s → slice_get s.thread_states i ≡ Some v → IsBusy b s v → Does v o
    → after.history ≡ with_call b s v o → after.thread_states ≡ slice_set s.thread_states i w → w.thread ≡ v.thread → Beside b s after o → (Keeps b s after → HasCalled b after w) → HasHistory b after
stands_history b s after i v w o is shows busy does history thread_states thread beside owed =
    let on = history_goes_on b s i v o is shows busy does in
    let keeps = call_keeps b s after v o beside history in
    let reply : Reply = (step (moment_of b s).state v.thread o).1 in
    let stood = has_stood b s after v o reply busy does history in
    let asking : IsTrue (asks_for_pause o) → SetsPauseWord after w w.stage = λ k. asking_sets after w w.stage (subst (λ t. IsTrue (has_asked t after.history)) (sym thread) (stood.asked ∙ k)) in
    record {
      extends = subst (Extends (limits_of b).threads b.every b.history) (sym history) on.extends;
      lives = subst (λ h. FollowsPause (moment (limits_of b).threads h)) (sym history) on.lives;
      called = all_called b s after i v w is.called shows (record {
        thread_states = thread_states;
        thread = thread;
        keeps = keeps;
        others = λ t differ. subst (SaySame t s.history) (sym history) (other_call t v.thread o reply s.history differ);
        called = owed keeps;
        sets = λ set. elim (beside.set_by set) [ inl was ↦ inl was | inr asked ↦ inr (asking asked) ];
        still_sets = λ sets. not_both (has_asked v.thread s.history) (busy.idle sets) busy.unasked;
      });
    }

-- the operation is done by it
pub done_history : (b : Beginning) (s after : EpochState) (i : ℕ) (v : ThreadState) (registers : List Place) (o : Op) (r : Reply) → IsEpoch b s → slice_get s.thread_states i ≡ Some v → IsBusy b s v → Does v o
    → RepliesAs b s v o r → after.history ≡ with_call b s v o → after.thread_states ≡ slice_set s.thread_states i (done_with (record v { registers = registers }) o r) → Beside b s after o → HasHistory b after
done_history b s after i v registers o r is shows busy does reply history thread_states beside =
    let here : after.history ≡ Call v.thread o r ∷ s.history = history ∙ ap (λ z. Call v.thread o z ∷ s.history) reply in
    let stood = has_stood b s after v o r busy does here in
    stands_history b s after i v (done_with (record v { registers = registers }) o r) o is shows busy does history thread_states refl beside
    (λ keeps. done_called b s after v registers o r (is_end o) (nat_eq (v.since + 1) v.every) (is.called.each i v shows) busy does stood beside.asks refl refl)

-- ---- no operation stands

-- What an event without a standing operation leaves as it is.
pub record Quiet (s after : EpochState) : Type 0 where
  pub history : after.history ≡ s.history
  pub places : (n : Name) → after.at n ≡ s.at n
  pub blocks : (s.tables.cursors FREE_BLOCK_CURSOR ≤ after.tables.cursors FREE_BLOCK_CURSOR) × (after.tables.cursors FREE_BLOCK_COUNT ≡ s.tables.cursors FREE_BLOCK_COUNT)
  pub word : s.tables.cursors PAUSE_WORD ≡ 1 → after.tables.cursors PAUSE_WORD ≡ 1

-- nothing else changes
quiet_keeps : (b : Beginning) (s after : EpochState) → Quiet s after → Keeps b s after
quiet_keeps b s after quiet =
    let same = quiet.blocks in
    record {
      members = λ n member. (subst (λ h. IsTrue (has (members (moment (limits_of b).threads h)) n)) (sym quiet.history) member, quiet.places n);
      word = quiet.word;
      blocks = λ k. omega (arith, k, same.0, same.1);
    }

-- the history says the same of every thread
quiet_same : (s after : EpochState) (t : ℕ) → Quiet s after → SaySame t s.history after.history
quiet_same s after t quiet = subst (SaySame t s.history) (sym quiet.history) (says_same t s.history)

-- no operation stands: the rest follows from what holds of the mutator
pub quiet_history : (b : Beginning) (s after : EpochState) (i : ℕ) (v w : ThreadState) → IsEpoch b s → slice_get s.thread_states i ≡ Some v → Quiet s after → after.thread_states ≡ slice_set s.thread_states i w → w.thread ≡ v.thread
    → (SetsPauseWord s v v.stage → IsTrue (has_asked v.thread s.history)) → (after.tables.cursors PAUSE_WORD ≡ 1 → (s.tables.cursors PAUSE_WORD ≡ 1) ⊎ SetsPauseWord after w w.stage)
    → (SaySame v.thread s.history after.history → HasCalled b after w) → HasHistory b after
quiet_history b s after i v w is shows quiet thread_states thread idle sets owed =
    let same = quiet_same s after v.thread quiet in
    record {
      extends = subst (Extends (limits_of b).threads b.every b.history) (sym quiet.history) is.extends;
      lives = subst (λ h. FollowsPause (moment (limits_of b).threads h)) (sym quiet.history) is.lives;
      called = all_called b s after i v w is.called shows (record {
        thread_states = thread_states;
        thread = thread;
        keeps = quiet_keeps b s after quiet;
        others = λ t differ. quiet_same s after t quiet;
        called = owed same;
        sets = sets;
        still_sets = λ before. asking_sets after w w.stage (subst (λ t. IsTrue (has_asked t after.history)) (sym thread) (same.asked ∙ idle before));
      });
    }

-- a busy mutator goes on with its operation
abbrev pub working : ThreadState → Roomy LogEntry → Spans → Intent → ThreadState
working v log spans intent = record v { log = log; spans = spans; stage = Works intent }

-- so the history is kept
pub works_history : (b : Beginning) (s after : EpochState) (i : ℕ) (v : ThreadState) (log : Roomy LogEntry) (spans : Spans) (intent : Intent) → IsEpoch b s → slice_get s.thread_states i ≡ Some v → IsBusy b s v
    → Quiet s after → after.tables.cursors PAUSE_WORD ≡ s.tables.cursors PAUSE_WORD → after.thread_states ≡ slice_set s.thread_states i (working v log spans intent) → IsWithinTurn after (working v log spans intent) (Works intent)
    → HasHistory b after
works_history b s after i v log spans intent is shows busy quiet word thread_states on =
    let has = is.called.each i v shows in
    let counted = busy.counted in
    let short = busy.short in
    quiet_history b s after i v (working v log spans intent) is shows quiet thread_states refl busy.idle (λ set. inl (sym word ∙ set)) (λ same.
    let since = same.since in
    record {
      formed = has.formed;
      endless = has.endless;
      few = has.few;
      began = has.began;
      few_began = has.few_began;
      every = has.every;
      before = has.before;
      calls = same.calls ∙ busy.calls ∙ ap (λ k. take k (all_of v.operations)) (omega arith);
      replies = same.replies ∙ busy.replies;
      counted = omega (arith, since, counted);
      short = omega (arith, since, short);
      asked = λ k. quiet.word (has.asked (sym same.asked ∙ k));
      within_turn = on;
    })

-- Where all mutators rest: what the history has of each thread. Where a pause is wanted: its cause.
use Rattle.std.proofs.Common.{◌≡◌, ◌≢◌, ℕ, refl, sym, ap, subst, ◌∙◌, inl, inr, arith, length, take}
use Rattle.std.specs.Prelude.{Option, Some, None, IsTrue, slice_get}
use Rattle.std.proofs.lemmas.List.{length-take-le}
use Rattle.std.proofs.lemmas.Option.{slice_get_within}
use Rattle.lxr_layout.specs.declared.TheConstants.{PAUSE_WORD}
use Rattle.lxr_graph.specs.declared.Op.{Op}
use Rattle.lxr_graph.specs.declared.Op.TheVariants as op
use Rattle.lxr_model.specs.Belongs.{writes_reference}
use Rattle.lxr_core_invariant.specs.ThreadStates.{Reason, Stage, ThreadState, all_of, op_now, Rests, Works, Names, Through}
use Rattle.lxr_core_invariant.specs.ThreadStates as why
use Rattle.lxr_core_invariant.specs.EpochStates.{Beginning, EpochState}
use Rattle.lxr_core_invariant.specs.Events.{Does}
use Rattle.lxr_core_invariant.specs.Called.{IsWithinTurn, SetsPauseWord}
use Rattle.lxr_core_invariant.specs.Epoch.{IsEpoch, IsResting}
use Rattle.lxr_core_invariant.specs.Through.{CallsAreBeginnings, CausesPause, HasCause, IsAsHistory, RestIsHistory, WantedHasCause, next_by}
use Rattle.lxr_core_invariant.proofs.RestLemmas.{all_replied, none_waits}
use Rattle.lxr_core_inv_history.proofs.StandingLemmas.{thread_within}

-- ---- calls and replies

-- calls are a beginning of the operations
pub calls_are_beginnings : CallsAreBeginnings
calls_are_beginnings b s i v is shown = (is.called.each i v shown).calls

-- what a mutator that rests has called and replied
rest_calls : (b : Beginning) (s : EpochState) (i : ℕ) (v : ThreadState) → IsEpoch b s → slice_get s.thread_states i ≡ Some v → IsResting v.stage → IsAsHistory s v
rest_calls b s i v is shown rests =
    let has = is.called.each i v shown in
    let none = none_waits v.stage rests in
    record { calls = has.calls ∙ ap (λ k. take k (all_of v.operations)) (omega (arith, none)); replies = all_replied b s v v.stage rests has.replies }

-- so it is of one that is through
through_calls : (b : Beginning) (s : EpochState) (i : ℕ) (v : ThreadState) (reason : Reason) → IsEpoch b s → slice_get s.thread_states i ≡ Some v → v.stage ≡ Through reason → IsAsHistory s v
through_calls b s i v reason is shown stage = rest_calls b s i v is shown (subst IsResting (sym stage) tt)

-- so it is where all rest
pub rest_is_history : RestIsHistory
rest_is_history b s i v is rest shown = rest_calls b s i v is shown (rest i v shown)

-- ---- the cause

-- the operation in progress is the one that the history tells to be next
next_is : (s : EpochState) (v : ThreadState) (o : Op) → IsAsHistory s v → Does v o → next_by s v ≡ Some o
next_is s v o told does =
    let within = slice_get_within (all_of v.operations) (length v.replies) o does in
    ap (slice_get (all_of v.operations)) (ap length told.calls ∙ length-take-le (length v.replies) (all_of v.operations) (omega (arith, within))) ∙ does

-- so it is where that writes a reference
writer_is_next : (s : EpochState) (v : ThreadState) (now : Option Op) → IsAsHistory s v → op_now v ≡ now → IsTrue (writes_reference now) → IsTrue (writes_reference (next_by s v))
writer_is_next s v None told is writes = absurd (cc)
writer_is_next s v (Some o) told is writes = subst (λ z. IsTrue (writes_reference z)) (sym (next_is s v o told is)) writes

-- a mutator that is a cause
causes : (b : Beginning) (s : EpochState) (i : ℕ) (v : ThreadState) → IsEpoch b s → slice_get s.thread_states i ≡ Some v → CausesPause b s v → HasCause b s
causes b s i v is shown cause = record { number = i; thread_state = v; shows = shown; thread = thread_within b s i v is.called shown; causes = cause }

-- one who gave up is a cause
no_run_causes : (b : Beginning) (s : EpochState) (i : ℕ) (v : ThreadState) → IsEpoch b s → slice_get s.thread_states i ≡ Some v → v.stage ≡ Through why.NoRun → HasCause b s
no_run_causes b s i v is shown stage =
    let on : IsWithinTurn s v (Through why.NoRun) = subst (IsWithinTurn s v) stage (is.called.each i v shown).within_turn in
    let new = on.2.0 in
    causes b s i v is shown (inr (inr (inl ((new.1.0, new.0, next_is s v (op.New new.1.0 new.0) (through_calls b s i v why.NoRun is shown stage) new.1.1), on.2.1))))

-- so is one whose log is full
log_full_causes : (b : Beginning) (s : EpochState) (i : ℕ) (v : ThreadState) → IsEpoch b s → slice_get s.thread_states i ≡ Some v → v.stage ≡ Through why.LogFull → HasCause b s
log_full_causes b s i v is shown stage =
    let on : IsWithinTurn s v (Through why.LogFull) = subst (IsWithinTurn s v) stage (is.called.each i v shown).within_turn in
    causes b s i v is shown (inr (inr (inr (writer_is_next s v (op_now v) (through_calls b s i v why.LogFull is shown stage) refl on.2.0, on.2.1))))

-- one who had its turn is a cause
turn_causes : (b : Beginning) (s : EpochState) (i : ℕ) (v : ThreadState) → IsEpoch b s → slice_get s.thread_states i ≡ Some v → v.stage ≡ Through why.Turns → HasCause b s
turn_causes b s i v is shown stage =
    let has = is.called.each i v shown in
    let on : IsWithinTurn s v (Through why.Turns) = subst (IsWithinTurn s v) stage has.within_turn in
    let full = on.2.0 in
    let every = has.every in
    let counted = has.counted in
    causes b s i v is shown (inr (inl (omega (arith, full, every, counted))))

-- where the pause word is set, who set it is a cause
setter_causes : (b : Beginning) (s : EpochState) (i : ℕ) (v : ThreadState) (stage : Stage) → IsEpoch b s → slice_get s.thread_states i ≡ Some v → v.stage ≡ stage → SetsPauseWord s v stage → HasCause b s
setter_causes b s i v (Through why.NoRun) is shown e sets = no_run_causes b s i v is shown e
setter_causes b s i v (Through why.LogFull) is shown e sets = log_full_causes b s i v is shown e
setter_causes b s i v (Through why.Asked) is shown e sets = causes b s i v is shown (inl sets)
setter_causes b s i v (Through why.Turns) is shown e sets = causes b s i v is shown (inl sets)
setter_causes b s i v (Through why.Ended) is shown e sets = causes b s i v is shown (inl sets)
setter_causes b s i v Rests is shown e sets = causes b s i v is shown (inl sets)
setter_causes b s i v (Works intent) is shown e sets = causes b s i v is shown (inl sets)
setter_causes b s i v (Names place) is shown e sets = causes b s i v is shown (inl sets)

-- where the pause word is set, there is a cause
word_causes : (b : Beginning) (s : EpochState) → IsEpoch b s → s.tables.cursors PAUSE_WORD ≡ 1 → HasCause b s
word_causes b s is set = let by = is.called.word set in setter_causes b s by.0 by.1 by.1.stage is by.2 refl by.3

-- one who is through for another reason than its end tells of one
cut_short_causes : (b : Beginning) (s : EpochState) (i : ℕ) (v : ThreadState) (reason : Reason) → IsEpoch b s → slice_get s.thread_states i ≡ Some v → v.stage ≡ Through reason → reason ≢ why.Ended → HasCause b s
cut_short_causes b s i v why.NoRun is shown stage unended = no_run_causes b s i v is shown stage
cut_short_causes b s i v why.LogFull is shown stage unended = log_full_causes b s i v is shown stage
cut_short_causes b s i v why.Asked is shown stage unended =
    let on : IsWithinTurn s v (Through why.Asked) = subst (IsWithinTurn s v) stage (is.called.each i v shown).within_turn in
    word_causes b s is on.2.0
cut_short_causes b s i v why.Turns is shown stage unended = turn_causes b s i v is shown stage
cut_short_causes b s i v why.Ended is shown stage unended = absurd (unended refl)

-- where a pause is wanted, all have ended, or there is a cause
pub wanted_has_cause : WantedHasCause
wanted_has_cause b s is (inl set) = inr (word_causes b s is set)
wanted_has_cause b s is (inr (inl (i, v, shown, cut))) = inr (cut_short_causes b s i v cut.0 is shown cut.1 cut.2)
wanted_has_cause b s is (inr (inr ended)) = inl ended

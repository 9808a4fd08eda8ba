-- An epoch whose history stays ends for want of lines, or all had ended before.
use Rattle.std.proofs.Common.{◌≡◌, ◌≢◌, ℕ, ◌≤◌, refl, sym, ap, subst, ◌∙◌, inl, inr, ◌⊎◌, arith, false, [], length}
use Rattle.std.specs.Prelude.{IsTrue, Some, slice_get}
use Rattle.lxr_layout.specs.declared.TheConstants.{PAUSE_WORD}
use Rattle.lxr_graph.proofs.NameSets.{not_both}
use Rattle.lxr_model.specs.Belongs.{calls_since_pause, has_asked}
use Rattle.lxr_model.specs.Moments.{moment}
use Rattle.lxr_core_invariant.specs.ThreadStates.{Reason, Stage, ThreadState, Rests, Works, Names, Through}
use Rattle.lxr_core_invariant.specs.ThreadStates as why
use Rattle.lxr_core_invariant.specs.EpochStates.{Beginning, EpochState, limits_of, moment_of}
use Rattle.lxr_core_invariant.specs.Called.{IsWithinTurn, HasReason, SetsPauseWord}
use Rattle.lxr_core_invariant.specs.Epoch.{IsEpoch}
use Rattle.lxr_core_invariant.specs.Laws.{HasClosingLogs}
use Rattle.lxr_core_invariant.specs.Through.{AllEnded, IsPauseWanted}
use Rattle.lxr_core_invariant.proofs.ActingLemmas.{same_or_longer}
use Rattle.lxr_core_close.specs.Cause.{EpochHasProgress, LacksLines}

-- an epoch whose history stayed
record IsIdle (b : Beginning) (s : EpochState) : Type 0 where
  is : IsEpoch b s
  closing : HasClosingLogs b s
  unasked : (t : ℕ) → has_asked t b.history ≡ false
  some : 1 ≤ b.every
  history : s.history ≡ b.history

-- what a mutator is through for is so
reason_of : (b : Beginning) (s : EpochState) (i : ℕ) (v : ThreadState) (reason : Reason) → IsIdle b s → slice_get s.thread_states i ≡ Some v → v.stage ≡ Through reason → HasReason s v reason
reason_of b s i v reason idle shown stage = (subst (IsWithinTurn s v) stage (idle.is.called.each i v shown).within_turn).2

-- no log is full, since nothing was stored to
no_log_full : {P : Type 0} (b : Beginning) (s : EpochState) (i : ℕ) (v : ThreadState) → IsIdle b s → slice_get s.thread_states i ≡ Some v → v.stage ≡ Through why.LogFull → P
no_log_full b s i v idle shown stage =
    let full = (reason_of b s i v why.LogFull idle shown stage).1 in
    let few = idle.closing.few i v shown in
    let room = (idle.is.logged.rooms i v shown).0 in
    let log = idle.is.begins.between.safepoint.holds.space.limits.log.0 in
    let written : (moment_of b s).written ≡ [] =
    ap (λ h. (moment (limits_of b).threads h).written) idle.history ∙ ap (λ m. m.written) (sym idle.is.begins.moment) ∙ idle.is.begins.between.unwritten in
    let none = ap length written in
    absurd (omega (arith, full, few, room, log, none))

-- nobody had its turn, since nobody did anything
no_turn : {P : Type 0} (b : Beginning) (s : EpochState) (i : ℕ) (v : ThreadState) → IsIdle b s → slice_get s.thread_states i ≡ Some v → v.stage ≡ Through why.Turns → P
no_turn b s i v idle shown stage =
    let has = idle.is.called.each i v shown in
    let full = (reason_of b s i v why.Turns idle shown stage).0 in
    let counted = has.counted in
    let every = has.every in
    let some = idle.some in
    let still = ap (calls_since_pause v.thread) idle.history in
    absurd (omega (arith, full, counted, every, some, still))

-- nobody has asked for a pause, since nobody did anything
none_asked : {P : Type 0} (b : Beginning) (s : EpochState) (v : ThreadState) → IsIdle b s → IsTrue (has_asked v.thread s.history) → P
none_asked b s v idle asked = absurd (not_both (has_asked v.thread s.history) asked (ap (has_asked v.thread) idle.history ∙ idle.unasked v.thread))

-- who set the pause word lacks lines
setter_lacks : (b : Beginning) (s : EpochState) (i : ℕ) (v : ThreadState) (stage : Stage) → IsIdle b s → slice_get s.thread_states i ≡ Some v → v.stage ≡ stage → SetsPauseWord s v stage → LacksLines s
setter_lacks b s i v (Through why.NoRun) idle shown stage sets = record { number = i; thread_state = v; shows = shown; stage = stage }
setter_lacks b s i v (Through why.LogFull) idle shown stage sets = no_log_full b s i v idle shown stage
setter_lacks b s i v (Through why.Asked) idle shown stage sets = none_asked b s v idle sets
setter_lacks b s i v (Through why.Turns) idle shown stage sets = none_asked b s v idle sets
setter_lacks b s i v (Through why.Ended) idle shown stage sets = none_asked b s v idle sets
setter_lacks b s i v Rests idle shown stage sets = none_asked b s v idle sets
setter_lacks b s i v (Works intent) idle shown stage sets = none_asked b s v idle sets
setter_lacks b s i v (Names place) idle shown stage sets = none_asked b s v idle sets

-- where the pause word is set, a mutator lacks lines
word_lacks : (b : Beginning) (s : EpochState) → IsIdle b s → s.tables.cursors PAUSE_WORD ≡ 1 → LacksLines s
word_lacks b s idle set = let by = idle.is.called.word set in setter_lacks b s by.0 by.1 by.1.stage idle by.2 refl by.3

-- so it is where one is through for another reason than its end
cut_short_lacks : (b : Beginning) (s : EpochState) (i : ℕ) (v : ThreadState) (reason : Reason) → IsIdle b s → slice_get s.thread_states i ≡ Some v → v.stage ≡ Through reason → reason ≢ why.Ended → LacksLines s
cut_short_lacks b s i v why.NoRun idle shown stage unended = record { number = i; thread_state = v; shows = shown; stage = stage }
cut_short_lacks b s i v why.LogFull idle shown stage unended = no_log_full b s i v idle shown stage
cut_short_lacks b s i v why.Asked idle shown stage unended = word_lacks b s idle (reason_of b s i v why.Asked idle shown stage).0
cut_short_lacks b s i v why.Turns idle shown stage unended = no_turn b s i v idle shown stage
cut_short_lacks b s i v why.Ended idle shown stage unended = absurd (unended refl)

-- where a pause is wanted, a mutator lacks lines, or all have ended
lacks_or_ended : (b : Beginning) (s : EpochState) → IsIdle b s → IsPauseWanted s → LacksLines s ⊎ AllEnded s
lacks_or_ended b s idle (inl set) = inl (word_lacks b s idle set)
lacks_or_ended b s idle (inr (inl (i, v, shown, cut))) = inl (cut_short_lacks b s i v cut.0 idle shown cut.1 cut.2)
lacks_or_ended b s idle (inr (inr ended)) = inr ended

-- the history is longer, or the epoch was idle
pub epoch_has_progress : EpochHasProgress
epoch_has_progress b s is wanted closing unasked some = elim (same_or_longer (limits_of b).threads b.every b.history s.history is.extends) [
  | inr longer ↦ inl longer
  | inl still ↦ inr (lacks_or_ended b s (record { is = is; closing = closing; unasked = unasked; some = some; history = still }) wanted)
]

-- Right after a pause each epoch at whose end a pause is wanted brings a call, or a mutator finds no block.
use Rattle.std.proofs.Common.{◌≡◌, ℕ, zero, suc, ◌≤◌, refl, sym, ap, subst, ◌∙◌, inl, inr, arith, false, List, [], ◌∷◌, IsTrue, length, length-append, map}
use Rattle.std.specs.Prelude.{Some, slice_get}
use Rattle.std.proofs.lemmas.List.{length-map}
use Rattle.std.proofs.lemmas.List.Sorted.{length_permutation}
use Rattle.lxr_graph.specs.History.{Call, Item, Pause, Renew}
use Rattle.lxr_model.specs.Belongs.{calls_since_pause, has_asked}
use Rattle.lxr_model.specs.Moments.{Field, moment}
use Rattle.lxr_model_counting.specs.Distinct.{has_field}
use Rattle.lxr_model_counting.proofs.DistinctLemmas.{first_field}
use Rattle.lxr_invariant.specs.Standing.{entry_of}
use Rattle.lxr_core_invariant.specs.ThreadStates.{Stores, ThreadState, Works}
use Rattle.lxr_core_invariant.specs.EpochStates.{Beginning, EpochState, limits_of, moment_of}
use Rattle.lxr_core_invariant.specs.Logged.{logs_of, with_cleared}
use Rattle.lxr_core_invariant.specs.Epoch.{AreResting, IsEpoch, IsResting}
use Rattle.lxr_core_invariant.specs.Through.{EpochProgresses, HasCause, JustPaused, LacksSomeBlock}
use Rattle.lxr_core_invariant.proofs.ActingLemmas.{same_or_longer}
use Rattle.lxr_core_inv_history.proofs.ThroughLemmas.{wanted_has_cause}

-- right after a pause no thread has asked for one or had a call
fresh_asked : (h : List Item) (t : ℕ) → JustPaused h → has_asked t h ≡ false
fresh_asked [] t fresh = refl
fresh_asked (Renew ns ∷ h) t fresh = refl
fresh_asked (Pause report ∷ h) t fresh = refl
fresh_asked (Call u o r ∷ h) t fresh = absurd fresh

-- nor has it had a call
fresh_calls : (h : List Item) (t : ℕ) → JustPaused h → calls_since_pause t h ≡ 0
fresh_calls [] t fresh = refl
fresh_calls (Renew ns ∷ h) t fresh = refl
fresh_calls (Pause report ∷ h) t fresh = refl
fresh_calls (Call u o r ∷ h) t fresh = absurd fresh

-- each log is a part of all logs
log_within : (thread_states : List ThreadState) (i : ℕ) (v : ThreadState) → slice_get thread_states i ≡ Some v → length v.log.items ≤ length (logs_of thread_states)
log_within [] i v e = absurd (cc)
log_within (w ∷ thread_states) zero v e =
    let is_v : w ≡ v = cc in
    let all = length-append w.log.items (logs_of thread_states) in
    let log = ap (λ z. length z.log.items) is_v in
    omega (arith, all, log)
log_within (w ∷ thread_states) (suc i) v e =
    let all = length-append w.log.items (logs_of thread_states) in
    let rest = log_within thread_states i v e in
    omega (arith, all, rest)

-- where all rest and nothing was stored to, logs are empty
logs_empty : (b : Beginning) (s : EpochState) → IsEpoch b s → AreResting s → (moment_of b s).written ≡ [] → length (logs_of s.thread_states) ≡ 0
logs_empty b s is rest none =
    length_permutation (map (entry_of (with_cleared (moment_of b s) s.cleared) s.at) s.cleared) (logs_of s.thread_states) is.logged.logs
    ∙ length-map s.cleared (entry_of (with_cleared (moment_of b s) s.cleared) s.at) ∙ none_cleared s.cleared refl
  where
    none_cleared : (fields : List Field) → s.cleared ≡ fields → length fields ≡ 0
    none_cleared [] e = refl
    none_cleared (w ∷ fields) e = absurd (elim (is.logged.cleared w.0 w.1 (subst (λ z. IsTrue (has_field z w)) (sym e) (first_field w fields))) [
      | inl written ↦ (let no : IsTrue (has_field [] w) = subst (λ z. IsTrue (has_field z w)) none written in cc)
      | inr being ↦ (let none : IsResting (Works (Stores (s.at w.0) w.1)) = subst IsResting being.stage (rest being.number being.thread_state being.shows) in none)
    ])

-- a cause without a call is the want of a block
idle_cause : (b : Beginning) (s : EpochState) → IsEpoch b s → AreResting s → JustPaused b.history → 1 ≤ b.every → 1 ≤ (limits_of b).log → s.history ≡ b.history → HasCause b s → LacksSomeBlock s
idle_cause b s is rest fresh turn room idle cause = elim cause.causes [
  | inl asked ↦ absurd (let no = fresh_asked b.history cause.thread_state.thread fresh in let yes = subst (λ h. IsTrue (has_asked cause.thread_state.thread h)) idle asked in cc)
  | inr others ↦ elim others [
    | inl full ↦ absurd (let none = ap (calls_since_pause cause.thread_state.thread) idle ∙ fresh_calls b.history cause.thread_state.thread fresh in omega (arith, full, none, turn))
    | inr lacks ↦ elim lacks [
      | inl block ↦ record { number = cause.number; thread_state = cause.thread_state; shows = cause.shows; lacks = block }
      | inr entry ↦ absurd (
          let none : (moment_of b s).written ≡ [] =
          ap (λ h. (moment (limits_of b).threads h).written) idle ∙ ap (λ m. m.written) (sym is.begins.moment) ∙ is.begins.between.unwritten in
          let empty = logs_empty b s is rest none in
          let within = log_within s.thread_states cause.number cause.thread_state cause.shows in
          let rooms = (is.logged.rooms cause.number cause.thread_state cause.shows).0 in
          let full = entry.1 in
          omega (arith, empty, within, rooms, full, room))
    ]
  ]
]

-- all have ended, or one lacks a block, or a call came
pub epoch_progresses : EpochProgresses
epoch_progresses b s is rest wanted fresh turn room = elim (wanted_has_cause b s is wanted) [
  | inl ended ↦ inl ended
  | inr cause ↦ elim (same_or_longer (limits_of b).threads b.every b.history s.history is.extends) [
    | inr longer ↦ inr (inr longer)
    | inl idle ↦ inr (inl (idle_cause b s is rest fresh turn room idle cause))
  ]
]

-- Old values in logs: what a log has stays in it, and is among those of all logs.
use Rattle.std.proofs.Common.{◌≡◌, ℕ, zero, suc, subst, inl, inr, ◌⊎◌, List, [], ◌∷◌, ◌++◌}
use Rattle.std.specs.Prelude.{Some, slice_get, slice_set}
use Rattle.lxr_layout.specs.declared.LogEntry.{LogEntry}
use Rattle.lxr_invariant.specs.Tracing.{IsOldValue}
use Rattle.lxr_core_invariant.specs.ThreadStates.{ThreadState}
use Rattle.lxr_core_invariant.specs.Logged.{logs_of}

-- ---- one list behind another

pub old_left : (xs ys : List LogEntry) (p : ℕ) → IsOldValue xs p → IsOldValue (xs ++ ys) p
old_left [] ys p (k, entry, there, old) = absurd (cc)
old_left (x ∷ xs) ys p (zero, entry, there, old) = (0, entry, there, old)
old_left (x ∷ xs) ys p (suc k, entry, there, old) = let q = old_left xs ys p (k, entry, there, old) in (suc q.0, q.1, q.2, q.3)

pub old_right : (xs ys : List LogEntry) (p : ℕ) → IsOldValue ys p → IsOldValue (xs ++ ys) p
old_right [] ys p old = old
old_right (x ∷ xs) ys p old = let q = old_right xs ys p old in (suc q.0, q.1, q.2, q.3)

old_in : (xs ys : List LogEntry) (p : ℕ) → IsOldValue (xs ++ ys) p → IsOldValue xs p ⊎ IsOldValue ys p
old_in [] ys p old = inr old
old_in (x ∷ xs) ys p (zero, entry, there, old) = inl (0, entry, there, old)
old_in (x ∷ xs) ys p (suc k, entry, there, old) = elim (old_in xs ys p (k, entry, there, old)) [ inl q ↦ inl (suc q.0, q.1, q.2, q.3) | inr q ↦ inr q ]

-- ---- all logs

-- a log that keeps its old values keeps those of all logs
pub old_stays : (thread_states : List ThreadState) (i : ℕ) (v w : ThreadState) (p : ℕ) → slice_get thread_states i ≡ Some v → (IsOldValue v.log.items p → IsOldValue w.log.items p) → IsOldValue (logs_of thread_states) p
    → IsOldValue (logs_of (slice_set thread_states i w)) p
old_stays [] i v w p shown keeps old = absurd (cc)
old_stays (x ∷ thread_states) zero v w p shown keeps old =
    let is : x ≡ v = cc in
    elim (old_in x.log.items (logs_of thread_states) p old) [
      | inl own ↦ old_left w.log.items (logs_of thread_states) p (keeps (subst (λ (z : ThreadState). IsOldValue z.log.items p) is own))
      | inr other ↦ old_right w.log.items (logs_of thread_states) p other
    ]
old_stays (x ∷ thread_states) (suc i) v w p shown keeps old = elim (old_in x.log.items (logs_of thread_states) p old) [
  | inl own ↦ old_left x.log.items (logs_of (slice_set thread_states i w)) p own
  | inr other ↦ old_right x.log.items (logs_of (slice_set thread_states i w)) p (old_stays thread_states i v w p shown keeps other)
]

-- what one log has, all have
pub old_joins : (thread_states : List ThreadState) (i : ℕ) (v w : ThreadState) (p : ℕ) → slice_get thread_states i ≡ Some v → IsOldValue w.log.items p → IsOldValue (logs_of (slice_set thread_states i w)) p
old_joins [] i v w p shown old = absurd (cc)
old_joins (x ∷ thread_states) zero v w p shown old = old_left w.log.items (logs_of thread_states) p old
old_joins (x ∷ thread_states) (suc i) v w p shown old = old_right x.log.items (logs_of (slice_set thread_states i w)) p (old_joins thread_states i v w p shown old)

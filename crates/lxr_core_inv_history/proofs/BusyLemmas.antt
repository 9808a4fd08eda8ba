-- What is known of a mutator that is in the middle of an operation which doesn't stand in the history yet, or that may
-- begin one.
use Rattle.std.proofs.Common.{◌≡◌, ◌≢◌, ℕ, zero, suc, ◌+◌, ◌<◌, ◌≤◌, refl, sym, ap, subst, ◌∙◌, arith, Bool, true, false, List, [], ◌∷◌, IsTrue, length, take}
use Rattle.std.specs.Prelude.{Some, slice_get, All}
use Rattle.std.proofs.lemmas.List.Elements.{All-head, All-tail}
use Rattle.lxr_layout.specs.declared.TheConstants.{PAUSE_WORD}
use Rattle.lxr_graph.specs.declared.Op.{Op}
use Rattle.lxr_graph.specs.declared.Op.TheVariants as op
use Rattle.lxr_graph.specs.History.{calls_of, replies_of}
use Rattle.lxr_model.specs.Belongs.{calls_since_pause, has_asked}
use Rattle.lxr_core_invariant.specs.ThreadStates.{Intent, Stage, ThreadState, all_of, is_end}
use Rattle.lxr_core_invariant.specs.ThreadStates.{GivesUp}
use Rattle.lxr_core_invariant.specs.ThreadStates.{Rests, Works}
use Rattle.lxr_core_invariant.specs.EpochStates.{Beginning, EpochState}
use Rattle.lxr_core_invariant.specs.Called.{AreReplies, IsWithinTurn, HasCalled, SetsPauseWord, uncounted, waiting_in}

-- it may do one more operation, hasn't asked for a pause, and none of its calls waits for its reply
pub record IsBusy (b : Beginning) (s : EpochState) (v : ThreadState) : Type 0 where
  pub turn : v.since < v.every
  pub left : length v.replies ≤ length v.operations
  pub unasked : has_asked v.thread s.history ≡ false
  pub calls : calls_of v.thread s.history ≡ take (length v.replies) (all_of v.operations)
  pub replies : replies_of v.thread s.history ≡ v.replies
  pub counted : v.since + calls_since_pause v.thread b.history ≤ calls_since_pause v.thread s.history
  pub short : calls_since_pause v.thread s.history ≤ v.since + calls_since_pause v.thread b.history
  pub idle : SetsPauseWord s v v.stage → IsTrue (has_asked v.thread s.history)

-- what of this it knows at a stage
record IsBusyAt (b : Beginning) (s : EpochState) (v : ThreadState) (stage : Stage) : Type 0 where
  turn : v.since < v.every
  left : length v.replies ≤ length v.operations
  unasked : has_asked v.thread s.history ≡ false
  replies : replies_of v.thread s.history ≡ v.replies
  waits : waiting_in stage ≡ 0
  uncounts : uncounted stage ≡ 0
  idle : SetsPauseWord s v stage → IsTrue (has_asked v.thread s.history)

-- and so it is busy
by_stage : (b : Beginning) (s : EpochState) (v : ThreadState) → HasCalled b s v → IsBusyAt b s v v.stage → IsBusy b s v
by_stage b s v has at =
    let waits = at.waits in
    let uncounts = at.uncounts in
    let counted = has.counted in
    let short = has.short in
    record {
      turn = at.turn;
      left = at.left;
      unasked = at.unasked;
      calls = has.calls ∙ ap (λ w. take w (all_of v.operations)) (omega (arith, waits));
      replies = at.replies;
      counted = omega (arith, counted);
      short = omega (arith, short, waits, uncounts);
      idle = at.idle;
    }

-- so it is at each stage in an operation
busy_intent : (b : Beginning) (s : EpochState) (v : ThreadState) (intent : Intent) → IsWithinTurn s v (Works intent) → AreReplies b s v (Works intent) → IsBusyAt b s v (Works intent)
busy_intent b s v (GivesUp reason) on replies = record { turn = on.0; left = on.1; unasked = on.2; replies = replies; waits = refl; uncounts = refl; idle = λ k. k }
busy_intent b s v intent on replies = record { turn = on.0; left = on.1; unasked = on.2; replies = replies; waits = refl; uncounts = refl; idle = λ k. k }

-- in an operation
pub busy_working : (b : Beginning) (s : EpochState) (v : ThreadState) (intent : Intent) → HasCalled b s v → v.stage ≡ Works intent → IsBusy b s v
busy_working b s v intent has is =
    by_stage b s v has (subst (IsBusyAt b s v) (sym is) (busy_intent b s v intent (subst (IsWithinTurn s v) is has.within_turn) (subst (AreReplies b s v) is has.replies)))

-- what never is true is false
false_of : (b : Bool) → (IsTrue b → ⊥) → b ≡ false
false_of true never = absurd (never refl)
false_of false never = refl

-- between two, where no pause is asked for
pub busy_resting : (b : Beginning) (s : EpochState) (v : ThreadState) → HasCalled b s v → v.stage ≡ Rests → s.tables.cursors PAUSE_WORD ≢ 1 → IsBusy b s v
busy_resting b s v has is unasked =
    let on : IsWithinTurn s v Rests = subst (IsWithinTurn s v) is has.within_turn in
    by_stage b s v has (subst (IsBusyAt b s v) (sym is) (record {
      turn = on.0;
      left = on.1;
      unasked = false_of (has_asked v.thread s.history) (λ k. unasked (has.asked k));
      replies = subst (AreReplies b s v) is has.replies;
      waits = refl;
      uncounts = refl;
      idle = λ k. k;
    }))

-- ---- the operation in progress

-- one option, one operation
some_same : (a b : Op) → Some a ≡ Some b → a ≡ b
some_same a b e = cc

-- the end alone ends
pub ends_by : (o : Op) → is_end o ≡ true → o ≡ op.End
ends_by op.End e = refl
ends_by (op.New dest shape) e = absurd (cc)
ends_by (op.Load dest base index) e = absurd (cc)
ends_by (op.Store base index source) e = absurd (cc)
ends_by (op.Put base index value) e = absurd (cc)
ends_by (op.Get base index) e = absurd (cc)
ends_by (op.Swap dest base index source) e = absurd (cc)
ends_by (op.Add base index value) e = absurd (cc)
ends_by (op.Move dest source) e = absurd (cc)
ends_by (op.Nil dest) e = absurd (cc)
ends_by (op.Same left right) e = absurd (cc)
ends_by op.Pause e = absurd (cc)
ends_by op.Collect e = absurd (cc)

-- the operation of a thread that is its end stands behind all others
pub end_is_last : (os : List Op) (k : ℕ) → All (λ o. o ≢ op.End) os → slice_get (all_of os) k ≡ Some op.End → k ≡ length os
end_is_last [] zero endless e = refl
end_is_last [] (suc k) endless e = absurd (cc)
end_is_last (x ∷ os) zero endless e = absurd (All-head (λ o. o ≢ op.End) x os endless (some_same x op.End e))
end_is_last (x ∷ os) (suc k) endless e = ap suc (end_is_last os k (All-tail (λ o. o ≢ op.End) x os endless) e)

-- any other operation stands before it
pub others_before_end : (os : List Op) (k : ℕ) (o : Op) → slice_get (all_of os) k ≡ Some o → is_end o ≡ false → k < length os
others_before_end [] zero o e other = absurd (cc)
others_before_end [] (suc k) o e other = absurd (cc)
others_before_end (x ∷ os) zero o e other = omega arith
others_before_end (x ∷ os) (suc k) o e other = let k = others_before_end os k o e other in omega (arith, k)

-- An order keeps each part of the invariant of an epoch.
use Rattle.std.proofs.Common.{◌≡◌, ◌≢◌, ℕ, ◌+◌, ◌≤◌, refl, sym, ap, subst, ◌∙◌, inl, inr, arith, true, List, [], ◌∷◌, ◌++◌, length}
use Rattle.std.specs.Prelude.{None, Option, Some, slice_get, slice_set, take}
use Rattle.std.proofs.lemmas.List.{length-append, take-append-le}
use Rattle.std.proofs.lemmas.List.Elements.{All-append, All-cons, All-nil}
use Rattle.lxr_graph.specs.declared.Op.{Op}
use Rattle.lxr_graph.specs.declared.Op.TheVariants as op
use Rattle.lxr_graph.specs.Step.{IsWellFormed}
use Rattle.lxr_model.specs.Moments.{Moment, Trace}
use Rattle.lxr_core_invariant.specs.ThreadStates.{Clears, Rests, Stores, ThreadState, Works, all_of}
use Rattle.lxr_core_invariant.specs.EpochStates.{Beginning, EpochState, limits_of, moment_of}
use Rattle.lxr_core_invariant.specs.Imaged.{HaveRegisters, HoldsRegisters, IsPlacedIn, Knows}
use Rattle.lxr_core_invariant.specs.Logged.{AreBitsAndLogs, logs_of}
use Rattle.lxr_core_invariant.specs.Covered.{SnapshotIsCoveredIn}
use Rattle.lxr_core_invariant.specs.Inside.{MarksStayInsideIn, StaysInsideWhile}
use Rattle.lxr_core_invariant.specs.Remembered.{AreRememberedIn, AreRememberedWhile}
use Rattle.lxr_core_invariant.specs.Drawn.{AreFixed, IsDrawnMemory, block_draws, run_draws}
use Rattle.lxr_core_invariant.specs.Called.{AreCalled, AreReplies, HasCalled, IsWithinTurn, SetsPauseWord, waiting_in}
use Rattle.lxr_core_invariant.specs.Epoch.{IsEpoch}
use Rattle.lxr_core_invariant.proofs.ShowingLemmas.{shown_cases}
use Rattle.lxr_core_inv_history.proofs.CallLemmas.{says_same}
use Rattle.lxr_core_inv_history.proofs.KeepLemmas.{all_called}
use Rattle.lxr_core_inv_heap.proofs.ImageStayLemmas.{quiet_placed}
use Rattle.lxr_core_inv_heap.proofs.LogsTurnLemmas.{logs_for, logs_from, turns_keep_logs}
use Rattle.lxr_core_inv_memory.proofs.CarryLemmas.{still_carries}
use Rattle.lxr_core_inv_memory.proofs.OwnerLemmas.{turns_still}
use Rattle.lxr_core_inv_memory.proofs.QuietLemmas.{idle, idle_kept, is_idle}
use Rattle.lxr_core_inv_memory.proofs.ThreadStateLemmas.{total_kept}
use Rattle.lxr_core_inv_trace.proofs.SnapshotHelperLemmas.{while_runs}
use Rattle.lxr_core_inv_trace.proofs.SnapshotOldLemmas.{old_stays}
use Rattle.lxr_core_inv_trace.proofs.SnapshotTurnLemmas.{turn_keeps_cover}
use Rattle.lxr_core.specs.Ordering.{MayBeOrdered, OrdersKeepEpochs, after_order, with_order}

-- a front of a list is one of the list with more behind it
same_front : (n : ℕ) (xs : List Op) (o : Op) → n ≤ length xs → take n (all_of xs) ≡ take n (all_of (xs ++ o ∷ []))
same_front n xs o few =
    let more : n ≤ length (xs ++ o ∷ []) = omega (arith, few, length-append xs (o ∷ [])) in
    take-append-le n xs (op.End ∷ []) few ∙ sym (take-append-le n xs (o ∷ []) few) ∙ sym (take-append-le n (xs ++ o ∷ []) (op.End ∷ []) more)

module _ (b : Beginning) (s : EpochState) (i : ℕ) (v : ThreadState) (o : Op) (is : IsEpoch b s) (shown : slice_get s.thread_states i ≡ Some v) (may : MayBeOrdered v o) where
  -- ---- the image

  placed : IsPlacedIn b (after_order s i v o)
  placed = quiet_placed b s i v (with_order v o) s.tables s.cleared is shown refl (subst (Knows s.tables (moment_of b s) s.at (with_order v o)) (sym may.stage) tt)

  registers : HaveRegisters b (after_order s i v o)
  registers j u now = elim (shown_cases s.thread_states i v (with_order v o) j u shown now) [
    | inl q ↦ subst (HoldsRegisters (moment_of b s).state s.at) (sym q.1) (let was = is.image.registers i v shown in record { as_many = was.as_many; places = was.places })
    | inr q ↦ is.image.registers j u q.1
  ]

  -- ---- logs

  logged : AreBitsAndLogs b (after_order s i v o)
  logged =
      let m : Moment = moment_of b s in
      logs_for b (after_order s i v o)
      (turns_keep_logs s.tables s.tables m m.state m.made s.at s.at s.cleared m.written s.thread_states (limits_of b).log i v (with_order v o) is.lives
      (record { starts = refl; marks = refl; grays = refl; dones = refl; unlogged = refl })
      (record { places = λ n h. refl; refs = λ n h. refl })
      (record {
        log = refl;
        were_cleared = is.logged.written;
        stay_written = λ n k h. h;
        stored = λ n k h stage. absurd (let e : Rests ≡ Works (Stores (s.at n) k) = sym may.stage ∙ stage in cc);
        clears = λ e stage. absurd (let same : Rests ≡ Works (Clears e) = sym may.stage ∙ stage in cc);
        stores = λ place index n stage member here. absurd (let e : Rests ≡ Works (Stores place index) = sym may.stage ∙ stage in cc);
      }) shown (logs_from b s is.logged))

  -- ---- the snapshot

  covered : SnapshotIsCoveredIn b (after_order s i v o)
  covered =
      let m : Moment = moment_of b s in
      while_runs b s (after_order s i v o) m.trace
      (λ trace runs. turn_keeps_cover s.tables s.tables m m.state m.made m.written s.at s.at (logs_of s.thread_states) (logs_of (slice_set s.thread_states i (with_order v o))) s.decrementers s.tracers is.lives
      (record {
        marks = refl;
        grays = refl;
        dones = refl;
        places = λ n h. refl;
        old = λ p. old_stays s.thread_states i v (with_order v o) p shown (λ old. old);
        waits = λ n p k h bit holds. inl (bit, holds);
      }) trace)
      is.covered

  inside_while : (runs : Option Trace) → StaysInsideWhile b s runs → StaysInsideWhile b (after_order s i v o) runs
  inside_while None holds = tt
  inside_while (Some trace) holds = holds

  inside : MarksStayInsideIn b (after_order s i v o)
  inside = inside_while (moment_of b s).trace is.inside

  remembered_while : (runs : Option Trace) → AreRememberedWhile b s runs → AreRememberedWhile b (after_order s i v o) runs
  remembered_while None holds = tt
  remembered_while (Some trace) holds = holds

  remembered : AreRememberedIn b (after_order s i v o)
  remembered = record {
    few_pauses = is.remembered.few_pauses;
    traced = remembered_while b.abstract_state.moment.trace is.remembered.traced;
    idle = λ unchosen. let idle = is.remembered.idle unchosen in record { none = idle.none; drawn = idle.drawn };
  }

  -- ---- memory

  drawn : IsDrawnMemory b (after_order s i v o)
  drawn =
      let rests : is_idle v.stage ≡ true = ap is_idle may.stage in
      let none = idle b v.stage rests in
      idle_kept b s (after_order s i v o) i v (with_order v o) is.drawn (turns_still s (after_order s i v o) i v (with_order v o) shown refl refl refl) (still_carries b s s.tables (slice_set s.thread_states i (with_order v o)) s.cleared)
      refl rests (record { runs = refl; blocks = refl }) (λ k _ h. none.unused k h) none.unmade

  fixed : AreFixed b (after_order s i v o)
  fixed = record {
    tables = is.fixed.tables;
    counts = is.fixed.counts;
    cursors = is.fixed.cursors;
    word = is.fixed.word;
    runs = total_kept (λ x. length x.replies + run_draws x.stage) s.thread_states i v (with_order v o) _ _ shown (omega arith) is.fixed.runs;
    blocks = total_kept (λ x. length x.replies + block_draws x.stage) s.thread_states i v (with_order v o) _ _ shown (omega arith) is.fixed.blocks;
  }

  -- ---- the history

  own : HasCalled b (after_order s i v o) (with_order v o)
  own =
      let has = is.called.each i v shown in
      let within : IsWithinTurn s v Rests = subst (IsWithinTurn s v) may.stage has.within_turn in
      let waits : waiting_in v.stage ≡ 0 = ap waiting_in may.stage in
      let short : length v.replies + waiting_in v.stage ≤ length v.operations = omega (arith, waits, within.1) in
      let more = length-append v.operations (o ∷ []) in
      record {
        formed = All-append IsWellFormed v.operations (o ∷ []) has.formed (All-cons IsWellFormed o [] may.formed (All-nil IsWellFormed));
        endless = All-append (λ x. x ≢ op.End) v.operations (o ∷ []) has.endless (All-cons (λ x. x ≢ op.End) o [] may.endless (All-nil (λ x. x ≢ op.End)));
        few = let few = may.few in omega (arith, more, few);
        began = has.began;
        few_began = has.few_began;
        every = has.every;
        calls = has.calls ∙ same_front (length v.replies + waiting_in v.stage) v.operations o short;
        replies = subst (AreReplies b (after_order s i v o) (with_order v o)) (sym may.stage) (subst (AreReplies b s v) may.stage has.replies);
        before = has.before;
        counted = has.counted;
        short = has.short;
        asked = has.asked;
        within_turn = subst (IsWithinTurn (after_order s i v o) (with_order v o)) (sym may.stage) (within.0, (let few = within.1 in omega (arith, more, few)));
      }

  called : AreCalled b (after_order s i v o)
  called = all_called b s (after_order s i v o) i v (with_order v o) is.called shown (record {
    thread_states = refl;
    thread = refl;
    keeps = record { members = λ n h. (h, refl); word = λ k. k; blocks = λ k. k };
    others = λ t differ. says_same t s.history;
    called = own;
    sets = λ set. inl set;
    still_sets = λ sets. subst (SetsPauseWord (after_order s i v o) (with_order v o)) (sym may.stage) (subst (SetsPauseWord s v) may.stage sets);
  })

  -- ---- all parts

  pub kept : IsEpoch b (after_order s i v o)
  kept = record {
    begins = is.begins;
    extends = is.extends;
    lives = is.lives;
    image = record { placed = placed; registers = registers };
    logged = logged;
    counted = is.counted;
    scanned = is.scanned;
    covered = covered;
    inside = inside;
    remembered = remembered;
    drawn = drawn;
    fixed = fixed;
    called = called;
  }

-- the law
pub orders_keep_epochs : OrdersKeepEpochs
orders_keep_epochs b s i v o is shown may = kept b s i v o is shown may

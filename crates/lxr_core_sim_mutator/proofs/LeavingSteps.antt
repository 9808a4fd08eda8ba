-- The steps that ask for a pause.
use Rattle.std.proofs.Common.{◌≡◌, ℕ, arith, refl, sym, subst, ap, ◌∙◌, inl, inr, ◌⊎◌}
use Rattle.std.specs.Prelude.{List, Some, slice_set}
use Rattle.lxr_layout.specs.declared.TheConstants.{PAUSE_WORD}
use Rattle.lxr_graph.specs.declared.Op.{Op}
use Rattle.lxr_graph.specs.declared.Op.TheVariants as op
use Rattle.lxr_graph.specs.declared.Reply.{Reply}
use Rattle.lxr_actor.specs.declared.Kindred.TheVariants as kind
use Rattle.lxr_core_access.specs.declared.Access.TheVariants.{PutCursor}
use Rattle.lxr_mutator.specs.declared.phases.MutatorPhase.TheVariants as phase
use Rattle.lxr_mutator.specs.declared.phases.Stop.{Stop}
use Rattle.lxr_mutator.specs.declared.phases.Stop.TheVariants as stop
use Rattle.lxr_mutator.specs.Mutating.{Mutating, op_now}
use Rattle.lxr_mutator.specs.Operating.{asked_reply}
use Rattle.lxr_mutator.specs.Steps.{end_by}
use Rattle.lxr_core_invariant.specs.Events as epoch
use Rattle.lxr_core_invariant.specs.Happening.{asked_by}
use Rattle.lxr_core_invariant.specs.EpochStates.{Beginning, EpochState, limits_of}
use Rattle.lxr_core_invariant.specs.ThreadStates.{Reason, Through}
use Rattle.lxr_mutator.specs.declared.phases.MutEnd.TheVariants as ends
use Rattle.lxr_core_sim_mutator.specs.Showing.{IsNew, reason_by, reason_of, thread_state_of}
use Rattle.lxr_core_sim_mutator.specs.Stepping.{ShowsAs, StepIsEvent}
use Rattle.lxr_core_sim_mutator.proofs.KeepingLemmas.{goes_on, no_end_now, now_shown, of_space, thread_state_done, to_done, to_finished}
use Rattle.lxr_core_sim_mutator.proofs.OutcomeLemmas.{by_access, in_phase, none_more, on_pause_word, one_more}

-- the reply of an operation that asks for a pause
asks : (o : Op) → (o ≡ op.Pause) ⊎ (o ≡ op.Collect) → asked_by o ≡ Some (asked_reply o)
asks o (inl e) = subst (λ z. asked_by z ≡ Some (asked_reply z)) (sym e) refl
asks o (inr e) = subst (λ z. asked_by z ≡ Some (asked_reply z)) (sym e) refl

-- an operation asks for a pause
pub asking_step : (b : Beginning) (s : EpochState) (words : List ℕ) (i : ℕ) (m : Mutating) → ShowsAs b s words i (in_phase m phase.Asking) → StepIsEvent b s words i (in_phase m phase.Asking)
asking_step b s words i m shows =
    let n = in_phase m phase.Asking in
    let l = limits_of b in
    let goes = goes_on n shows.mutator.sound (λ e. cc) in
    let more = shows.mutator.sound.busy refl in
    let answer : Reply = asked_reply (op_now n) in
    by_access b s words i n (PutCursor PAUSE_WORD 1) shows (on_pause_word n.regions kind.Store 1) (record { table_entry = omega arith; entry = tt })
    (λ old told. record {
      accepts = refl;
      event = epoch.Asks (op_now n) answer;
      may = record { stage = refl; does = now_shown n goes; asks = asks (op_now n) shows.mutator.steady };
      tables = refl;
      thread_states = ap (slice_set s.thread_states i) (sym (thread_state_done n (op_now n) answer goes.since (no_end_now n goes more)));
      mutator = to_done l n answer goes (of_space shows.mutator) more;
      history = one_more _ _ n.replies.items answer;
      places = refl;
    })

-- it is through for the reason for which it gives up
same_reason : (how : Stop) → reason_by (Some (end_by how)) ≡ reason_of how
same_reason stop.NoRun = refl
same_reason stop.LogFull = refl

-- who gives up for want of lines does a `new`
gives_up_new : (b : Beginning) (s : EpochState) (words : List ℕ) (i : ℕ) (m : Mutating) (how : Stop) → ShowsAs b s words i (in_phase m (phase.GivingUp how)) → end_by how ≡ ends.NoRun → IsNew m
gives_up_new b s words i m stop.LogFull shows e = absurd (cc)
gives_up_new b s words i m stop.NoRun shows e =
    let n = in_phase m (phase.GivingUp stop.NoRun) in
    let new = (shows.epoch.called.each i (thread_state_of n) shows.thread_state).within_turn.4.0 in
    let both : Some (op_now n) ≡ Some (op.New new.1.0 new.0) = sym (now_shown n (goes_on n shows.mutator.sound (λ q. cc))) ∙ new.1.1 in
    (new.1.0, new.0, cc)

-- who can't go on asks for a pause
pub leaving_step : (b : Beginning) (s : EpochState) (words : List ℕ) (i : ℕ) (m : Mutating) (how : Stop) → ShowsAs b s words i (in_phase m (phase.GivingUp how))
    → StepIsEvent b s words i (in_phase m (phase.GivingUp how))
leaving_step b s words i m how shows =
    let n = in_phase m (phase.GivingUp how) in
    let l = limits_of b in
    let goes = goes_on n shows.mutator.sound (λ e. cc) in
    let more = shows.mutator.sound.busy refl in
    by_access b s words i n (PutCursor PAUSE_WORD 1) shows (on_pause_word n.regions kind.Store 1) (record { table_entry = omega arith; entry = tt })
    (λ old told. record {
      accepts = refl;
      event = epoch.Leaves (reason_of how);
      may = refl;
      tables = refl;
      thread_states = ap (λ (r : Reason). slice_set s.thread_states i (record (thread_state_of n) { stage = Through r })) (sym (same_reason how));
      mutator = to_finished l n (end_by how) goes (of_space shows.mutator) (λ e. (more, gives_up_new b s words i m how shows e));
      history = none_more _ _ n.replies.items;
      places = refl;
    })

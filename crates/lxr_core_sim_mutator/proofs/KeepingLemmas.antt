-- What a mutator's machine keeps as it goes on, and what it shows then.
use Rattle.std.proofs.Common.{◌≡◌, ◌≢◌, ℕ, zero, suc, ◌+◌, ◌<◌, ◌≤◌, Bool, true, false, arith, refl, sym, ap, ◌∙◌, inl, inr, List, [], ◌∷◌, ◌++◌, length, length-append}
use Rattle.std.specs.Prelude.{Some, nat_eq, nat_le, slice_get, slice_index_or, if◌then◌else◌}
use Rattle.std.specs.List.{All}
use Rattle.std.proofs.lemmas.List.Elements.{All-get_or}
use Rattle.lxr_layout.specs.Spaces.{regions_of}
use Rattle.lxr_layout.specs.declared.Place.{Place}
use Rattle.lxr_layout.specs.declared.LogEntry.{LogEntry}
use Rattle.lxr_layout.specs.declared.limits.Limits.{Limits}
use Rattle.lxr_base.specs.Roomy.{Roomy}
use Rattle.lxr_alloc.specs.declared.Spans.{Spans}
use Rattle.lxr_graph.specs.declared.Op.{Op}
use Rattle.lxr_graph.specs.declared.Op.TheVariants as op
use Rattle.lxr_graph.specs.declared.Reply.{Reply}
use Rattle.lxr_graph.specs.declared.Reply.TheVariants as reply
use Rattle.lxr_mutator.specs.declared.phases.MutEnd.{MutEnd}
use Rattle.lxr_mutator.specs.declared.phases.MutEnd.TheVariants as ends
use Rattle.lxr_mutator.specs.declared.phases.MutatorPhase.{MutatorPhase}
use Rattle.lxr_mutator.specs.declared.phases.MutatorPhase.TheVariants as phase
use Rattle.lxr_mutator.specs.Mutating.{Mutating, op_now, register, rests_in}
use Rattle.lxr_mutator.specs.Mutators.{AreInHeap, AreRegisters, IsHeld, IsMutator, IsOperation, IsSetup, MayBeIn, setup_of}
use Rattle.lxr_mutator.specs.Steps.{done_with, ended, finished, with_register}
use Rattle.lxr_mutator.proofs.RegisterLemmas.{held_anywhere, registers_cleared, registers_set}
use Rattle.lxr_core_invariant.specs.ThreadStates.{is_end, Rests, Through}
use Rattle.lxr_core_invariant.specs.ThreadStates as why
use Rattle.lxr_core_invariant.specs.Events as epoch
use Rattle.lxr_core_sim_mutator.specs.Showing.{IsMutatorOf, IsNew, IsSteadyIn, stage_in, thread_state_of}

-- what holds of a mutator that goes on, whatever its phase
pub record GoesOn (m : Mutating) : Type 0 where
  pub setup : IsSetup (setup_of m)
  pub registers : AreRegisters m.width m.registers
  pub spans : AreInHeap m.spans
  pub replies : length m.replies.items ≤ length m.operations
  pub since : m.since < m.every

-- so it is before it is through
pub goes_on : (m : Mutating) → IsMutator m → m.phase ≢ phase.Finished → GoesOn m
goes_on m is goes = record {
  setup = is.setup;
  registers = is.registers;
  spans = is.spans;
  replies = elim is.replies [ inl through ↦ absurd (goes through.0) | inr few ↦ few ];
  since = is.since goes;
}

-- and with another register
pub with_place : (m : Mutating) (r : ℕ) (p : Place) → r < m.width → GoesOn m → IsHeld p → GoesOn (with_register m r p)
with_place m r p named is held = record {
  setup = is.setup;
  registers = registers_set m.width m.registers r p named is.registers held;
  spans = is.spans;
  replies = is.replies;
  since = is.since;
}

-- and with other spans
pub with_spans : (m : Mutating) (spans : Spans) → GoesOn m → AreInHeap spans → GoesOn (record m { spans = spans })
with_spans m spans is within = record {
  setup = is.setup;
  registers = is.registers;
  spans = within;
  replies = is.replies;
  since = is.since;
}

-- and with another log
pub with_log : (m : Mutating) (log : Roomy LogEntry) → GoesOn m → GoesOn (record m { log = log })
with_log m log is = record {
  setup = is.setup;
  registers = is.registers;
  spans = is.spans;
  replies = is.replies;
  since = is.since;
}

-- it runs in a space of these limits, and may be asked to name as many registers as they say
abbrev pub IsOfSpace : Limits → Mutating → Type 0
IsOfSpace l m = (m.regions ≡ regions_of l) × (m.width ≡ l.registers)

pub of_space : {l : Limits} {m : Mutating} → IsMutatorOf l m → IsOfSpace l m
of_space is = (is.regions, is.width)

-- it is in another phase of its operation
pub to_phase : (l : Limits) (m : Mutating) (p : MutatorPhase) → GoesOn m → IsOfSpace l m → length m.replies.items < length m.operations → MayBeIn m p
    → IsSteadyIn (record m { phase = p }) p → IsMutatorOf l (record m { phase = p })
to_phase l m p is space more may steady = record {
  sound = record {
    setup = is.setup;
    registers = is.registers;
    spans = is.spans;
    few_replies = omega (arith, is.replies);
    replies = inr is.replies;
    busy = λ _. more;
    waits = λ _. more;
    since = λ _. is.since;
    phase = may;
  };
  regions = space.0;
  width = space.1;
  steady = steady;
}

-- it is through with the epoch for another cause than want of room, or in an operation
pub to_finished : (l : Limits) (m : Mutating) (how : MutEnd) → GoesOn m → IsOfSpace l m → (how ≡ ends.NoRun → (length m.replies.items < length m.operations) × IsNew m)
    → IsMutatorOf l (finished m how)
to_finished l m how is space waits = record {
  sound = record {
    setup = is.setup;
    registers = is.registers;
    spans = is.spans;
    few_replies = omega (arith, is.replies);
    replies = inr is.replies;
    busy = λ e. absurd (cc);
    waits = λ e. (waits (cc)).0;
    since = λ ne. absurd (ne refl);
    phase = tt;
  };
  regions = space.0;
  width = space.1;
  steady = λ e. (waits (cc)).1;
}

-- a list with one element more is longer by one
longer : {A : Type 0} (xs : List A) (x : A) → length (xs ++ x ∷ []) ≡ length xs + 1
longer xs x = length-append xs (x ∷ [])

-- its end is done
pub to_end : (l : Limits) (m : Mutating) → GoesOn m → IsOfSpace l m → IsMutatorOf l (ended m)
to_end l m is space =
    let len = longer m.replies.items reply.Ended in
    record {
      sound = record {
        setup = is.setup;
        registers = registers_cleared m.width;
        spans = is.spans;
        few_replies = omega (arith, is.replies, len);
        replies = inl (refl, refl);
        busy = λ e. absurd (cc);
        waits = λ e. absurd (cc);
        since = λ ne. absurd (ne refl);
        phase = tt;
      };
      regions = space.0;
      width = space.1;
      steady = λ e. absurd (cc);
    }

-- its operation is done: the last that it may do in this epoch, or one that others may follow
abbrev pub done_as : Mutating → Reply → Bool → Mutating
done_as m r last = record m {
  replies = record m.replies { items = m.replies.items ++ r ∷ [] };
  since = m.since + 1;
  phase = if last then phase.Finished else phase.Ready;
  end = Some (if last then ends.Turns else ends.OpDone r);
}

-- who has done its operation waits for nothing
done_waits : (r : Reply) (last : Bool) → (if last then ends.Turns else ends.OpDone r) ≢ ends.NoRun
done_waits r true e = cc
done_waits r false e = cc

-- who has done its operation is in no unit
done_busy : (last : Bool) → rests_in (if last then phase.Finished else phase.Ready) ≢ false
done_busy true e = cc
done_busy false e = cc

-- who goes on may do a further operation
done_since : (every since : ℕ) (last : Bool) → nat_le every (since + 1) ≡ last → (if last then phase.Finished else phase.Ready) ≢ phase.Finished → since + 1 < every
done_since every since true e ne = absurd (ne refl)
done_since every since false e ne = grind (arith, e)

-- what holds in both phases that follow an operation
done_may : (m : Mutating) (last : Bool) → MayBeIn m (if last then phase.Finished else phase.Ready)
done_may m true = tt
done_may m false = tt

-- who has done its operation has not done its end
done_goes : (r : Reply) (last : Bool) → (if last then ends.Turns else ends.OpDone r) ≢ ends.Ended
done_goes r true e = cc
done_goes r false e = cc

-- and what is kept of an operation in them
done_steady : (m : Mutating) (r : Reply) (last : Bool) → m.end ≡ Some (if last then ends.Turns else ends.OpDone r) → IsSteadyIn m (if last then phase.Finished else phase.Ready)
done_steady m r true e = λ waits. absurd (done_waits r true (cc))
done_steady m r false e = (λ ended. done_goes r false (cc), λ waits. absurd (done_waits r false (cc)))

-- a mutator that has done its operation is one of the space
done_kept : (l : Limits) (m : Mutating) (r : Reply) (last : Bool) → nat_le m.every (m.since + 1) ≡ last → GoesOn m → IsOfSpace l m
    → length m.replies.items < length m.operations → IsMutatorOf l (done_as m r last)
done_kept l m r last e is space more =
    let len = longer m.replies.items r in
    record {
      sound = record {
        setup = is.setup;
        registers = is.registers;
        spans = is.spans;
        few_replies = omega (arith, more, len);
        replies = inr (omega (arith, more, len));
        busy = λ q. absurd (done_busy last q);
        waits = λ q. absurd (done_waits r last (cc));
        since = done_since m.every m.since last e;
        phase = done_may (done_as m r last) last;
      };
      regions = space.0;
      width = space.1;
      steady = done_steady (done_as m r last) r last refl;
    }

-- its operation is done
pub to_done : (l : Limits) (m : Mutating) (r : Reply) → GoesOn m → IsOfSpace l m → length m.replies.items < length m.operations → IsMutatorOf l (done_with m r)
to_done l m r is space more = done_kept l m r (nat_le m.every (m.since + 1)) refl is space more

-- ---- what it shows

-- it is through by the number of its operations, or not
same_turn : (since every : ℕ) → since < every → nat_le every (since + 1) ≡ nat_eq (since + 1) every
same_turn since every below = elim (nat_le every (since + 1)) as (λ b. nat_le every (since + 1) ≡ b → b ≡ nat_eq (since + 1) every) [
  | true ↦ λ e. grind (arith, e, below)
  | false ↦ λ e. grind (arith, e, below)
] refl

-- it shows whether it is through
stage_by : (m : Mutating) (r : Reply) (last : Bool) → stage_in (done_as m r last) (if last then phase.Finished else phase.Ready) ≡ (if last then (Through why.Turns) else Rests)
stage_by m r true = refl
stage_by m r false = refl

-- and does so as the epoch says
stage_done : (m : Mutating) (o : Op) (r : Reply) → m.since < m.every → is_end o ≡ false → (thread_state_of (done_with m r)).stage ≡ epoch.stage_after (thread_state_of m) o
stage_done m o r below goes =
    stage_by m r (nat_le m.every (m.since + 1)) ∙ ap (λ b. if b then (Through why.Turns) else Rests) (same_turn m.since m.every below)
    ∙ sym (ap (λ b. if b then (Through why.Ended) else (if nat_eq (m.since + 1) m.every then (Through why.Turns) else Rests)) goes)

-- an operation that is done is shown as done
pub thread_state_done : (m : Mutating) (o : Op) (r : Reply) → m.since < m.every → is_end o ≡ false → thread_state_of (done_with m r) ≡ epoch.done_with (thread_state_of m) o r
thread_state_done m o r below goes =
    let one : m.since + 1 ≡ (if is_end o then m.since else (m.since + 1)) = sym (ap (λ b. if b then m.since else (m.since + 1)) goes) in
    λ j. record (thread_state_of m) { replies = m.replies.items ++ r ∷ []; since = one j; stage = stage_done m o r below goes j }

-- ---- the operation in progress

-- the operation at an index is that of all operations, the end with them
now_at : (os : List Op) (n : ℕ) → n ≤ length os → slice_get (os ++ op.End ∷ []) n ≡ Some (slice_index_or os n op.End)
now_at [] zero h = refl
now_at [] (suc n) h = absurd (omega arith)
now_at (o ∷ os) zero h = refl
now_at (o ∷ os) (suc n) h = now_at os n (omega arith)

-- it shows the operation in progress
pub now_shown : (m : Mutating) → GoesOn m → epoch.Does (thread_state_of m) (op_now m)
now_shown m is = now_at m.operations (length m.replies.items) is.replies

-- what is no end stands in the list
ends_behind : (os : List Op) (n : ℕ) → slice_index_or os n op.End ≢ op.End → n < length os
ends_behind [] n ne = absurd (ne refl)
ends_behind (o ∷ os) zero ne = omega arith
ends_behind (o ∷ os) (suc n) ne = let more = ends_behind os n ne in omega arith

-- an operation that is no end is one of the script
pub more_to_do : (m : Mutating) → op_now m ≢ op.End → length m.replies.items < length m.operations
more_to_do m ne = ends_behind m.operations (length m.replies.items) ne

-- no operation of a script is an end
endless_at : (width : ℕ) (os : List Op) (n : ℕ) → All (IsOperation width) os → n < length os → is_end (slice_index_or os n op.End) ≡ false
endless_at width os n all within = no_end (slice_index_or os n op.End) (All-get_or (IsOperation width) os n op.End within all).1
  where
    no_end : (o : Op) → o ≢ op.End → is_end o ≡ false
    no_end (op.New dest shape) ne = refl
    no_end (op.Load dest base index) ne = refl
    no_end (op.Store base index source) ne = refl
    no_end (op.Put base index value) ne = refl
    no_end (op.Get base index) ne = refl
    no_end (op.Swap dest base index source) ne = refl
    no_end (op.Add base index value) ne = refl
    no_end (op.Move dest source) ne = refl
    no_end (op.Nil dest) ne = refl
    no_end (op.Same left right) ne = refl
    no_end op.Pause ne = refl
    no_end op.Collect ne = refl
    no_end op.End ne = absurd (ne refl)

-- an operation of the script is no end
pub no_end_now : (m : Mutating) → GoesOn m → length m.replies.items < length m.operations → is_end (op_now m) ≡ false
no_end_now m is more = endless_at m.width m.operations (length m.replies.items) is.setup.operations more

-- what a register holds is nil or a place
pub register_held : (m : Mutating) (r : ℕ) → GoesOn m → IsHeld (register m r)
register_held m r is = held_anywhere m.registers r is.registers.held

-- A mutator whose `new` was served or refused: it is one still, and no longer waits.
use Rattle.std.proofs.Common.{◌≡◌, ℕ, ◌+◌, refl, sym, ap, subst, ◌∙◌, inl, inr, arith, Bool, true, false, List, [], ◌∷◌, ◌++◌, length}
use Rattle.std.specs.Prelude.{◌^◌, None, Option, Some, nat_le, slice_set, if◌then◌else◌}
use Rattle.std.specs.List.{count_by}
use Rattle.std.proofs.lemmas.List.Sums.{sum_by_push}
use Rattle.std.proofs.lemmas.List.{length_push}
use Rattle.lxr_layout.specs.declared.TheConstants.{MOST_GRANULES}
use Rattle.lxr_layout.specs.declared.Name.{Name}
use Rattle.lxr_layout.specs.declared.Place.{Place}
use Rattle.lxr_layout.specs.declared.Shape.{Shape}
use Rattle.lxr_layout.specs.declared.limits.Limits.{Limits}
use Rattle.lxr_layout.specs.Registers.{nil}
use Rattle.lxr_graph.specs.declared.Op.TheVariants as op
use Rattle.lxr_graph.specs.declared.Reply.{Reply}
use Rattle.lxr_graph.specs.declared.Reply.TheVariants as reply
use Rattle.lxr_mutator.specs.declared.phases.MutEnd.{MutEnd}
use Rattle.lxr_mutator.specs.declared.phases.MutEnd.TheVariants as ends
use Rattle.lxr_mutator.specs.declared.phases.MutatorPhase.{MutatorPhase}
use Rattle.lxr_mutator.specs.declared.phases.MutatorPhase.TheVariants as phase
use Rattle.lxr_mutator.specs.declared.phases.Waiting.{Waiting}
use Rattle.lxr_mutator.specs.Mutating.{IsWaiting, Mutating, is_new, next_name, op_now, rests_in, waiting_by}
use Rattle.lxr_mutator.specs.Mutators.{AreRegisters, IsAnswered, IsHeld, IsMutator, MayBeIn, answered, held_place}
use Rattle.lxr_mutator.specs.Naming.{blank}
use Rattle.lxr_mutator.specs.Operating.{dest_of, shape_made}
use Rattle.lxr_mutator.proofs.NowLemmas.{dest_now}
use Rattle.lxr_mutator.proofs.RegisterLemmas.{registers_set}
use Rattle.lxr_core_sim_mutator.specs.Showing.{IsMutatorOf, IsSteadyIn}

-- ---- what it waits for

-- what a `new` waits for is told by its operation, and it waits then
record IsTold (m : Mutating) (w : Waiting) : Type 0 where
  waits : IsWaiting m
  is : w ≡ record { dest = dest_of (op_now m); shape = shape_made (op_now m) }

told_by_operation : (m : Mutating) (w : Waiting) → waiting_by m m.end ≡ Some w → IsTold m w
told_by_operation m w waits = by m.end (rests_in m.phase) refl refl waits
  where
    by : (e : Option MutEnd) (b : Bool) → m.end ≡ e → rests_in m.phase ≡ b → waiting_by m e ≡ Some w → IsTold m w
    by (Some ends.NoRun) true own r q =
        let told : waiting_by m (Some ends.NoRun) ≡ Some (record { dest = dest_of (op_now m); shape = shape_made (op_now m) }) =
        ap (λ (c : Bool). if c then Some (record { dest = dest_of (op_now m); shape = shape_made (op_now m) }) else None) r in
        let both : Some w ≡ Some (record { dest = dest_of (op_now m); shape = shape_made (op_now m) }) = sym q ∙ told in
        record { waits = (own, r); is = cc }
    by (Some ends.NoRun) false own r q =
        let told : waiting_by m (Some ends.NoRun) ≡ None = ap (λ (c : Bool). if c then Some (record { dest = dest_of (op_now m); shape = shape_made (op_now m) }) else None) r in
        absurd (let none : Some w ≡ None = sym q ∙ told in cc)
    by e b own r q = absurd (cc)

pub waits_by : (m : Mutating) (w : Waiting) → waiting_by m m.end ≡ Some w → IsWaiting m
waits_by m w waits = (told_by_operation m w waits).waits

pub waits_for : (m : Mutating) (w : Waiting) (dest : ℕ) (shape : Shape) → waiting_by m m.end ≡ Some w → op_now m ≡ op.New dest shape → w ≡ record { dest = dest; shape = shape }
waits_for m w dest shape waits is = (told_by_operation m w waits).is ∙ ap (λ o. record { dest = dest_of o; shape = shape_made o }) is

-- ---- the mutator with its reply

-- what is asked of a phase of a mutator that rests
in_rest : (m n : Mutating) (p : MutatorPhase) → rests_in p ≡ true → MayBeIn n p
in_rest m n phase.Ready rests = tt
in_rest m n phase.Finished rests = tt
in_rest m n p rests = absurd (cc)

-- a mutator whose `new` is answered waits for nothing, and hasn't done its end
answered_steady : (m : Mutating) (r : Reply) (p : MutatorPhase) → rests_in p ≡ true → IsSteadyIn (answered m r) p
answered_steady m r phase.Ready rests = (λ e. absurd (cc), λ e. absurd (cc))
answered_steady m r phase.Finished rests = λ e. absurd (cc)
answered_steady m r p rests = absurd (cc)

-- with other registers
abbrev pub with_registers : Mutating → List Place → Mutating
with_registers m registers = record m { registers = registers }

-- a mutator whose `new` is answered, and whose registers are other ones, is one still
pub answered_sound : (m : Mutating) (registers : List Place) (r : Reply) → IsMutator m → IsWaiting m → AreRegisters m.width registers → IsMutator (answered (with_registers m registers) r)
answered_sound m registers r is waits are =
    let more = is.waits waits.0 in
    let many = length_push m.replies.items r in
    record {
      setup = is.setup;
      registers = are;
      spans = is.spans;
      few_replies = omega arith;
      replies = inr (omega arith);
      busy = λ busy. absurd (cc);
      waits = λ e. absurd (cc);
      since = is.since;
      phase = in_rest m (answered (with_registers m registers) r) m.phase waits.1;
    }

-- its registers, once its `new` is answered, are nil or places, and all else is as it is told with the reply, which has no name to leave out
pub record AnswersWith (m m' : Mutating) (r : Reply) : Type 0 where
  pub registers : List Place
  pub are : AreRegisters m.width registers
  pub mutator : m' ≡ answered (with_registers m registers) r
  pub whole : blank r ≡ r

-- the place that a register may hold
held_so : (p : Place) (b : Bool) → nat_le p.0 (MOST_GRANULES) ≡ b → IsHeld (if b then p else nil)
held_so p true e = grind (arith, e)
held_so p false e = omega arith

-- so it is of one that was refused, and of one that was served
pub answers_with : (m m' : Mutating) (r : Reply) → IsMutator m → IsAnswered m m' r → AnswersWith m m' r
answers_with m m' r is (inl (e, now)) = record { registers = m.registers; are = is.registers; mutator = now; whole = subst (λ x. blank x ≡ x) (sym e) refl }
answers_with m m' r is (inr (place, e, now)) =
    let dest = dest_of (op_now m) in
    record {
      registers = slice_set m.registers dest (held_place place);
      are = registers_set m.width m.registers dest (held_place place) (dest_now m is) is.registers (held_so place (nat_le place.0 (MOST_GRANULES)) refl);
      mutator = now ∙ ap (answered (with_registers m (slice_set m.registers dest (held_place place)))) (sym e);
      whole = subst (λ x. blank x ≡ x) (sym e) refl;
    }

-- it is a mutator of the same space still
pub answered_mutator : (l : Limits) (m : Mutating) (registers : List Place) (r : Reply) → IsMutatorOf l m → IsWaiting m → AreRegisters m.width registers
    → IsMutatorOf l (answered (with_registers m registers) r)
answered_mutator l m registers r is waits are = record {
  sound = answered_sound m registers r is.sound waits are;
  regions = is.regions;
  width = is.width;
  steady = answered_steady (with_registers m registers) r m.phase waits.1;
}

-- it waits no longer
pub waits_no_more : (m m' : Mutating) (r : Reply) → IsMutator m → IsAnswered m m' r → IsWaiting m' → ⊥
waits_no_more m m' r is answers waits =
    let with_reply = answers_with m m' r is answers in
    let ended : m'.end ≡ Some (ends.OpDone r) = ap (λ (x : Mutating). x.end) with_reply.mutator in
    let still = waits.0 in
    absurd (cc)

-- ---- the name of its next object

-- its own next object after one that was made, and after a refusal
pub named_after_new : (m : Mutating) (n : Name) → next_name (answered m (reply.New n)) ≡ record { thread = m.thread; serial = (next_name m).serial + 1 }
named_after_new m n =
    let more : count_by is_new (m.replies.items ++ reply.New n ∷ []) ≡ count_by is_new m.replies.items + 1 = sum_by_push (λ r. if is_new r then 1 else 0) m.replies.items (reply.New n) in
    let serial : m.before + count_by is_new (m.replies.items ++ reply.New n ∷ []) + 1 ≡ m.before + count_by is_new m.replies.items + 1 + 1 = omega (arith, more) in
    λ j. record { thread = m.thread; serial = serial j }

pub named_after_full : (m : Mutating) → next_name (answered m reply.Full) ≡ next_name m
named_after_full m =
    let same : count_by is_new (m.replies.items ++ reply.Full ∷ []) ≡ count_by is_new m.replies.items = sum_by_push (λ r. if is_new r then 1 else 0) m.replies.items reply.Full ∙ omega arith in
    λ j. record { thread = m.thread; serial = m.before + same j + 1 }

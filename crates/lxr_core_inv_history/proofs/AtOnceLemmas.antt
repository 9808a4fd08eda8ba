-- Operations that need no further step are answered as the model does.
use Rattle.std.proofs.Common.{◌≡◌, ℕ, ◌<◌, refl, ap, true, false, cond, List, length, nat_eq}
use Rattle.std.specs.Prelude.{Option, Some, None, replicate, slice_set}
use Rattle.lxr_layout.specs.declared.TheConstants.{REGISTERS}
use Rattle.lxr_layout.specs.declared.Name.{Name}
use Rattle.lxr_layout.specs.declared.Place.{Place}
use Rattle.lxr_layout.specs.Registers.{nil}
use Rattle.lxr_graph.specs.declared.Op.{Op}
use Rattle.lxr_graph.specs.declared.Op.TheVariants as op
use Rattle.lxr_graph.specs.declared.Reply.{Reply}
use Rattle.lxr_graph.specs.declared.Reply.TheVariants as reply
use Rattle.lxr_graph.specs.State.{register_at, with_register}
use Rattle.lxr_graph.specs.Step.{IsWellFormed, cleared, step}
use Rattle.lxr_image.specs.Tables.{Tables}
use Rattle.lxr_model.specs.Moments.{Moment}
use Rattle.lxr_invariant.proofs.EntryLemmas.{equal_numbers}
use Rattle.lxr_core_invariant.specs.ThreadStates.{ThreadState, held}
use Rattle.lxr_core_invariant.specs.Events.{Does, at_once, bad_at}
use Rattle.lxr_core_invariant.proofs.HeldLemmas.{in_register}
use Rattle.lxr_core_invariant.proofs.TellingLemmas.{same_by_place}
use Rattle.lxr_core_invariant.proofs.ShowingLemmas.{op_formed}
use Rattle.lxr_core_invariant.proofs.ActingLemmas.{Acts, base_nil}
use Rattle.lxr_core_invariant.proofs.ReplyStepLemmas.{add_bad, get_bad, load_bad, put_bad, store_bad, swap_bad}
use Rattle.lxr_core_inv_history.proofs.RegisterLemmas.{cleared_holds, set_holds}
use Rattle.lxr_core_inv_history.proofs.AnswerLemmas.{Answers, answers_as, answers_by, answers_still, same_answer}

-- a base register that is nil is answered by `bad`
bad_tells : (v : ThreadState) (base : ℕ) (r : Reply) (registers : List Place) → bad_at v base ≡ Some (r, registers) → ((held v base).0 ≡ 0) × (reply.Bad ≡ r) × (v.registers ≡ registers)
bad_tells v base r registers e = elim (nat_eq (held v base).0 0) as (λ b. nat_eq (held v base).0 0 ≡ b → ◌≡◌ {A = Option (Reply × List Place)} (cond b (Some (reply.Bad, v.registers)) None) (Some (r, registers))
    → ((held v base).0 ≡ 0) × (reply.Bad ≡ r) × (v.registers ≡ registers)) [
      | true ↦ λ q f. let same = same_answer reply.Bad r v.registers registers f in (equal_numbers (held v base).0 0 q, same.0, same.1)
      | false ↦ λ q f. absurd (cc)
    ] refl e

-- so is an operation that the model answers so where its base register holds nothing
bad_answers : (t : Tables) (blocks : ℕ) (at : Name → ℕ) (m : Moment) (v : ThreadState) (o : Op) (r : Reply) (base : ℕ) (registers : List Place) → Acts t blocks at m v → base < REGISTERS → bad_at v base ≡ Some (r, registers)
    → (register_at m.state v.thread base ≡ None → step m.state v.thread o ≡ (m.state, reply.Bad)) → Answers at m v o r registers
bad_answers t blocks at m v o r base registers known small e bad_step =
    let bad = bad_tells v base r registers e in
    answers_as at m v o reply.Bad r v.registers registers bad.1 bad.2 (answers_still t blocks at m v o reply.Bad m.state known (bad_step (base_nil t blocks at m v base known small bad.0)) refl)

-- a register that is set to what another holds
set_answers : (t : Tables) (blocks : ℕ) (at : Name → ℕ) (m : Moment) (v : ThreadState) (dest source : ℕ) → Acts t blocks at m v → dest < REGISTERS → source < REGISTERS
    → Answers at m v (op.Move dest source) reply.Moved (slice_set v.registers dest (held v source))
set_answers t blocks at m v dest source known small_dest small_source =
    let w : Option Name = register_at m.state v.thread source in
    answers_by at m v (op.Move dest source) reply.Moved (slice_set v.registers dest (held v source)) (with_register m.state v.thread dest w) refl
    (set_holds m.state at v dest (length m.state.graph) (held v source) w known.holds known.thread known.row known.follows.registers small_dest (known.holds.places source small_source))

-- a register that is set to nil
nil_answers : (t : Tables) (blocks : ℕ) (at : Name → ℕ) (m : Moment) (v : ThreadState) (dest : ℕ) → Acts t blocks at m v → dest < REGISTERS → Answers at m v (op.Nil dest) reply.Cleared (slice_set v.registers dest nil)
nil_answers t blocks at m v dest known small =
    answers_by at m v (op.Nil dest) reply.Cleared (slice_set v.registers dest nil) (with_register m.state v.thread dest None) refl
    (set_holds m.state at v dest (length m.state.graph) nil None known.holds known.thread known.row known.follows.registers small refl)

-- two registers hold the same where they hold one place
same_answers : (t : Tables) (blocks : ℕ) (at : Name → ℕ) (m : Moment) (v : ThreadState) (left right : ℕ) → Acts t blocks at m v → left < REGISTERS → right < REGISTERS
    → Answers at m v (op.Same left right) (reply.Same (nat_eq (held v left).0 (held v right).0)) v.registers
same_answers t blocks at m v left right known small_left small_right =
    let same = same_by_place t blocks at m (register_at m.state v.thread left) (register_at m.state v.thread right) (held v left).0 (held v right).0 known.image
    (in_register m v.thread left known.follows) (in_register m v.thread right known.follows) (known.holds.places left small_left) (known.holds.places right small_right) in
    answers_still t blocks at m v (op.Same left right) (reply.Same (nat_eq (held v left).0 (held v right).0)) m.state known (ap (λ b. (m.state, reply.Same b)) same) refl

-- the end clears all registers
end_answers : (t : Tables) (blocks : ℕ) (at : Name → ℕ) (m : Moment) (v : ThreadState) → Acts t blocks at m v → Answers at m v op.End reply.Ended (replicate REGISTERS nil)
end_answers t blocks at m v known =
    answers_by at m v op.End reply.Ended (replicate REGISTERS nil) (record m.state { registers = cleared m.state.registers v.thread }) refl
    (cleared_holds m.state at v (length m.state.graph) known.thread known.row known.follows.registers)

-- each operation that is done at once
answers : (t : Tables) (blocks : ℕ) (at : Name → ℕ) (m : Moment) (v : ThreadState) (o : Op) (r : Reply) (registers : List Place) → Acts t blocks at m v → IsWellFormed o → at_once v o ≡ Some (r, registers)
    → Answers at m v o r registers
answers t blocks at m v (op.New dest shape) r registers known formed e = absurd (cc)
answers t blocks at m v (op.Load dest base i) r registers known formed e =
    bad_answers t blocks at m v (op.Load dest base i) r base registers known formed.1 e (load_bad m.state v.thread dest base i)
answers t blocks at m v (op.Store base i source) r registers known formed e =
    bad_answers t blocks at m v (op.Store base i source) r base registers known formed.0 e (store_bad m.state v.thread base i source)
answers t blocks at m v (op.Put base i value) r registers known formed e =
    bad_answers t blocks at m v (op.Put base i value) r base registers known formed e (put_bad m.state v.thread base i value)
answers t blocks at m v (op.Get base i) r registers known formed e =
    bad_answers t blocks at m v (op.Get base i) r base registers known formed e (get_bad m.state v.thread base i)
answers t blocks at m v (op.Swap dest base i source) r registers known formed e =
    bad_answers t blocks at m v (op.Swap dest base i source) r base registers known formed.1 e (swap_bad m.state v.thread dest base i source)
answers t blocks at m v (op.Add base i value) r registers known formed e =
    bad_answers t blocks at m v (op.Add base i value) r base registers known formed e (add_bad m.state v.thread base i value)
answers t blocks at m v (op.Move dest source) r registers known formed e =
    let same = same_answer reply.Moved r (slice_set v.registers dest (held v source)) registers e in
    answers_as at m v (op.Move dest source) reply.Moved r (slice_set v.registers dest (held v source)) registers same.0 same.1 (set_answers t blocks at m v dest source known formed.0 formed.1)
answers t blocks at m v (op.Nil dest) r registers known formed e =
    let same = same_answer reply.Cleared r (slice_set v.registers dest nil) registers e in
    answers_as at m v (op.Nil dest) reply.Cleared r (slice_set v.registers dest nil) registers same.0 same.1 (nil_answers t blocks at m v dest known formed)
answers t blocks at m v (op.Same left right) r registers known formed e =
    let same = same_answer (reply.Same (nat_eq (held v left).0 (held v right).0)) r v.registers registers e in
    answers_as at m v (op.Same left right) (reply.Same (nat_eq (held v left).0 (held v right).0)) r v.registers registers same.0 same.1 (same_answers t blocks at m v left right known formed.0 formed.1)
answers t blocks at m v op.Pause r registers known formed e = absurd (cc)
answers t blocks at m v op.Collect r registers known formed e = absurd (cc)
answers t blocks at m v op.End r registers known formed e =
    let same = same_answer reply.Ended r (replicate REGISTERS nil) registers e in
    answers_as at m v op.End reply.Ended r (replicate REGISTERS nil) registers same.0 same.1 (end_answers t blocks at m v known)

-- the operation in progress, where it is done at once
pub at_once_answers : (t : Tables) (blocks : ℕ) (at : Name → ℕ) (m : Moment) (v : ThreadState) (o : Op) (r : Reply) (registers : List Place) → Acts t blocks at m v → Does v o → at_once v o ≡ Some (r, registers)
    → Answers at m v o r registers
at_once_answers t blocks at m v o r registers known does e = answers t blocks at m v o r registers known (op_formed v o known.formed does) e

-- What a call leaves to bits and logs: the moment after it has the unreclaimed objects in the shapes that they had, and what
-- is written changes by a store and a swap alone.
use Rattle.std.proofs.Common.{◌≡◌, ℕ, ◌+◌, ◌-◌, ◌*◌, ◌<◌, ◌≤◌, refl, sym, ap, subst, ◌∙◌, arith, Bool, true, false, cond, List, length, nat_eq}
use Rattle.std.specs.Prelude.{Some, None, ⊤, IsTrue}
use Rattle.lxr_layout.specs.declared.TheConstants.{REGISTERS}
use Rattle.lxr_layout.specs.declared.Name.{Name}
use Rattle.lxr_layout.specs.declared.Place.{Place}
use Rattle.lxr_graph.specs.declared.Op.{Op}
use Rattle.lxr_graph.specs.declared.Op.TheVariants as op
use Rattle.lxr_graph.specs.declared.Reply.{Reply}
use Rattle.lxr_graph.specs.declared.Reply.TheVariants as reply
use Rattle.lxr_graph.specs.Names.{has, same_name}
use Rattle.lxr_graph.specs.State.{State, next_name, object_at, refs_of}
use Rattle.lxr_graph.specs.Step.{state_after, step}
use Rattle.lxr_graph.proofs.NameSets.{same_names}
use Rattle.lxr_graph.proofs.RowLemmas.{next_none}
use Rattle.lxr_image.specs.ImageLaws.{placed}
use Rattle.lxr_model.specs.Moments.{Moment, written_after}
use Rattle.lxr_model_counting.specs.Following.{FollowsPause}
use Rattle.lxr_model_counting.proofs.ReplyLemmas.{state_after_step}
use Rattle.lxr_model_counting.proofs.StoreLemmas.{step_keeps}
use Rattle.lxr_core_invariant.specs.ThreadStates.{ThreadState, held}
use Rattle.lxr_core_invariant.specs.Events.{at_once}

-- ---- the moment after a call with the reply of a step

-- the registers of a thread that has a row
row_there : (m : Moment) (t : ℕ) → FollowsPause m → 1 ≤ t → t < length m.state.graph → REGISTERS * (t - 1) + REGISTERS ≤ length m.state.registers
row_there m t follows some row = let registers = follows.registers in omega (arith, registers)

-- unreclaimed objects have as many references after a step as before
pub step_keeps_refs : (m : Moment) (t : ℕ) (o : Op) → FollowsPause m → 1 ≤ t → t < length m.state.graph → (n : Name) → IsTrue (has m.unreclaimed n)
    → length (refs_of (object_at (state_after m.state t o (step m.state t o).1).graph n)) ≡ length (refs_of (object_at m.state.graph n))
step_keeps_refs m t o follows some row n member =
    let old = follows.objects n member in
    let new = (step_keeps m.state t o row (row_there m t follows some row)).shapes n old.1 old.3 in
    ap (λ (z : State). length (refs_of (object_at z.graph n))) (state_after_step m.state t o)
    ∙ ap (λ z. length (refs_of z)) new.1 ∙ new.2.refs ∙ sym (ap (λ z. length (refs_of z)) old.3)

-- an unreclaimed object keeps its place where the next name gets one
pub places_keep : (m : Moment) (at : Name → ℕ) (t p : ℕ) → FollowsPause m → (n : Name) → IsTrue (has m.unreclaimed n) → placed at (next_name m.state.graph t) p n ≡ at n
places_keep m at t p follows n member = elim (same_name n (next_name m.state.graph t)) as (λ b. same_name n (next_name m.state.graph t) ≡ b → cond b p (at n) ≡ at n) [
  | true ↦ λ k.
      let old = follows.objects n member in
      let none : None ≡ Some old.1 = sym (next_none m.state.graph t) ∙ ap (object_at m.state.graph) (sym (same_names n (next_name m.state.graph t) k)) ∙ old.3 in
      absurd (cc)
  | false ↦ λ k. refl
] refl

-- ---- what is written

-- a reply other than that of a store and a swap
abbrev pub WritesNone : Reply → Type 0
WritesNone reply.Stored = ⊥
WritesNone (reply.Swapped old) = ⊥
WritesNone _ = ⊤

-- such a reply writes no reference
pub none_written : (m : Moment) (t : ℕ) (o : Op) (r : Reply) → WritesNone r → written_after m t o r ≡ m.written
none_written m t (op.Store base index source) reply.Stored h = absurd h
none_written m t (op.Swap dest base index source) (reply.Swapped old) h = absurd h
none_written m t o r h = refl

-- an equal reply is no other
told_none : (p q : Reply × List Place) → WritesNone p.0 → Some p ≡ Some q → WritesNone q.0
told_none p q h e = let same : p ≡ q = cc in subst WritesNone (ap (λ (z : Reply × List Place). z.0) same) h

-- a nil base is refused
bad_none : (b : Bool) (xs : List Place) (q : Reply × List Place) → cond b (Some (reply.Bad, xs)) None ≡ Some q → WritesNone q.0
bad_none true xs q e = told_none (reply.Bad, xs) q tt e
bad_none false xs q e = absurd (cc)

-- what is done at once writes no reference
pub at_once_none : (v : ThreadState) (o : Op) (r : Reply) (registers : List Place) → at_once v o ≡ Some (r, registers) → WritesNone r
at_once_none v (op.New dest shape) r registers e = absurd (cc)
at_once_none v (op.Load dest base index) r registers e = bad_none (nat_eq (held v base).0 0) v.registers (r, registers) e
at_once_none v (op.Store base index source) r registers e = bad_none (nat_eq (held v base).0 0) v.registers (r, registers) e
at_once_none v (op.Put base index value) r registers e = bad_none (nat_eq (held v base).0 0) v.registers (r, registers) e
at_once_none v (op.Get base index) r registers e = bad_none (nat_eq (held v base).0 0) v.registers (r, registers) e
at_once_none v (op.Swap dest base index source) r registers e = bad_none (nat_eq (held v base).0 0) v.registers (r, registers) e
at_once_none v (op.Add base index value) r registers e = bad_none (nat_eq (held v base).0 0) v.registers (r, registers) e
at_once_none v (op.Move dest source) r registers e = told_none (reply.Moved, _) (r, registers) tt e
at_once_none v (op.Nil dest) r registers e = told_none (reply.Cleared, _) (r, registers) tt e
at_once_none v (op.Same left right) r registers e = told_none (reply.Same _, _) (r, registers) tt e
at_once_none v op.Pause r registers e = absurd (cc)
at_once_none v op.Collect r registers e = absurd (cc)
at_once_none v op.End r registers e = told_none (reply.Ended, _) (r, registers) tt e

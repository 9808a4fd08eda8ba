-- What it takes that an operation is answered as the model does.
use Rattle.std.proofs.Common.{◌≡◌, ℕ, sym, ap, subst, List}
use Rattle.std.specs.Prelude.{Option, Some}
use Rattle.std.specs.Option.{option_map_or}
use Rattle.lxr_layout.specs.declared.Name.{Name}
use Rattle.lxr_layout.specs.declared.Place.{Place}
use Rattle.lxr_graph.specs.declared.Op.{Op}
use Rattle.lxr_graph.specs.declared.Reply.{Reply}
use Rattle.lxr_graph.specs.State.{State}
use Rattle.lxr_graph.specs.Step.{IsReply, step}
use Rattle.lxr_image.specs.Tables.{Tables}
use Rattle.lxr_model.specs.Moments.{Moment}
use Rattle.lxr_core_invariant.specs.ThreadStates.{ThreadState}
use Rattle.lxr_core_invariant.specs.Imaged.{HoldsRegisters}
use Rattle.lxr_core_invariant.proofs.ActingLemmas.{Acts}

-- a mutator's operation has the reply of a step, and these registers hold what those of the model do after it
pub record Answers (at : Name → ℕ) (m : Moment) (v : ThreadState) (o : Op) (r : Reply) (registers : List Place) : Type 0 where
  pub reply : IsReply m.state v.thread o r
  pub holds : HoldsRegisters (step m.state v.thread o).0 at (record v { registers = registers })

-- so it is where a step leads to a state whose registers these hold
pub answers_by : (at : Name → ℕ) (m : Moment) (v : ThreadState) (o : Op) (r : Reply) (registers : List Place) (s : State) → step m.state v.thread o ≡ (s, r) → HoldsRegisters s at (record v { registers = registers })
    → Answers at m v o r registers
answers_by at m v o r registers s e holds =
    record { reply = ap (λ z. z.1) e; holds = subst (λ z. HoldsRegisters z at (record v { registers = registers })) (sym (ap (λ z. z.0) e)) holds }

-- registers hold the same in a state with the same registers
pub same_registers : (s z : State) (at : Name → ℕ) (v : ThreadState) → HoldsRegisters s at v → z.registers ≡ s.registers → HoldsRegisters z at v
same_registers s z at v holds same = subst (λ (rs : List (Option Name)). HoldsRegisters (record z { registers = rs }) at v) (sym same) (record { as_many = holds.as_many; places = holds.places })

-- a step that leaves all registers
pub answers_still : (t : Tables) (blocks : ℕ) (at : Name → ℕ) (m : Moment) (v : ThreadState) (o : Op) (r : Reply) (s : State) → Acts t blocks at m v → step m.state v.thread o ≡ (s, r)
    → s.registers ≡ m.state.registers → Answers at m v o r v.registers
answers_still t blocks at m v o r s known e same = answers_by at m v o r v.registers s e (same_registers m.state s at v known.holds same)

-- two answers that are equal as pairs
pub same_answer : (a c : Reply) (b d : List Place) → ◌≡◌ {A = Option (Reply × List Place)} (Some (a, b)) (Some (c, d)) → (a ≡ c) × (b ≡ d)
same_answer a c b d e = (
  ap (λ (z : Option (Reply × List Place)). option_map_or (λ (q : Reply × List Place). q.0) z a) e,
  ap (λ (z : Option (Reply × List Place)). option_map_or (λ (q : Reply × List Place). q.1) z b) e,
)

-- equal replies and registers are answers too
pub answers_as : (at : Name → ℕ) (m : Moment) (v : ThreadState) (o : Op) (a c : Reply) (b d : List Place) → a ≡ c → b ≡ d → Answers at m v o a b → Answers at m v o c d
answers_as at m v o a c b d e f is = subst (λ z. Answers at m v o c z) f (subst (λ z. Answers at m v o z b) e is)

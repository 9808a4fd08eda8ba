-- A new object's name is new, and registers hold what they did where it is placed.
use Rattle.std.proofs.Common.{◌≡◌, ℕ, ◌<◌, refl, sym, ap, ◌∙◌, true, false, cond, length}
use Rattle.std.specs.Prelude.{Option, Some, None, IsTrue, slice_set}
use Rattle.lxr_layout.specs.declared.TheConstants.{REGISTERS}
use Rattle.lxr_layout.specs.declared.Name.{Name}
use Rattle.lxr_layout.specs.declared.Shape.{Shape}
use Rattle.lxr_graph.specs.declared.Op.TheVariants as op
use Rattle.lxr_graph.specs.declared.Reply.TheVariants as reply
use Rattle.lxr_graph.specs.Names.{has, same_name}
use Rattle.lxr_graph.specs.State.{State, next_name, object_at, register_at, with_new, with_register}
use Rattle.lxr_graph.specs.Step.{fresh}
use Rattle.lxr_graph.proofs.NameSets.{same_itself, same_names}
use Rattle.lxr_graph.proofs.RowLemmas.{next_none}
use Rattle.lxr_image.specs.Tables.{Tables}
use Rattle.lxr_image.specs.Image.{place_word}
use Rattle.lxr_image.specs.ImageLaws.{placed}
use Rattle.lxr_model.specs.Moments.{Moment}
use Rattle.lxr_invariant.specs.AbstractState.{members}
use Rattle.lxr_core_invariant.specs.ThreadStates.{ThreadState}
use Rattle.lxr_core_invariant.specs.Imaged.{HoldsRegisters}
use Rattle.lxr_core_invariant.proofs.HeldLemmas.{IsHeld, in_register}
use Rattle.lxr_core_invariant.proofs.ActingLemmas.{Acts}
use Rattle.lxr_core_inv_history.proofs.RegisterLemmas.{set_holds}
use Rattle.lxr_core_inv_history.proofs.AnswerLemmas.{Answers, answers_by}

-- no member has the next name of a thread
pub next_unlike : (t : Tables) (blocks : ℕ) (at : Name → ℕ) (m : Moment) (v : ThreadState) (n : Name) → Acts t blocks at m v → IsTrue (has (members m) n) → same_name n (next_name m.state.graph v.thread) ≡ false
next_unlike t blocks at m v n known member = elim (same_name n (next_name m.state.graph v.thread)) as (λ b. same_name n (next_name m.state.graph v.thread) ≡ b → b ≡ false) [
  | false ↦ λ q. refl
  | true ↦ λ q.
      let there = known.image.stands n member in
      let e : None ≡ Some there.0 = sym (next_none m.state.graph v.thread) ∙ ap (object_at m.state.graph) (sym (same_names n (next_name m.state.graph v.thread) q)) ∙ there.1 in
      absurd (cc)
] refl

-- members stand where they did once the next name is placed
pub members_stay : (t : Tables) (blocks : ℕ) (at : Name → ℕ) (m : Moment) (v : ThreadState) (place : ℕ) (n : Name) → Acts t blocks at m v → IsTrue (has (members m) n)
    → placed at (next_name m.state.graph v.thread) place n ≡ at n
members_stay t blocks at m v place n known member = ap (λ b. cond b place (at n)) (next_unlike t blocks at m v n known member)

-- registers hold the places of what they did wherever members stand where they did
pub holds_at : (t : Tables) (blocks : ℕ) (at to : Name → ℕ) (m : Moment) (v : ThreadState) → Acts t blocks at m v → ((n : Name) → IsTrue (has (members m) n) → to n ≡ at n) → HoldsRegisters m.state to v
holds_at t blocks at to m v known stay =
    record { as_many = known.holds.as_many; places = λ r within. known.holds.places r within ∙ sym (same_word (register_at m.state v.thread r) (in_register m v.thread r known.follows)) }
  where
    same_word : (w : Option Name) → IsHeld m w → place_word to w ≡ place_word at w
    same_word None member = refl
    same_word (Some n) member = stay n member

-- a new object is answered by its name, and the register holds its place
pub new_answers : (t : Tables) (blocks : ℕ) (at : Name → ℕ) (m : Moment) (v : ThreadState) (dest place : ℕ) (shape : Shape) → Acts t blocks at m v → dest < REGISTERS
    → Answers (placed at (next_name m.state.graph v.thread) place) m v (op.New dest shape) (reply.New (next_name m.state.graph v.thread)) (slice_set v.registers dest (record { 0 = place }))
new_answers t blocks at m v dest place shape known small =
    let name : Name = next_name m.state.graph v.thread in
    let to : Name → ℕ = placed at name place in
    let made : State = record m.state { graph = with_new m.state.graph v.thread (fresh shape) } in
    let before = holds_at t blocks at to m v known (λ n member. members_stay t blocks at m v place n known member) in
    let here : place ≡ to name = sym (ap (λ b. cond b place (at name)) (same_itself name)) in
    answers_by to m v (op.New dest shape) (reply.New name) (slice_set v.registers dest (record { 0 = place })) (with_register made v.thread dest (Some name)) refl
    (set_holds made to v dest (length m.state.graph) (record { 0 = place }) (Some name) (record { as_many = before.as_many; places = before.places }) known.thread known.row known.follows.registers small here)

-- Each step keeps the shape of each object, so the world's stays what it was at the opening, or when names were last renewed.
use Rattle.std.proofs.Common.{◌≡◌, ℕ, ◌+◌, ◌-◌, ◌*◌, ◌≤◌, refl, sym, ap, subst, ◌∙◌, inl, inr, arith, List, [], ◌∷◌, length}
use Rattle.lxr_layout.specs.declared.Shape.{Shape}
use Rattle.lxr_layout.specs.declared.TheConstants.{REGISTERS}
use Rattle.lxr_graph.specs.declared.Op.{Op}
use Rattle.lxr_graph.specs.State.{State, opening, world, world_name}
use Rattle.lxr_graph.specs.Step.{step}
use Rattle.lxr_graph.specs.History.{Item, Call, Pause, Renew}
use Rattle.lxr_model.specs.Terms.{Terms}
use Rattle.lxr_model.specs.Moments.{moment}
use Rattle.lxr_model.specs.Legal.{IsLegalSoFar}
use Rattle.lxr_model.proofs.HistoryLemmas.{call_cases, good_history}
use Rattle.lxr_model_counting.proofs.StoreLemmas.{same_shape, shape_through, step_keeps}
use Rattle.lxr_model_counting.proofs.FollowingLemmas.{opening_follows}
use Rattle.lxr_full.specs.Room.{HasWorld, WorldKeepsShape}

-- the world has its shape, and each thread its 256 registers
pub record Standing (threads : ℕ) (s : State) : Type 0 where
  pub world : HasWorld s.graph
  pub registers : length s.registers ≡ REGISTERS * threads

after_step : (threads : ℕ) (s : State) (t : ℕ) (o : Op) → length s.graph ≡ threads + 1 → 1 ≤ t → t ≤ threads → Standing threads s → Standing threads (step s t o).0
after_step threads s t o rows some within stands =
    let many = stands.registers in
    let keeps = step_keeps s t o (omega arith) (omega arith) in
    let w = stands.world in
    let now = keeps.shapes world_name w.0 w.1 in
    record {
      world = (now.0, now.1, shape_through world w.0 now.0 now.2 w.2);
      registers = keeps.registers ∙ many;
    }

pub stands_at : (terms : Terms) (h : List Item) → IsLegalSoFar terms h → Standing terms.threads (moment terms.threads h).state
stands_at terms [] legal =
    let rows : length (opening terms.threads).graph ≡ terms.threads + 1 = (good_history terms [] legal).rows in
    let many : length (opening terms.threads).registers ≡ REGISTERS * (length (opening terms.threads).graph - 1) = (opening_follows terms.threads).registers in
    record { world = (world, refl, same_shape world); registers = omega (arith, rows, many) }
stands_at terms (Call t o r ∷ h) legal =
    let m = moment terms.threads h in
    let before = stands_at terms h legal.0 in
    elim (call_cases terms h t o r m.state m.made refl legal.2.reply) [
      | inl e ↦ subst (Standing terms.threads) (sym e.0) before
      | inr e ↦ subst (Standing terms.threads) (sym e.0)
          (after_step terms.threads m.state t o (good_history terms h legal.0).rows legal.2.thread.0 legal.2.thread.1 before)
    ]
stands_at terms (Pause report ∷ h) legal = stands_at terms h legal.0
stands_at terms (Renew ns ∷ h) legal =
    let sound = legal.2.sound in
    let w = sound.world in
    record {
      world = (w.0, w.1, record { refs = ap (λ (k : Shape). k.refs) w.2; values = ap (λ (k : Shape). k.values) w.2 });
      registers = sound.registers;
    }

pub world_keeps_shape : WorldKeepsShape
world_keeps_shape terms h legal = (stands_at terms h legal).world

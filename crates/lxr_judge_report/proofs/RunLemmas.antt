-- What can leave no run of lines, at each moment at which a position is.
use Rattle.std.proofs.Common.{◌≡◌, ℕ, ◌-◌, ◌≤◌, ◌↔◌, sym, ap, subst, ◌∙◌, inl, inr, arith, Bool, List, [], ◌∷◌, IsTrue}
use Rattle.std.specs.Prelude.{nat_le}
use Rattle.std.proofs.lemmas.Bool.{cases_Bool, false_from_ne_true, leb-true, leb-false}
use Rattle.lxr_layout.specs.declared.Name.{Name}
use Rattle.lxr_graph.specs.Names.{without, union, AreInOrder, IsSetOf}
use Rattle.lxr_graph.specs.State.{Graph, State, world_name}
use Rattle.lxr_graph.proofs.NameSets.{one_set}
use Rattle.lxr_model.specs.Reachable.{Reachable}
use Rattle.lxr_model.specs.Full.{LeaveNoRun, slots_in, slots_taken}
use Rattle.lxr_model_counting.proofs.DistinctLemmas.{union_same}
use Rattle.lxr_model_decide.specs.Sets.{reachable_names}
use Rattle.lxr_model_decide.specs.Legality.{leave_no_run}
use Rattle.lxr_model_decide.proofs.SetLemmas.{reachable_right}
use Rattle.lxr_judge_report.specs.Positions.{Present, Tells, kept_leave_no_run, reached_leave_no_run}

-- a test that holds exactly where one number is at most another
le_told : (b : Bool) (i j : ℕ) → (IsTrue b ↔ (i ≤ j)) → b ≡ nat_le i j
le_told b i j tells = elim (cases_Bool (nat_le i j)) [
  | inl low ↦ tells.1 (leb-true i j low) ∙ sym low
  | inr high ↦ false_from_ne_true b (λ h. let few = tells.0 h in let many = leb-false i j high in absurd (omega (arith, few, many))) ∙ sym high
]

-- which is how a sum is told
run_told : (g : Graph) (ns : List Name) (blocks k : ℕ) (answer : Bool) → (IsTrue answer ↔ LeaveNoRun g ns blocks k) → answer ≡ leave_no_run g ns blocks k
run_told g ns blocks k answer tells = le_told answer (slots_in k (blocks - 1)) (slots_taken g k ns) tells

pub kept_told : (p : Present) (all others : List Name) (blocks k : ℕ) (answer : Bool) → (AreInOrder p.last.unreclaimed → all ≡ union p.made p.last.unreclaimed)
    → others ≡ without all (world_name ∷ []) → (IsTrue answer ↔ LeaveNoRun p.state.graph others blocks k) → Tells p (kept_leave_no_run blocks k) answer
kept_told p all others blocks k answer all_was others_was told m at =
    let joined : all ≡ union m.made m.unreclaimed =
    all_was (subst AreInOrder (sym at.last.unreclaimed) at.lives.unreclaimed)
    ∙ ap (λ us. union p.made us) at.last.unreclaimed
    ∙ union_same p.made m.made m.unreclaimed at.lives.unreclaimed at.made in
    run_told p.state.graph others blocks k answer told
    ∙ ap (λ (s : State). leave_no_run s.graph others blocks k) at.state
    ∙ ap (λ ns. leave_no_run m.state.graph ns blocks k) (others_was ∙ ap (λ ns. without ns (world_name ∷ [])) joined)

pub reached_told : (p : Present) (all others : List Name) (blocks k : ℕ) (answer : Bool) → IsSetOf all (Reachable p.state)
    → others ≡ without all (world_name ∷ []) → (IsTrue answer ↔ LeaveNoRun p.state.graph others blocks k) → Tells p (reached_leave_no_run blocks k) answer
reached_told p all others blocks k answer all_was others_was told m at =
    let reached : all ≡ reachable_names m.state = one_set all_was (reachable_right p.state) ∙ ap reachable_names at.state in
    run_told p.state.graph others blocks k answer told
    ∙ ap (λ (s : State). leave_no_run s.graph others blocks k) at.state
    ∙ ap (λ ns. leave_no_run m.state.graph ns blocks k) (others_was ∙ ap (λ ns. without ns (world_name ∷ [])) reached)

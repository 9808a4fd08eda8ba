-- A script grows by the law of scripts; what misses it asks for something in place of what was done, or behind a thread's end.
use Rattle.std.proofs.Common.{◌≡◌, ℕ, ◌≤◌, refl, sym, ap, subst, inl, inr, arith, List, [], ◌∷◌, ◌++◌}
use Rattle.std.specs.Prelude.{reverse}
use Rattle.lxr_layout.specs.declared.Shape.{Shape}
use Rattle.lxr_graph.specs.declared.Op.{Op}
use Rattle.lxr_graph.specs.declared.Op.TheVariants as op
use Rattle.lxr_graph.specs.History.{calls_of}
use Rattle.lxr_model.specs.Belongs.{IsHistorySoFar, operations_of}
use Rattle.lxr_model_laws.specs.ScriptLaws.{EndedAreAskedNoMore}
use Rattle.lxr_model_laws.proofs.ScriptLemmas.{scripts_may_grow}
use Rattle.lxr_model_decide.proofs.LegalityLemmas.{legal_so_far}
use Rattle.lxr_model_decide.specs.ExampleWords.{usual_terms, new, store, ends}
use Rattle.lxr_model_decide.specs.ExampleScripts.{DoneIsAskedForOnce, EndedIsAskedNoMore, ScriptGrows, asked_first, done_first}

-- what holds of thread 1 holds of each
only_thread : (P : ℕ → Type 0) → P 1 → (t : ℕ) → 1 ≤ t → t ≤ 1 → P t
only_thread P one t low high = let is : t ≡ 1 = omega arith in subst P (sym is) one

-- a thread did what it was asked for first
first_so_far : IsHistorySoFar usual_terms (asked_first ∷ []) (reverse done_first)
first_so_far = (
  legal_so_far usual_terms (reverse done_first) refl refl,
  record {
    calls = only_thread (λ t. (rest : List Op) × (calls_of t (reverse done_first) ++ rest ≡ operations_of (asked_first ∷ []) t)) (op.End ∷ [], refl);
    asked = ((tt, refl), refl);
    turns = ((tt, omega arith), omega arith);
    causes = (tt, inr (1, omega arith, omega arith, inl refl));
    early = tt;
  },
)

pub script_grows : ScriptGrows
script_grows = record {
  goes_on = ((store 0 0 1 ∷ [], refl), tt);
  before = first_so_far;
  after = scripts_may_grow usual_terms (asked_first ∷ []) ((asked_first ++ store 0 0 1 ∷ []) ∷ []) (reverse done_first) ((store 0 0 1 ∷ [], refl), tt) unended first_so_far;
}
  where
    shorter : new 1 0 ∷ op.Pause ∷ [] ≡ new 1 0 ∷ op.Pause ∷ op.End ∷ [] → ⊥
    shorter e = cc

    unended : EndedAreAskedNoMore (asked_first ∷ []) ((asked_first ++ store 0 0 1 ∷ []) ∷ []) (reverse done_first)
    unended = only_thread
        (λ t. calls_of t (reverse done_first) ≡ operations_of (asked_first ∷ []) t → operations_of ((asked_first ++ store 0 0 1 ∷ []) ∷ []) t ≡ operations_of (asked_first ∷ []) t)
        (λ all. absurd (shorter all))

-- an object of one shape isn't one of another
other_shape : (os os' : List Op) → new 1 0 ∷ os ≡ new 1 1 ∷ os' → ⊥
other_shape os os' e =
    let shapes : ◌≡◌ {A = Shape} (record { refs = 0; values = 0 }) (record { refs = 1; values = 0 }) = cc in
    let refs : ◌≡◌ {A = ℕ} 0 1 = ap (λ s. s.refs) shapes in
    omega arith

pub done_is_asked_for_once : DoneIsAskedForOnce
done_is_asked_for_once = (
  record { before = first_so_far; refused = λ belongs. let (rest, begin) = belongs.calls 1 (omega arith) (omega arith) in other_shape _ _ begin },
  λ on. other_shape _ _ (sym on.0.1),
)

-- a thread with no operations has ended
ended_so_far : IsHistorySoFar usual_terms ([] ∷ []) (reverse (ends ∷ []))
ended_so_far = (
  legal_so_far usual_terms (reverse (ends ∷ [])) refl refl,
  record {
    calls = only_thread (λ t. (rest : List Op) × (calls_of t (reverse (ends ∷ [])) ++ rest ≡ operations_of ([] ∷ []) t)) ([], refl);
    asked = (tt, refl);
    turns = (tt, omega arith);
    causes = tt;
    early = tt;
  },
)

end_is_no_pause : (os os' : List Op) → op.End ∷ os ≡ op.Pause ∷ os' → ⊥
end_is_no_pause os os' e = cc

pub ended_is_asked_no_more : EndedIsAskedNoMore
ended_is_asked_no_more = (
  record { before = ended_so_far; refused = λ belongs. let (rest, begin) = belongs.calls 1 (omega arith) (omega arith) in end_is_no_pause _ _ begin },
  ((op.Pause ∷ [], refl), tt),
)

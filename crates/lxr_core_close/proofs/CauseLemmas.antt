-- What a pause is wanted for is a cause of it by the script.
use Rattle.std.proofs.Common.{◌≡◌, ℕ, ◌+◌, ◌-◌, ◌≤◌, sym, ap, subst, ◌∙◌, inl, inr, arith, List, [], ◌∷◌, ◌++◌, length}
use Rattle.std.specs.Prelude.{Some, option_map, slice_get, slice_index_or}
use Rattle.std.proofs.lemmas.Option.{get_or_from_slice_get, slice_get-map}
use Rattle.lxr_graph.specs.declared.Op.TheVariants as op
use Rattle.lxr_graph.specs.History.{calls_of}
use Rattle.lxr_model.specs.Belongs.{IsCauseOf, calls_since_pause, is_new, next_operation, writes_reference}
use Rattle.lxr_model.specs.Moments.{moment}
use Rattle.lxr_model.specs.Terms.{Terms}
use Rattle.lxr_invariant.specs.Listed.{FreeBlocksAreListed}
use Rattle.lxr_core_invariant.specs.ThreadStates.{ThreadState}
use Rattle.lxr_core_invariant.specs.EpochStates.{Beginning, EpochState, limits_of, moment_of}
use Rattle.lxr_core_invariant.specs.Epoch.{AreResting, IsEpoch}
use Rattle.lxr_core_invariant.specs.Laws.{AllBlocksAreTaken, HasClosingLogs}
use Rattle.lxr_core_invariant.specs.Through.{CausesPause, next_by}
use Rattle.lxr_core_close.specs.Cause.{AreTermsOf, CauseFollows, script_in}

-- the script has the operations of each mutator
script_has : (thread_states : List ThreadState) (i : ℕ) (v : ThreadState) → slice_get thread_states i ≡ Some v → slice_index_or (script_in thread_states) i [] ≡ v.operations
script_has thread_states i v shown =
    get_or_from_slice_get (script_in thread_states) i v.operations [] (slice_get-map (λ (w : ThreadState). w.operations) thread_states i ∙ ap (option_map (λ (w : ThreadState). w.operations)) shown)

-- what comes next by the script is what the mutator does next
next_is : (s : EpochState) (i : ℕ) (v : ThreadState) → slice_get s.thread_states i ≡ Some v → v.thread ≡ i + 1 → next_operation (script_in s.thread_states) v.thread s.history ≡ next_by s v
next_is s i v shown thread =
    let index : v.thread - 1 ≡ i = omega (arith, thread) in
    ap (λ z. slice_get (slice_index_or (script_in s.thread_states) z [] ++ op.End ∷ []) (length (calls_of v.thread s.history))) index
    ∙ ap (λ z. slice_get (z ++ op.End ∷ []) (length (calls_of v.thread s.history))) (script_has s.thread_states i v shown)

-- each cause of a mutator is one of its thread
cause_of : (b : Beginning) (s : EpochState) (terms : Terms) (i : ℕ) (v : ThreadState) → AllBlocksAreTaken → IsEpoch b s → FreeBlocksAreListed b.space → AreResting s → HasClosingLogs b s → AreTermsOf b terms → slice_get s.thread_states i ≡ Some v
    → CausesPause b s v → IsCauseOf terms (script_in s.thread_states) s.history v.thread
cause_of b s terms i v taken is whole rest closing are shown (inl asked) = inl asked
cause_of b s terms i v taken is whole rest closing are shown (inr (inl turn)) = inr (inl (subst (λ z. z ≤ calls_since_pause v.thread s.history) (sym are.every) turn))
cause_of b s terms i v taken is whole rest closing are shown (inr (inr (inl block))) =
    let next = next_is s i v shown (is.called.threads i v shown) in
    let all = taken b s is whole rest block.1 in
    let at : moment terms.threads s.history ≡ moment_of b s = ap (λ z. moment z s.history) are.threads in
    inr (inr (inl (
      ap is_new (next ∙ block.0.2),
      subst (λ m. terms.blocks - terms.evacuate ≤ length m.unreclaimed + length m.made) (sym at)
          (subst (λ n. n - terms.evacuate ≤ length (moment_of b s).unreclaimed + length (moment_of b s).made) (sym are.blocks)
          (subst (λ n. (limits_of b).blocks - n ≤ length (moment_of b s).unreclaimed + length (moment_of b s).made) (sym are.evacuate) all)),
    )))
cause_of b s terms i v taken is whole rest closing are shown (inr (inr (inr entry))) =
    let next = next_is s i v shown (is.called.threads i v shown) in
    let few = closing.few i v shown in
    let room = (is.logged.rooms i v shown).0 in
    let full = entry.1 in
    let log = are.log in
    let at : moment terms.threads s.history ≡ moment_of b s = ap (λ z. moment z s.history) are.threads in
    inr (inr (inr (
      ap writes_reference next ∙ entry.0,
      subst (λ m. terms.log ≤ length m.written) (sym at) (omega (arith, few, room, full, log)),
    )))

-- all have ended, or some thread is a cause
pub cause_follows : CauseFollows
cause_follows has_cause counted taken b s terms is whole rest wanted closing are legal = elim (has_cause b s is wanted) [
  | inl ended ↦ inl ((counted b s terms is are.threads legal).1 ended ∙ sym are.threads)
  | inr cause ↦ inr (
    cause.thread_state.thread,
    cause.thread.0,
    subst (λ z. cause.thread_state.thread ≤ z) (sym are.threads) cause.thread.1,
    cause_of b s terms cause.number cause.thread_state taken is whole rest closing are cause.shows cause.causes,
  )
]

-- Each step of a mutator gives at most one reply, and one that gives one ends its unit. So a mutator whose gate is called wherever it rests has
-- replies to operations alone that were let pass.
use Rattle.std.proofs.Common.{◌≡◌, ℕ, ◌+◌, ◌<◌, ◌≤◌, ◌⊎◌, inl, inr, Bool, true, false, ◌∷◌, [], length, length-append, nat_eq, nat_le, arith, refl, sym, subst, ◌∙◌}
use Rattle.lxr_graph.specs.declared.Reply.TheVariants as reply
use Rattle.lxr_mutator.specs.Mutating.{Mutating, rests_in}
use Rattle.lxr_mutator.specs.Steps.{after}
use Rattle.lxr_mutator.specs.Laws.{StepsByRule}
use Rattle.lxr_mutator.specs.Laws.StepsByRule.{does_one, finds_asked, finds_end, gave_up, goes_on, stands_still}
use Rattle.lxr_mutator.proofs.StepLemmas.{done_rests, step_by_rule}
use Rattle.lxr_sights.specs.Gates.{IsLetPass, IsLetPassSince}

-- ---- one step

-- it gives no reply, or one, and then the mutator rests
abbrev RepliesOnce : Mutating → Mutating → Type 0
RepliesOnce m n = (n.thread ≡ m.thread) × ((length n.replies.items ≡ length m.replies.items) ⊎ ((length n.replies.items ≡ length m.replies.items + 1) × (rests_in n.phase ≡ true)))

by_rule : (m : Mutating) (old : ℕ) (to : Mutating) → StepsByRule m old to → RepliesOnce m to
by_rule m old to (goes_on log registers spans p busy) = (refl, inl refl)
by_rule m old to (finds_asked ready is) = (refl, inl refl)
by_rule m old to (finds_end ready unasked is) = (refl, inr (length-append m.replies.items (reply.Ended ∷ []), refl))
by_rule m old to (gave_up why is) = (refl, inl refl)
by_rule m old to (does_one log registers r) = (refl, inr (length-append m.replies.items (r ∷ []), done_rests (nat_le m.every (m.since + 1))))
by_rule m old to (stands_still is) = (refl, inl refl)

step_once : (m : Mutating) (old : ℕ) → RepliesOnce m (after m old)
step_once m old = by_rule m old (after m old) (step_by_rule m old)

-- ---- since it rested

-- a mutator that rests has gained nothing yet
pub passed_none : (passed : ℕ → ℕ → Type 0) (m : Mutating) → rests_in m.phase ≡ true → IsLetPassSince passed m m
passed_none passed m rests = record {
  thread = refl;
  gained = λ k low high. absurd (omega arith);
  begun = λ busy. let both : true ≡ false = sym rests ∙ busy in absurd (cc);
}

module _ (passed : ℕ → ℕ → Type 0) (m n : Mutating) (since : IsLetPassSince passed m n) (now : IsLetPass passed n) where
  -- the next operation to get a reply was let pass
  next_passed : passed m.thread (length n.replies.items)
  next_passed = by (rests_in n.phase) refl
    where
      by : (b : Bool) → rests_in n.phase ≡ b → passed m.thread (length n.replies.items)
      by true rests = subst (λ t. passed t (length n.replies.items)) since.thread (now rests)
      by false busy = since.begun busy

  -- so a step keeps it so
  pub passed_step : (old : ℕ) → IsLetPassSince passed m (after n old)
  passed_step old = by (step_once n old)
    where
      newest : (k : ℕ) → length m.replies.items ≤ k → k < length n.replies.items + 1 → (b : Bool) → nat_eq k (length n.replies.items) ≡ b → passed m.thread k
      newest k low high true e = let is : k ≡ length n.replies.items = grind arith in subst (passed m.thread) (sym is) next_passed
      newest k low high false e = since.gained k low (grind arith)

      by : RepliesOnce n (after n old) → IsLetPassSince passed m (after n old)
      by (thread, inl same) = record {
        thread = thread ∙ since.thread;
        gained = λ k low high. since.gained k low (subst (λ l. k < l) same high);
        begun = λ busy. subst (passed m.thread) (sym same) next_passed;
      }
      by (thread, inr (one, rests)) = record {
        thread = thread ∙ since.thread;
        gained = λ k low high. newest k low (subst (λ l. k < l) one high) (nat_eq k (length n.replies.items)) refl;
        begun = λ busy. let both : true ≡ false = sym rests ∙ busy in absurd (cc);
      }

-- Why the near misses with `swap` and `add` are none: a step has one reply, and a pause that stands for a full log stands before a call that
-- writes a reference.
use Rattle.std.proofs.Common.{◌≡◌, ℕ, refl, ap, arith, false, List, [], ◌∷◌, IsTrue}
use Rattle.std.specs.Prelude.{Option, Some, None, reverse}
use Rattle.lxr_layout.specs.declared.Name.{Name}
use Rattle.lxr_graph.specs.declared.Op.{Op}
use Rattle.lxr_graph.specs.declared.Reply.TheVariants as reply
use Rattle.lxr_graph.specs.History.{PauseReport, Item, Pause}
use Rattle.lxr_model.specs.Terms.{Terms}
use Rattle.lxr_model.specs.Legal.{IsLegalSoFar}
use Rattle.lxr_model_decide.specs.Belonging.{has_cause}
use Rattle.lxr_model_decide.specs.Legality.{all_may_stand, again}
use Rattle.lxr_model_decide.proofs.BelongingLemmas.{has_cause_test}
use Rattle.lxr_model_decide.proofs.LegalityLemmas.{legal_so_far}
use Rattle.lxr_model_decide.specs.ExampleHistories.{one_entry}
use Rattle.lxr_model_decide.specs.NearMisses.{IsNearMiss}
use Rattle.lxr_model_decide.specs.ExampleSwaps.{first_of, BothSwapsDoNotFindNil, SwapDoesNotFindItsOwn, AddDoesNotTellTheSum, AddDoesNotStopAtTheLargest, HasNoCause, AddNeedsNoLog, AddFillsNoLog}

-- ---- replies

same_found : {v w : Option Name} → reply.Swapped v ≡ reply.Swapped w → v ≡ w
same_found e = cc

some_is_none : {n : Name} → Some n ≡ None → ⊥
some_is_none e = cc

same_name_found : {n m : Name} → Some n ≡ Some m → n ≡ m
same_name_found e = cc

same_sum : {a b : ℕ} → reply.Added a ≡ reply.Added b → a ≡ b
same_sum e = cc

same_word : {a b : ℕ} → reply.Got a ≡ reply.Got b → a ≡ b
same_word e = cc

-- the tests find the items legal, and the last one isn't
near_miss : (terms : Terms) (items : List Item) (last : Item) → IsTrue (all_may_stand terms (reverse items)) → again terms (reverse items) ≡ reverse items
    → (IsLegalSoFar terms (last ∷ reverse items) → ⊥) → IsNearMiss terms items last
near_miss terms items last stand same refused = record { before = legal_so_far terms (reverse items) stand same; refused = refused }

pub both_swaps_do_not_find_nil : BothSwapsDoNotFindNil
both_swaps_do_not_find_nil = near_miss _ _ _ refl refl (λ legal. some_is_none (same_found {v = Some (first_of 1)} {w = None} legal.2.reply))

pub swap_does_not_find_its_own : SwapDoesNotFindItsOwn
swap_does_not_find_its_own = near_miss _ _ _ refl refl (λ legal.
    let same : first_of 1 ≡ first_of 2 = same_name_found (same_found {v = Some (first_of 1)} {w = Some (first_of 2)} legal.2.reply) in
    let threads : ◌≡◌ {A = ℕ} 1 2 = ap (λ n. n.thread) same in
    omega arith)

pub add_does_not_tell_the_sum : AddDoesNotTellTheSum
add_does_not_tell_the_sum = near_miss _ _ _ refl refl (λ legal. let told : ◌≡◌ {A = ℕ} 5 6 = same_sum legal.2.reply in omega arith)

pub add_does_not_stop_at_the_largest : AddDoesNotStopAtTheLargest
add_does_not_stop_at_the_largest = near_miss _ _ _ refl refl (λ legal. let told : ◌≡◌ {A = ℕ} 4 18446744073709551615 = same_word legal.2.reply in omega arith)

-- ---- causes

never_true : IsTrue false → ⊥
never_true e = cc

-- the tests find a pause legal, and no cause for it
no_cause : (terms : Terms) (operations : List Op) (items : List Item) (report : PauseReport)
    → IsTrue (all_may_stand terms (Pause report ∷ reverse items)) → again terms (Pause report ∷ reverse items) ≡ (Pause report ∷ reverse items)
    → has_cause terms (operations ∷ []) (reverse items) ≡ false → HasNoCause terms operations items report
no_cause terms operations items report stand same none = record {
  legal = legal_so_far terms (Pause report ∷ reverse items) stand same;
  refused = λ belongs. let found = has_cause_test terms (operations ∷ []) (reverse items) belongs.causes.1 in cc;
}

pub add_needs_no_log : AddNeedsNoLog
add_needs_no_log = no_cause one_entry _ _ _ refl refl refl

pub add_fills_no_log : AddFillsNoLog
add_fills_no_log = no_cause one_entry _ _ _ refl refl refl

-- The tests tell that the items before and behind the renewal may stand. The renewal stands since what it leaves unreclaimed is what is
-- reachable then, which is computed.
use Rattle.std.proofs.Common.{◌≡◌, refl, subst, sym, inl, inr, false, true, List, [], ◌∷◌, IsTrue}
use Rattle.std.specs.Prelude.{Some, None, is_some, replicate, reverse}
use Rattle.std.specs.List.{list_all}
use Rattle.std.proofs.lemmas.Bool.{and_parts, or_cases}
use Rattle.lxr_layout.specs.declared.Name.{Name}
use Rattle.lxr_graph.specs.Names.{has, same_name}
use Rattle.lxr_graph.specs.State.{Graph, HasObject, State, object_at, world_name}
use Rattle.lxr_graph.specs.History.{Item, Pause}
use Rattle.lxr_graph.proofs.NameSets.{has_one, in_order-one, same_names}
use Rattle.lxr_model.specs.Reachable.{IsClosed, the_world, held, referred}
use Rattle.lxr_model.specs.Terms.{Terms}
use Rattle.lxr_model.specs.Moments.{Moment, moment}
use Rattle.lxr_model.specs.Renewing.{IsStart}
use Rattle.lxr_model.specs.Legal.{IsLegalSoFar}
use Rattle.lxr_model_decide.specs.Sets.{reachable_names}
use Rattle.lxr_model_decide.specs.Legality.{item_again, keeps_promise, may_follow}
use Rattle.lxr_model_decide.proofs.SetLemmas.{reachable_right}
use Rattle.lxr_model_decide.proofs.LegalityLemmas.{follow_right, legal_so_far, promise_right}
use Rattle.lxr_model_decide.specs.ExampleWords.{collects, made, makes, usual_terms}
use Rattle.lxr_model_decide.specs.ExampleRenewals.{first_again, one_left, plainly_left, renewed, renewing_terms, RenewalsAreRefused, RenewedGoesOn}

-- what is reachable is closed
reachable_closed : (s : State) → IsClosed s (has (reachable_names s))
reachable_closed s =
    let right = reachable_right s in
    record {
      world = (right.members world_name).1 the_world;
      registers = λ n h. (right.members n).1 (held h);
      references = λ u n k f. (right.members n).1 (referred ((right.members u).0 k) f);
    }

-- names that all have objects
all_there : (g : Graph) (ns : List Name) → IsTrue (list_all (λ n. is_some (object_at g n)) ns) → (n : Name) → IsTrue (has ns n) → HasObject g n
all_there g [] all n h = absurd (cc)
all_there g (m ∷ ms) all n h =
    let a = and_parts (is_some (object_at g m)) (list_all (λ n. is_some (object_at g n)) ms) all in
    elim (or_cases (same_name n m) (has ms n) h) [
      | inl e ↦ subst (HasObject g) (sym (same_names n m e)) a.0
      | inr k ↦ all_there g ms a.1 n k
    ]

-- an item whose tests hold
goes_on : (terms : Terms) (h : List Item) (x : Item) → IsLegalSoFar terms h → IsTrue (keeps_promise terms h x) → IsTrue (may_follow terms h (moment terms.threads h) x)
    → item_again (moment terms.threads h) x ≡ x → IsLegalSoFar terms (x ∷ h)
goes_on terms h x legal promise may same = (legal, promise_right terms h x promise, follow_right terms h x may same)

abbrev begun : Moment
begun = moment 1 renewed

starts : IsStart 1 begun
starts = record {
  rests = refl;
  rows = refl;
  registers = refl;
  world = (record { refs = Some (made 1) ∷ replicate 63 None; values = [] }, refl, refl);
  closed = reachable_closed begun.state;
  objects = all_there begun.state.graph begun.unreclaimed refl;
  world_stuck = refl;
  stuck = λ n h. subst (λ z. IsTrue (has begun.unreclaimed z)) (sym (has_one world_name n h)) refl;
  unreclaimed_in_order = (reachable_right begun.state).in_order;
  stuck_in_order = in_order-one world_name;
}

renewed_legal : IsLegalSoFar renewing_terms renewed
renewed_legal = (
  legal_so_far renewing_terms (reverse one_left) refl refl,
  λ waits. waits.1 (inl refl),
  record { allowed = refl; behind = refl; untraced = refl; left = refl; sound = starts },
)

pub renewed_goes_on : RenewedGoesOn
renewed_goes_on =
    let first = goes_on renewing_terms renewed (makes 3 0 2) renewed_legal refl refl refl in
    let second = goes_on renewing_terms (makes 3 0 2 ∷ renewed) collects first refl refl refl in
    goes_on renewing_terms (collects ∷ makes 3 0 2 ∷ renewed) (Pause first_again) second refl refl refl

some_are_none : {n : Name} {ns : List Name} → world_name ∷ n ∷ ns ≡ world_name ∷ [] → ⊥
some_are_none e = cc

never_true : false ≡ true → ⊥
never_true e = cc

pub renewals_are_refused : RenewalsAreRefused
renewals_are_refused = record {
  forbidden = record { before = legal_so_far usual_terms (reverse one_left) refl refl; refused = λ legal. never_true legal.2.allowed };
  forgotten = record { before = legal_so_far renewing_terms (reverse one_left) refl refl; refused = λ legal. some_are_none legal.2.left };
  undrained = record { before = legal_so_far renewing_terms (reverse plainly_left) refl refl; refused = λ legal. never_true legal.2.behind };
}

-- Whether a name is reachable is decided by a search: of a finite list that has all that is reachable, names are taken
-- one by one, each the world, in a register or referred to by one taken before, until none is left to take.
use Rattle.std.proofs.Common.{◌≡◌, ℕ, zero, suc, ◌+◌, ◌≤◌, refl, sym, ap, subst, ◌∙◌, inl, inr, ◌⊎◌, arith, Bool, true, false, List, [], ◌∷◌, IsTrue, length}
use Rattle.std.specs.Prelude.{Option, Some, ◌||◌}
use Rattle.std.specs.List.{list_any}
use Rattle.std.proofs.lemmas.Bool.{or_cases, or_left, or_right}
use Rattle.lxr_layout.specs.declared.Name.{Name}
use Rattle.lxr_graph.specs.Names.{same_name, same_held, has}
use Rattle.lxr_graph.specs.State.{State, Graph, object_at, refs_of, world_name}
use Rattle.lxr_graph.proofs.NameSets.{same_itself, same_names, not_both}
use Rattle.lxr_model.specs.Reachable.{Reachable, the_world, held, referred, Holds, Refers, IsClosed}
use Rattle.lxr_model.proofs.ReachableLemmas.{reachable_within}
use Rattle.lxr_model.proofs.StepLemmas.{Gets}
use Rattle.lxr_model.proofs.CountLemmas.{held_same}

-- ---- tests on lists

pub gets_held : (rs : List (Option Name)) (o : Name) → IsTrue (list_any (same_held (Some o)) rs) → Gets rs (Some o)
gets_held [] o h = absurd (cc)
gets_held (r ∷ rs) o h = elim (or_cases (same_held (Some o) r) (list_any (same_held (Some o)) rs) h) [
  | inl e ↦ (0, ap Some (held_same o r e))
  | inr k ↦ let g = gets_held rs o k in (suc g.0, g.1)
]

pub held_gets : (rs : List (Option Name)) (o : Name) → Gets rs (Some o) → IsTrue (list_any (same_held (Some o)) rs)
held_gets [] o (i, e) = absurd (cc)
held_gets (r ∷ rs) o (zero, e) =
    let k : r ≡ Some o = cc in
    or_left (same_held (Some o) r) (list_any (same_held (Some o)) rs) (ap (same_held (Some o)) k ∙ same_itself o)
held_gets (r ∷ rs) o (suc i, e) = or_right (same_held (Some o) r) (list_any (same_held (Some o)) rs) (held_gets rs o (i, e))

abbrev pub refers_test : Graph → Name → Name → Bool
refers_test g o u = list_any (same_held (Some o)) (refs_of (object_at g u))

pub referrer : (g : Graph) (o : Name) (us : List Name) → IsTrue (list_any (refers_test g o) us) → (u : Name) × IsTrue (has us u) × Refers g u o
referrer g o [] h = absurd (cc)
referrer g o (u ∷ us) h = elim (or_cases (refers_test g o u) (list_any (refers_test g o) us) h) [
  | inl e ↦ (u, or_left (same_name u u) (has us u) (same_itself u), gets_held (refs_of (object_at g u)) o e)
  | inr k ↦ let r = referrer g o us k in (r.0, or_right (same_name r.0 u) (has us r.0) r.1, r.2)
]

pub from_referrer : (g : Graph) (o : Name) (us : List Name) (u : Name) → IsTrue (has us u) → Refers g u o → IsTrue (list_any (refers_test g o) us)
from_referrer g o [] u h f = absurd (cc)
from_referrer g o (x ∷ us) u h f = elim (or_cases (same_name u x) (has us u) h) [
  | inl e ↦ or_left (refers_test g o x) (list_any (refers_test g o) us) (held_gets (refs_of (object_at g x)) o (subst (λ z. Refers g z o) (same_names u x e) f))
  | inr k ↦ or_right (refers_test g o x) (list_any (refers_test g o) us) (from_referrer g o us u k f)
]

-- a member of U that refers to o, or none does
pub find_referrer : (g : Graph) (o : Name) (us : List Name) → ((u : Name) × IsTrue (has us u) × Refers g u o) ⊎ ((u : Name) → IsTrue (has us u) → Refers g u o → ⊥)
find_referrer g o us = elim (list_any (refers_test g o) us) as (λ b. list_any (refers_test g o) us ≡ b
    → ((u : Name) × IsTrue (has us u) × Refers g u o) ⊎ ((u : Name) → IsTrue (has us u) → Refers g u o → ⊥)) [
      | true ↦ λ e. inl (referrer g o us e)
      | false ↦ λ e. inr (λ u h f. not_both (list_any (refers_test g o) us) (from_referrer g o us u h f) e)
    ] refl

-- ---- one more name

-- the world, a name in a register, or one that a name taken before refers to
abbrev leads : State → List Name → Name → Bool
leads s taken o = same_name o world_name || (list_any (same_held (Some o)) s.registers || list_any (refers_test s.graph o) taken)

leads_there : (s : State) (taken : List Name) → ((n : Name) → IsTrue (has taken n) → Reachable s n) → (o : Name) → IsTrue (leads s taken o) → Reachable s o
leads_there s taken reached o h = elim (or_cases (same_name o world_name) (list_any (same_held (Some o)) s.registers || list_any (refers_test s.graph o) taken) h) [
  | inl e ↦ subst (Reachable s) (sym (same_names o world_name e)) the_world
  | inr k ↦ elim (or_cases (list_any (same_held (Some o)) s.registers) (list_any (refers_test s.graph o) taken) k) [
    | inl e ↦ held (gets_held s.registers o e)
    | inr e ↦ let r = referrer s.graph o taken e in referred (reached r.0 r.1) r.2
  ]
]

leads-held : (s : State) (taken : List Name) (o : Name) → Holds s o → IsTrue (leads s taken o)
leads-held s taken o h = or_right (same_name o world_name) (list_any (same_held (Some o)) s.registers || list_any (refers_test s.graph o) taken)
    (or_left (list_any (same_held (Some o)) s.registers) (list_any (refers_test s.graph o) taken) (held_gets s.registers o h))

leads-referred : (s : State) (taken : List Name) (o u : Name) → IsTrue (has taken u) → Refers s.graph u o → IsTrue (leads s taken o)
leads-referred s taken o u h f = or_right (same_name o world_name) (list_any (same_held (Some o)) s.registers || list_any (refers_test s.graph o) taken)
    (or_right (list_any (same_held (Some o)) s.registers) (list_any (refers_test s.graph o) taken) (from_referrer s.graph o taken u h f))

-- a list without one of its names that passes a test
record Picked (p : Name → Bool) (ns : List Name) : Type 0 where
  name : Name
  passes : IsTrue (p name)
  rest : List Name
  others : (q : Name) → IsTrue (has ns q) → (q ≡ name) ⊎ IsTrue (has rest q)
  shorter : length rest + 1 ≡ length ns

pick : (p : Name → Bool) (ns : List Name) → Picked p ns ⊎ ((q : Name) → IsTrue (has ns q) → p q ≡ false)
pick p [] = inr (λ q h. absurd (cc))
pick p (n ∷ ns) = elim (p n) as (λ b. p n ≡ b → Picked p (n ∷ ns) ⊎ ((q : Name) → IsTrue (has (n ∷ ns) q) → p q ≡ false)) [
  | true ↦ λ e. inl (record {
    name = n;
    passes = e;
    rest = ns;
    others = λ q h. elim (or_cases (same_name q n) (has ns q) h) [ inl k ↦ inl (same_names q n k) | inr k ↦ inr k ];
    shorter = omega arith;
  })
  | false ↦ λ e. elim (pick p ns) [
    | inl x ↦ inl (record {
      name = x.name;
      passes = x.passes;
      rest = n ∷ x.rest;
      others = λ q h. elim (or_cases (same_name q n) (has ns q) h) [
        | inl k ↦ inr (or_left (same_name q n) (has x.rest q) k)
        | inr k ↦ elim (x.others q k) [ inl y ↦ inl y | inr y ↦ inr (or_right (same_name q n) (has x.rest q) y) ]
      ];
      shorter = let s : length x.rest + 1 ≡ length ns = x.shorter in omega arith;
    })
    | inr none ↦ inr (λ q h. elim (or_cases (same_name q n) (has ns q) h) [
      | inl k ↦ ap p (same_names q n k) ∙ e
      | inr k ↦ none q k
    ])
  ]
] refl

-- ---- the search

-- a closed list of reachable names: all of them
record Found (s : State) : Type 0 where
  names : List Name
  reached : (n : Name) → IsTrue (has names n) → Reachable s n
  closed : IsClosed s (has names)

-- nothing is left to take
closed_taken : (s : State) (taken left : List Name) → ((n : Name) → IsTrue (has taken n) → Reachable s n)
    → ((n : Name) → Reachable s n → IsTrue (has taken n) ⊎ IsTrue (has left n)) → ((q : Name) → IsTrue (has left q) → leads s taken q ≡ false) → IsClosed s (has taken)
closed_taken s taken left reached all none = record {
  world = elim (all world_name the_world) [ inl h ↦ h | inr h ↦ not_both (leads s taken world_name) refl (none world_name h) ];
  registers = λ n h. elim (all n (held h)) [ inl k ↦ k | inr k ↦ not_both (leads s taken n) (leads-held s taken n h) (none n k) ];
  references = λ m n h f. elim (all n (referred (reached m h) f)) [ inl k ↦ k | inr k ↦ not_both (leads s taken n) (leads-referred s taken n m h f) (none n k) ];
}

-- the lists after one name more
module _ (s : State) (taken left : List Name) (reached : (n : Name) → IsTrue (has taken n) → Reachable s n)
    (all : (n : Name) → Reachable s n → IsTrue (has taken n) ⊎ IsTrue (has left n)) (x : Picked (leads s taken) left) where
  more_reached : (n : Name) → IsTrue (has (x.name ∷ taken) n) → Reachable s n
  more_reached n h = elim (or_cases (same_name n x.name) (has taken n) h) [
    | inl q ↦ subst (Reachable s) (sym (same_names n x.name q)) (leads_there s taken reached x.name x.passes)
    | inr q ↦ reached n q
  ]

  more_all : (n : Name) → Reachable s n → IsTrue (has (x.name ∷ taken) n) ⊎ IsTrue (has x.rest n)
  more_all n r = elim (all n r) [
    | inl h ↦ inl (or_right (same_name n x.name) (has taken n) h)
    | inr h ↦ elim (x.others n h) [
      | inl q ↦ inl (or_left (same_name n x.name) (has taken n) (ap (same_name n) (sym q) ∙ same_itself n))
      | inr q ↦ inr q
    ]
  ]

-- k is at least how many are left
take_all : (k : ℕ) (s : State) (taken left : List Name) → length left ≤ k → ((n : Name) → IsTrue (has taken n) → Reachable s n)
    → ((n : Name) → Reachable s n → IsTrue (has taken n) ⊎ IsTrue (has left n)) → Found s
take_all zero s taken left fuel reached all = elim (pick (leads s taken) left) [
  | inl x ↦ let e : length x.rest + 1 ≡ length left = x.shorter in absurd (omega arith)
  | inr none ↦ record { names = taken; reached = reached; closed = closed_taken s taken left reached all none }
]
take_all (suc k) s taken left fuel reached all = elim (pick (leads s taken) left) [
  | inl x ↦
      let e : length x.rest + 1 ≡ length left = x.shorter in
      take_all k s (x.name ∷ taken) x.rest (omega arith) (more_reached s taken left reached all x) (more_all s taken left reached all x)
  | inr none ↦ record { names = taken; reached = reached; closed = closed_taken s taken left reached all none }
]

pub decide_reachable : (s : State) (ns : List Name) → ((n : Name) → Reachable s n → IsTrue (has ns n)) → (n : Name) → Reachable s n ⊎ (Reachable s n → ⊥)
decide_reachable s ns all n =
    let found = take_all (length ns) s [] ns (omega arith) (λ q h. absurd (cc)) (λ q r. inr (all q r)) in
    elim (has found.names n) as (λ b. has found.names n ≡ b → Reachable s n ⊎ (Reachable s n → ⊥)) [
      | true ↦ λ e. inl (found.reached n e)
      | false ↦ λ e. inr (λ r. not_both (has found.names n) (reachable_within s (has found.names) found.closed n r) e)
    ] refl

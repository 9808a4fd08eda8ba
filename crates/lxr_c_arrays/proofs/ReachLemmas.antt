-- What a register reaches, by one step at most: what it holds, and what that refers to.
use Rattle.std.proofs.Common.{◌≡◌, ℕ, ◌∙◌, refl, sym, ap, subst, arith, inl, inr, Option, Some, None, List, [], length, map}
use Rattle.std.specs.Prelude.{option_map, slice_get, slice_index_or, unwrap_or}
use Rattle.std.proofs.Math.ListN.{get_or-map}
use Rattle.std.proofs.lemmas.Bool.{cases_lt}
use Rattle.std.proofs.lemmas.List.{get_or_past, map-id}
use Rattle.std.proofs.lemmas.Option.{get_or_from_slice_get, slice_get-get_or}
use Rattle.lxr_layout.specs.declared.Name.{Name}
use Rattle.lxr_graph.specs.Renewing.{renewed_held}
use Rattle.lxr_graph.specs.State.{object_at, refs_of, register_at}
use Rattle.lxr_large_model.specs.State.{LargeState}
use Rattle.lxr_c_many.specs.Fields.{references_in}
use Rattle.lxr_c_arrays.specs.Elements.{AreApart, HasOwnParts, IsNoPart, as_named, part_of}
use Rattle.lxr_c_arrays.proofs.OwnLemmas.{nil_named}
use Rattle.lxr_c_arrays.proofs.SettleLemmas.{IsReachedBy, Settled}

-- ---- lists of references

-- what has a name is something
pub held_named : (names : Option (List Name)) (v : Option Name) (n : Name) → as_named names v ≡ Some n → (q : Name) × (v ≡ Some q)
held_named None v n e = (n, e)
held_named (Some ns) None n e = absurd (cc)
held_named (Some ns) (Some q) n e = (q, refl)

pub nameless : (names : Option (List Name)) (n : Name) → as_named names (Some n) ≡ None → ⊥
nameless None n none = absurd (cc)
nameless (Some ns) n none = absurd (cc)

pub named_in : (names : Option (List Name)) (vs : List (Option Name)) (i : ℕ) → slice_index_or (map (as_named names) vs) i None ≡ as_named names (slice_index_or vs i None)
named_in None vs i = ap (λ l. slice_index_or l i None) (map-id vs)
named_in (Some ns) vs i = get_or-map (renewed_held ns) vs i None

pub named_within : (names : Option (List Name)) (v : Option (List (Option Name))) (i : ℕ) → slice_index_or (unwrap_or (option_map (map (as_named names)) v) []) i None ≡ as_named names (slice_index_or (unwrap_or v []) i None)
named_within names None i = get_or_past [] i None (omega arith) ∙ sym (nil_named names) ∙ ap (as_named names) (sym (get_or_past [] i None (omega arith)))
named_within names (Some vs) i = named_in names vs i

pub found_at : (vs : List (Option Name)) (i : ℕ) (q : Name) → slice_index_or vs i None ≡ Some q → slice_get vs i ≡ Some (Some q)
found_at vs i q e = elim (cases_lt i (length vs)) [
  | inl less ↦ slice_get-get_or vs i None less ∙ ap (λ v. Some v) e
  | inr over ↦ absurd (let none : None ≡ Some q = sym (get_or_past vs i None over) ∙ e in cc)
]

-- ---- what is reached

-- so are the parts of a root
pub reached_part : (s : LargeState) (base p : ℕ) (n : Name) → part_of s base p ≡ Some n → IsReachedBy s base n
reached_part s base p n is = at_held (register_at s.small 1 base) refl is
  where
    at_held : (v : Option Name) → register_at s.small 1 base ≡ v → slice_index_or (unwrap_or (option_map (λ a. refs_of (object_at s.small.graph a)) v) []) p None ≡ Some n → IsReachedBy s base n
    at_held None e found = absurd (let none : None ≡ Some n = sym (get_or_past [] p None (omega arith)) ∙ found in cc)
    at_held (Some a) e found = inr (a, p, e, found_at (refs_of (object_at s.small.graph a)) p n found)

-- what is reached where a state has settled was reached before, by the name that it had then
reached_before : (s b : LargeState) (settled : Settled s b) (r : ℕ) (n : Name) → IsReachedBy b r n → (q : Name) × IsReachedBy s r q × (as_named settled.names (Some q) ≡ Some n)
reached_before s b settled r n (inl held) =
    let f = as_named settled.names in
    let now : f (register_at s.small 1 r) ≡ Some n = sym (settled.registers r) ∙ held in
    let (q, is) = held_named settled.names (register_at s.small 1 r) n now in
    (q, inl is, ap f (sym is) ∙ now)
reached_before s b settled r n (inr (m, i, held, read)) =
    let f = as_named settled.names in
    let there : part_of b r i ≡ Some n =
    ap (λ v. slice_index_or (unwrap_or (option_map (λ a. refs_of (object_at b.small.graph a)) v) []) i None) held ∙ get_or_from_slice_get (refs_of (object_at b.small.graph m)) i (Some n) None read in
    let now : f (part_of s r i) ≡ Some n = sym (ap (λ v. slice_index_or (unwrap_or v []) i None) (settled.references r) ∙ named_within settled.names (references_in s r) i) ∙ there in
    let (q, is) = held_named settled.names (part_of s r i) n now in
    (q, reached_part s r i q is, ap f (sym is) ∙ now)

-- a register reaches what another one reached where it holds what that one held, which refers to what it referred to
pub reached_over : (u w : LargeState) (q r : ℕ) (n : Name) → register_at w.small 1 q ≡ register_at u.small 1 r
    → ((m : Name) → register_at u.small 1 r ≡ Some m → refs_of (object_at w.small.graph m) ≡ refs_of (object_at u.small.graph m)) → IsReachedBy w q n → IsReachedBy u r n
reached_over u w q r n same refs (inl held) = inl (sym same ∙ held)
reached_over u w q r n same refs (inr (m, i, held, read)) = inr (m, i, sym same ∙ held, ap (λ vs. slice_get vs i) (sym (refs m (sym same ∙ held))) ∙ read)

-- ---- registers that reach nothing in common

abbrev pub ReachApart : LargeState → ℕ → ℕ → Type 0
ReachApart s q r = (n : Name) → IsReachedBy s q n → IsReachedBy s r n → ⊥

pub apart_settled : (s b : LargeState) → Settled s b → (q r : ℕ) → ReachApart s q r → ReachApart b q r
apart_settled s b settled q r apart n one two =
    let (a, from, is_a) = reached_before s b settled q n one in
    let (c, other, is_c) = reached_before s b settled r n two in
    let same = settled.one a c (q, from) (r, other) (is_a ∙ sym is_c) in
    apart a from (subst (IsReachedBy s r) (sym same) other)

pub apart_roots : (s : LargeState) (q r : ℕ) → ReachApart s q r → AreApart s q r
apart_roots s q r apart = record {
  root = λ p n one held. apart n (reached_part s q p n one) (inl held);
  parts = λ i j n one two. apart n (reached_part s q i n one) (reached_part s r j n two);
}

-- ---- parts that are a root's own

-- they are so still by new names
pub own_named : (s b w : LargeState) (settled : Settled s b) (r : ℕ) → register_at w.small 1 r ≡ as_named settled.names (register_at s.small 1 r)
    → references_in w r ≡ option_map (map (as_named settled.names)) (references_in s r) → HasOwnParts s r → HasOwnParts w r
own_named s b w settled r held refs own = record {
  distinct = λ i j n one two.
      let (a, is_a) = held_named names (part_of s r i) n (sym (now i) ∙ one) in
      let (c, is_c) = held_named names (part_of s r j) n (sym (now j) ∙ two) in
      let same : a ≡ c = settled.one a c (r, reached_part s r i a is_a) (r, reached_part s r j c is_c) (ap f (sym is_a) ∙ sym (now i) ∙ one ∙ sym two ∙ now j ∙ ap f is_c) in
      own.distinct i j a is_a (is_c ∙ ap (λ q. Some q) (sym same));
  apart = λ i n one root.
      let (a, is_a) = held_named names (part_of s r i) n (sym (now i) ∙ one) in
      let (c, is_c) = held_named names (register_at s.small 1 r) n (sym held ∙ root) in
      let same : a ≡ c = settled.one a c (r, reached_part s r i a is_a) (r, inl is_c) (ap f (sym is_a) ∙ sym (now i) ∙ one ∙ sym root ∙ held ∙ ap f is_c) in
      own.apart i a is_a (is_c ∙ ap (λ q. Some q) (sym same));
}
  where
    names : Option (List Name)
    names = settled.names

    f : Option Name → Option Name
    f = as_named names

    now : (i : ℕ) → part_of w r i ≡ f (part_of s r i)
    now i = ap (λ v. slice_index_or (unwrap_or v []) i None) refs ∙ named_within names (references_in s r) i

-- what was no part of a root is none by new names
pub no_part_named : (s b w : LargeState) (settled : Settled s b) (base r : ℕ) → register_at w.small 1 r ≡ as_named settled.names (register_at s.small 1 r)
    → references_in w base ≡ option_map (map (as_named settled.names)) (references_in s base) → IsNoPart s base r → IsNoPart w base r
no_part_named s b w settled base r held refs none i n one is =
    let names = settled.names in
    let f = as_named names in
    let now : part_of w base i ≡ f (part_of s base i) = ap (λ v. slice_index_or (unwrap_or v []) i None) refs ∙ named_within names (references_in s base) i in
    let (a, is_a) = held_named names (part_of s base i) n (sym now ∙ one) in
    let (c, is_c) = held_named names (register_at s.small 1 r) n (sym held ∙ is) in
    let same : a ≡ c = settled.one a c (base, reached_part s base i a is_a) (r, inl is_c) (ap f (sym is_a) ∙ sym now ∙ one ∙ sym is ∙ held ∙ ap f is_c) in
    none i a is_a (is_c ∙ ap (λ q. Some q) (sym same))

-- roots that are apart are so by new names
pub apart_named : (s b w : LargeState) (settled : Settled s b) (q r : ℕ) → references_in w q ≡ option_map (map (as_named settled.names)) (references_in s q) → register_at w.small 1 r ≡ as_named settled.names (register_at s.small 1 r)
    → references_in w r ≡ option_map (map (as_named settled.names)) (references_in s r) → AreApart s q r → AreApart w q r
apart_named s b w settled q r refs held others are = record {
  root = no_part_named s b w settled q r held refs are.root;
  parts = λ i j n one two.
      let names = settled.names in
      let f = as_named names in
      let now_q : part_of w q i ≡ f (part_of s q i) = ap (λ v. slice_index_or (unwrap_or v []) i None) refs ∙ named_within names (references_in s q) i in
      let now_r : part_of w r j ≡ f (part_of s r j) = ap (λ v. slice_index_or (unwrap_or v []) j None) others ∙ named_within names (references_in s r) j in
      let (a, is_a) = held_named names (part_of s q i) n (sym now_q ∙ one) in
      let (c, is_c) = held_named names (part_of s r j) n (sym now_r ∙ two) in
      let same : a ≡ c = settled.one a c (q, reached_part s q i a is_a) (r, reached_part s r j c is_c) (ap f (sym is_a) ∙ sym now_q ∙ one ∙ sym two ∙ now_r ∙ ap f is_c) in
      are.parts i j a is_a (is_c ∙ ap (λ z. Some z) (sym same));
}

-- and where the register holds what it held, which refers to what it referred to
pub own_over : (u w : LargeState) (r : ℕ) → register_at w.small 1 r ≡ register_at u.small 1 r → references_in w r ≡ references_in u r → HasOwnParts u r → HasOwnParts w r
own_over u w r held refs own = record {
  distinct = λ i j n one two. own.distinct i j n (was i ∙ one) (was j ∙ two);
  apart = λ i n one root. own.apart i n (was i ∙ one) (sym held ∙ root);
}
  where
    was : (i : ℕ) → part_of u r i ≡ part_of w r i
    was i = ap (λ v. slice_index_or (unwrap_or v []) i None) (sym refs)

-- so with roots that are apart
pub apart_over : (u w : LargeState) (q r : ℕ) → references_in w q ≡ references_in u q → register_at w.small 1 r ≡ register_at u.small 1 r → references_in w r ≡ references_in u r → AreApart u q r → AreApart w q r
apart_over u w q r refs held others are = record {
  root = λ i n one is. are.root i n (was q refs i ∙ one) (sym held ∙ is);
  parts = λ i j n one two. are.parts i j n (was q refs i ∙ one) (was r others j ∙ two);
}
  where
    was : (o : ℕ) → references_in w o ≡ references_in u o → (i : ℕ) → part_of u o i ≡ part_of w o i
    was o same i = ap (λ v. slice_index_or (unwrap_or v []) i None) (sym same)

-- The computed sets: what joins is in the least set by its rules, and what has grown obeys the rules, so that the least
-- set is within it.
use Rattle.std.proofs.Common.{◌≡◌, ℕ, zero, suc, refl, sym, ap, subst, ◌∙◌, inl, inr, ◌⊎◌, true, false, cond, List, [], ◌∷◌, ◌++◌, IsTrue}
use Rattle.std.specs.Prelude.{Option, Some, None, nat_le, not, ◌&&◌, ◌||◌, slice_get}
use Rattle.std.proofs.lemmas.Bool.{or_cases, or_left, or_right, and_parts, and_from, not-true, not_from_false, false_from_ne_true}
use Rattle.lxr_layout.specs.declared.Name.{Name}
use Rattle.lxr_graph.specs.Names.{same_name, has, without}
use Rattle.lxr_graph.specs.State.{Object, Graph, State, refs_of, row_of, first_serial, index_in_row, world_name}
use Rattle.lxr_graph.proofs.NameSets.{same_itself, same_names, not_both, without_parts, in_without}
use Rattle.lxr_model.specs.Reachable.{Reachable, the_world, held, referred, Holds, Refers, IsClosed}
use Rattle.lxr_model.specs.Dead.{Dead, dead, IsClosedUnderDeath, IsClosedUnderPromotion, Promoted, by_register, by_kept, by_promoted}
use Rattle.lxr_model.proofs.DecideLemmas.{from_referrer, gets_held, held_gets, referrer}
use Rattle.lxr_model.proofs.ReachableLemmas.{reachable_within, dead_within, promoted_within}
use Rattle.lxr_model_decide.specs.Sets.{holds, any_refers, names_in, names_in_row, names_in_graph, all_names, is_reached, reachable_names, dies, dead_names, is_raised, promoted_names}
use Rattle.lxr_model_decide.specs.Laws.{ReachableNamesAreRight, DeadNamesAreRight, PromotedNamesAreRight}
use Rattle.lxr_model_decide.proofs.GrowLemmas.{LetsIn, names_are, names_in_order, names_full}

-- a list of references holds n somewhere
abbrev IsAmong : List (Option Name) → Name → Type 0
IsAmong rs n = (i : ℕ) × (slice_get rs i ≡ Some (Some n))

-- ---- all names

has-both_left : (ns ms : List Name) (n : Name) → IsTrue (has ns n) → IsTrue (has (ns ++ ms) n)
has-both_left [] ms n h = absurd (cc)
has-both_left (x ∷ ns) ms n h = elim (or_cases (same_name n x) (has ns n) h) [
  | inl e ↦ or_left (same_name n x) (has (ns ++ ms) n) e
  | inr k ↦ or_right (same_name n x) (has (ns ++ ms) n) (has-both_left ns ms n k)
]

has-both_right : (ns ms : List Name) (n : Name) → IsTrue (has ms n) → IsTrue (has (ns ++ ms) n)
has-both_right [] ms n h = h
has-both_right (x ∷ ns) ms n h = or_right (same_name n x) (has (ns ++ ms) n) (has-both_right ns ms n h)

in_names : (rs : List (Option Name)) (n : Name) → IsAmong rs n → IsTrue (has (names_in rs) n)
in_names [] n (i, e) = absurd (cc)
in_names (None ∷ rs) n (zero, e) = absurd (cc)
in_names (None ∷ rs) n (suc i, e) = in_names rs n (i, e)
in_names (Some m ∷ rs) n (zero, e) = let q : m ≡ n = cc in or_left (same_name n m) (has (names_in rs) n) (ap (same_name n) q ∙ same_itself n)
in_names (Some m ∷ rs) n (suc i, e) = or_right (same_name n m) (has (names_in rs) n) (in_names rs n (i, e))

in_row : (row : List Object) (i : ℕ) (n : Name) → IsAmong (refs_of (slice_get row i)) n → IsTrue (has (names_in_row row) n)
in_row [] i n (j, e) = absurd (cc)
in_row (o ∷ row) zero n g = has-both_left (names_in o.refs) (names_in_row row) n (in_names o.refs n g)
in_row (o ∷ row) (suc i) n g = has-both_right (names_in o.refs) (names_in_row row) n (in_row row i n g)

in_graph : (g : Graph) (t i : ℕ) (n : Name) → IsAmong (refs_of (slice_get (row_of g t) i)) n → IsTrue (has (names_in_graph g) n)
in_graph [] t i n (j, e) = absurd (cc)
in_graph (row ∷ g) zero i n a = has-both_left (names_in_row row) (names_in_graph g) n (in_row row i n a)
in_graph (row ∷ g) (suc t) i n a = has-both_right (names_in_row row) (names_in_graph g) n (in_graph g t i n a)

no_reference : {P : Type 0} (i : ℕ) (n : Name) → slice_get (refs_of None) i ≡ Some (Some n) → P
no_reference i n e = absurd (cc)

referred_in_graph : (g : Graph) (m n : Name) → Refers g m n → IsTrue (has (names_in_graph g) n)
referred_in_graph g m n f =
    elim (nat_le (first_serial m.thread) m.serial) as (λ b. IsAmong (refs_of (cond b (slice_get (row_of g m.thread) (index_in_row m)) None)) n → IsTrue (has (names_in_graph g) n)) [
      | true ↦ in_graph g m.thread (index_in_row m) n
      | false ↦ λ a. no_reference a.0 n a.1
    ] f

-- ---- reachable

module _ (s : State) where
  rest_of : List Name
  rest_of = names_in s.registers ++ names_in_graph s.graph

  reached_is_reachable : LetsIn (is_reached s) (all_names s) (Reachable s)
  reached_is_reachable taken n all h e = elim (or_cases (same_name n world_name) (holds s n || any_refers s.graph taken n) e) [
    | inl k ↦ subst (Reachable s) (sym (same_names n world_name k)) the_world
    | inr k ↦ elim (or_cases (holds s n) (any_refers s.graph taken n) k) [
      | inl k ↦ held (gets_held s.registers n k)
      | inr k ↦ let r = referrer s.graph n taken k in referred (all r.0 r.1) r.2
    ]
  ]

  reaches_held : (taken : List Name) (n : Name) → Holds s n → IsTrue (is_reached s taken n)
  reaches_held taken n h = or_right (same_name n world_name) (holds s n || any_refers s.graph taken n) (or_left (holds s n) (any_refers s.graph taken n) (held_gets s.registers n h))

  reaches_referred : (taken : List Name) (m n : Name) → IsTrue (has taken m) → Refers s.graph m n → IsTrue (is_reached s taken n)
  reaches_referred taken m n h f = or_right (same_name n world_name) (holds s n || any_refers s.graph taken n)
      (or_right (holds s n) (any_refers s.graph taken n) (from_referrer s.graph n taken m h f))

  behind_world : (n : Name) → IsTrue (has rest_of n) → IsTrue (has (all_names s) n)
  unfolding rest_of
  behind_world n h = or_right (same_name n world_name) (has (names_in s.registers ++ names_in_graph s.graph) n) h

  reachable_closed : IsClosed s (has (reachable_names s))
  unfolding rest_of
  reachable_closed = record {
    world = names_full (is_reached s) (all_names s) world_name refl refl;
    registers = λ n h. names_full (is_reached s) (all_names s) n
        (behind_world n (has-both_left (names_in s.registers) (names_in_graph s.graph) n (in_names s.registers n h))) (reaches_held (reachable_names s) n h);
    references = λ m n h f. names_full (is_reached s) (all_names s) n
        (behind_world n (has-both_right (names_in s.registers) (names_in_graph s.graph) n (referred_in_graph s.graph m n f))) (reaches_referred (reachable_names s) m n h f);
  }

pub reachable_right : ReachableNamesAreRight
reachable_right s = record {
  in_order = names_in_order (is_reached s) (all_names s);
  members = λ n. (
    names_are (is_reached s) (all_names s) (Reachable s) (reached_is_reachable s) n,
    reachable_within s (has (reachable_names s)) (reachable_closed s) n,
  );
}

-- ---- dead

module _ (s : State) (us stuck : List Name) where
  others_taken : (taken : List Name) (o u : Name) → any_refers s.graph (without us taken) o ≡ false → IsTrue (has us u) → Refers s.graph u o → IsTrue (has taken u)
  others_taken taken o u none h f = elim (has taken u) as (λ b. has taken u ≡ b → b ≡ true) [
    | true ↦ λ e. refl
    | false ↦ λ e. not_both (any_refers s.graph (without us taken) o)
        (from_referrer s.graph o (without us taken) u (in_without us taken u h (λ k. not_both (has taken u) k e)) f) none
  ] refl

  dying_is_dead : LetsIn (dies s us stuck) us (Dead s us stuck)
  dying_is_dead taken o all h e =
      let a = and_parts (not (has stuck o)) (not (holds s o) && not (any_refers s.graph (without us taken) o)) e in
      let b = and_parts (not (holds s o)) (not (any_refers s.graph (without us taken) o)) a.1 in
      dead h (not-true (has stuck o) a.0) (λ k. not_both (holds s o) (held_gets s.registers o k) (not-true (holds s o) b.0))
      (λ u k f. all u (others_taken taken o u (not-true (any_refers s.graph (without us taken) o) b.1) k f))

  dead_closed : IsClosedUnderDeath s us stuck (has (dead_names s us stuck))
  dead_closed o h unstuck unheld each =
      let ds = dead_names s us stuck in
      let none : any_refers s.graph (without us ds) o ≡ false = false_from_ne_true (any_refers s.graph (without us ds) o) (λ e.
      let r = referrer s.graph o (without us ds) e in
      let w = without_parts us ds r.0 r.1 in
      not_both (has ds r.0) (each r.0 w.0 r.2) w.1) in
      names_full (dies s us stuck) us o h
      (and_from (not (has stuck o)) (not (holds s o) && not (any_refers s.graph (without us ds) o)) (not_from_false (has stuck o) unstuck)
      (and_from (not (holds s o)) (not (any_refers s.graph (without us ds) o)) (not_from_false (holds s o) (false_from_ne_true (holds s o) (λ e. unheld (gets_held s.registers o e))))
      (not_from_false (any_refers s.graph (without us ds) o) none)))

pub dead_right : DeadNamesAreRight
dead_right s us stuck = record {
  in_order = names_in_order (dies s us stuck) us;
  members = λ o. (
    names_are (dies s us stuck) us (Dead s us stuck) (dying_is_dead s us stuck) o,
    dead_within s us stuck (has (dead_names s us stuck)) (dead_closed s us stuck) o,
  );
}

-- ---- promoted

module _ (s : State) (kept made : List Name) where
  raised_is_promoted : LetsIn (is_raised s kept) made (Promoted s kept made)
  raised_is_promoted taken n all h e = elim (or_cases (holds s n) (any_refers s.graph kept n || any_refers s.graph taken n) e) [
    | inl k ↦ by_register h (gets_held s.registers n k)
    | inr k ↦ elim (or_cases (any_refers s.graph kept n) (any_refers s.graph taken n) k) [
      | inl k ↦ let r = referrer s.graph n kept k in by_kept r.0 h r.1 r.2
      | inr k ↦ let r = referrer s.graph n taken k in by_promoted h (all r.0 r.1) r.2
    ]
  ]

  raises : (taken : List Name) (n : Name) → IsTrue (holds s n) ⊎ IsTrue (any_refers s.graph kept n) ⊎ IsTrue (any_refers s.graph taken n) → IsTrue (is_raised s kept taken n)
  raises taken n (inl e) = or_left (holds s n) (any_refers s.graph kept n || any_refers s.graph taken n) e
  raises taken n (inr (inl e)) = or_right (holds s n) (any_refers s.graph kept n || any_refers s.graph taken n) (or_left (any_refers s.graph kept n) (any_refers s.graph taken n) e)
  raises taken n (inr (inr e)) = or_right (holds s n) (any_refers s.graph kept n || any_refers s.graph taken n) (or_right (any_refers s.graph kept n) (any_refers s.graph taken n) e)

  promoted_closed : IsClosedUnderPromotion s kept made (has (promoted_names s kept made))
  promoted_closed =
      let ps = promoted_names s kept made in
      record {
        registers = λ n h k. names_full (is_raised s kept) made n h (raises ps n (inl (held_gets s.registers n k)));
        members = λ u n h k f. names_full (is_raised s kept) made n h (raises ps n (inr (inl (from_referrer s.graph n kept u k f))));
        promoted = λ m n h k f. names_full (is_raised s kept) made n h (raises ps n (inr (inr (from_referrer s.graph n ps m k f))));
      }

pub promoted_right : PromotedNamesAreRight
promoted_right s kept made = record {
  in_order = names_in_order (is_raised s kept) made;
  members = λ n. (
    names_are (is_raised s kept) made (Promoted s kept made) (raised_is_promoted s kept made) n,
    promoted_within s kept made (has (promoted_names s kept made)) (promoted_closed s kept made) n,
  );
}

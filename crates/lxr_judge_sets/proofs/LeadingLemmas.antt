-- A search finds what the names begun lead to: what is found is led to, and at its end each object found is scanned.
use Rattle.std.proofs.Common.{◌≡◌, ℕ, zero, suc, ◌+◌, ◌<◌, ◌≤◌, refl, sym, ap, subst, ◌∙◌, inl, inr, ◌⊎◌, arith, Bool, true, List, [], ◌∷◌, ◌++◌, IsTrue, length}
use Rattle.std.specs.Prelude.{Some, None, ◌&&◌, ◌||◌, ◌↔◌, slice_get}
use Rattle.std.specs.List.{list_any}
use Rattle.std.proofs.lemmas.Bool.{and_from, and_parts, cases_Bool, cases_order, or_cases, or_left, or_right}
use Rattle.std.proofs.lemmas.List.{append-nil, append_assoc}
use Rattle.std.proofs.lemmas.List.Folds.{list_any-append}
use Rattle.std.proofs.lemmas.Option.{slice_get_within}
use Rattle.lxr_layout.specs.declared.Name.{Name}
use Rattle.lxr_graph.specs.Names.{AreInOrder, IsSetOf, has, same_held, same_name}
use Rattle.lxr_graph.specs.State.{Graph, State, object_at, refs_of, world_name}
use Rattle.lxr_graph.proofs.NameSets.{same_itself, same_names}
use Rattle.lxr_model.specs.Reachable.{Reachable, Refers, the_world, held, referred}
use Rattle.lxr_model.specs.Dead.{Promoted, by_register, by_kept, by_promoted}
use Rattle.lxr_model.proofs.DecideLemmas.{from_referrer, gets_held, held_gets, referrer}
use Rattle.lxr_judge_sets.specs.Leading.{Finds, FindsAll, FindsFrom, GoesOn, LeadTo, any_refers, begins, refers_on}
use Rattle.lxr_judge_sets.specs.NameSets.{joined}
use Rattle.lxr_judge_sets.proofs.NameSetLemmas.{joined-new, joined-old, or_nothing}

-- ---- lists that go on

pub goes_on-same : (ns : List Name) → GoesOn ns ns
goes_on-same ns = ([], sym (append-nil ns))

pub goes_on-joined : (ns : List Name) (n : Name) → GoesOn ns (joined ns n)
goes_on-joined ns n = elim (cases_Bool (has ns n)) [
  | inl e ↦ ([], joined-old ns n e ∙ sym (append-nil ns))
  | inr e ↦ (n ∷ [], joined-new ns n e)
]

pub goes_on-through : (ns ms ks : List Name) → GoesOn ns ms → GoesOn ms ks → GoesOn ns ks
goes_on-through ns ms ks a b = (a.0 ++ b.0, b.1 ∙ ap (λ xs. xs ++ b.0) a.1 ∙ append_assoc ns a.0 b.0)

get-front : (xs ys : List Name) (k : ℕ) → k < length xs → slice_get (xs ++ ys) k ≡ slice_get xs k
get-front [] ys k h = absurd (omega arith)
get-front (x ∷ xs) ys zero h = refl
get-front (x ∷ xs) ys (suc k) h = get-front xs ys k (omega arith)

-- what stood there still does
pub goes_on-get : (ns ms : List Name) (k : ℕ) → GoesOn ns ms → k < length ns → slice_get ms k ≡ slice_get ns k
goes_on-get ns ms k a h = ap (λ xs. slice_get xs k) a.1 ∙ get-front ns a.0 k h

-- ---- the search

-- of what is found, each name is led to, and what the first k of them refer to is found too
pub record IsFollowing (g : Graph) (may : Name → Bool) (begun found : List Name) (k : ℕ) : Type 0 where
  pub goes_on : GoesOn begun found
  pub led : (n : Name) → IsTrue (has found n) → LeadTo g may begun n
  pub scanned : (j : ℕ) (m n : Name) → j < k → slice_get found j ≡ Some m → Refers g m n → IsTrue (may n) → IsTrue (has found n)
  pub within : k ≤ length found

pub following-begins : (g : Graph) (may : Name → Bool) (begun : List Name) → IsFollowing g may begun begun 0
following-begins g may begun = record {
  goes_on = goes_on-same begun;
  led = λ n h. begins h;
  scanned = λ j m n below. absurd (omega arith);
  within = omega arith;
}

has_front : (ns more : List Name) (n : Name) → IsTrue (has ns n) → IsTrue (has (ns ++ more) n)
has_front ns more n h = list_any-append (same_name n) ns more ∙ or_left (has ns n) (has more n) h

still_has : (ns ms : List Name) (n : Name) → GoesOn ns ms → IsTrue (has ns n) → IsTrue (has ms n)
still_has ns ms n a h = subst (λ xs. IsTrue (has xs n)) (sym a.1) (has_front ns a.0 n h)

some_same : (x y : Name) → Some x ≡ Some y → x ≡ y
some_same x y e = cc

get_has : (ns : List Name) (k : ℕ) (n : Name) → slice_get ns k ≡ Some n → IsTrue (has ns n)
get_has [] k n e = absurd (cc)
get_has (m ∷ ns) zero n e = let is : n ≡ m = cc in or_left (same_name n m) (has ns n) (ap (same_name n) (sym is) ∙ same_itself n)
get_has (m ∷ ns) (suc k) n e = or_right (same_name n m) (has ns n) (get_has ns k n e)

has_get : (ns : List Name) (n : Name) → IsTrue (has ns n) → (k : ℕ) × (slice_get ns k ≡ Some n)
has_get [] n h = absurd (cc)
has_get (m ∷ ns) n h = elim (or_cases (same_name n m) (has ns n) h) [
  | inl e ↦ (0, ap Some (sym (same_names n m e)))
  | inr k ↦ let g = has_get ns n k in (suc g.0, g.1)
]

length_goes_on : (ns ms : List Name) → GoesOn ns ms → length ns ≤ length ms
length_goes_on ns ms a = subst (λ (xs : List Name). length ns ≤ length xs) (sym a.1) (longer ns a.0)
  where
    longer : (xs ys : List Name) → length xs ≤ length (xs ++ ys)
    longer [] ys = omega arith
    longer (x ∷ xs) ys = let e = longer xs ys in omega arith

-- one object more is scanned
pub following-more : (g : Graph) (may : Name → Bool) (begun found after : List Name) (k : ℕ) (name : Name) → IsFollowing g may begun found k
    → slice_get found k ≡ Some name → Finds may found (refs_of (object_at g name)) after → IsFollowing g may begun after (k + 1)
following-more g may begun found after k name is at finds =
    let inside : k < length found = slice_get_within found k name at in
    let longer = length_goes_on found after finds.goes_on in
    record {
      goes_on = goes_on-through begun found after is.goes_on finds.goes_on;
      led = λ n h. elim (or_cases (has found n) (may n && list_any (same_held (Some n)) (refs_of (object_at g name)))
          (sym (finds.found n) ∙ h)) [
            | inl e ↦ is.led n e
            | inr e ↦
                let both = and_parts (may n) (list_any (same_held (Some n)) (refs_of (object_at g name))) e in
                refers_on (is.led name (get_has found k name at)) (gets_held (refs_of (object_at g name)) n both.1) both.0
          ];
      scanned = λ j m n below stands refers wanted.
          let stood : slice_get found j ≡ Some m = sym (goes_on-get found after j finds.goes_on (omega (arith, inside, below))) ∙ stands in
          elim (first_or_last j k below) [
            | inl less ↦ still_has found after n finds.goes_on (is.scanned j m n less stood refers wanted)
            | inr same ↦
                let one : m ≡ name = some_same m name (sym stood ∙ ap (slice_get found) same ∙ at) in
                finds.found n ∙ or_right (has found n) (may n && list_any (same_held (Some n)) (refs_of (object_at g name)))
                (and_from (may n) (list_any (same_held (Some n)) (refs_of (object_at g name))) wanted
                (held_gets (refs_of (object_at g name)) n (subst (λ x. Refers g x n) one refers)))
          ];
      within = omega (arith, inside, longer);
    }
  where
    first_or_last : (j k : ℕ) → j < k + 1 → (j < k) ⊎ (j ≡ k)
    first_or_last j k h = elim (cases_order j k) [
      | inl e ↦ inr e
      | inr o ↦ elim o [ inl l ↦ inl l | inr l ↦ absurd (omega arith) ]
    ]

-- where nothing stands, the list has ended
pub ended : (ns : List Name) (k : ℕ) → slice_get ns k ≡ None → length ns ≤ k
ended [] k e = omega arith
ended (n ∷ ns) zero e = absurd (cc)
ended (n ∷ ns) (suc k) e = let rest = ended ns k e in omega (arith, rest)

-- where all are scanned, all that is led to is found
pub following-ends : (g : Graph) (may : Name → Bool) (begun found : List Name) (k : ℕ) → IsFollowing g may begun found k
    → length found ≤ k → FindsAll g may begun found
following-ends g may begun found k is all n = (is.led n, led_found n)
  where
    led_found : (n : Name) → LeadTo g may begun n → IsTrue (has found n)
    led_found n (begins h) = still_has begun found n is.goes_on h
    led_found n (refers_on {m = m} l refers wanted) =
        let at = has_get found m (led_found m l) in
        let inside = slice_get_within found at.0 m at.1 in
        is.scanned at.0 m n (omega (arith, inside, all)) at.1 refers wanted

-- ---- what is reachable

-- a list in order that has what was found is the set of it
pub set_found : (ns found : List Name) (P : Name → Type 0) → AreInOrder ns → ((n : Name) → has ns n ≡ has found n)
    → ((n : Name) → IsTrue (has found n) ↔ P n) → IsSetOf ns P
set_found ns found P ordered same is = record {
  in_order = ordered;
  members = λ n. (λ h. (is n).0 (sym (same n) ∙ h), λ p. same n ∙ (is n).1 p);
}

module _ (s : State) (one begun : List Name) (first : Finds (λ n. true) [] (Some world_name ∷ []) one)
    (second : Finds (λ n. true) one s.registers begun) where
  begun_is : (n : Name) → has begun n ≡ (same_name n world_name || list_any (same_held (Some n)) s.registers)
  begun_is n = second.found n ∙ ap (λ b. b || list_any (same_held (Some n)) s.registers)
      (first.found n ∙ or_nothing (same_name n world_name))

  begun_reachable : (n : Name) → IsTrue (has begun n) → Reachable s n
  begun_reachable n h = elim (or_cases (same_name n world_name) (list_any (same_held (Some n)) s.registers) (sym (begun_is n) ∙ h)) [
    | inl e ↦ subst (Reachable s) (sym (same_names n world_name e)) the_world
    | inr e ↦ held (gets_held s.registers n e)
  ]

  led_reachable : (n : Name) → LeadTo s.graph (λ n. true) begun n → Reachable s n
  led_reachable n (begins h) = begun_reachable n h
  led_reachable n (refers_on {m = m} l refers wanted) = referred (led_reachable m l) refers

  reachable_led : (n : Name) → Reachable s n → LeadTo s.graph (λ n. true) begun n
  reachable_led n the_world = begins (begun_is world_name
      ∙ or_left (same_name world_name world_name) (list_any (same_held (Some world_name)) s.registers) refl)
  reachable_led n (held h) = begins (begun_is n ∙ or_right (same_name n world_name) (list_any (same_held (Some n)) s.registers)
      (held_gets s.registers n h))
  reachable_led n (referred {m = m} r refers) = refers_on (reachable_led m r) refers refl

-- what the world and the registers lead to is reachable
pub reachable_found : (s : State) (one begun found : List Name) → Finds (λ n. true) [] (Some world_name ∷ []) one
    → Finds (λ n. true) one s.registers begun
    → FindsAll s.graph (λ n. true) begun found → (n : Name) → IsTrue (has found n) ↔ Reachable s n
reachable_found s one begun found first second all n = (
  λ h. led_reachable s one begun first second n ((all n).0 h),
  λ r. (all n).1 (reachable_led s one begun first second n r),
)

-- ---- what is promoted

module _ (s : State) (kept made one begun : List Name) (first : Finds (has made) [] s.registers one)
    (second : FindsFrom s.graph (has made) one kept begun) where
  begun_from : (n : Name)
      → has begun n ≡ ((has made n && list_any (same_held (Some n)) s.registers) || (has made n && any_refers s.graph kept n))
  begun_from n = second.found n ∙ ap (λ b. b || (has made n && any_refers s.graph kept n)) (first.found n)

  begun_promoted : (n : Name) → IsTrue (has begun n) → Promoted s kept made n
  begun_promoted n h = elim (or_cases (has made n && list_any (same_held (Some n)) s.registers) (has made n && any_refers s.graph kept n)
      (sym (begun_from n) ∙ h)) [
        | inl e ↦
            let both = and_parts (has made n) (list_any (same_held (Some n)) s.registers) e in
            by_register both.0 (gets_held s.registers n both.1)
        | inr e ↦
            let both = and_parts (has made n) (any_refers s.graph kept n) e in
            let by = referrer s.graph n kept both.1 in
            by_kept by.0 both.0 by.1 by.2
      ]

  led_promoted : (n : Name) → LeadTo s.graph (has made) begun n → Promoted s kept made n
  led_promoted n (begins h) = begun_promoted n h
  led_promoted n (refers_on {m = m} l refers wanted) = by_promoted wanted (led_promoted m l) refers

  promoted_led : (n : Name) → Promoted s kept made n → LeadTo s.graph (has made) begun n
  promoted_led n (by_register q h) =
      begins (begun_from n ∙ or_left (has made n && list_any (same_held (Some n)) s.registers) (has made n && any_refers s.graph kept n)
      (and_from (has made n) (list_any (same_held (Some n)) s.registers) q (held_gets s.registers n h)))
  promoted_led n (by_kept u q k refers) =
      begins (begun_from n ∙ or_right (has made n && list_any (same_held (Some n)) s.registers) (has made n && any_refers s.graph kept n)
      (and_from (has made n) (any_refers s.graph kept n) q (from_referrer s.graph n kept u k refers)))
  promoted_led n (by_promoted {m = m} q r refers) = refers_on (promoted_led m r) refers q

-- what the registers and the kept objects lead to among the names made is promoted
pub promoted_found : (s : State) (kept made one begun found : List Name) → Finds (has made) [] s.registers one
    → FindsFrom s.graph (has made) one kept begun
    → FindsAll s.graph (has made) begun found → (n : Name) → IsTrue (has found n) ↔ Promoted s kept made n
promoted_found s kept made one begun found first second all n = (
  λ h. led_promoted s kept made one begun first second n ((all n).0 h),
  λ p. (all n).1 (promoted_led s kept made one begun first second n p),
)

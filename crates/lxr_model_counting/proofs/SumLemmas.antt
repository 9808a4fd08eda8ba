-- Sums over the references of objects: `over_names f size us` adds f u i for each name u of a list and each i below size u.
-- What a list of distinct fields adds up to is such a sum, where f counts at those fields alone.
use Rattle.std.proofs.Common.{◌≡◌, ℕ, zero, suc, ◌+◌, ◌<◌, refl, sym, ap, subst, ◌∙◌, inl, inr, arith, Bool, true, false, cond, List, [], ◌∷◌, IsTrue, nat_eq, length}
use Rattle.std.specs.Prelude.{◌||◌, ◌&&◌, Option, None, Some, count_by, slice_index_or}
use Rattle.std.proofs.lemmas.Bool.{false_from_ne_true}
use Rattle.std.proofs.lemmas.List.Sums.{sum_by-cons}
use Rattle.lxr_layout.specs.declared.Name.{Name}
use Rattle.lxr_graph.specs.Names.{same_name, same_held, has}
use Rattle.lxr_graph.specs.State.{Graph, object_at, refs_of}
use Rattle.lxr_graph.proofs.NameSets.{not_both, same_itself, same_names}
use Rattle.lxr_model.specs.References.{occurrences, references_from}
use Rattle.lxr_model.specs.Moments.{Field, same_field}
use Rattle.lxr_model.specs.Reports.{field_holds}
use Rattle.lxr_model_counting.specs.Distinct.{IsDistinct, has_field, AreDistinctFields}
use Rattle.lxr_model_counting.proofs.DistinctLemmas.{tested, same_fields, same_field_itself, first_has, later_has, has_split, first_field, later_field}

-- ---- the sums

-- f 0, f 1 and so on, below n
abbrev pub over_fields : (ℕ → ℕ) → ℕ → ℕ
over_fields f zero = 0
over_fields f (suc n) = f n + over_fields f n

abbrev pub over_names : (Name → ℕ → ℕ) → (Name → ℕ) → List Name → ℕ
over_names f size [] = 0
over_names f size (u ∷ us) = over_fields (f u) (size u) + over_names f size us

-- f at each field of a list
abbrev pub over_list : (Name → ℕ → ℕ) → List Field → ℕ
over_list f [] = 0
over_list f (w ∷ ws) = f w.0 w.1 + over_list f ws

-- two sums that are the same at each place
pub fields_add : (f g h k : ℕ → ℕ) (n : ℕ) → ((i : ℕ) → i < n → f i + g i ≡ h i + k i) → over_fields f n + over_fields g n ≡ over_fields h n + over_fields k n
fields_add f g h k zero same = refl
fields_add f g h k (suc n) same =
    let rest = fields_add f g h k n (λ i below. same i (omega arith)) in
    let here = same n (omega arith) in
    omega (arith, rest, here)

pub names_add : (f g h k : Name → ℕ → ℕ) (size : Name → ℕ) (us : List Name) → ((u : Name) (i : ℕ) → IsTrue (has us u) → i < size u → f u i + g u i ≡ h u i + k u i)
    → over_names f size us + over_names g size us ≡ over_names h size us + over_names k size us
names_add f g h k size [] same = refl
names_add f g h k size (u ∷ us) same =
    let rest = names_add f g h k size us (λ v i in_us below. same v i (later_has u us v in_us) below) in
    let here = fields_add (f u) (g u) (h u) (k u) (size u) (λ i below. same u i (first_has u us) below) in
    omega (arith, rest, here)

pub fields_zero : (f : ℕ → ℕ) (n : ℕ) → ((i : ℕ) → i < n → f i ≡ 0) → over_fields f n ≡ 0
fields_zero f zero none = refl
fields_zero f (suc n) none =
    let rest = fields_zero f n (λ i below. none i (omega arith)) in
    let here = none n (omega arith) in
    omega (arith, rest, here)

pub names_zero : (f : Name → ℕ → ℕ) (size : Name → ℕ) (us : List Name) → ((u : Name) (i : ℕ) → IsTrue (has us u) → i < size u → f u i ≡ 0) → over_names f size us ≡ 0
names_zero f size [] none = refl
names_zero f size (u ∷ us) none =
    let rest = names_zero f size us (λ v i in_us below. none v i (later_has u us v in_us) below) in
    let here = fields_zero (f u) (size u) (λ i below. none u i (first_has u us) below) in
    omega (arith, rest, here)

-- a sum of one place alone
fields_one : (f : ℕ → ℕ) (j n : ℕ) → j < n → ((i : ℕ) → nat_eq i j ≡ false → f i ≡ 0) → over_fields f n ≡ f j
fields_one f j zero below none = absurd (omega arith)
fields_one f j (suc n) below none = elim (tested (nat_eq n j)) [
  | inl e ↦
      let same : n ≡ j = grind (arith, e) in
      let here : f n ≡ f j = ap f same in
      let rest = fields_zero f n (λ i less. none i (let differ : i < j = omega arith in grind (arith, differ))) in
      omega (arith, here, rest)
  | inr e ↦
      let differ : j < n = grind (arith, e) in
      let here = none n e in
      let rest = fields_one f j n differ none in
      omega (arith, here, rest)
]

other_field : (u v : Name) (i j : ℕ) → same_name u v ≡ false → same_field (u, i) (v, j) ≡ false
other_field u v i j e = ap (λ b. b && nat_eq i j) e

other_index : (u v : Name) (i j : ℕ) → nat_eq i j ≡ false → same_field (u, i) (v, j) ≡ false
other_index u v i j e = elim (same_name u v) as (λ b. (b && nat_eq i j) ≡ false) [ true ↦ e | false ↦ refl ]

names_one : (f : Name → ℕ → ℕ) (size : Name → ℕ) (us : List Name) (v : Name) (j : ℕ) → IsDistinct us → IsTrue (has us v) → j < size v
    → ((u : Name) (i : ℕ) → same_field (u, i) (v, j) ≡ false → f u i ≡ 0) → over_names f size us ≡ f v j
names_one f size [] v j d h below none = absurd (cc)
names_one f size (u ∷ us) v j d h below none = elim (tested (same_name u v)) [
  | inl e ↦
      let same : u ≡ v = same_names u v e in
      let here : over_fields (f u) (size u) ≡ f v j = subst (λ x. over_fields (f x) (size x) ≡ f v j) (sym same) (fields_one (f v) j (size v) below (λ i differ. none v i (other_index v v i j differ))) in
      let rest = names_zero f size us (λ x i in_us less. none x i (other_field x v i j (false_from_ne_true (same_name x v) (λ k.
      not_both (has us u) (subst (λ z. IsTrue (has us z)) (same_names x v k ∙ sym same) in_us) d.0)))) in
      omega (arith, here, rest)
  | inr e ↦
      let there : IsTrue (has us v) = elim (has_split u us v h) [ inl k ↦ not_both (same_name u v) (subst (λ z. IsTrue (same_name u z)) (sym k) (same_itself u)) e | inr k ↦ k ] in
      let here = fields_zero (f u) (size u) (λ i less. none u i (other_field u v i j e)) in
      let rest = names_one f size us v j d.1 there below none in
      omega (arith, here, rest)
]

-- ---- fields of a list

-- f at the fields of a list, and nothing elsewhere
abbrev pub at_fields : List Field → (Name → ℕ → ℕ) → Name → ℕ → ℕ
at_fields ws f u i = cond (has_field ws (u, i)) (f u i) 0

-- the fields of a list are of these names, and below their sizes
abbrev pub AreFieldsOf : List Field → (Name → ℕ) → List Name → Type 0
AreFieldsOf ws size us = (u : Name) (i : ℕ) → IsTrue (has_field ws (u, i)) → IsTrue (has us u) × (i < size u)

split_at : (a b : Bool) (n : ℕ) → (a ≡ true → b ≡ false) → cond a n 0 + cond b n 0 ≡ cond (a || b) n 0 + 0
split_at true b n apart = rw (apart refl) (omega arith)
split_at false b n apart = omega arith

one_at : (f : Name → ℕ → ℕ) (v : Name) (j : ℕ) → cond (same_field (v, j) (v, j)) (f v j) 0 ≡ f v j
one_at f v j = ap (λ b. cond b (f v j) 0) (same_field_itself (v, j))

pub list_over_names : (f : Name → ℕ → ℕ) (size : Name → ℕ) (us : List Name) (ws : List Field) → IsDistinct us → AreDistinctFields ws → AreFieldsOf ws size us
    → over_list f ws ≡ over_names (at_fields ws f) size us
list_over_names f size us [] d e are = sym (names_zero (at_fields [] f) size us (λ u i h below. refl))
list_over_names f size us (w ∷ ws) d e are =
    let rest = list_over_names f size us ws d e.1 (λ u i h. are u i (later_field w ws (u, i) h)) in
    let at = are w.0 w.1 (first_field w ws) in
    let one : Name → ℕ → ℕ = λ u i. cond (same_field (u, i) w) (f u i) 0 in
    let here : over_names one size us ≡ f w.0 w.1 = names_one one size us w.0 w.1 d at.0 at.1 (λ u i differ. ap (λ b. cond b (f u i) 0) differ) ∙ one_at f w.0 w.1 in
    let both = names_add one (at_fields ws f) (at_fields (w ∷ ws) f) (λ u i. 0) size us
    (λ u i h below. split_at (same_field (u, i) w) (has_field ws (u, i)) (f u i) (λ k. ap (has_field ws) (same_fields (u, i) w k) ∙ e.0)) in
    let none = names_zero (λ u i. 0) size us (λ u i h below. refl) in
    omega (arith, rest, here, both, none)

-- ---- references as such sums

-- one where a reference holds o
abbrev pub one_at_field : Graph → Name → Name → ℕ → ℕ
one_at_field g o u i = cond (field_holds g o (u, i)) 1 0

pub count_over_list : (p : Field → Bool) (ws : List Field) → count_by p ws ≡ over_list (λ u i. cond (p (u, i)) 1 0) ws
count_over_list p [] = refl
count_over_list p (w ∷ ws) = let e = sum_by-cons (λ x. cond (p x) 1 0) w ws in let k = count_over_list p ws in omega (arith, e, k)

shift : (f : ℕ → ℕ) (n : ℕ) → over_fields f (suc n) ≡ f 0 + over_fields (λ i. f (suc i)) n
shift f zero = refl
shift f (suc n) = let k = shift f n in omega (arith, k)

pub occurrences_over : (rs : List (Option Name)) (o : Name) → occurrences rs o ≡ over_fields (λ i. cond (same_held (Some o) (slice_index_or rs i None)) 1 0) (length rs)
occurrences_over [] o = refl
occurrences_over (r ∷ rs) o =
    let k = occurrences_over rs o in
    let e = shift (λ i. cond (same_held (Some o) (slice_index_or (r ∷ rs) i None)) 1 0) (length rs) in
    omega (arith, k, e)

pub references_over : (g : Graph) (size : Name → ℕ) (us : List Name) (o : Name) → ((u : Name) → IsTrue (has us u) → length (refs_of (object_at g u)) ≡ size u)
    → references_from g us o ≡ over_names (one_at_field g o) size us
references_over g size [] o sized = refl
references_over g size (u ∷ us) o sized =
    let rest = references_over g size us o (λ v h. sized v (later_has u us v h)) in
    let here : occurrences (refs_of (object_at g u)) o ≡ over_fields (one_at_field g o u) (size u) =
    subst (λ n. occurrences (refs_of (object_at g u)) o ≡ over_fields (one_at_field g o u) n) (sized u (first_has u us)) (occurrences_over (refs_of (object_at g u)) o) in
    omega (arith, rest, here)

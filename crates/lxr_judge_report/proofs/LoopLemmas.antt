-- One field, one register and one name more.
use Rattle.std.proofs.Common.{◌≡◌, ℕ, ◌+◌, ◌<◌, ◌≤◌, suc, refl, sym, ap, ◌∙◌, arith, Bool, true, false, cond, List, [], ◌∷◌, ◌++◌, length, get_or, drop, drop-cons, length-drop, min, subst}
use Rattle.std.specs.Prelude.{Option, Some, None, not, ◌&&◌, ◌||◌, nat_le, filter, map}
use Rattle.std.specs.List.{zip, list_any}
use Rattle.std.proofs.lemmas.List.{map-append}
use Rattle.indexmap.specs.IndexSet.{insert_key}
use Rattle.std.proofs.lemmas.List.Sums.{sum_by-cons}
use Rattle.lxr_layout.specs.declared.Name.{Name}
use Rattle.lxr_layout.specs.declared.TheConstants.{STUCK}
use Rattle.lxr_graph.specs.Names.{same_name, same_held, has}
use Rattle.lxr_graph.specs.Distinct.{IsDistinct}
use Rattle.lxr_graph.proofs.NameSets.{same_names}
use Rattle.lxr_model.specs.References.{occurrences}
use Rattle.lxr_model.specs.Moments.{same_field}
use Rattle.lxr_model.specs.Reports.{newly_held}
use Rattle.lxr_judge_report.specs.declared.position.Written.{Written}
use Rattle.lxr_judge_report.specs.Fields.{field_of, joined_field, newly_of}
use Rattle.lxr_judge_report.specs.Positions.{Present}
use Rattle.lxr_judge_report.specs.Stages.{becomes_stuck, becomes_stuck_by, count_before_now, raised_now}
use Rattle.lxr_judge_report.proofs.SetLemmas.{filter_has, filter_same}

-- ---- registers

-- a register holds o newly exactly where what it holds newly is o
newly_once : (was is : Option Name) (o : Name) → (same_held (Some o) is && not (same_held (Some o) was)) ≡ same_held (Some o) (newly_of was is)
newly_once None None o = refl
newly_once None (Some m) o = and_true (same_name o m)
  where
    and_true : (b : Bool) → (b && true) ≡ b
    and_true true = refl
    and_true false = refl
newly_once (Some n) None o = refl
newly_once (Some n) (Some m) o = elim (same_name n m) as (λ b. same_name n m ≡ b → (same_name o m && not (same_name o n)) ≡ same_held (Some o) (cond b None (Some m))) [
  | true ↦ λ e. both (same_name o m) (same_name o n) (λ h. ap (same_name o) (same_names n m e) ∙ h)
  | false ↦ λ e. apart (same_name o m) (same_name o n) (λ h k. ap (λ x. same_name x m) (sym (same_names o n k)) ∙ h) e
] refl
  where
    both : (a b : Bool) → (a ≡ true → b ≡ true) → (a && not b) ≡ false
    both true b h = ap not (h refl)
    both false b h = refl

    apart : (a b : Bool) → (a ≡ true → b ≡ true → same_name n m ≡ true) → same_name n m ≡ false → (a && not b) ≡ a
    apart true true h e = let both : true ≡ false = sym (h refl refl) ∙ e in absurd (cc)
    apart true false h e = refl
    apart false b h e = refl

newly_cons : (w i : Option Name) (ws is : List (Option Name)) (o : Name) → newly_held (w ∷ ws) (i ∷ is) o ≡ cond (same_held (Some o) (newly_of w i)) 1 0 + newly_held ws is o
newly_cons w i ws is o =
    sum_by-cons (λ p. cond (same_held (Some o) p.1 && not (same_held (Some o) p.0)) 1 0) (w, i) (zip ws is)
    ∙ ap (λ b. cond b 1 0 + newly_held ws is o) (newly_once w i o)

pub newly_more : (ws is : List (Option Name)) (i : ℕ) (o : Name) → i < length ws → i < length is
    → newly_held (drop i ws) (drop i is) o ≡ occurrences (newly_of (get_or ws i None) (get_or is i None) ∷ []) o + newly_held (drop (i + 1) ws) (drop (i + 1) is) o
newly_more ws is i o h k =
    let next : suc i ≡ i + 1 = omega arith in
    let w : drop i ws ≡ get_or ws i None ∷ drop (suc i) ws = drop-cons ws i None h in
    let n : drop i is ≡ get_or is i None ∷ drop (suc i) is = drop-cons is i None k in
    let step = newly_cons (get_or ws i None) (get_or is i None) (drop (suc i) ws) (drop (suc i) is) o in
    let here : newly_held (drop i ws) (drop i is) o ≡ newly_held (get_or ws i None ∷ drop (suc i) ws) (get_or is i None ∷ drop (suc i) is) o = λ j. newly_held (w j) (n j) o in
    let more : newly_held (drop (suc i) ws) (drop (suc i) is) o ≡ newly_held (drop (i + 1) ws) (drop (i + 1) is) o = ap (λ j. newly_held (drop j ws) (drop j is) o) next in
    omega (arith, here, step, more)

pub newly_all : (ws is : List (Option Name)) (i : ℕ) (o : Name) → min (length ws) (length is) ≤ i → newly_held (drop i ws) (drop i is) o ≡ 0
newly_all ws is i o h = none (drop i ws) (drop i is) (omega (arith, length-drop i ws, length-drop i is))
  where
    none : (ws is : List (Option Name)) → min (length ws) (length is) ≡ 0 → newly_held ws is o ≡ 0
    none [] is e = refl
    none (w ∷ ws) [] e = refl
    none (w ∷ ws) (i ∷ is) e = absurd (omega (arith, e))

-- ---- names that pass a test

-- those of a list in which none stands twice don't stand twice either
pub distinct-filter : (p : Name → Bool) (ns : List Name) → IsDistinct ns → IsDistinct (filter p ns)
distinct-filter p [] once = tt
distinct-filter p (n ∷ ns) once = elim (p n) as (λ b. IsDistinct (cond b (n ∷ filter p ns) (filter p ns))) [
  | true ↦ (filter_has p ns n ∙ ap (λ b. b && p n) once.0, distinct-filter p ns once.1)
  | false ↦ distinct-filter p ns once.1
]

-- a list of what passes so often by one count passes by an equal one
pub stuck_same : (p : Present) (promoted kept names set : List Name) (raised : Name → ℕ) → ((o : Name) → raised o ≡ raised_now p promoted o) → IsDistinct kept
    → names ≡ filter (becomes_stuck_by p promoted raised) kept → (IsDistinct names → set ≡ names) → set ≡ filter (becomes_stuck p promoted) kept
stuck_same p promoted kept names set raised same once names_was set_was =
    set_was (subst IsDistinct (sym names_was) (distinct-filter (becomes_stuck_by p promoted raised) kept once))
    ∙ names_was
    ∙ filter_same (becomes_stuck_by p promoted raised) (becomes_stuck p promoted) kept (λ o h. ap (λ r. not (has p.last.stuck o) && nat_le STUCK (count_before_now p promoted o + r)) (same o))

-- ---- fields written

-- a table that tells equal fields has those of a list
keys_any : (eq : Written → Written → Bool) → ((a b : Written) → eq a b ≡ same_field (field_of a) (field_of b)) → (w : Written) (keys : List Written)
    → list_any (eq w) keys ≡ list_any (same_field (field_of w)) (map field_of keys)
keys_any eq same w [] = refl
keys_any eq same w (k ∷ keys) = λ i. same w k i || keys_any eq same w keys i

-- and a field joins it as it joins the list
pub keys_joined : (eq : Written → Written → Bool) → ((a b : Written) → eq a b ≡ same_field (field_of a) (field_of b)) → (w : Written) (keys : List Written)
    → map field_of (insert_key eq keys w) ≡ joined_field (map field_of keys) (field_of w)
keys_joined eq same w keys =
    let by : (b : Bool) → map field_of (cond b keys (keys ++ w ∷ [])) ≡ cond b (map field_of keys) (map field_of keys ++ field_of w ∷ []) =
    λ b. elim b as (λ b. map field_of (cond b keys (keys ++ w ∷ [])) ≡ cond b (map field_of keys) (map field_of keys ++ field_of w ∷ [])) [
      | true ↦ refl
      | false ↦ map-append field_of keys (w ∷ [])
    ] in
    by (list_any (eq w) keys) ∙ ap (λ b. cond b (map field_of keys) (map field_of keys ++ field_of w ∷ [])) (keys_any eq same w keys)

-- three tests, grouped either way
pub and_assoc : (x y z : Bool) → (x && (y && z)) ≡ ((x && y) && z)
and_assoc true y z = refl
and_assoc false y z = refl

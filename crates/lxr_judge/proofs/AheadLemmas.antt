-- Up to where an order has items that pass a test, found item by item.
use Rattle.std.proofs.Common.{◌≡◌, ℕ, zero, suc, ◌+◌, ◌-◌, ◌<◌, ◌≤◌, inl, inr, Bool, true, false, List, [], ◌∷◌, ◌++◌, length, take, drop, refl, sym, ap, subst, ◌∙◌, arith, nat_lt, ◌||◌, IsTrue, get_or-set_same, get_or-set_other, length-set}
use Rattle.std.specs.List.{list_any}
use Rattle.std.specs.Prelude.{◌&&◌, Some, nat_eq, nat_le, slice_get, slice_index, slice_set}
use Rattle.std.proofs.lemmas.Bool.{cases_lt, cases_eq, cases_Bool, lt-ltb, le-ltb, le-leb, leb-true, eq-eqb, ne_eqb, and_parts, and_from, cond-true, cond-false, true≢false}
use Rattle.std.proofs.lemmas.List.{take_more, length-take-le}
use Rattle.std.proofs.lemmas.Option.{slice_get_within, get_or_from_slice_get}
use Rattle.lxr_graph.specs.declared.Item as ordered
use Rattle.lxr_graph.specs.declared.Item.TheVariants as ordered_as
use Rattle.lxr_judge.specs.declared.ahead.Ahead.{Ahead}
use Rattle.lxr_judge.specs.Ahead.{ReachTo, IsAhead, noted}
use Rattle.lxr_judge.specs.Passing.{is_call_of, is_pause}

any_push : (p : ordered.Item → Bool) (items : List ordered.Item) (x : ordered.Item) → list_any p (items ++ x ∷ []) ≡ (list_any p items || p x)
any_push p [] x = elim (p x) as (λ b. (b || false) ≡ b) [ true ↦ refl | false ↦ refl ]
any_push p (y ∷ items) x = elim (p y) as (λ b. (b || list_any p (items ++ x ∷ [])) ≡ ((b || list_any p items) || p x)) [ true ↦ refl | false ↦ any_push p items x ]

drop_push : (items : List ordered.Item) (x : ordered.Item) (n : ℕ) → n ≤ length items → drop n (items ++ x ∷ []) ≡ drop n items ++ x ∷ []
drop_push items x zero le = refl
drop_push [] x (suc n) le = absurd (omega (arith, le))
drop_push (y ∷ items) x (suc n) le = drop_push items x n (omega (arith, le))

drop_past : (items : List ordered.Item) (n : ℕ) → length items ≤ n → drop n items ≡ []
drop_past [] zero le = refl
drop_past [] (suc n) le = refl
drop_past (y ∷ items) zero le = absurd (omega (arith, le))
drop_past (y ∷ items) (suc n) le = drop_past items n (omega (arith, le))

length_push : (items : List ordered.Item) (x : ordered.Item) → length (items ++ x ∷ []) ≡ suc (length items)
length_push [] x = refl
length_push (y ∷ items) x = ap suc (length_push items x)

-- nothing yet
pub reach_none : (p : ordered.Item → Bool) → ReachTo p [] 0
reach_none p zero = refl
reach_none p (suc n) = sym (le-ltb (suc n) 0 (omega arith))

-- an item that passes is the last so far
pub reach_more : (p : ordered.Item → Bool) (items : List ordered.Item) (x : ordered.Item) (last : ℕ) → p x ≡ true → ReachTo p items last → ReachTo p (items ++ x ∷ []) (suc (length items))
reach_more p items x last passes reach n = elim (cases_lt (length items) n) [
  | inl past ↦ ap (list_any p) (drop_past (items ++ x ∷ []) n (let e = length_push items x in omega (arith, e, past))) ∙ sym (le-ltb n (suc (length items)) (omega (arith, past)))
  | inr within ↦ ap (list_any p) (drop_push items x n within) ∙ (any_push p (drop n items) x ∙ (rw passes (elim (list_any p (drop n items)) as (λ b. (b || true) ≡ nat_lt n (suc (length items))) [
    | true ↦ sym (lt-ltb n (suc (length items)) (omega (arith, within)))
    | false ↦ sym (lt-ltb n (suc (length items)) (omega (arith, within)))
  ])))
]

-- one that doesn't leaves it
pub reach_still : (p : ordered.Item → Bool) (items : List ordered.Item) (x : ordered.Item) (last : ℕ) → p x ≡ false → ReachTo p items last → ReachTo p (items ++ x ∷ []) last
reach_still p items x last fails reach n = elim (cases_lt (length items) n) [
  | inl past ↦ ap (list_any p) (drop_past (items ++ x ∷ []) n (let e = length_push items x in omega (arith, e, past)) ∙ sym (drop_past items n (omega (arith, past)))) ∙ reach n
  | inr within ↦ ap (list_any p) (drop_push items x n within) ∙ (any_push p (drop n items) x ∙ (rw fails (elim (list_any p (drop n items)) as (λ b. list_any p (drop n items) ≡ b → (b || false) ≡ nat_lt n last) [
    | true ↦ λ e. sym e ∙ reach n
    | false ↦ λ e. sym e ∙ reach n
  ] refl)))
]

-- ---- what is kept of the order

in_range : (u : ℕ) → IsTrue (nat_le 1 u && nat_le u 16) → (1 ≤ u) × (u ≤ 16)
in_range u h = let a = and_parts (nat_le 1 u) (nat_le u 16) h in (leb-true 1 u a.0, leb-true u 16 a.1)

not_seat : (t u : ℕ) → 1 ≤ t → t ≤ 16 → (nat_le 1 u && nat_le u 16) ≡ false → nat_eq t u ≡ false
not_seat t u low high out = ne_eqb t u (λ same. true≢false (sym (and_from (nat_le 1 u) (nat_le u 16) (le-leb 1 u (omega (arith, same, low))) (le-leb u 16 (omega (arith, same, high)))) ∙ out))

-- a call of a thread reaches to its place
call_noted : (a : Ahead) (items : List ordered.Item) (u : ℕ) → IsAhead a items → IsAhead (noted a (ordered_as.Call u) (suc (length items))) (items ++ ordered_as.Call u ∷ [])
call_noted a items u ahead = elim (cases_Bool (nat_le 1 u && nat_le u 16)) [
  | inl seat ↦
      let range = in_range u seat in
      let inside : u - 1 < length a.calls = omega (arith, range, ahead.sizes) in
      rw (cond-true (nat_le 1 u && nat_le u 16) (record a { calls = slice_set a.calls (u - 1) (suc (length items)) }) a seat) (record {
        sizes = length-set a.calls (u - 1) (suc (length items)) ∙ ahead.sizes;
        calls = λ t low high. elim (cases_eq t u) [
          | inl same ↦
              let P : ℕ → Type 0 = λ v. ReachTo (is_call_of v) (items ++ ordered_as.Call u ∷ []) (slice_index (slice_set a.calls (u - 1) (suc (length items))) (v - 1)) in
              subst P (sym same) (rw (get_or-set_same a.calls (u - 1) (suc (length items)) 0 inside) (reach_more (is_call_of u) items (ordered_as.Call u) (slice_index a.calls (u - 1)) (eq-eqb u u refl) (ahead.calls u range.0 range.1)))
          | inr other ↦
              rw (get_or-set_other a.calls (u - 1) (t - 1) (suc (length items)) 0 (λ e. other (omega (arith, e, low, range)))) (reach_still (is_call_of t) items (ordered_as.Call u) (slice_index a.calls (t - 1)) (ne_eqb t u other) (ahead.calls t low high))
        ];
        pauses = reach_still is_pause items (ordered_as.Call u) a.pauses refl ahead.pauses;
      })
  | inr out ↦
      rw (cond-false (nat_le 1 u && nat_le u 16) (record a { calls = slice_set a.calls (u - 1) (suc (length items)) }) a out) (record {
        sizes = ahead.sizes;
        calls = λ t low high. reach_still (is_call_of t) items (ordered_as.Call u) (slice_index a.calls (t - 1)) (not_seat t u low high out) (ahead.calls t low high);
        pauses = reach_still is_pause items (ordered_as.Call u) a.pauses refl ahead.pauses;
      })
]

item_noted : (a : Ahead) (items : List ordered.Item) (x : ordered.Item) → IsAhead a items → IsAhead (noted a x (suc (length items))) (items ++ x ∷ [])
item_noted a items (ordered_as.Call u) ahead = call_noted a items u ahead
item_noted a items ordered_as.Pause ahead = record {
  sizes = ahead.sizes;
  calls = λ t low high. reach_still (is_call_of t) items ordered_as.Pause (slice_index a.calls (t - 1)) refl (ahead.calls t low high);
  pauses = reach_more is_pause items ordered_as.Pause a.pauses refl ahead.pauses;
}

-- one more item of an order is noted
pub ahead_more : (old new : Ahead) (order : List ordered.Item) (before : ℕ) (x : ordered.Item) → slice_get order before ≡ Some x → new ≡ noted old x (before + 1) → IsAhead old (take before order) → IsAhead new (take (before + 1) order)
ahead_more old new order before x at is ahead =
    let inside = slice_get_within order before x at in
    let length_is : length (take before order) ≡ before = length-take-le before order (omega (arith, inside)) in
    let next : take (before + 1) order ≡ take before order ++ x ∷ [] =
    take_more order before x inside ∙ ap (λ (y : ordered.Item). take before order ++ y ∷ []) (get_or_from_slice_get order before x x at) in
    let place : suc (length (take before order)) ≡ before + 1 = omega (arith, length_is) in
    rw (is, next) (subst (λ (n : ℕ). IsAhead (noted old x n) (take before order ++ x ∷ [])) place (item_noted old (take before order) x ahead))

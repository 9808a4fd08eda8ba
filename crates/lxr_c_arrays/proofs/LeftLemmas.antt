-- What a store to an object leaves of arrays: their elements, but for those of that object.
use Rattle.std.proofs.Common.{◌≡◌, ◌≢◌, ℕ, ◌+◌, ◌*◌, ◌/◌, ◌%◌, ◌<◌, ◌≤◌, ◌∙◌, refl, sym, ap, arith, inl, inr, Option, Some, None, List, [], length, map}
use Rattle.std.specs.Prelude.{min, option_map, slice_get, slice_index_or, unwrap_or}
use Rattle.std.specs.List.{range_with_len}
use Rattle.std.proofs.lemmas.Bool.{cases_lt}
use Rattle.std.proofs.lemmas.List.{get_or_past, length-map}
use Rattle.std.proofs.lemmas.List.FromFn.{get_or-map-range_with_len, length-map-range_with_len}
use Rattle.std.proofs.lemmas.Option.{slice_get-get_or, slice_get-map, slice_get_past}
use Rattle.lxr_layout.specs.declared.Name.{Name}
use Rattle.lxr_graph.specs.State.{object_at, refs_of, register_at, values_of}
use Rattle.lxr_large_model.specs.State.{LargeState}
use Rattle.lxr_c_many.specs.Fields.{references_in, words_in}
use Rattle.lxr_c_arrays.specs.Elements.{IsNoPart, as_named, element_at, element_in, elements_at, elements_of, part_of, references_of}
use Rattle.lxr_c_arrays.specs.Sides.{root_length}
use Rattle.lxr_c_arrays.proofs.OwnLemmas.{nil_named}
use Rattle.lxr_c_arrays.proofs.ReachLemmas.{held_named, named_in, nameless, reached_part}
use Rattle.lxr_c_arrays.proofs.SettleLemmas.{IsReached, Settled}
use Rattle.lxr_c_arrays.proofs.StoreLemmas.{SetReference, beside, references_beside, root_by, words_beside}

-- ---- elements of what is no root

-- one of what a register refers to
abbrev pub reference_at : LargeState → ℕ → ℕ → Option (Option Name)
reference_at s r i = slice_get (unwrap_or (references_in s r) []) i

pub same_list : (v : Option (List (Option Name))) → option_map (λ rs. rs) v ≡ v
same_list None = refl
same_list (Some rs) = refl

-- an element of what is no root is one
pub whole_at : (s : LargeState) (base i : ℕ) → root_length s base ≡ None → element_at s base i ≡ reference_at s base i
whole_at s base i none =
    ap (λ root. slice_get (unwrap_or (option_map (λ rs. elements_of s.small.graph rs root) (references_in s base)) []) i) none
    ∙ ap (λ vs. slice_get (unwrap_or vs []) i) (same_list (references_in s base))

pub mapped_at : (f : Option Name → Option Name) (v : Option (List (Option Name))) (i : ℕ) → slice_get (unwrap_or (option_map (map f) v) []) i ≡ option_map f (slice_get (unwrap_or v []) i)
mapped_at f None i = refl
mapped_at f (Some vs) i = slice_get-map f vs i

-- ---- elements of a root

module _ (s : LargeState) (base elements i : ℕ) (parts : List (Option Name)) (root : root_length s base ≡ Some elements) (there : references_in s base ≡ Some parts) where
  abbrev pub count : ℕ
  count = min elements (1023 * length parts)

  pub listed : elements_at s base ≡ Some (map (element_in s.small.graph parts) (range_with_len 0 count))
  listed = ap (λ r. option_map (λ rs. elements_of s.small.graph rs r) (references_in s base)) root ∙ ap (option_map (λ rs. elements_of s.small.graph rs (Some elements))) there

  pub all_listed : length (unwrap_or (elements_at s base) []) ≡ count
  all_listed = ap (λ v. length (unwrap_or v [])) listed ∙ length-map-range_with_len (element_in s.small.graph parts) 0 count

  pub root_inside : i < count → element_at s base i ≡ Some (element_in s.small.graph parts i)
  root_inside less =
      let long = length-map-range_with_len (element_in s.small.graph parts) 0 count in
      ap (λ v. slice_get (unwrap_or v []) i) listed
      ∙ slice_get-get_or (map (element_in s.small.graph parts) (range_with_len 0 count)) i None (omega (arith, less, long))
      ∙ ap (λ v. Some v) (get_or-map-range_with_len (element_in s.small.graph parts) 0 count i i None less (let same : 0 + i ≡ i = omega arith in same))

  pub root_outside : count ≤ i → element_at s base i ≡ None
  root_outside over =
      let long = length-map-range_with_len (element_in s.small.graph parts) 0 count in
      ap (λ v. slice_get (unwrap_or v []) i) listed ∙ slice_get_past (map (element_in s.small.graph parts) (range_with_len 0 count)) i (omega (arith, over, long))

-- a root has an object, and so references
pub rooted : (s : LargeState) (base elements : ℕ) → root_length s base ≡ Some elements → (n : Name) × (register_at s.small 1 base ≡ Some n)
rooted s base elements root = at_held (register_at s.small 1 base) refl root
  where
    at_held : (v : Option Name) → register_at s.small 1 base ≡ v → option_map (λ w. min w 1046529) (slice_get (unwrap_or (option_map (λ n. values_of (object_at s.small.graph n)) v) []) 0) ≡ Some elements → (n : Name) × (register_at s.small 1 base ≡ Some n)
    at_held None e none = absurd (cc)
    at_held (Some n) e same = (n, e)

-- an element of a root is what it was where what it stands in has what it had
pub element_kept : (s w : LargeState) (names : Option (List Name)) (base all i : ℕ) → root_length s base ≡ Some all → references_in w base ≡ option_map (map (as_named names)) (references_in s base) → words_in w base ≡ words_in s base
    → slice_index_or (references_of w.small.graph (as_named names (part_of s base (i / 1023)))) (i % 1023) None ≡ as_named names (slice_index_or (references_of s.small.graph (part_of s base (i / 1023))) (i % 1023) None)
    → element_at w base i ≡ option_map (as_named names) (element_at s base i)
element_kept s w names base all i is refs words same =
    let f = as_named names in
    let there = rooted s base all is in
    let ps : List (Option Name) = refs_of (object_at s.small.graph there.0) in
    let ps_there : references_in s base ≡ Some ps = ap (option_map (λ n. refs_of (object_at s.small.graph n))) there.1 in
    let now : references_in w base ≡ Some (map f ps) = refs ∙ ap (option_map (map f)) ps_there in
    let is_now : root_length w base ≡ Some all = root_by s w base words ∙ is in
    let long : length (map f ps) ≡ length ps = length-map ps f in
    let part : part_of s base (i / 1023) ≡ slice_index_or ps (i / 1023) None = ap (λ v. slice_index_or (unwrap_or v []) (i / 1023) None) ps_there in
    elim (cases_lt i (min all (1023 * length ps))) [
      | inl less ↦
          root_inside w base all i (map f ps) is_now now (omega (arith, less, long))
          ∙ ap (λ v. Some v) (ap (λ v. slice_index_or (references_of w.small.graph v) (i % 1023) None) (named_in names ps (i / 1023) ∙ ap f (sym part)) ∙ same
          ∙ ap (λ v. f (slice_index_or (references_of s.small.graph v) (i % 1023) None)) part)
          ∙ sym (ap (option_map f) (root_inside s base all i ps is ps_there less))
      | inr over ↦ root_outside w base all i (map f ps) is_now now (omega (arith, over, long)) ∙ sym (ap (option_map f) (root_outside s base all i ps is ps_there over))
    ]

-- two registers that hold one object have its elements
pub same_object : (s : LargeState) (q r i : ℕ) → register_at s.small 1 q ≡ register_at s.small 1 r → element_at s q i ≡ element_at s r i
same_object s q r i same =
    ap (λ v. slice_get (unwrap_or (option_map (λ rs. elements_of s.small.graph rs (option_map (λ w. min w 1046529) (slice_get (unwrap_or (option_map (λ n. values_of (object_at s.small.graph n)) v) []) 0))) (option_map (λ n. refs_of (object_at s.small.graph n)) v)) []) i) same

-- ---- one store

module _ (s b w : LargeState) (own k source : ℕ) (settled : Settled s b) (set : SetReference b w own k source) where
  abbrev f : Option Name → Option Name
  f = as_named settled.names

  -- an object that is reached, and isn't the one that was stored to, has what it had
  pub object_left : (v : Option Name) (j : ℕ) → ((q : Name) → v ≡ Some q → IsReached s q × (register_at s.small 1 own ≢ Some q)) → slice_index_or (references_of w.small.graph (f v)) j None ≡ f (slice_index_or (references_of s.small.graph v) j None)
  object_left None j reach =
      let none : slice_index_or {A = Option Name} [] j None ≡ None = get_or_past [] j None (omega arith) in
      ap (λ q. slice_index_or (references_of w.small.graph q) j None) (nil_named settled.names) ∙ none ∙ sym (nil_named settled.names) ∙ ap f (sym none)
  object_left (Some q) j reach = at_name (f (Some q)) refl
    where
      at_name : (v : Option Name) → f (Some q) ≡ v → slice_index_or (references_of w.small.graph (f (Some q))) j None ≡ f (slice_index_or (references_of s.small.graph (Some q)) j None)
      at_name None none = absurd (nameless settled.names q none)
      at_name (Some n) is =
          let there = reach q refl in
          let differs : Some n ≢ register_at b.small 1 own = λ same.
          let now : f (register_at s.small 1 own) ≡ Some n = sym (settled.registers own) ∙ sym same in
          let (c, is_c) = held_named settled.names (register_at s.small 1 own) n now in
          let one : q ≡ c = settled.one q c there.0 (own, inl is_c) (is ∙ sym now ∙ ap f is_c) in
          there.1 (is_c ∙ ap (λ z. Some z) (sym one)) in
          ap (λ v. slice_index_or (references_of w.small.graph v) j None) is
          ∙ ap (λ o. slice_index_or (refs_of o) j None) (beside s b own k source settled w set n (Some n) differs refl)
          ∙ ap (λ v. slice_index_or (references_of b.small.graph v) j None) (sym is)
          ∙ ap (λ vs. slice_index_or vs j None) (settled.refs q there.0)
          ∙ named_in settled.names (references_of s.small.graph (Some q)) j

  -- so an array has the elements that it had, where that object is neither it nor a part of it
  pub element_left : (base i : ℕ) → register_at b.small 1 base ≢ register_at b.small 1 own → IsNoPart s base own → element_at w base i ≡ option_map f (element_at s base i)
  element_left base i apart none = at_root (root_length s base) refl
    where
      refs : references_in w base ≡ option_map (map f) (references_in s base)
      refs = references_beside s b own k source settled w set base apart

      words : words_in w base ≡ words_in s base
      words = words_beside s b own k source settled w set base apart

      at_root : (root : Option ℕ) → root_length s base ≡ root → element_at w base i ≡ option_map f (element_at s base i)
      at_root None plain =
          whole_at w base i (root_by s w base words ∙ plain) ∙ ap (λ vs. slice_get (unwrap_or vs []) i) refs ∙ mapped_at f (references_in s base) i ∙ ap (option_map f) (sym (whole_at s base i plain))
      at_root (Some all) is = element_kept s w settled.names base all i is refs words (object_left (part_of s base (i / 1023)) (i % 1023) (λ q e. ((base, reached_part s base (i / 1023) q e), none (i / 1023) q e)))

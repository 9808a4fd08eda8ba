-- A fill of a root replaces the elements, where its parts are its own.
use Rattle.std.proofs.Common.{◌≡◌, ◌≢◌, ℕ, zero, suc, ◌+◌, ◌-◌, ◌*◌, ◌/◌, ◌%◌, ◌<◌, ◌≤◌, ◌⊎◌, ◌∙◌, refl, sym, ap, subst, arith, inl, inr, Bool, true, false, Option, Some, None, List, [], ◌∷◌, ◌++◌, length, map}
use Rattle.std.specs.Prelude.{⊤, ◌==◌, ◌||◌, min, nat_le, option_map, slice_get, slice_index_or, slice_set, unwrap_or, if◌then◌else◌, Ok, Err}
use Rattle.std.proofs.lemmas.Bool.{cases_eq, eq-eqb, leb-true}
use Rattle.std.proofs.lemmas.List.{get_or-set_other, get_or-set_same, length-map}
use Rattle.std.proofs.lemmas.Option.{get_or_from_slice_get, same_Some}
use Rattle.lxr_layout.specs.declared.Name.{Name}
use Rattle.lxr_layout.specs.declared.TheConstants.{REGISTERS}
use Rattle.lxr_graph.specs.State.{object_at, refs_of, register_at, values_of, with_register}
use Rattle.lxr_large_model.specs.History.{LargeItem, large_state}
use Rattle.lxr_large_model.specs.State.{LargeState}
use Rattle.lxr_c_base.specs.declared.codes.Code.TheVariants as code
use Rattle.lxr_c_heap.specs.declared.host.HostHeap.{HostHeap}
use Rattle.lxr_c_heap.specs.declared.own.OwnRegisters.{OwnRegisters}
use Rattle.lxr_c_heap.specs.Hosting.{IsHostOf, own_in, registers_in}
use Rattle.lxr_c_many.specs.Fields.{references_in, words_in}
use Rattle.lxr_c_many.specs.declared.asked.Asked.{Asked}
use Rattle.lxr_c_many.proofs.MakingLemmas.{all_registers}
use Rattle.lxr_c_arrays.specs.declared.registers.Pair.{Pair}
use Rattle.lxr_c_arrays.specs.declared.side.Side.TheVariants as side
use Rattle.lxr_c_arrays.specs.Elements.{AreApart, FillsReachParts, HasFilledParts, HasOwnParts, IsNoPart, as_named, as_renamed, element_at, element_in, elements_of, part_of, references_of, with_renewals}
use Rattle.lxr_c_arrays.specs.Operations.{load_of, nil_of, store_of}
use Rattle.lxr_c_arrays.specs.Plans.{IsPair, enters, fill_steps, filling, first_own, planned}
use Rattle.lxr_c_arrays.specs.Running.{Carries, Runs, in_turn}
use Rattle.lxr_c_arrays.specs.Sides.{check_steps, checks, last_in, parts_between, parts_side, range_held, root_length, store_steps}
use Rattle.lxr_c_arrays.proofs.ElementLemmas.{changed_register, few_registers, load_first, nil_last, other_register}
use Rattle.lxr_c_arrays.proofs.FillLemmas.{named_at, named_lists, named_with, renewals_with, renewed_bodies, same_reference}
use Rattle.lxr_c_arrays.proofs.LeftLemmas.{all_listed, element_kept, object_left, root_inside, rooted}
use Rattle.lxr_c_arrays.proofs.PlanLemmas.{own_first, own_there}
use Rattle.lxr_c_arrays.proofs.ReachLemmas.{apart_named, found_at, held_named, named_in, named_within, no_part_named, own_named, own_over}
use Rattle.lxr_c_arrays.proofs.RunLemmas.{runs_apart, runs_host}
use Rattle.lxr_c_arrays.proofs.SettleLemmas.{IsReached, Settled, named_bodies, same_references}
use Rattle.lxr_c_arrays.proofs.StoreLemmas.{SetReference, bodies_now, changed_now, references_beside, references_were, registers_now, root_by, store_first, words_beside}

-- ---- one store

module _ (s b w : LargeState) (own array p k source elements : ℕ) (settled : Settled s b) (set : SetReference b w own k source) (root : root_length s array ≡ Some elements) (own_parts : HasOwnParts s array)
    (at_hand : register_at s.small 1 own ≡ part_of s array p) where
  abbrev pub names : Option (List Name)
  names = settled.names

  abbrev pub f : Option Name → Option Name
  f = as_named names

  abbrev pub root_name : Name
  root_name = (rooted s array elements root).0

  root_held : register_at s.small 1 array ≡ Some root_name
  root_held = (rooted s array elements root).1

  abbrev pub parts : List (Option Name)
  parts = refs_of (object_at s.small.graph root_name)

  parts_there : references_in s array ≡ Some parts
  parts_there = ap (option_map (λ n. refs_of (object_at s.small.graph n))) root_held

  part_in : (j : ℕ) → part_of s array j ≡ slice_index_or parts j None
  part_in j = ap (λ v. slice_index_or (unwrap_or v []) j None) parts_there

  abbrev pub part_held : (q : Name) × (register_at s.small 1 own ≡ Some q)
  part_held = held_named names (register_at s.small 1 own) set.name (sym (settled.registers own) ∙ set.held)

  abbrev pub part_name : Name
  part_name = part_held.0

  part_is : part_of s array p ≡ Some part_name
  part_is = sym at_hand ∙ part_held.1

  part_now : f (Some part_name) ≡ Some set.name
  part_now = ap f (sym part_held.1) ∙ sym (settled.registers own) ∙ set.held

  reached : (j : ℕ) (q : Name) → part_of s array j ≡ Some q → IsReached s q
  reached j q e = (array, inr (root_name, j, root_held, found_at parts j q (sym (part_in j) ∙ e)))

  root_reached : IsReached s root_name
  root_reached = (array, inl root_held)

  -- the root isn't the part
  array_apart : register_at b.small 1 array ≢ register_at b.small 1 own
  array_apart e = own_parts.apart p part_name part_is (settled.apart array own e ∙ part_held.1)

  pub references_root : references_in w array ≡ option_map (map f) (references_in s array)
  references_root = references_beside s b own k source settled w set array array_apart

  pub words_root : words_in w array ≡ words_in s array
  words_root = words_beside s b own k source settled w set array array_apart

  part_after : (j : ℕ) → part_of w array j ≡ f (part_of s array j)
  part_after j = ap (λ v. slice_index_or (unwrap_or v []) j None) references_root ∙ named_within names (references_in s array) j

  held_after : (r : ℕ) → register_at w.small 1 r ≡ f (register_at s.small 1 r)
  held_after r = registers_now s b own k source settled w set r

  -- its parts are still its own
  pub own_after : HasOwnParts w array
  own_after = own_named s b w settled array (held_after array) references_root own_parts

  -- the part is still at hand
  pub at_hand_after : register_at w.small 1 own ≡ part_of w array p
  at_hand_after = held_after own ∙ ap f at_hand ∙ sym (part_after p)

  -- what was no part is none
  pub no_part_after : (r : ℕ) → IsNoPart s array r → IsNoPart w array r
  no_part_after r none = no_part_named s b w settled array r (held_after r) references_root none

  beside_part : (r : ℕ) → IsNoPart s array r → register_at b.small 1 r ≢ register_at b.small 1 own
  beside_part r none e = none p part_name part_is (settled.apart r own e ∙ part_held.1)

  pub references_after : (r : ℕ) → IsNoPart s array r → references_in w r ≡ option_map (map f) (references_in s r)
  references_after r none = references_beside s b own k source settled w set r (beside_part r none)

  pub words_after : (r : ℕ) → IsNoPart s array r → words_in w r ≡ words_in s r
  words_after r none = words_beside s b own k source settled w set r (beside_part r none)

  pub others_own : (r : ℕ) → IsNoPart s array r → HasOwnParts s r → HasOwnParts w r
  others_own r none = own_named s b w settled r (held_after r) (references_after r none)

  -- ---- its elements

  -- the part's references
  part_had : (rs : List (Option Name)) × (references_in s own ≡ Some rs) × (map f rs ≡ set.object.refs)
  part_had = references_were s b own k source settled w set

  part_refs : references_of s.small.graph (Some part_name) ≡ part_had.0
  part_refs = same_Some _ _ (sym (ap (option_map (λ n. refs_of (object_at s.small.graph n))) part_held.1) ∙ part_had.1)

  in_part : (j : ℕ) → slice_index_or (references_of w.small.graph (Some set.name)) j None ≡ slice_index_or (slice_set set.object.refs k (register_at b.small 1 source)) j None
  in_part j = ap (λ o. slice_index_or (refs_of o) j None) (changed_now s b own k source settled w set)

  stored_in : slice_index_or (references_of w.small.graph (Some set.name)) k None ≡ f (register_at s.small 1 source)
  stored_in = in_part k ∙ get_or-set_same set.object.refs k (register_at b.small 1 source) None set.within ∙ settled.registers source

  kept_in : (j : ℕ) → j ≢ k → slice_index_or (references_of w.small.graph (Some set.name)) j None ≡ f (slice_index_or (references_of s.small.graph (Some part_name)) j None)
  kept_in j other =
      in_part j ∙ get_or-set_other set.object.refs k j (register_at b.small 1 source) None other ∙ ap (λ vs. slice_index_or vs j None) (sym part_had.2) ∙ named_in names part_had.0 j
      ∙ ap (λ vs. f (slice_index_or vs j None)) (sym part_refs)

  -- another object that is reached has what it had
  other_object : (v : Option Name) (j : ℕ) → ((q : Name) → v ≡ Some q → IsReached s q × (q ≢ part_name)) → slice_index_or (references_of w.small.graph (f v)) j None ≡ f (slice_index_or (references_of s.small.graph v) j None)
  other_object v j reach = object_left s b w own k source settled set v j (λ q e. ((reach q e).0, λ held. (reach q e).1 (same_Some q part_name (sym held ∙ part_held.1))))

  other_part : (i j : ℕ) → i ≢ p → slice_index_or (references_of w.small.graph (f (part_of s array i))) j None ≡ f (slice_index_or (references_of s.small.graph (part_of s array i)) j None)
  other_part i j other = other_object (part_of s array i) j (λ q e. (reached i q e, λ same. other (own_parts.distinct i p q e (part_is ∙ ap (λ c. Some c) (sym same)))))

  parts_after : references_in w array ≡ Some (map f parts)
  parts_after = references_root ∙ ap (option_map (map f)) parts_there

  root_after : root_length w array ≡ Some elements
  root_after = root_by s w array words_root ∙ root

  many : length (map f parts) ≡ length parts
  many = length-map parts f

  now_in : (i : ℕ) → element_in w.small.graph (map f parts) i ≡ slice_index_or (references_of w.small.graph (f (part_of s array (i / 1023)))) (i % 1023) None
  now_in i = ap (λ v. slice_index_or (references_of w.small.graph v) (i % 1023) None) (named_in names parts (i / 1023) ∙ ap f (sym (part_in (i / 1023))))

  was_in : (i : ℕ) → element_in s.small.graph parts i ≡ slice_index_or (references_of s.small.graph (part_of s array (i / 1023))) (i % 1023) None
  was_in i = ap (λ v. slice_index_or (references_of s.small.graph v) (i % 1023) None) (sym (part_in (i / 1023)))

  -- the element is what the source held
  pub stored_element : (i : ℕ) → i / 1023 ≡ p → i % 1023 ≡ k → i < elements → p < length parts → element_at w array i ≡ Some (f (register_at s.small 1 source))
  stored_element i at within less inside =
      let long = many in
      root_inside w array elements i (map f parts) root_after parts_after (omega (arith, less, at, inside, long))
      ∙ ap (λ v. Some v) (now_in i ∙ ap (λ j. slice_index_or (references_of w.small.graph (f (part_of s array j))) (i % 1023) None) at
      ∙ ap (λ v. slice_index_or (references_of w.small.graph v) (i % 1023) None) (ap f part_is ∙ part_now) ∙ ap (λ j. slice_index_or (references_of w.small.graph (Some set.name)) j None) within ∙ stored_in)

  -- each other one what it was
  pub kept_element : (i : ℕ) → (i / 1023 ≡ p → i % 1023 ≢ k) → element_at w array i ≡ option_map f (element_at s array i)
  kept_element i other = element_kept s w names array elements i root references_root words_root (at_part (cases_eq (i / 1023) p))
    where
      at_part : (i / 1023 ≡ p) ⊎ (i / 1023 ≢ p) → slice_index_or (references_of w.small.graph (f (part_of s array (i / 1023)))) (i % 1023) None ≡ f (slice_index_or (references_of s.small.graph (part_of s array (i / 1023))) (i % 1023) None)
      at_part (inl same) =
          ap (λ j. slice_index_or (references_of w.small.graph (f (part_of s array j))) (i % 1023) None) same
          ∙ ap (λ v. slice_index_or (references_of w.small.graph v) (i % 1023) None) (ap f part_is ∙ part_now) ∙ kept_in (i % 1023) (other same)
          ∙ ap (λ v. f (slice_index_or (references_of s.small.graph v) (i % 1023) None)) (sym part_is)
          ∙ ap (λ j. f (slice_index_or (references_of s.small.graph (part_of s array j)) (i % 1023) None)) (sym same)
      at_part (inr differs) = other_part (i / 1023) (i % 1023) differs

  -- ---- a root apart

  module _ (from all : ℕ) (is : root_length s from ≡ Some all) (are : AreApart s array from) where
    from_held : (n : Name) × (register_at s.small 1 from ≡ Some n)
    from_held = rooted s from all is

    from_reached : (q : ℕ) (n : Name) → part_of s from q ≡ Some n → IsReached s n
    from_reached q n e = (from, inr (from_held.0, q, from_held.1, found_at (refs_of (object_at s.small.graph from_held.0)) q n (sym (ap (λ v. slice_index_or (unwrap_or v []) q None) (ap (option_map (λ a. refs_of (object_at s.small.graph a))) from_held.1)) ∙ e)))

    pub from_element : (i : ℕ) → element_at w from i ≡ option_map f (element_at s from i)
    from_element i = element_kept s w names from all i is (references_after from are.root) (words_after from are.root)
        (other_object (part_of s from (i / 1023)) (i % 1023) (λ q e. (from_reached (i / 1023) q e, λ same. are.parts p (i / 1023) part_name part_is (e ∙ ap (λ c. Some c) same))))

    pub from_root : root_length w from ≡ Some all
    from_root = root_by s w from (words_after from are.root) ∙ is

    from_part : (q : ℕ) → part_of w from q ≡ f (part_of s from q)
    from_part q = ap (λ v. slice_index_or (unwrap_or v []) q None) (references_after from are.root) ∙ named_within names (references_in s from) q

    pub from_apart : AreApart w array from
    from_apart = record {
      root = no_part_after from are.root;
      parts = λ i q n one two.
          let (a, is_a) = held_named names (part_of s array i) n (sym (part_after i) ∙ one) in
          let (c, is_c) = held_named names (part_of s from q) n (sym (from_part q) ∙ two) in
          let same : a ≡ c = settled.one a c (reached i a is_a) (from_reached q c is_c) (ap f (sym is_a) ∙ sym (part_after i) ∙ one ∙ sym two ∙ from_part q ∙ ap f is_c) in
          are.parts i q a is_a (is_c ∙ ap (λ z. Some z) (sym same));
    }

-- ---- the library's register

-- states that differ by what one register holds
pub record Beside (own : ℕ) (s u : LargeState) : Type 0 where
  pub registers : (r : ℕ) → r ≢ own → register_at u.small 1 r ≡ register_at s.small 1 r
  pub graph : u.small.graph ≡ s.small.graph
  pub bodies : u.large ≡ s.large

pub beside_none : (own : ℕ) (s : LargeState) → Beside own s s
beside_none own s = record { registers = λ r apart. refl; graph = refl; bodies = refl }

pub beside_on : (own : ℕ) (s u w : LargeState) → Beside own s u → Beside own u w → Beside own s w
beside_on own s u w one two = record { registers = λ r apart. two.registers r apart ∙ one.registers r apart; graph = two.graph ∙ one.graph; bodies = two.bodies ∙ one.bodies }

pub beside_with : (own : ℕ) (s u : LargeState) (v : Option Name) → u ≡ record s { small = with_register s.small 1 own v } → Beside own s u
beside_with own s u v same = record {
  registers = λ r apart. ap (λ (z : LargeState). register_at z.small 1 r) same ∙ other_register s.small own r v apart;
  graph = ap (λ (z : LargeState). z.small.graph) same;
  bodies = ap (λ (z : LargeState). z.large) same;
}

module _ (own : ℕ) (s u : LargeState) (by : Beside own s u) where
  pub same_refs : (r : ℕ) → r ≢ own → references_in u r ≡ references_in s r
  same_refs r apart = ap (option_map (λ n. refs_of (object_at u.small.graph n))) (by.registers r apart) ∙ ap (λ g. option_map (λ n. refs_of (object_at g n)) (register_at s.small 1 r)) by.graph

  pub same_words : (r : ℕ) → r ≢ own → words_in u r ≡ words_in s r
  same_words r apart = ap (option_map (λ n. values_of (object_at u.small.graph n))) (by.registers r apart) ∙ ap (λ g. option_map (λ n. values_of (object_at g n)) (register_at s.small 1 r)) by.graph

  pub same_part : (base p : ℕ) → base ≢ own → part_of u base p ≡ part_of s base p
  same_part base p apart = ap (λ v. slice_index_or (unwrap_or v []) p None) (same_refs base apart)

  pub same_root : (base : ℕ) → base ≢ own → root_length u base ≡ root_length s base
  same_root base apart = root_by s u base (same_words base apart)

  pub same_element : (base i : ℕ) → base ≢ own → element_at u base i ≡ element_at s base i
  same_element base i apart =
      ap (λ v. slice_get (unwrap_or (option_map (λ rs. elements_of u.small.graph rs (root_length u base)) v) []) i) (same_refs base apart)
      ∙ ap (λ r. slice_get (unwrap_or (option_map (λ rs. elements_of u.small.graph rs r) (references_in s base)) []) i) (same_root base apart)
      ∙ ap (λ g. slice_get (unwrap_or (option_map (λ rs. elements_of g rs (root_length s base)) (references_in s base)) []) i) by.graph

  pub same_own : (base : ℕ) → base ≢ own → HasOwnParts s base → HasOwnParts u base
  same_own base apart = own_over s u base (by.registers base apart) (same_refs base apart)

  pub same_apart : (base from : ℕ) → base ≢ own → from ≢ own → AreApart s base from → AreApart u base from
  same_apart base from apart other are = record {
    root = λ p n one held. are.root p n (sym (same_part base p apart) ∙ one) (sym (by.registers from other) ∙ held);
    parts = λ p q n one two. are.parts p q n (sym (same_part base p apart) ∙ one) (sym (same_part from q other) ∙ two);
  }

  pub same_no_part : (base r : ℕ) → base ≢ own → r ≢ own → IsNoPart s base r → IsNoPart u base r
  same_no_part base r apart other none p n one held = none p n (sym (same_part base p apart) ∙ one) (sym (by.registers r other) ∙ held)

-- ---- rounds

-- another root is apart still, and has what it had
pub record StaysApart (array r : ℕ) (renewals : List (List Name)) (s u : LargeState) : Type 0 where
  pub are : AreApart u array r
  pub root : root_length u r ≡ root_length s r
  pub elements : (i : ℕ) → element_at u r i ≡ option_map (as_renamed renewals) (element_at s r i)

pub stays_same : (array r : ℕ) (s : LargeState) → AreApart s array r → StaysApart array r [] s s
stays_same array r s are = record { are = are; root = refl; elements = λ i. same_reference (element_at s r i) }

pub stays_beside : (own array r : ℕ) (renewals : List (List Name)) (s u w : LargeState) → Beside own u w → array ≢ own → r ≢ own → StaysApart array r renewals s u → StaysApart array r renewals s w
stays_beside own array r renewals s u w by first second stays = record {
  are = same_apart own u w by array r first second stays.are;
  root = same_root own u w by r second ∙ stays.root;
  elements = λ i. same_element own u w by r i second ∙ stays.elements i;
}

-- so a root that is apart stays so
pub stays_after : (s v b w : LargeState) (own array p k source elements r all : ℕ) (renewals : List (List Name)) (settled : Settled v b) (set : SetReference b w own k source) → root_length v array ≡ Some elements → HasOwnParts v array
    → register_at v.small 1 own ≡ part_of v array p → root_length s r ≡ Some all → StaysApart array r renewals s v → StaysApart array r (renewals_with settled.names renewals) s w
stays_after s v b w own array p k source elements r all renewals settled set root own_parts hand is stays =
    let now : root_length v r ≡ Some all = stays.root ∙ is in
    record {
      are = from_apart v b w own array p k source elements settled set root own_parts hand r all now stays.are;
      root = from_root v b w own array p k source elements settled set root own_parts hand r all now stays.are ∙ sym is;
      elements = λ i. from_element v b w own array p k source elements settled set root own_parts hand r all now stays.are i ∙ ap (option_map (as_named settled.names)) (stays.elements i) ∙ named_at settled.names renewals (element_at s r i);
    }

-- rounds of a fill were done
record Fills (registers own first n : ℕ) (pair : Pair) (s u : LargeState) : Type 0 where
  renewals : List (List Name)
  held : (r : ℕ) → r < registers → register_at u.small 1 r ≡ as_renamed renewals (register_at s.small 1 r)
  words : words_in u pair.array ≡ words_in s pair.array
  many : length (unwrap_or (references_in u pair.array) []) ≡ length (unwrap_or (references_in s pair.array) [])
  own_parts : HasOwnParts u pair.array
  at_hand : (i : ℕ) → first + n ≡ i + 1 → 1 ≤ n → register_at u.small 1 own ≡ part_of u pair.array (i / 1023)
  filled : (i : ℕ) → first ≤ i → i < first + n → element_at u pair.array i ≡ Some (as_renamed renewals (register_at s.small 1 pair.other))
  others : (i : ℕ) → (i < first) ⊎ (first + n ≤ i) → element_at u pair.array i ≡ option_map (as_renamed renewals) (element_at s pair.array i)
  no_part : (r : ℕ) → r < registers → IsNoPart s pair.array r → IsNoPart u pair.array r
  references : (r : ℕ) → r < registers → IsNoPart s pair.array r → references_in u r ≡ option_map (map (as_renamed renewals)) (references_in s r)
  words_of : (r : ℕ) → r < registers → IsNoPart s pair.array r → words_in u r ≡ words_in s r
  own_others : (r : ℕ) → r < registers → IsNoPart s pair.array r → HasOwnParts s r → HasOwnParts u r
  apart : (q r : ℕ) → q < registers → r < registers → IsNoPart s pair.array q → IsNoPart s pair.array r → AreApart s q r → AreApart u q r
  root : (r all : ℕ) → r < registers → root_length s r ≡ Some all → AreApart s pair.array r → StaysApart pair.array r renewals s u
  bodies : u.large ≡ (with_renewals renewals s).large

pub mapped_many : (f : Option Name → Option Name) (v : Option (List (Option Name))) → length (unwrap_or (option_map (map f) v) []) ≡ length (unwrap_or v [])
mapped_many f None = refl
mapped_many f (Some vs) = length-map vs f

-- one more element, whose part is at hand in a state beside
module _ (registers own first n elements : ℕ) (pair : Pair) (s u v b w : LargeState) (fits : IsPair registers pair) (beyond : registers ≤ own) (root : root_length s pair.array ≡ Some elements)
    (within : first + n < elements) (inside : (first + n) / 1023 < length (unwrap_or (references_in s pair.array) []))
    (fills : Fills registers own first n pair s u) (by : Beside own u v) (hand : register_at v.small 1 own ≡ part_of v pair.array ((first + n) / 1023))
    (settled : Settled v b) (set : SetReference b w own ((first + n) % 1023) pair.other) where
  abbrev array : ℕ
  array = pair.array

  own_apart : (r : ℕ) → r < registers → r ≢ own
  own_apart r less e = omega (arith, e, beyond, less)

  abbrev array_own : array ≢ own
  array_own = own_apart array fits.0

  root_v : root_length v array ≡ Some elements
  root_v = same_root own u v by array array_own ∙ root_by s u array fills.words ∙ root

  own_v : HasOwnParts v array
  own_v = same_own own u v by array array_own fills.own_parts

  abbrev g : Option Name → Option Name
  g = as_named settled.names

  abbrev after : List (List Name)
  after = renewals_with settled.names fills.renewals

  stored : (i : ℕ) → i ≡ first + n → element_at w array i ≡ Some (as_renamed after (register_at s.small 1 pair.other))
  stored i same =
      let there = rooted v array elements root_v in
      let many_v : length (refs_of (object_at v.small.graph there.0)) ≡ length (unwrap_or (references_in s array) []) =
      ap (λ q. length (unwrap_or q [])) (sym (ap (option_map (λ m. refs_of (object_at v.small.graph m))) there.1) ∙ same_refs own u v by array array_own) ∙ fills.many in
      stored_element v b w own array ((first + n) / 1023) ((first + n) % 1023) pair.other elements settled set root_v own_v hand i (ap (λ j. j / 1023) same) (ap (λ j. j % 1023) same) (omega (arith, same, within)) (omega (arith, inside, many_v))
      ∙ ap (λ q. Some (g q)) (by.registers pair.other (own_apart pair.other fits.1) ∙ fills.held pair.other fits.1)
      ∙ ap (λ q. Some q) (named_with settled.names fills.renewals (register_at s.small 1 pair.other))

  kept : (i : ℕ) → i ≢ first + n → element_at w array i ≡ option_map g (element_at u array i)
  kept i other =
      kept_element v b w own array ((first + n) / 1023) ((first + n) % 1023) pair.other elements settled set root_v own_v hand i (λ same e. other (omega (arith, same, e)))
      ∙ ap (option_map g) (same_element own u v by array i array_own)

  fill_round : Fills registers own first (suc n) pair s w
  fill_round = record {
    renewals = after;
    held = λ r less. registers_now v b own ((first + n) % 1023) pair.other settled w set r ∙ ap g (by.registers r (own_apart r less) ∙ fills.held r less) ∙ named_with settled.names fills.renewals (register_at s.small 1 r);
    words = words_root v b w own array ((first + n) / 1023) ((first + n) % 1023) pair.other elements settled set root_v own_v hand ∙ same_words own u v by array array_own ∙ fills.words;
    many = ap (λ q. length (unwrap_or q [])) (references_root v b w own array ((first + n) / 1023) ((first + n) % 1023) pair.other elements settled set root_v own_v hand) ∙ mapped_many g (references_in v array)
        ∙ ap (λ q. length (unwrap_or q [])) (same_refs own u v by array array_own) ∙ fills.many;
    own_parts = own_after v b w own array ((first + n) / 1023) ((first + n) % 1023) pair.other elements settled set root_v own_v hand;
    at_hand = λ i last some.
        let same : i ≡ first + n = omega (arith, last) in
        at_hand_after v b w own array ((first + n) / 1023) ((first + n) % 1023) pair.other elements settled set root_v own_v hand ∙ ap (λ j. part_of w array (j / 1023)) (sym same);
    filled = λ i from less. elim (cases_eq i (first + n)) [
      | inl same ↦ stored i same
      | inr differs ↦ kept i differs ∙ ap (option_map g) (fills.filled i from (omega (arith, less, differs))) ∙ ap (λ q. Some q) (named_with settled.names fills.renewals (register_at s.small 1 pair.other))
    ];
    others = λ i out.
        let differs : i ≢ first + n = elim out [ inl less ↦ λ e. omega (arith, less, e) | inr over ↦ λ e. omega (arith, over, e) ] in
        let before : (i < first) ⊎ (first + n ≤ i) = elim out [ inl less ↦ inl less | inr over ↦ inr (omega (arith, over)) ] in
        kept i differs ∙ ap (option_map g) (fills.others i before) ∙ named_at settled.names fills.renewals (element_at s array i);
    no_part = λ r less none.
        no_part_after v b w own array ((first + n) / 1023) ((first + n) % 1023) pair.other elements settled set root_v own_v hand r (same_no_part own u v by array r array_own (own_apart r less) (fills.no_part r less none));
    references = λ r less none.
        references_after v b w own array ((first + n) / 1023) ((first + n) % 1023) pair.other elements settled set root_v own_v hand r (same_no_part own u v by array r array_own (own_apart r less) (fills.no_part r less none))
        ∙ ap (option_map (map g)) (same_refs own u v by r (own_apart r less) ∙ fills.references r less none) ∙ named_lists settled.names fills.renewals (references_in s r);
    words_of = λ r less none.
        words_after v b w own array ((first + n) / 1023) ((first + n) % 1023) pair.other elements settled set root_v own_v hand r (same_no_part own u v by array r array_own (own_apart r less) (fills.no_part r less none))
        ∙ same_words own u v by r (own_apart r less) ∙ fills.words_of r less none;
    own_others = λ r less none was.
        others_own v b w own array ((first + n) / 1023) ((first + n) % 1023) pair.other elements settled set root_v own_v hand r (same_no_part own u v by array r array_own (own_apart r less) (fills.no_part r less none))
        (same_own own u v by r (own_apart r less) (fills.own_others r less none was));
    apart = λ q r less few none out are.
        let none_q = same_no_part own u v by array q array_own (own_apart q less) (fills.no_part q less none) in
        let none_r = same_no_part own u v by array r array_own (own_apart r few) (fills.no_part r few out) in
        apart_named v b w settled q r (references_after v b w own array ((first + n) / 1023) ((first + n) % 1023) pair.other elements settled set root_v own_v hand q none_q)
        (registers_now v b own ((first + n) % 1023) pair.other settled w set r) (references_after v b w own array ((first + n) / 1023) ((first + n) % 1023) pair.other elements settled set root_v own_v hand r none_r)
        (same_apart own u v by q r (own_apart q less) (own_apart r few) (fills.apart q r less few none out are));
    root = λ r all less is are.
        stays_after s v b w own array ((first + n) / 1023) ((first + n) % 1023) pair.other elements r all fills.renewals settled set root_v own_v hand is
        (stays_beside own array r fills.renewals s u v by array_own (own_apart r less) (fills.root r all less is are));
    bodies = bodies_now v b own ((first + n) % 1023) pair.other settled w set ∙ renewed_bodies settled.names fills.renewals s v (by.bodies ∙ fills.bodies);
  }

pub or_false : (a c : Bool) → (a || c) ≡ false → (a ≡ false) × (c ≡ false)
or_false true c e = absurd (cc)
or_false false c e = (refl, e)

none_filled : (registers own first : ℕ) (pair : Pair) (s : LargeState) → HasOwnParts s pair.array → Fills registers own first 0 pair s s
none_filled registers own first pair s own_parts = record {
  renewals = [];
  held = λ r less. refl;
  words = refl;
  many = refl;
  own_parts = own_parts;
  at_hand = λ i last some. absurd (omega (arith, some));
  filled = λ i from less. absurd (omega (arith, from, less));
  others = λ i out. same_reference (element_at s pair.array i);
  no_part = λ r less none. none;
  references = λ r less none. same_references (references_in s r);
  words_of = λ r less none. refl;
  own_others = λ r less none was. was;
  apart = λ q r less few none out are. are;
  root = λ r all less is are. stays_same pair.array r s are;
  bodies = refl;
}

module _ (registers own first elements : ℕ) (pair : Pair) (fits : IsPair registers pair) (beyond : registers ≤ own) (room : own < REGISTERS) where
  abbrev steps : ℕ → List Asked
  steps = fill_steps (side.Parts pair.array own) first pair.other

  -- a round whose part is at hand
  at_hand_round : (h : List LargeItem) (n : ℕ) (u : LargeState) (m y : HostHeap) (j k : List LargeItem) → IsHostOf m j → root_length (large_state h) pair.array ≡ Some elements → first + n < elements
      → (first + n) / 1023 < length (unwrap_or (references_in (large_state h) pair.array) []) → Fills registers own first n pair (large_state h) u → Beside own u (large_state j)
      → register_at (large_state j).small 1 own ≡ part_of (large_state j) pair.array ((first + n) / 1023) → Runs m j (store_of own ((first + n) % 1023) pair.other ∷ []) y k code.Done
      → Fills registers own first (suc n) pair (large_state h) (large_state k)
  at_hand_round h n u m y j k is root within inside fills by hand runs =
      let stores = store_first m y j k own ((first + n) % 1023) pair.other [] is runs in
      subst (λ l. Fills registers own first (suc n) pair (large_state h) (large_state l)) (sym stores.rest.1)
      (fill_round registers own first n elements pair (large_state h) u (large_state j) stores.before (large_state stores.history) fits beyond root within inside fills by hand stores.settled stores.set)

  -- or is taken in hand where it has to be
  at_enters : (h : List LargeItem) (m : HostHeap) (j : List LargeItem) (y : HostHeap) (k : List LargeItem) (n : ℕ) → IsHostOf m j → root_length (large_state h) pair.array ≡ Some elements → first + n < elements
      → (first + n) / 1023 < length (unwrap_or (references_in (large_state h) pair.array) []) → Fills registers own first n pair (large_state h) (large_state j) → (b : Bool) → enters false n (first + n) ≡ b
      → Runs m j (store_steps (side.Parts pair.array own) b (first + n) pair.other) y k code.Done → Fills registers own first (suc n) pair (large_state h) (large_state k)
  at_enters h m j y k n is root within inside fills true e runs =
      let u : LargeState = large_state j in
      let p : ℕ = (first + n) / 1023 in
      let loads = load_first m y j k own pair.array p (store_of own ((first + n) % 1023) pair.other ∷ []) is runs in
      let got = loads.got in
      let v : LargeState = large_state loads.history in
      let array = fits.0 in
      let by = beside_with own u v got.value got.after in
      let array_own : pair.array ≢ own = λ same. omega (arith, same, beyond, array) in
      let there : part_of u pair.array p ≡ got.value =
      ap (λ q. slice_index_or (unwrap_or (option_map (λ a. refs_of (object_at u.small.graph a)) q) []) p None) got.held ∙ get_or_from_slice_get (refs_of (object_at u.small.graph got.name)) p got.value None got.there in
      at_hand_round h n u loads.heap y loads.history k loads.host root within inside fills by
      (ap (λ (z : LargeState). register_at z.small 1 own) got.after ∙ changed_register u.small own got.value (all_registers m.heap j is.heap) room ∙ sym there ∙ sym (same_part own u v by pair.array p array_own)) loads.rest
  at_enters h m j y k n is root within inside fills false e runs =
      let u : LargeState = large_state j in
      let none = or_false (n == 0) ((first + n) % 1023 == 0) e in
      let some : n ≢ 0 = λ same. let yes : (n == 0) ≡ true = eq-eqb n 0 same in absurd (let no = none.0 in cc) in
      let no_border : (first + n) % 1023 ≢ 0 = λ same. let yes : ((first + n) % 1023 == 0) ≡ true = eq-eqb ((first + n) % 1023) 0 same in absurd (let no = none.1 in cc) in
      let before : first + n ≡ first + n - 1 + 1 = omega (arith, some) in
      let part : (first + n - 1) / 1023 ≡ (first + n) / 1023 = omega (arith, some, no_border) in
      at_hand_round h n u m y j k is root within inside fills (beside_none own u) (fills.at_hand (first + n - 1) before (omega (arith, some)) ∙ ap (part_of u pair.array) part) runs

  fill_rounds : (x y : HostHeap) (h k : List LargeItem) (n : ℕ) → IsHostOf x h → root_length (large_state h) pair.array ≡ Some elements → HasOwnParts (large_state h) pair.array → first + n ≤ elements
      → first + n ≤ 1023 * length (unwrap_or (references_in (large_state h) pair.array) []) → Runs x h (in_turn steps n) y k code.Done → Fills registers own first n pair (large_state h) (large_state k)
  fill_rounds x y h k zero is root own_parts within inside (same, left, done) = subst (λ l. Fills registers own first zero pair (large_state h) (large_state l)) (sym left) (none_filled registers own first pair (large_state h) own_parts)
  fill_rounds x y h k (suc n) is root own_parts within inside ran =
      let (m, j, before, last) = runs_apart x y h k (in_turn steps n) (steps n) ran in
      let host = runs_host x m h j (in_turn steps n) code.Done is before in
      let fills = fill_rounds x m h j n is root own_parts (omega (arith, within)) (omega (arith, inside)) before in
      at_enters h m j y k n host root (omega (arith, within)) (omega (arith, inside)) fills (enters false n (first + n)) refl last

-- ---- all parts are there

-- operations that load to the library's register alone
abbrev pub AllLoad : ℕ → List Asked → Type 0
AllLoad own [] = ⊤
AllLoad own (a ∷ ops) = ((base : ℕ) × (i : ℕ) × (a ≡ load_of own base i)) × AllLoad own ops

load_on : (own : ℕ) (ops more : List Asked) → AllLoad own ops → AllLoad own more → AllLoad own (ops ++ more)
load_on own [] more none after = after
load_on own (a ∷ ops) more (one, before) after = (one, load_on own ops more before after)

load_turns : (own : ℕ) (g : ℕ → List Asked) (n : ℕ) → ((i : ℕ) → AllLoad own (g i)) → AllLoad own (in_turn g n)
load_turns own g zero each = tt
load_turns own g (suc n) each = load_on own (in_turn g n) (g n) (load_turns own g n each) (each n)

pub checks_load : (array own first count : ℕ) → AllLoad own (checks (side.Parts array own) first count)
checks_load array own first count = at_none (count == 0)
  where
    at_none : (b : Bool) → AllLoad own (if b then [] else in_turn (check_steps array own first (first + count - 1)) (parts_between first (first + count - 1)))
    at_none true = tt
    at_none false = load_turns own (check_steps array own first (first + count - 1)) (parts_between first (first + count - 1)) (λ i. ((array, first / 1023 + i, refl), ((own, last_in (first / 1023 + i) (first + count - 1), refl), tt)))

pub loads_beside : (x y : HostHeap) (h k : List LargeItem) (own : ℕ) (ops : List Asked) → IsHostOf x h → AllLoad own ops → Runs x h ops y k code.Done → Beside own (large_state h) (large_state k)
loads_beside x y h k own [] is none (same, left, done) = subst (λ l. Beside own (large_state h) (large_state l)) (sym left) (beside_none own (large_state h))
loads_beside x y h k own (a ∷ ops) is ((base, i, this), all) ran =
    let first = load_first x y h k own base i ops is (subst (λ o. Runs x h (o ∷ ops) y k code.Done) this ran) in
    beside_on own (large_state h) (large_state first.history) (large_state k) (beside_with own (large_state h) (large_state first.history) first.got.value first.got.after)
    (loads_beside first.heap y first.history k own ops first.host all first.rest)

-- ---- the call

pub same_renewals : (renewals : List (List Name)) (s u : LargeState) → u.large ≡ s.large → (with_renewals renewals u).large ≡ (with_renewals renewals s).large
same_renewals [] s u same = same
same_renewals (ns ∷ earlier) s u same = named_bodies (Some ns) (with_renewals earlier s) (with_renewals earlier u) (same_renewals earlier s u same)

filled : (x m y : HostHeap) (h j k : List LargeItem) (first count elements : ℕ) (pair : Pair) (own : OwnRegisters) (parts : List (Option Name)) → IsHostOf x h → IsPair (registers_in x) pair → own_in x ≡ Some own
    → root_length (large_state h) pair.array ≡ Some elements → references_in (large_state h) pair.array ≡ Some parts → HasOwnParts (large_state h) pair.array → first + count ≤ min elements (1023 * length parts)
    → Runs x h (checks (side.Parts pair.array own.first) first count ++ in_turn (fill_steps (side.Parts pair.array own.first) first pair.other) count) m j code.Done → Runs m j (nil_of own.first ∷ []) y k code.Done
    → (l : List LargeItem) × IsHostOf y l × HasFilledParts (registers_in x) first count pair (large_state h) (large_state l)
filled x m y h j k first count elements pair own parts is fits has root there own_parts within ran ended =
    let few = few_registers x h is in
    let named = own_first x own has in
    let known = (own_there x own has).0 in
    let o = own.first in
    let s : LargeState = large_state h in
    let (n, l, checked, rounds) = runs_apart x m h j (checks (side.Parts pair.array o) first count) (in_turn (fill_steps (side.Parts pair.array o) first pair.other) count) ran in
    let t : LargeState = large_state l in
    let u : LargeState = large_state j in
    let w : LargeState = large_state k in
    let host = runs_host x n h l (checks (side.Parts pair.array o) first count) code.Done is checked in
    let by = loads_beside x n h l o (checks (side.Parts pair.array o) first count) is (checks_load pair.array o first count) checked in
    let apart : (r : ℕ) → r < registers_in x → r ≢ o = λ r less e. omega (arith, e, named, less) in
    let array = apart pair.array fits.0 in
    let parts_t : references_in t pair.array ≡ Some parts = same_refs o s t by pair.array array ∙ there in
    let many : length (unwrap_or (references_in t pair.array) []) ≡ length parts = ap (λ v. length (unwrap_or v [])) parts_t in
    let fills = fill_rounds (registers_in x) o first elements pair fits (omega (arith, named)) (omega (arith, few, known)) n m l j count host (same_root o s t by pair.array array ∙ root) (same_own o s t by pair.array array own_parts) (omega (arith, within)) (omega (arith, within, many)) rounds in
    let last = nil_last m y j k o (runs_host n m l j (in_turn (fill_steps (side.Parts pair.array o) first pair.other) count) code.Done host rounds) ended in
    let off = beside_with o u w None last.1 in
    let listed = all_listed s pair.array elements 0 parts root there in (
      k,
      last.0,
      record {
        renewals = fills.renewals;
        there = omega (arith, listed, within);
        filled = λ i from less. same_element o u w off pair.array i array ∙ fills.filled i from less ∙ ap (λ v. Some (as_renamed fills.renewals v)) (by.registers pair.other (apart pair.other fits.1));
        others = λ i out. same_element o u w off pair.array i array ∙ fills.others i out ∙ ap (option_map (as_renamed fills.renewals)) (same_element o s t by pair.array i array);
        held = λ r less. off.registers r (apart r less) ∙ fills.held r less ∙ ap (as_renamed fills.renewals) (by.registers r (apart r less));
        references = λ r less none. same_refs o u w off r (apart r less) ∙ fills.references r less (same_no_part o s t by pair.array r array (apart r less) none)
            ∙ ap (option_map (map (as_renamed fills.renewals))) (same_refs o s t by r (apart r less));
        words = λ r less none. same_words o u w off r (apart r less) ∙ fills.words_of r less (same_no_part o s t by pair.array r array (apart r less) none) ∙ same_words o s t by r (apart r less);
        own = λ r less none was. same_own o u w off r (apart r less) (fills.own_others r less (same_no_part o s t by pair.array r array (apart r less) none) (same_own o s t by r (apart r less) was));
        roots = λ r all i less is are.
            same_element o u w off r i (apart r less) ∙ (fills.root r all less (same_root o s t by r (apart r less) ∙ is) (same_apart o s t by pair.array r array (apart r less) are)).elements i
            ∙ ap (option_map (as_renamed fills.renewals)) (same_element o s t by r i (apart r less));
        apart = λ q r less few none out are.
            same_apart o u w off q r (apart q less) (apart r few) (fills.apart q r less few (same_no_part o s t by pair.array q array (apart q less) none) (same_no_part o s t by pair.array r array (apart r few) out)
            (same_apart o s t by q r (apart q less) (apart r few) are));
        bodies = off.bodies ∙ fills.bodies ∙ same_renewals fills.renewals s t by.bodies;
      },
    )

pub fills_reach_parts : FillsReachParts
fills_reach_parts x y h first count elements pair is fits root own_parts carried =
    at_references (references_in (large_state h) pair.array) refl
    (subst (λ r. Carries x y h (planned (filling pair first count) (range_held (option_map length (references_in (large_state h) pair.array)) r (first_own x) pair.array (first + count))) code.Done) root carried)
  where
    Goal : Type 0
    Goal = (l : List LargeItem) × IsHostOf y l × HasFilledParts (registers_in x) first count pair (large_state h) (large_state l)

    at_room : (parts : List (Option Name)) (own : OwnRegisters) (c : Bool) → references_in (large_state h) pair.array ≡ Some parts → own_in x ≡ Some own → nat_le (first + count) (min elements (1023 * length parts)) ≡ c
        → Carries x y h (planned (filling pair first count) (if c then Ok (side.Parts pair.array own.first) else Err code.Index)) code.Done → Goal
    at_room parts own true there has within (m, j, k, ran, ended) =
        filled x m y h j k first count elements pair own parts is fits has root there own_parts (leb-true (first + count) (min elements (1023 * length parts)) within) ran ended
    at_room parts own false there has over (told, same) = absurd (cc)

    at_own : (parts : List (Option Name)) (own : Option OwnRegisters) → references_in (large_state h) pair.array ≡ Some parts → own_in x ≡ own
        → Carries x y h (planned (filling pair first count) (parts_side (min elements (1023 * length parts)) (option_map (λ (o : OwnRegisters). o.first) own) pair.array (first + count))) code.Done → Goal
    at_own parts None there none (told, same) = absurd (cc)
    at_own parts (Some own) there has ran = at_room parts own (nat_le (first + count) (min elements (1023 * length parts))) there has refl ran

    at_references : (v : Option (List (Option Name))) → references_in (large_state h) pair.array ≡ v
        → Carries x y h (planned (filling pair first count) (range_held (option_map length v) (Some elements) (first_own x) pair.array (first + count))) code.Done → Goal
    at_references None there (told, same) = absurd (cc)
    at_references (Some parts) there ran = at_own parts (own_in x) there refl ran

-- A copy between roots replaces the elements, where they are one or apart, and the parts of the one that is written to are its own.
use Rattle.std.proofs.Common.{◌≡◌, ◌≢◌, ℕ, zero, suc, ◌+◌, ◌*◌, ◌/◌, ◌%◌, ◌<◌, ◌≤◌, ◌⊎◌, ◌∙◌, refl, sym, ap, subst, arith, inl, inr, Bool, true, false, Option, Some, None, List, [], ◌∷◌, length, map}
use Rattle.std.specs.Prelude.{◌==◌, min, nat_lt, option_map, slice_get, slice_index_or, unwrap_or, if◌then◌else◌, Result, Ok, Err}
use Rattle.std.proofs.lemmas.Bool.{cases_eq, eq-eqb}
use Rattle.std.proofs.lemmas.Option.{get_or_from_slice_get, same_Some}
use Rattle.lxr_layout.specs.declared.Name.{Name}
use Rattle.lxr_layout.specs.declared.TheConstants.{REGISTERS}
use Rattle.lxr_graph.specs.State.{object_at, refs_of, register_at, values_of}
use Rattle.lxr_large_model.specs.History.{LargeItem, large_state}
use Rattle.lxr_large_model.specs.State.{LargeState}
use Rattle.lxr_c_base.specs.declared.codes.Code.{Code}
use Rattle.lxr_c_base.specs.declared.codes.Code.TheVariants as code
use Rattle.lxr_c_heap.specs.declared.host.HostHeap.{HostHeap}
use Rattle.lxr_c_heap.specs.declared.own.OwnRegisters.{OwnRegisters}
use Rattle.lxr_c_heap.specs.Hosting.{IsHostOf, own_in, registers_in}
use Rattle.lxr_c_many.specs.Fields.{references_in, words_in}
use Rattle.lxr_c_many.proofs.MakingLemmas.{all_registers}
use Rattle.lxr_c_arrays.specs.declared.copying.Copying.{Copying}
use Rattle.lxr_c_arrays.specs.declared.registers.Pair.{Pair}
use Rattle.lxr_c_arrays.specs.declared.side.Side.{Side}
use Rattle.lxr_c_arrays.specs.declared.side.Side.TheVariants as side
use Rattle.lxr_c_arrays.specs.Elements.{AreApart, CopiesEnterParts, CopiesReachParts, HasCopiedParts, HasOwnParts, IsNoPart, as_named, as_renamed, element_at, elements_at, part_of, with_renewals}
use Rattle.lxr_c_arrays.specs.Operations.{nil_of, store_of}
use Rattle.lxr_c_arrays.specs.Plans.{CopiesElements, IsPair, check_copy, copy_by, copy_checked, copy_steps, copying, copying_by, enters, planned, round_of}
use Rattle.lxr_c_arrays.specs.Running.{Carries, Runs, in_turn}
use Rattle.lxr_c_arrays.specs.Sides.{checks, range_held, root_length, store_steps}
use Rattle.lxr_c_arrays.proofs.CopyLemmas.{IsRooted, IsSideOf, Left, Takes, Written, all_written, checks_beside, element_loaded, left_before, none_else, range_cases, rooted_cases, round_small, source_left, takes_object, takes_root, written_before}
use Rattle.lxr_c_arrays.proofs.ElementLemmas.{changed_register, few_registers, load_first, nil_last}
use Rattle.lxr_c_arrays.proofs.FillLemmas.{as_many, named_at, named_lists, named_with, renewals_with, renewed_bodies, same_reference}
use Rattle.lxr_c_arrays.proofs.LeftLemmas.{all_listed, mapped_at, rooted, same_object, whole_at}
use Rattle.lxr_c_arrays.proofs.PlanLemmas.{own_first, own_second, own_there}
use Rattle.lxr_c_arrays.proofs.RootFillLemmas.{Beside, StaysApart, at_hand_after, beside_none, beside_with, checks_load, kept_element, loads_beside, mapped_many, no_part_after, or_false, others_own, own_after, references_after, references_root, same_apart, same_element, same_no_part, same_own, same_part, same_refs, same_renewals, same_root, same_words, stays_after, stays_beside, stays_same, stored_element, words_after, words_root}
use Rattle.lxr_c_arrays.proofs.ReachLemmas.{apart_named}
use Rattle.lxr_c_arrays.proofs.RunLemmas.{runs_apart, runs_host}
use Rattle.lxr_c_arrays.proofs.SettleLemmas.{Settled, same_references}
use Rattle.lxr_c_arrays.proofs.StoreLemmas.{SetReference, bodies_now, registers_now, root_by, store_first}

-- ---- what is copied from

-- the array that is copied from, as a side by way of the register `second`: a root, which is the one that is written to or apart from it, or an
-- object that is no part of that one
data IsSource (second : ℕ) (pair : Pair) (s : LargeState) (from : Side) : Type 0 where
  of_root : (all : ℕ) → from ≡ side.Parts pair.other second → root_length s pair.other ≡ Some all
      → (register_at s.small 1 pair.other ≡ register_at s.small 1 pair.array) ⊎ AreApart s pair.array pair.other → IsSource second pair s from
  of_object : from ≡ side.Whole pair.other → root_length s pair.other ≡ None → IsNoPart s pair.array pair.other → IsSource second pair s from

source_side : (second : ℕ) (pair : Pair) (s : LargeState) (from : Side) → IsSource second pair s from → IsSideOf second pair.other from
source_side second pair s from (of_root all is plain related) = inr is
source_side second pair s from (of_object is plain none) = inl is

-- ---- what is copied so far

-- rounds of a copy were done, the last of which wrote to this element: its part is at hand in the register `own`
record Copies (registers own at first : ℕ) (Wrote Stays Last : ℕ → Type 0) (pair : Pair) (s u : LargeState) : Type 0 where
  renewals : List (List Name)
  held : (r : ℕ) → r < registers → register_at u.small 1 r ≡ as_renamed renewals (register_at s.small 1 r)
  words : words_in u pair.array ≡ words_in s pair.array
  many : length (unwrap_or (references_in u pair.array) []) ≡ length (unwrap_or (references_in s pair.array) [])
  own_parts : HasOwnParts u pair.array
  at_hand : (i : ℕ) → Last i → register_at u.small 1 own ≡ part_of u pair.array (i / 1023)
  copied : (i : ℕ) → Wrote (at + i) → element_at u pair.array (at + i) ≡ option_map (as_renamed renewals) (element_at s pair.other (first + i))
  others : (i : ℕ) → Stays i → element_at u pair.array i ≡ option_map (as_renamed renewals) (element_at s pair.array i)
  other : (r all : ℕ) → r < registers → root_length s r ≡ Some all → AreApart s pair.array r → StaysApart pair.array r renewals s u
  no_part : (r : ℕ) → r < registers → IsNoPart s pair.array r → IsNoPart u pair.array r
  references : (r : ℕ) → r < registers → IsNoPart s pair.array r → references_in u r ≡ option_map (map (as_renamed renewals)) (references_in s r)
  words_of : (r : ℕ) → r < registers → IsNoPart s pair.array r → words_in u r ≡ words_in s r
  own_others : (r : ℕ) → r < registers → IsNoPart s pair.array r → HasOwnParts s r → HasOwnParts u r
  apart : (q r : ℕ) → q < registers → r < registers → IsNoPart s pair.array q → IsNoPart s pair.array r → AreApart s q r → AreApart u q r
  bodies : u.large ≡ (with_renewals renewals s).large

module _ (registers own at first : ℕ) (Wrote Stays Last : ℕ → Type 0) (pair : Pair) (s u : LargeState) (fits : IsPair registers pair) (copies : Copies registers own at first Wrote Stays Last pair s u) where
  -- an element that is still to be copied is what it was
  source_kept : (second : ℕ) (from : Side) → IsSource second pair s from → (j : ℕ) → Stays j → element_at u pair.other j ≡ option_map (as_renamed copies.renewals) (element_at s pair.other j)
  source_kept second from (of_object is plain none) j stays =
      let f = as_renamed copies.renewals in
      let plain_u : root_length u pair.other ≡ None = root_by s u pair.other (copies.words_of pair.other fits.1 none) ∙ plain in
      whole_at u pair.other j plain_u ∙ ap (λ vs. slice_get (unwrap_or vs []) j) (copies.references pair.other fits.1 none) ∙ mapped_at f (references_in s pair.other) j ∙ ap (option_map f) (sym (whole_at s pair.other j plain))
  source_kept second from (of_root all is plain (inl same)) j stays =
      same_object u pair.other pair.array j (copies.held pair.other fits.1 ∙ ap (as_renamed copies.renewals) same ∙ sym (copies.held pair.array fits.0)) ∙ copies.others j stays
      ∙ ap (option_map (as_renamed copies.renewals)) (sym (same_object s pair.other pair.array j same))
  source_kept second from (of_root all is plain (inr are)) j stays = (copies.other pair.other all fits.1 plain are).elements j

  -- and so is all, where another register of the library's got something
  copies_beside : (second : ℕ) (t : LargeState) → registers ≤ second → own ≢ second → Beside second u t → Copies registers own at first Wrote Stays Last pair s t
  copies_beside second t beyond differs by =
      let apart : (r : ℕ) → r < registers → r ≢ second = λ r less e. omega (arith, e, beyond, less) in
      let array = apart pair.array fits.0 in
      let from = apart pair.other fits.1 in
      record {
        renewals = copies.renewals;
        held = λ r less. by.registers r (apart r less) ∙ copies.held r less;
        words = same_words second u t by pair.array array ∙ copies.words;
        many = ap (λ q. length (unwrap_or q [])) (same_refs second u t by pair.array array) ∙ copies.many;
        own_parts = same_own second u t by pair.array array copies.own_parts;
        at_hand = λ i last. by.registers own differs ∙ copies.at_hand i last ∙ sym (same_part second u t by pair.array (i / 1023) array);
        copied = λ i wrote. same_element second u t by pair.array (at + i) array ∙ copies.copied i wrote;
        others = λ i stays. same_element second u t by pair.array i array ∙ copies.others i stays;
        other = λ r all less is are. stays_beside second pair.array r copies.renewals s u t by array (apart r less) (copies.other r all less is are);
        no_part = λ r less none. same_no_part second u t by pair.array r array (apart r less) (copies.no_part r less none);
        references = λ r less none. same_refs second u t by r (apart r less) ∙ copies.references r less none;
        words_of = λ r less none. same_words second u t by r (apart r less) ∙ copies.words_of r less none;
        own_others = λ r less none was. same_own second u t by r (apart r less) (copies.own_others r less none was);
        apart = λ q r less few none out are. same_apart second u t by q r (apart q less) (apart r few) (copies.apart q r less few none out are);
        bodies = by.bodies ∙ copies.bodies;
      }

-- ---- one more

-- the value that is stored is at hand in a register, and so is the part, in a state beside
module _ (registers own second at first n elements : ℕ) (Wrote Stays Last : ℕ → Type 0) (pair : Pair) (s u v b w : LargeState) (value : Option Name) (fits : IsPair registers pair) (beyond : registers ≤ own)
    (apart : second ≢ own) (root : root_length s pair.array ≡ Some elements) (within : at + n < elements) (inside : (at + n) / 1023 < length (unwrap_or (references_in s pair.array) []))
    (copies : Copies registers own at first Wrote Stays Last pair s u) (by : Beside own u v) (hand : register_at v.small 1 own ≡ part_of v pair.array ((at + n) / 1023))
    (has : register_at u.small 1 second ≡ value) (was : Some value ≡ option_map (as_renamed copies.renewals) (element_at s pair.other (first + n)))
    (settled : Settled v b) (set : SetReference b w own ((at + n) % 1023) second) where
  abbrev array : ℕ
  array = pair.array

  own_apart : (r : ℕ) → r < registers → r ≢ own
  own_apart r less e = omega (arith, e, beyond, less)

  abbrev array_own : array ≢ own
  array_own = own_apart array fits.0

  root_v : root_length v array ≡ Some elements
  root_v = same_root own u v by array array_own ∙ root_by s u array copies.words ∙ root

  own_v : HasOwnParts v array
  own_v = same_own own u v by array array_own copies.own_parts

  abbrev g : Option Name → Option Name
  g = as_named settled.names

  abbrev after : List (List Name)
  after = renewals_with settled.names copies.renewals

  written : (i : ℕ) → i ≡ at + n → element_at w array i ≡ option_map (as_renamed after) (element_at s pair.other (first + n))
  written i same =
      let there = rooted v array elements root_v in
      let many_v : length (refs_of (object_at v.small.graph there.0)) ≡ length (unwrap_or (references_in s array) []) =
      ap (λ q. length (unwrap_or q [])) (sym (ap (option_map (λ m. refs_of (object_at v.small.graph m))) there.1) ∙ same_refs own u v by array array_own) ∙ copies.many in
      stored_element v b w own array ((at + n) / 1023) ((at + n) % 1023) second elements settled set root_v own_v hand i (ap (λ j. j / 1023) same) (ap (λ j. j % 1023) same) (omega (arith, same, within)) (omega (arith, inside, many_v))
      ∙ ap (λ q. Some (g q)) (by.registers second apart ∙ has) ∙ ap (option_map g) was ∙ named_at settled.names copies.renewals (element_at s pair.other (first + n))

  kept : (i : ℕ) → i ≢ at + n → element_at w array i ≡ option_map g (element_at u array i)
  kept i other =
      kept_element v b w own array ((at + n) / 1023) ((at + n) % 1023) second elements settled set root_v own_v hand i (λ same e. other (omega (arith, same, e)))
      ∙ ap (option_map g) (same_element own u v by array i array_own)

  copy_round : (More Less Next : ℕ → Type 0) → ((i : ℕ) → More i → i ≢ at + n → Wrote i) → ((i : ℕ) → Less i → (i ≢ at + n) × Stays i) → ((i : ℕ) → Next i → i ≡ at + n) → Copies registers own at first More Less Next pair s w
  copy_round More Less Next before behind last = record {
    renewals = after;
    held = λ r less. registers_now v b own ((at + n) % 1023) second settled w set r ∙ ap g (by.registers r (own_apart r less) ∙ copies.held r less) ∙ named_with settled.names copies.renewals (register_at s.small 1 r);
    words = words_root v b w own array ((at + n) / 1023) ((at + n) % 1023) second elements settled set root_v own_v hand ∙ same_words own u v by array array_own ∙ copies.words;
    many = ap (λ q. length (unwrap_or q [])) (references_root v b w own array ((at + n) / 1023) ((at + n) % 1023) second elements settled set root_v own_v hand) ∙ mapped_many g (references_in v array)
        ∙ ap (λ q. length (unwrap_or q [])) (same_refs own u v by array array_own) ∙ copies.many;
    own_parts = own_after v b w own array ((at + n) / 1023) ((at + n) % 1023) second elements settled set root_v own_v hand;
    at_hand = λ i next. at_hand_after v b w own array ((at + n) / 1023) ((at + n) % 1023) second elements settled set root_v own_v hand ∙ ap (λ j. part_of w array (j / 1023)) (sym (last i next));
    copied = λ i more. elim (cases_eq (at + i) (at + n)) [
      | inl same ↦ written (at + i) same ∙ ap (λ j. option_map (as_renamed after) (element_at s pair.other (first + j))) (let index : n ≡ i = omega (arith, same) in index)
      | inr differs ↦ kept (at + i) differs ∙ ap (option_map g) (copies.copied i (before (at + i) more differs)) ∙ named_at settled.names copies.renewals (element_at s pair.other (first + i))
    ];
    others = λ i less. kept i (behind i less).0 ∙ ap (option_map g) (copies.others i (behind i less).1) ∙ named_at settled.names copies.renewals (element_at s array i);
    other = λ r all less is are.
        stays_after s v b w own array ((at + n) / 1023) ((at + n) % 1023) second elements r all copies.renewals settled set root_v own_v hand is
        (stays_beside own array r copies.renewals s u v by array_own (own_apart r less) (copies.other r all less is are));
    no_part = λ r less none.
        no_part_after v b w own array ((at + n) / 1023) ((at + n) % 1023) second elements settled set root_v own_v hand r (same_no_part own u v by array r array_own (own_apart r less) (copies.no_part r less none));
    references = λ r less none.
        references_after v b w own array ((at + n) / 1023) ((at + n) % 1023) second elements settled set root_v own_v hand r (same_no_part own u v by array r array_own (own_apart r less) (copies.no_part r less none))
        ∙ ap (option_map (map g)) (same_refs own u v by r (own_apart r less) ∙ copies.references r less none) ∙ named_lists settled.names copies.renewals (references_in s r);
    words_of = λ r less none.
        words_after v b w own array ((at + n) / 1023) ((at + n) % 1023) second elements settled set root_v own_v hand r (same_no_part own u v by array r array_own (own_apart r less) (copies.no_part r less none))
        ∙ same_words own u v by r (own_apart r less) ∙ copies.words_of r less none;
    own_others = λ r less none was.
        others_own v b w own array ((at + n) / 1023) ((at + n) % 1023) second elements settled set root_v own_v hand r (same_no_part own u v by array r array_own (own_apart r less) (copies.no_part r less none))
        (same_own own u v by r (own_apart r less) (copies.own_others r less none was));
    apart = λ q r less few none out are.
        let none_q = same_no_part own u v by array q array_own (own_apart q less) (copies.no_part q less none) in
        let none_r = same_no_part own u v by array r array_own (own_apart r few) (copies.no_part r few out) in
        apart_named v b w settled q r (references_after v b w own array ((at + n) / 1023) ((at + n) % 1023) second elements settled set root_v own_v hand q none_q)
        (registers_now v b own ((at + n) % 1023) second settled w set r) (references_after v b w own array ((at + n) / 1023) ((at + n) % 1023) second elements settled set root_v own_v hand r none_r)
        (same_apart own u v by q r (own_apart q less) (own_apart r few) (copies.apart q r less few none out are));
    bodies = bodies_now v b own ((at + n) % 1023) second settled w set ∙ renewed_bodies settled.names copies.renewals s v (by.bodies ∙ copies.bodies);
  }

-- ---- rounds

-- the element that the last of so many rounds wrote to
abbrev LastOf : Bool → ℕ → ℕ → ℕ → ℕ → Type 0
LastOf up at count zero i = ⊥
LastOf up at count (suc n) i = i ≡ at + round_of up count n

-- where the next element isn't the first of its part that is met, its part is that of the last one
same_part_next : (up : Bool) (at count n : ℕ) → suc n < count → ((at + round_of up count (suc n)) % 1023 ≢ (if up then 1022 else 0)) → (at + round_of up count n) / 1023 ≡ (at + round_of up count (suc n)) / 1023
same_part_next true at count n less border = omega (arith, less, border)
same_part_next false at count n less border = omega (arith, less, border)

none_copied : (registers own at first count : ℕ) (up : Bool) (pair : Pair) (s : LargeState) → HasOwnParts s pair.array → Copies registers own at first (Written up at count 0) (Left up at count 0) (LastOf up at count 0) pair s s
none_copied registers own at first count up pair s own_parts = record {
  renewals = [];
  held = λ r less. refl;
  words = refl;
  many = refl;
  own_parts = own_parts;
  at_hand = λ i last. absurd last;
  copied = λ i wrote. absurd (none_written up (at + i) wrote);
  others = λ i stays. same_reference (element_at s pair.array i);
  other = λ r all less is are. stays_same pair.array r s are;
  no_part = λ r less none. none;
  references = λ r less none. same_references (references_in s r);
  words_of = λ r less none. refl;
  own_others = λ r less none was. was;
  apart = λ q r less few none out are. are;
  bodies = refl;
}
  where
    none_written : (z : Bool) (i : ℕ) → Written z at count 0 i → ⊥
    none_written true i (low, high) = omega (arith, low, high)
    none_written false i (low, high) = omega (arith, low, high)

module _ (registers at first count elements : ℕ) (pair : Pair) (own second : ℕ) (from : Side) (fits : IsPair registers pair) (one : own ≡ registers) (two : second ≡ registers + 1) (room : second < REGISTERS) where
  abbrev c : Copying
  c = record { to = side.Parts pair.array own; at = at; from = from; first = first; count = count; element = second }

  abbrev up : Bool
  up = nat_lt first at

  abbrev Copied : ℕ → LargeState → LargeState → Type 0
  Copied n = Copies registers own at first (Written up at count n) (Left up at count n) (LastOf up at count n) pair

  differs : second ≢ own
  differs e = omega (arith, e, one, two)

  -- the root and what is copied from are as they have to be
  record Roots (s : LargeState) : Type 0 where
    root : root_length s pair.array ≡ Some elements
    own_parts : HasOwnParts s pair.array
    source : IsSource second pair s from
    stored : at + count ≤ elements
    inside : at + count ≤ 1023 * length (unwrap_or (references_in s pair.array) [])
    loaded : (all : ℕ) → root_length s pair.other ≡ Some all → first + count ≤ all

  source_root : (n all : ℕ) (s u : LargeState) → root_length s pair.other ≡ Some all → (register_at s.small 1 pair.other ≡ register_at s.small 1 pair.array) ⊎ AreApart s pair.array pair.other → Copied n s u
      → root_length u pair.other ≡ Some all
  source_root n all s u plain (inr are) copies = (copies.other pair.other all fits.1 plain are).root ∙ plain
  source_root n all s u plain (inl same) copies =
      let now : register_at u.small 1 pair.other ≡ register_at u.small 1 pair.array = copies.held pair.other fits.1 ∙ ap (as_renamed copies.renewals) same ∙ sym (copies.held pair.array fits.0) in
      root_by s u pair.other (ap (option_map (λ a. values_of (object_at u.small.graph a))) now ∙ copies.words ∙ sym (ap (option_map (λ a. values_of (object_at s.small.graph a))) same)) ∙ plain

  at_hand_round : (s u : LargeState) (n : ℕ) (value : Option Name) (m y : HostHeap) (j k : List LargeItem) → Roots s → n < count → IsHostOf m j → Beside own u (large_state j)
      → register_at (large_state j).small 1 own ≡ part_of (large_state j) pair.array ((at + round_of up count n) / 1023) → register_at u.small 1 second ≡ value
      → (copies : Copied n s u) → Some value ≡ option_map (as_renamed copies.renewals) (element_at s pair.other (first + round_of up count n))
      → Runs m j (store_of own ((at + round_of up count n) % 1023) second ∷ []) y k code.Done → Copied (suc n) s (large_state k)
  at_hand_round s u n value m y j k roots less is by hand has copies was runs =
      let r = round_of up count n in
      let small = round_small up count n less in
      let stored = roots.stored in
      let inside = roots.inside in
      let stores = store_first m y j k own ((at + r) % 1023) second [] is runs in
      subst (λ l. Copied (suc n) s (large_state l)) (sym stores.rest.1)
      (copy_round registers own second at first r elements (Written up at count n) (Left up at count n) (LastOf up at count n) pair s u (large_state j) stores.before (large_state stores.history) value fits (omega (arith, one)) differs
      roots.root (omega (arith, small, stored)) (omega (arith, small, inside)) copies by hand has was stores.settled stores.set (Written up at count (suc n)) (Left up at count (suc n)) (LastOf up at count (suc n))
      (λ i. written_before up at count n i less) (λ i. left_before up at count n i less) (λ i next. next))

  at_enters : (s : LargeState) (n : ℕ) (value : Option Name) (m y : HostHeap) (j k : List LargeItem) → Roots s → n < count → IsHostOf m j → register_at (large_state j).small 1 second ≡ value → (copies : Copied n s (large_state j))
      → Some value ≡ option_map (as_renamed copies.renewals) (element_at s pair.other (first + round_of up count n)) → (b : Bool) → enters up n (at + round_of up count n) ≡ b
      → Runs m j (store_steps (side.Parts pair.array own) b (at + round_of up count n) second) y k code.Done → Copied (suc n) s (large_state k)
  at_enters s n value m y j k roots less is has copies was true e runs =
      let t : LargeState = large_state j in
      let i = at + round_of up count n in
      let loads = load_first m y j k own pair.array (i / 1023) (store_of own (i % 1023) second ∷ []) is runs in
      let got = loads.got in
      let v : LargeState = large_state loads.history in
      let array = fits.0 in
      let by = beside_with own t v got.value got.after in
      let array_own : pair.array ≢ own = λ same. omega (arith, same, one, array) in
      let there : part_of t pair.array (i / 1023) ≡ got.value =
      ap (λ q. slice_index_or (unwrap_or (option_map (λ a. refs_of (object_at t.small.graph a)) q) []) (i / 1023) None) got.held ∙ get_or_from_slice_get (refs_of (object_at t.small.graph got.name)) (i / 1023) got.value None got.there in
      at_hand_round s t n value loads.heap y loads.history k roots less loads.host by
      (ap (λ (z : LargeState). register_at z.small 1 own) got.after ∙ changed_register t.small own got.value (all_registers m.heap j is.heap) (omega (arith, one, two, room)) ∙ sym there ∙ sym (same_part own t v by pair.array (i / 1023) array_own)) has copies was loads.rest
  at_enters s zero value m y j k roots less is has copies was false e runs = absurd (cc)
  at_enters s (suc n) value m y j k roots less is has copies was false e runs =
      let t : LargeState = large_state j in
      let i = at + round_of up count (suc n) in
      let none = or_false (suc n == 0) (i % 1023 == (if up then 1022 else 0)) e in
      let border : i % 1023 ≢ (if up then 1022 else 0) = λ same. let yes : (i % 1023 == (if up then 1022 else 0)) ≡ true = eq-eqb (i % 1023) (if up then 1022 else 0) same in absurd (let no = none.1 in cc) in
      at_hand_round s t (suc n) value m y j k roots less is (beside_none own t) (copies.at_hand (at + round_of up count n) refl ∙ ap (part_of t pair.array) (same_part_next up at count n less border)) has copies was runs

  -- what is copied from is what it was
  source_now : (n : ℕ) (s u : LargeState) → Copied n s u → IsSource second pair s from → Takes second pair.other u from
  source_now n s u copies (of_object is plain none) = takes_object is (root_by s u pair.other (copies.words_of pair.other fits.1 none) ∙ plain)
  source_now n s u copies (of_root all is plain related) = takes_root all is (source_root n all s u plain related copies)

  source_many : (n all : ℕ) (s u : LargeState) → Copied n s u → IsSource second pair s from → root_length u pair.other ≡ Some all → root_length s pair.other ≡ Some all
  source_many n all s u copies (of_object is plain none) now = sym (root_by s u pair.other (copies.words_of pair.other fits.1 none)) ∙ now
  source_many n all s u copies (of_root others is plain related) now = plain ∙ sym (source_root n others s u plain related copies) ∙ now

  copy_rounds : (x y : HostHeap) (h k : List LargeItem) (n : ℕ) → IsHostOf x h → Roots (large_state h) → n ≤ count → Runs x h (in_turn (copy_steps c) n) y k code.Done → Copied n (large_state h) (large_state k)
  unfolding copies_beside
  copy_rounds x y h k zero is roots few (same, left, done) = subst (λ l. Copied zero (large_state h) (large_state l)) (sym left) (none_copied registers own at first count up pair (large_state h) roots.own_parts)
  copy_rounds x y h k (suc n) is roots few ran =
      let (m, j, before, last) = runs_apart x y h k (in_turn (copy_steps c) n) (copy_steps c n) ran in
      let s : LargeState = large_state h in
      let u : LargeState = large_state j in
      let host = runs_host x m h j (in_turn (copy_steps c) n) code.Done is before in
      let copies = copy_rounds x m h j n is roots (omega (arith, few)) before in
      let less : n < count = omega (arith, few) in
      let small = round_small up count n less in
      let other = fits.1 in
      let loads = element_loaded m y j k second pair.other (first + round_of up count n) from host (omega (arith, other, one, two, room)) room (source_now n s u copies roots.source)
      (λ all plain. let loaded = roots.loaded all (source_many n all s u copies roots.source plain) in omega (arith, small, loaded))
      (store_steps (side.Parts pair.array own) (enters up n (at + round_of up count n)) (at + round_of up count n) second) last in
      let was = sym loads.value ∙ source_kept registers own at first (Written up at count n) (Left up at count n) (LastOf up at count n) pair s u fits copies second from roots.source (first + round_of up count n) (source_left up at first count n refl less) in
      let copies_t = copies_beside registers own at first (Written up at count n) (Left up at count n) (LastOf up at count n) pair s u fits copies second (large_state loads.history) (omega (arith, two)) (λ e. differs (sym e)) loads.by in
      at_enters s n loads.got loads.heap y loads.history k roots less loads.host loads.held copies_t was (enters up n (at + round_of up count n)) refl loads.rest

-- ---- the call

copied : (x m y : HostHeap) (h j k : List LargeItem) (at first count elements : ℕ) (pair : Pair) (own : OwnRegisters) (source : Side) (tos : List (Option Name)) → IsHostOf x h → IsPair (registers_in x) pair → own_in x ≡ Some own
    → root_length (large_state h) pair.array ≡ Some elements → references_in (large_state h) pair.array ≡ Some tos
    → HasOwnParts (large_state h) pair.array → IsSource own.second pair (large_state h) source
    → at + count ≤ min elements (1023 * length tos) → first + count ≤ length (unwrap_or (elements_at (large_state h) pair.other) []) → ((all : ℕ) → root_length (large_state h) pair.other ≡ Some all → first + count ≤ all)
    → Runs x h (copy_checked (record { to = side.Parts pair.array own.first; at = at; from = source; first = first; count = count; element = own.second })) m j code.Done
    → Runs m j (nil_of own.first ∷ nil_of own.second ∷ []) y k code.Done → (l : List LargeItem) × IsHostOf y l × HasCopiedParts (registers_in x) at first count pair (large_state h) (large_state l)
copied x m y h j k at first count elements pair own source tos is fits has root tos_there own_parts is_source stored there loaded ran ended =
    let registers = registers_in x in
    let few = few_registers x h is in
    let one = own_first x own has in
    let two = own_second x own has in
    let known = (own_there x own has).1 in
    let a = own.first in
    let b = own.second in
    let cs : Copying = record { to = side.Parts pair.array a; at = at; from = source; first = first; count = count; element = b } in
    let to_checks = checks (side.Parts pair.array a) at count in
    let from_checks = checks source first count in
    let (m2, l2, checked, rounds) = runs_apart x m h j (check_copy cs) (in_turn (copy_steps cs) count) ran in
    let (m1, l1, checked_to, checked_from) = runs_apart x m2 h l2 to_checks from_checks checked in
    let s : LargeState = large_state h in
    let s1 : LargeState = large_state l1 in
    let t : LargeState = large_state l2 in
    let u : LargeState = large_state j in
    let host1 = runs_host x m1 h l1 to_checks code.Done is checked_to in
    let host2 = runs_host m1 m2 l1 l2 from_checks code.Done host1 checked_from in
    let by1 = loads_beside x m1 h l1 a to_checks is (checks_load pair.array a at count) checked_to in
    let by2 = checks_beside m1 m2 l1 l2 b pair.other first count source (source_side b pair s source is_source) host1 checked_from in
    let apart_a : (r : ℕ) → r < registers → r ≢ a = λ r less e. omega (arith, e, one, less) in
    let apart_b : (r : ℕ) → r < registers → r ≢ b = λ r less e. omega (arith, e, two, less) in
    let array_a = apart_a pair.array fits.0 in
    let array_b = apart_b pair.array fits.0 in
    let other_a = apart_a pair.other fits.1 in
    let other_b = apart_b pair.other fits.1 in
    let held_t : (r : ℕ) → r < registers → register_at t.small 1 r ≡ register_at s.small 1 r = λ r less. by2.registers r (apart_b r less) ∙ by1.registers r (apart_a r less) in
    let refs_t : (r : ℕ) → r < registers → references_in t r ≡ references_in s r = λ r less. same_refs b s1 t by2 r (apart_b r less) ∙ same_refs a s s1 by1 r (apart_a r less) in
    let words_t : (r : ℕ) → r < registers → words_in t r ≡ words_in s r = λ r less. same_words b s1 t by2 r (apart_b r less) ∙ same_words a s s1 by1 r (apart_a r less) in
    let element_t : (r i : ℕ) → r < registers → element_at t r i ≡ element_at s r i = λ r i less. same_element b s1 t by2 r i (apart_b r less) ∙ same_element a s s1 by1 r i (apart_a r less) in
    let no_part_t : (r : ℕ) → r < registers → IsNoPart s pair.array r → IsNoPart t pair.array r =
    λ r less none. same_no_part b s1 t by2 pair.array r array_b (apart_b r less) (same_no_part a s s1 by1 pair.array r array_a (apart_a r less) none) in
    let many : length (unwrap_or (references_in t pair.array) []) ≡ length tos = ap (λ v. length (unwrap_or v [])) (refs_t pair.array fits.0 ∙ tos_there) in
    let source_t : IsSource b pair t source = elim is_source [
      | of_root all same plain related ↦ of_root all same (root_by s t pair.other (words_t pair.other fits.1) ∙ plain) (elim related [
        | inl one_object ↦ inl (held_t pair.other fits.1 ∙ one_object ∙ sym (held_t pair.array fits.0))
        | inr are ↦ inr (same_apart b s1 t by2 pair.array pair.other array_b other_b (same_apart a s s1 by1 pair.array pair.other array_a other_a are))
      ])
      | of_object same plain none ↦ of_object same (root_by s t pair.other (words_t pair.other fits.1) ∙ plain) (no_part_t pair.other fits.1 none)
    ] in
    let copies = copy_rounds registers at first count elements pair a b source fits one two (omega (arith, few, known)) m2 m l2 j count host2 (record {
      root = root_by s t pair.array (words_t pair.array fits.0) ∙ root;
      own_parts = same_own b s1 t by2 pair.array array_b (same_own a s s1 by1 pair.array array_a own_parts);
      source = source_t;
      stored = omega (arith, stored);
      inside = omega (arith, stored, many);
      loaded = λ all plain. loaded all (sym (root_by s t pair.other (words_t pair.other fits.1)) ∙ plain);
    }) (omega arith) rounds in
    let (n, l, before, last) = runs_apart m y j k (nil_of a ∷ []) (nil_of b ∷ []) ended in
    let host = runs_host m2 m l2 j (in_turn (copy_steps cs) count) code.Done host2 rounds in
    let once = nil_last m n j l a host before in
    let twice = nil_last n y l k b once.0 last in
    let w1 : LargeState = large_state l in
    let w : LargeState = large_state k in
    let off1 = beside_with a u w1 None once.1 in
    let off2 = beside_with b w1 w None twice.1 in
    let element_w : (i : ℕ) → element_at w pair.array i ≡ element_at u pair.array i = λ i. same_element b w1 w off2 pair.array i array_b ∙ same_element a u w1 off1 pair.array i array_a in
    let up = nat_lt first at in
    let f = as_renamed copies.renewals in
    let to_listed = all_listed s pair.array elements 0 tos root tos_there in (
      k,
      twice.0,
      record {
        renewals = copies.renewals;
        there = omega (arith, to_listed, stored);
        from = there;
        copied = λ i less. element_w (at + i) ∙ copies.copied i (all_written up at count i less) ∙ ap (option_map f) (element_t pair.other (first + i) fits.1);
        others = λ i out. element_w i ∙ copies.others i (none_else up at count i out) ∙ ap (option_map f) (element_t pair.array i fits.0);
        held = λ r less. off2.registers r (apart_b r less) ∙ off1.registers r (apart_a r less) ∙ copies.held r less ∙ ap f (held_t r less);
        references = λ r less none. same_refs b w1 w off2 r (apart_b r less) ∙ same_refs a u w1 off1 r (apart_a r less) ∙ copies.references r less (no_part_t r less none) ∙ ap (option_map (map f)) (refs_t r less);
        words = λ r less none. same_words b w1 w off2 r (apart_b r less) ∙ same_words a u w1 off1 r (apart_a r less) ∙ copies.words_of r less (no_part_t r less none) ∙ words_t r less;
        own = λ r less none was.
            let was_t = same_own b s1 t by2 r (apart_b r less) (same_own a s s1 by1 r (apart_a r less) was) in
            same_own b w1 w off2 r (apart_b r less) (same_own a u w1 off1 r (apart_a r less) (copies.own_others r less (no_part_t r less none) was_t));
        roots = λ r all i less is are.
            let are_t = same_apart b s1 t by2 pair.array r array_b (apart_b r less) (same_apart a s s1 by1 pair.array r array_a (apart_a r less) are) in
            same_element b w1 w off2 r i (apart_b r less) ∙ same_element a u w1 off1 r i (apart_a r less) ∙ (copies.other r all less (root_by s t r (words_t r less) ∙ is) are_t).elements i ∙ ap (option_map f) (element_t r i less);
        apart = λ q r less few none out are.
            let are_t = same_apart b s1 t by2 q r (apart_b q less) (apart_b r few) (same_apart a s s1 by1 q r (apart_a q less) (apart_a r few) are) in
            same_apart b w1 w off2 q r (apart_b q less) (apart_b r few) (same_apart a u w1 off1 q r (apart_a q less) (apart_a r few) (copies.apart q r less few (no_part_t q less none) (no_part_t r few out) are_t));
        bodies = off2.bodies ∙ off1.bodies ∙ copies.bodies ∙ same_renewals copies.renewals s t (by2.bodies ∙ by1.bodies);
      },
    )

module _ (x y : HostHeap) (h : List LargeItem) (at first count elements : ℕ) (pair : Pair) (is : IsHostOf x h) (fits : IsPair (registers_in x) pair) (root : root_length (large_state h) pair.array ≡ Some elements)
    (own_parts : HasOwnParts (large_state h) pair.array) where
  abbrev s : LargeState
  s = large_state h

  abbrev Goal : Type 0
  Goal = (l : List LargeItem) × IsHostOf y l × HasCopiedParts (registers_in x) at first count pair s (large_state l)

  abbrev to : OwnRegisters → Result Side Code
  to own = range_held (option_map length (references_in s pair.array)) (root_length s pair.array) (Some own.first) pair.array (at + count)

  abbrev from : OwnRegisters → Result Side Code
  from own = range_held (option_map length (references_in s pair.other)) (root_length s pair.other) (Some own.second) pair.other (first + count)

  -- what is copied from is there, or its code isn't that of success
  record IsThere (own : OwnRegisters) : Type 0 where
    source : Side
    same : from own ≡ Ok source
    is_source : IsSource own.second pair s source
    there : first + count ≤ length (unwrap_or (elements_at s pair.other) [])
    loaded : (all : ℕ) → root_length s pair.other ≡ Some all → first + count ≤ all

  abbrev MayBeThere : OwnRegisters → Type 0
  MayBeThere own = IsThere own ⊎ ((e : Code) × (e ≢ code.Done) × (from own ≡ Err e))

  to_root : ((own : OwnRegisters) → MayBeThere own) → CopiesElements at first count x y h pair code.Done → Goal
  to_root may = at_own (own_in x) refl
    where
      at_from : (own : OwnRegisters) → own_in x ≡ Some own → IsRooted pair.array own.first elements (at + count) (references_in s pair.array) (to own)
          → Carries x y h (planned (copying own) (copying_by own at first count (Ok (side.Parts pair.array own.first)) (from own))) code.Done → Goal
      at_from own has stored ran = elim (may own) [
        | inl is_there ↦
            let (m, j, k, did, ended) = subst (λ q. Carries x y h (planned (copying own) (copying_by own at first count (Ok (side.Parts pair.array own.first)) q)) code.Done) is_there.same ran in
            copied x m y h j k at first count elements pair own is_there.source stored.parts is fits has root stored.there own_parts is_there.is_source stored.within is_there.there is_there.loaded did ended
        | inr (e, failed, same) ↦
            let wrong = subst (λ q. Carries x y h (planned (copying own) (copying_by own at first count (Ok (side.Parts pair.array own.first)) q)) code.Done) same ran in
            absurd (failed (sym wrong.0))
      ]

      at_to : (own : OwnRegisters) → own_in x ≡ Some own → Carries x y h (planned (copying own) (copying_by own at first count (to own) (from own))) code.Done → Goal
      at_to own has ran = elim (rooted_cases (references_in s pair.array) (root_length s pair.array) elements own.first pair.array (at + count) root) [
        | inl stored ↦ at_from own has stored (subst (λ r. Carries x y h (planned (copying own) (copying_by own at first count r (from own))) code.Done) stored.same ran)
        | inr (e, failed, same) ↦
            let wrong = subst (λ r. Carries x y h (planned (copying own) (copying_by own at first count r (from own))) code.Done) same ran in
            absurd (failed (sym wrong.0))
      ]

      at_own : (own : Option OwnRegisters) → own_in x ≡ own → Carries x y h (copy_by own s at first count pair) code.Done → Goal
      at_own None has (told, same) = absurd (cc)
      at_own (Some own) has ran = at_to own has ran

  -- a root is there
  root_there : (all : ℕ) → root_length s pair.other ≡ Some all → (register_at s.small 1 pair.other ≡ register_at s.small 1 pair.array) ⊎ AreApart s pair.array pair.other → (own : OwnRegisters) → MayBeThere own
  root_there all plain related own = elim (rooted_cases (references_in s pair.other) (root_length s pair.other) all own.second pair.other (first + count) plain) [
    | inl found ↦
        let within = found.within in
        let listed = all_listed s pair.other all 0 found.parts plain found.there in
        inl (record {
          source = side.Parts pair.other own.second;
          same = found.same;
          is_source = of_root all refl plain related;
          there = omega (arith, listed, within);
          loaded = λ others other. let same : all ≡ others = same_Some all others (sym plain ∙ other) in omega (arith, same, within);
        })
    | inr wrong ↦ inr wrong
  ]

  -- an object is there
  object_there : root_length s pair.other ≡ None → IsNoPart s pair.array pair.other → (own : OwnRegisters) → MayBeThere own
  object_there plain none own = elim (range_cases (references_in s pair.other) (root_length s pair.other) (Some own.second) pair.other (first + count) plain) [
    | inl found ↦
        let within = found.within in
        let many = as_many s pair.other plain in
        inl (record { source = side.Whole pair.other; same = found.same; is_source = of_object refl plain none; there = omega (arith, many, within); loaded = λ all other. absurd (let wrong : None ≡ Some all = sym plain ∙ other in cc) })
    | inr wrong ↦ inr wrong
  ]

pub copies_reach_parts : CopiesReachParts
copies_reach_parts x y h at first count elements all pair is fits root plain own_parts related carried =
    to_root x y h at first count elements pair is fits root own_parts (root_there x y h at first count elements pair is fits root own_parts all plain related) carried

pub copies_enter_parts : CopiesEnterParts
copies_enter_parts x y h at first count elements pair is fits root plain own_parts none carried =
    to_root x y h at first count elements pair is fits root own_parts (object_there x y h at first count elements pair is fits root own_parts plain none) carried

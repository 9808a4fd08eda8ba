-- A copy to a whole array replaces the elements: from a whole one, or from a root of which it is no part.
use Rattle.std.proofs.Common.{◌≡◌, ◌≢◌, ℕ, zero, suc, ◌+◌, ◌*◌, ◌/◌, ◌%◌, ◌<◌, ◌≤◌, ◌⊎◌, ◌∙◌, refl, sym, ap, subst, arith, inl, inr, Bool, true, false, Option, Some, None, List, [], ◌∷◌, ◌++◌, length}
use Rattle.std.specs.Prelude.{min, nat_le, nat_lt, option_map, slice_get, unwrap_or, if◌then◌else◌, Result, Ok, Err}
use Rattle.std.proofs.lemmas.Bool.{cases_Bool, cases_eq, leb-true, ltb-false, ltb-true}
use Rattle.std.proofs.lemmas.Option.{same_Some, slice_get_within}
use Rattle.lxr_layout.specs.declared.Name.{Name}
use Rattle.lxr_layout.specs.declared.TheConstants.{REGISTERS}
use Rattle.lxr_graph.specs.Names.{same_name}
use Rattle.lxr_graph.specs.State.{object_at, refs_of, register_at, values_of}
use Rattle.lxr_graph.proofs.NameSets.{same_itself, same_names}
use Rattle.lxr_large_model.specs.History.{LargeItem, large_state}
use Rattle.lxr_large_model.specs.State.{LargeState}
use Rattle.lxr_c_base.specs.Requests.{index_of}
use Rattle.lxr_c_base.specs.declared.codes.Code.{Code}
use Rattle.lxr_c_base.specs.declared.codes.Code.TheVariants as code
use Rattle.lxr_c_heap.specs.declared.host.HostHeap.{HostHeap}
use Rattle.lxr_c_heap.specs.declared.own.OwnRegisters.{OwnRegisters}
use Rattle.lxr_c_heap.specs.Hosting.{IsHostOf, own_in, registers_in}
use Rattle.lxr_c_many.specs.Fields.{references_in, words_in}
use Rattle.lxr_c_many.specs.declared.asked.Asked.{Asked}
use Rattle.lxr_c_many.proofs.MakingLemmas.{all_registers}
use Rattle.lxr_c_arrays.specs.declared.copying.Copying.{Copying}
use Rattle.lxr_c_arrays.specs.declared.registers.Pair.{Pair}
use Rattle.lxr_c_arrays.specs.declared.side.Side.{Side}
use Rattle.lxr_c_arrays.specs.declared.side.Side.TheVariants as side
use Rattle.lxr_c_arrays.specs.Elements.{CopiesReplaceElements, HasCopied, IsNoPart, as_named, as_renamed, element_at, elements_at, references_of}
use Rattle.lxr_c_arrays.specs.Operations.{load_of, nil_of}
use Rattle.lxr_c_arrays.specs.Plans.{IsPair, copy_by, copy_checked, copy_steps, copying, copying_by, enters, planned, round_of}
use Rattle.lxr_c_arrays.specs.Running.{Carries, Runs, in_turn}
use Rattle.lxr_c_arrays.specs.Sides.{checks, load_steps, range_held, root_length, store_steps}
use Rattle.lxr_c_arrays.proofs.ElementLemmas.{changed_register, few_registers, load_first, nil_last, root_element, small_index}
use Rattle.lxr_c_arrays.proofs.FillLemmas.{Keeps, as_many, keeps_more, keeps_same, named_at, renewals_with, same_reference, stored_beside, stored_index, stored_there, whole_steps}
use Rattle.lxr_c_arrays.proofs.LeftLemmas.{all_listed, mapped_at, reference_at, same_object, whole_at}
use Rattle.lxr_c_arrays.proofs.PlanLemmas.{own_first, own_second, own_there}
use Rattle.lxr_c_arrays.proofs.RootFillLemmas.{Beside, beside_none, beside_on, beside_with, checks_load, loads_beside, same_apart, same_element, same_no_part, same_own, same_refs, same_words}
use Rattle.lxr_c_arrays.proofs.RunLemmas.{runs_apart, runs_host}
use Rattle.lxr_c_arrays.proofs.SettleLemmas.{Settled}
use Rattle.lxr_c_arrays.proofs.StoreLemmas.{SetReference, root_by, store_first}

-- ---- what is copied from

-- an array that a register holds, as a side by way of the register `second`
abbrev pub IsSideOf : ℕ → ℕ → Side → Type 0
IsSideOf second other from = (from ≡ side.Whole other) ⊎ (from ≡ side.Parts other second)

-- as what it is in a state
pub data Takes (second other : ℕ) (s : LargeState) (from : Side) : Type 0 where
  takes_object : from ≡ side.Whole other → root_length s other ≡ None → Takes second other s from
  takes_root : (all : ℕ) → from ≡ side.Parts other second → root_length s other ≡ Some all → Takes second other s from

-- an element of it was loaded to that register
pub record ElementLoaded (m y : HostHeap) (j k : List LargeItem) (second other i : ℕ) (put : List Asked) : Type 0 where
  pub heap : HostHeap
  pub history : List LargeItem
  pub host : IsHostOf heap history
  pub got : Option Name
  pub by : Beside second (large_state j) (large_state history)
  pub held : register_at (large_state history).small 1 second ≡ got
  pub value : element_at (large_state j) other i ≡ Some got
  pub rest : Runs heap history put y k code.Done

pub element_loaded : (m y : HostHeap) (j k : List LargeItem) (second other i : ℕ) (from : Side) → IsHostOf m j → other < REGISTERS → second < REGISTERS → Takes second other (large_state j) from
    → ((all : ℕ) → root_length (large_state j) other ≡ Some all → i < all) → (put : List Asked) → Runs m j (load_steps from second i ++ put) y k code.Done → ElementLoaded m y j k second other i put
element_loaded m y j k second other i from host small room (takes_object is plain) within put runs =
    let u : LargeState = large_state j in
    let loads = load_first m y j k second other (index_of i) put host (subst (λ a. Runs m j (load_steps a second i ++ put) y k code.Done) is runs) in
    let got = loads.got in
    let v = got.value in
    let at_first : index_of i ≡ i =
    small_index m j other i got.name host small got.held (slice_get_within (refs_of (object_at u.small.graph got.name)) (index_of i) v got.there) in
    let there : reference_at u other i ≡ Some v =
    ap (λ q. slice_get (unwrap_or (option_map (λ a. refs_of (object_at u.small.graph a)) q) []) i) got.held ∙ ap (slice_get (refs_of (object_at u.small.graph got.name))) (sym at_first) ∙ got.there in
    record {
      heap = loads.heap;
      history = loads.history;
      host = loads.host;
      got = v;
      by = beside_with second u (large_state loads.history) v got.after;
      held = ap (λ (z : LargeState). register_at z.small 1 second) got.after ∙ changed_register u.small second v (all_registers m.heap j host.heap) room;
      value = whole_at u other i plain ∙ there;
      rest = loads.rest;
    }
element_loaded m y j k second other i from host small room (takes_root all is plain) within put runs =
    let u : LargeState = large_state j in
    let part = load_first m y j k second other (i / 1023) (load_of second second (i % 1023) ∷ put) host (subst (λ a. Runs m j (load_steps a second i ++ put) y k code.Done) is runs) in
    let element = load_first part.heap y part.history k second second (i % 1023) put part.host part.rest in
    let p : LargeState = large_state part.history in
    let t : LargeState = large_state element.history in
    let v = element.got.value in
    let at_hand : part.got.value ≡ Some element.got.name =
    sym (ap (λ (z : LargeState). register_at z.small 1 second) part.got.after ∙ changed_register u.small second part.got.value (all_registers m.heap j host.heap) room) ∙ element.got.held in
    let there : slice_get (references_of u.small.graph part.got.value) (i % 1023) ≡ Some v =
    ap (λ q. slice_get (references_of u.small.graph q) (i % 1023)) at_hand ∙ sym (ap (λ (z : LargeState). slice_get (refs_of (object_at z.small.graph element.got.name)) (i % 1023)) part.got.after) ∙ element.got.there in
    record {
      heap = element.heap;
      history = element.history;
      host = element.host;
      got = v;
      by = beside_on second u p t (beside_with second u p part.got.value part.got.after) (beside_with second p t v element.got.after);
      held = ap (λ (z : LargeState). register_at z.small 1 second) element.got.after ∙ changed_register p.small second v (all_registers part.heap.heap part.history part.host.heap) room;
      value = root_element u other i all part.got.name part.got.value v plain (let below = within all plain in omega (arith, below)) part.got.held part.got.there there;
      rest = element.rest;
    }

-- the checks of it load to that register alone
pub checks_beside : (x y : HostHeap) (h k : List LargeItem) (second other first count : ℕ) (from : Side) → IsSideOf second other from → IsHostOf x h → Runs x h (checks from first count) y k code.Done → Beside second (large_state h) (large_state k)
checks_beside x y h k second other first count from (inr same) is runs =
    loads_beside x y h k second (checks (side.Parts other second) first count) is (checks_load other second first count) (subst (λ a. Runs x h (checks a first count) y k code.Done) same runs)
checks_beside x y h k second other first count from (inl same) is runs =
    let (stays, left, done) = subst (λ a. Runs x h (checks a first count) y k code.Done) same runs in
    subst (λ l. Beside second (large_state h) (large_state l)) (sym left) (beside_none second (large_state h))

-- ---- a register of the library's own

-- what is kept is so where it got something
keeps_beside : (registers array : ℕ) (renewals : List (List Name)) (s u w : LargeState) (own : ℕ) → Beside own u w → Keeps registers array renewals s u → registers ≤ own → array < registers → Keeps registers array renewals s w
keeps_beside registers array renewals s u w own by keeps beyond small =
    let apart : (r : ℕ) → r < registers → r ≢ own = λ r less e. omega (arith, e, beyond, less) in
    let held : (r : ℕ) → r < registers → register_at w.small 1 r ≡ register_at u.small 1 r = λ r less. by.registers r (apart r less) in
    let left = keeps.left in
    record {
      left = record {
        held = λ r less. held r less ∙ left.held r less;
        references = λ r less other. same_refs own u w by r (apart r less) ∙ left.references r less other;
        words = λ r less other. same_words own u w by r (apart r less) ∙ left.words r less other;
        elements = λ r i less other none. same_element own u w by r i (apart r less) ∙ left.elements r i less other none;
        own = λ r less other was. same_own own u w by r (apart r less) (left.own r less other was);
        apart = λ q r less few other differs are. same_apart own u w by q r (apart q less) (apart r few) (left.apart q r less few other differs are);
        bodies = by.bodies ∙ left.bodies;
      };
      apart = λ q r less few same. keeps.apart q r less few (sym (held q less) ∙ same ∙ held r few);
      words = same_words own u w by array (apart array small) ∙ keeps.words;
      no_part = λ r less other none. same_no_part own u w by r array (apart r less) (apart array small) (keeps.no_part r less other none);
    }

-- ---- what is copied so far

-- what is copied from, beside what is written to: an object, or a root of which that one is no part
pub data IsSource (second : ℕ) (pair : Pair) (s : LargeState) (from : Side) : Type 0 where
  of_object : from ≡ side.Whole pair.other → root_length s pair.other ≡ None → IsSource second pair s from
  of_root : (all : ℕ) → from ≡ side.Parts pair.other second → root_length s pair.other ≡ Some all → IsNoPart s pair.other pair.array → IsSource second pair s from

source_side : (second : ℕ) (pair : Pair) (s : LargeState) (from : Side) → IsSource second pair s from → IsSideOf second pair.other from
source_side second pair s from (of_object is plain) = inl is
source_side second pair s from (of_root all is plain apart) = inr is

-- Elements were copied: of the array those that were written to, and not yet those that weren't.
pub record Copies (registers at first : ℕ) (Written Left : ℕ → Type 0) (pair : Pair) (s u : LargeState) : Type 0 where
  pub renewals : List (List Name)
  pub keeps : Keeps registers pair.array renewals s u
  pub copied : (i : ℕ) → Written (at + i) → reference_at u pair.array (at + i) ≡ option_map (as_renamed renewals) (element_at s pair.other (first + i))
  pub others : (i : ℕ) → Left i → reference_at u pair.array i ≡ option_map (as_renamed renewals) (reference_at s pair.array i)

held_cases : (v w : Option Name) → (v ≡ w) ⊎ (v ≢ w)
held_cases None None = inl refl
held_cases None (Some n) = inr (λ e. cc)
held_cases (Some m) None = inr (λ e. cc)
held_cases (Some m) (Some n) = elim (cases_Bool (same_name m n)) [
  | inl same ↦ inl (ap (λ q. Some q) (same_names m n same))
  | inr other ↦ inr (λ e. let same : same_name m n ≡ true = subst (λ k. same_name m k ≡ true) (same_Some m n e) (same_itself m) in cc)
]

-- a root and what is none aren't one object
root_differs : (s : LargeState) (other array all : ℕ) → root_length s other ≡ Some all → root_length s array ≡ None → register_at s.small 1 other ≢ register_at s.small 1 array
root_differs s other array all is none same =
    let wrong : None ≡ Some all =
    sym none ∙ ap (λ v. option_map (λ w. min w 1046529) (slice_get (unwrap_or (option_map (λ n. values_of (object_at s.small.graph n)) v) []) 0)) (sym same) ∙ is in
    cc

module _ (registers at first : ℕ) (Written Left : ℕ → Type 0) (pair : Pair) (s u : LargeState) (fits : IsPair registers pair) (none : root_length s pair.array ≡ None) (copies : Copies registers at first Written Left pair s u) where
  abbrev f : Option Name → Option Name
  f = as_renamed copies.renewals

  now_none : root_length u pair.array ≡ None
  now_none = root_by s u pair.array copies.keeps.words ∙ none

  -- what both hold is one object still
  same_now : register_at s.small 1 pair.other ≡ register_at s.small 1 pair.array → register_at u.small 1 pair.other ≡ register_at u.small 1 pair.array
  same_now same = copies.keeps.left.held pair.other fits.1 ∙ ap f same ∙ sym (copies.keeps.left.held pair.array fits.0)

  -- what is copied from has the data words that it had
  pub source_words : words_in u pair.other ≡ words_in s pair.other
  source_words = elim (held_cases (register_at s.small 1 pair.other) (register_at s.small 1 pair.array)) [
    | inl same ↦ ap (option_map (λ n. values_of (object_at u.small.graph n))) (same_now same) ∙ copies.keeps.words ∙ ap (option_map (λ n. values_of (object_at s.small.graph n))) (sym same)
    | inr differs ↦ copies.keeps.left.words pair.other fits.1 differs
  ]

  -- an element that is still to be copied is what it was
  pub source_kept : (second : ℕ) (from : Side) → IsSource second pair s from → (j : ℕ) → Left j → element_at u pair.other j ≡ option_map f (element_at s pair.other j)
  source_kept second from (of_root all is plain apart) j left = copies.keeps.left.elements pair.other j fits.1 (root_differs s pair.other pair.array all plain none) apart
  source_kept second from (of_object is plain) j left = elim (held_cases (register_at s.small 1 pair.other) (register_at s.small 1 pair.array)) [
    | inl same ↦
        same_object u pair.other pair.array j (same_now same) ∙ whole_at u pair.array j now_none ∙ copies.others j left
        ∙ ap (option_map f) (sym (whole_at s pair.array j none) ∙ sym (same_object s pair.other pair.array j same))
    | inr differs ↦
        whole_at u pair.other j (root_by s u pair.other source_words ∙ plain) ∙ ap (λ vs. slice_get (unwrap_or vs []) j) (copies.keeps.left.references pair.other fits.1 differs) ∙ mapped_at f (references_in s pair.other) j
        ∙ ap (option_map f) (sym (whole_at s pair.other j plain))
  ]

  source_now : (second : ℕ) (from : Side) → IsSource second pair s from → Takes second pair.other u from
  source_now second from (of_object is plain) = takes_object is (root_by s u pair.other source_words ∙ plain)
  source_now second from (of_root all is plain apart) = takes_root all is (root_by s u pair.other source_words ∙ plain)

  copies_beside : (own : ℕ) (w : LargeState) → Beside own u w → registers ≤ own → Copies registers at first Written Left pair s w
  copies_beside own w by beyond =
      let array = fits.0 in
      let same : (i : ℕ) → reference_at w pair.array i ≡ reference_at u pair.array i = λ i. ap (λ vs. slice_get (unwrap_or vs []) i) (same_refs own u w by pair.array (λ e. omega (arith, e, beyond, array))) in
      record {
        renewals = copies.renewals;
        keeps = keeps_beside registers pair.array copies.renewals s u w own by copies.keeps beyond array;
        copied = λ i written. same (at + i) ∙ copies.copied i written;
        others = λ i left. same i ∙ copies.others i left;
      }

-- one more was loaded and stored
copy_one : (registers at first n own : ℕ) (Written Left More Less : ℕ → Type 0) (pair : Pair) (s t b w : LargeState) (v : Option Name) → IsPair registers pair
    → (copies : Copies registers at first Written Left pair s t) → register_at t.small 1 own ≡ v → Some v ≡ option_map (as_renamed copies.renewals) (element_at s pair.other (first + n))
    → Settled t b → SetReference b w pair.array (at + n) own
    → ((i : ℕ) → More i → i ≢ at + n → Written i) → ((i : ℕ) → Less i → (i ≢ at + n) × Left i) → Copies registers at first More Less pair s w
copy_one registers at first n own Written Left More Less pair s t b w v fits copies at_hand was settled set before behind =
    let names = settled.names in
    let renewals = copies.renewals in
    record {
      renewals = renewals_with names renewals;
      keeps = keeps_more registers pair.array (at + n) own renewals s t b w copies.keeps settled set fits.0;
      copied = λ i written. elim (cases_eq (at + i) (at + n)) [
        | inl same ↦
            let index : n ≡ i = omega (arith, same) in
            stored_there t b w pair.array (at + n) own settled set (at + i) same
            ∙ ap (λ q. Some (as_named names q)) at_hand ∙ ap (option_map (as_named names)) was ∙ named_at names renewals (element_at s pair.other (first + n))
            ∙ ap (λ k. option_map (as_renamed (renewals_with names renewals)) (element_at s pair.other (first + k))) index
        | inr differs ↦ stored_beside t b w pair.array (at + n) own settled set (at + i) differs
            ∙ ap (option_map (as_named names)) (copies.copied i (before (at + i) written differs)) ∙ named_at names renewals (element_at s pair.other (first + i))
      ];
      others = λ i less. stored_beside t b w pair.array (at + n) own settled set i (behind i less).0
          ∙ ap (option_map (as_named names)) (copies.others i (behind i less).1) ∙ named_at names renewals (reference_at s pair.array i);
    }

-- ---- rounds

-- the elements that so many rounds have written to, and the others
abbrev pub Written : Bool → ℕ → ℕ → ℕ → ℕ → Type 0
Written true at count n i = (at + count ≤ i + n) × (i < at + count)
Written false at count n i = (at ≤ i) × (i < at + n)

abbrev pub Left : Bool → ℕ → ℕ → ℕ → ℕ → Type 0
Left true at count n i = (i + n < at + count) ⊎ (at + count ≤ i)
Left false at count n i = (i < at) ⊎ (at + n ≤ i)

pub written_before : (up : Bool) (at count n i : ℕ) → n < count → Written up at count (suc n) i → i ≢ at + round_of up count n → Written up at count n i
written_before true at count n i less (low, high) differs = (omega (arith, less, low, high, differs), high)
written_before false at count n i less (low, high) differs = (low, omega (arith, less, low, high, differs))

pub left_before : (up : Bool) (at count n i : ℕ) → n < count → Left up at count (suc n) i → (i ≢ at + round_of up count n) × Left up at count n i
left_before true at count n i less (inl low) = ((λ e. omega (arith, less, low, e)), inl (omega (arith, less, low)))
left_before true at count n i less (inr high) = ((λ e. omega (arith, less, high, e)), inr high)
left_before false at count n i less (inl low) = ((λ e. omega (arith, less, low, e)), inl low)
left_before false at count n i less (inr high) = ((λ e. omega (arith, less, high, e)), inr (omega (arith, less, high)))

-- the next element to be copied isn't written to
pub source_left : (up : Bool) (at first count n : ℕ) → nat_lt first at ≡ up → n < count → Left up at count n (first + round_of up count n)
source_left true at first count n is less = let before = ltb-true first at is in inl (omega (arith, before, less))
source_left false at first count n is less = let behind = ltb-false first at is in inr (omega (arith, behind, less))

-- a round copies an element of the range
pub round_small : (up : Bool) (count n : ℕ) → n < count → round_of up count n < count
round_small true count n less = omega (arith, less)
round_small false count n less = less

none_written : (up : Bool) (at count i : ℕ) → Written up at count 0 i → ⊥
none_written true at count i (low, high) = omega (arith, low, high)
none_written false at count i (low, high) = omega (arith, low, high)

pub none_copied : (registers at first count : ℕ) (up : Bool) (pair : Pair) (s : LargeState) → Copies registers at first (Written up at count 0) (Left up at count 0) pair s s
none_copied registers at first count up pair s = record {
  renewals = [];
  keeps = keeps_same registers pair.array s;
  copied = λ i written. absurd (none_written up at count (at + i) written);
  others = λ i left. same_reference (reference_at s pair.array i);
}

module _ (registers at first count own : ℕ) (pair : Pair) (from : Side) (s : LargeState) (fits : IsPair registers pair) (few : registers ≤ own) (room : own < REGISTERS) (none : root_length s pair.array ≡ None)
    (source : IsSource own pair s from) (loaded : (all : ℕ) → root_length s pair.other ≡ Some all → first + count ≤ all) where
  abbrev c : Copying
  c = record { to = side.Whole pair.array; at = at; from = from; first = first; count = count; element = own }

  abbrev up : Bool
  up = nat_lt first at

  abbrev Copied : ℕ → LargeState → Type 0
  Copied n = Copies registers at first (Written up at count n) (Left up at count n) pair s

  pub copy_rounds : (x y : HostHeap) (h k : List LargeItem) (n : ℕ) → IsHostOf x h → Copied 0 (large_state h) → n ≤ count → Runs x h (in_turn (copy_steps c) n) y k code.Done → Copied n (large_state k)
  unfolding copies_beside
  copy_rounds x y h k zero is begun within (same, left, done) = subst (λ l. Copied zero (large_state l)) (sym left) begun
  copy_rounds x y h k (suc n) is begun within ran =
      let (m, j, before, last) = runs_apart x y h k (in_turn (copy_steps c) n) (copy_steps c n) ran in
      let r = round_of up count n in
      let u : LargeState = large_state j in
      let less : n < count = omega (arith, within) in
      let small = round_small up count n less in
      let copies = copy_rounds x m h j n is begun (omega (arith, within)) before in
      let host = runs_host x m h j (in_turn (copy_steps c) n) code.Done is before in
      let array = fits.0 in
      let other = fits.1 in
      let same_root = root_by s u pair.other (source_words registers at first (Written up at count n) (Left up at count n) pair s u fits none copies) in
      let loads = element_loaded m y j k own pair.other (first + r) from host (omega (arith, other, few, room)) room
      (source_now registers at first (Written up at count n) (Left up at count n) pair s u fits none copies own from source)
      (λ all now. let inside = loaded all (sym same_root ∙ now) in omega (arith, small, inside)) (store_steps (side.Whole pair.array) (enters up n (at + r)) (at + r) own) last in
      let t : LargeState = large_state loads.history in
      let one = store_first loads.heap y loads.history k pair.array (index_of (at + r)) own [] loads.host (subst (λ ops. Runs loads.heap loads.history ops y k code.Done) (whole_steps (enters up n (at + r)) pair.array (at + r) own) loads.rest) in
      let b = one.before in
      let w : LargeState = large_state one.history in
      let index = stored_index loads.heap loads.history pair.array (at + r) own b w loads.host (omega (arith, array, few, room)) one.settled one.set in
      let was = sym loads.value ∙ source_kept registers at first (Written up at count n) (Left up at count n) pair s u fits none copies own from source (first + r) (source_left up at first count n refl less) in
      subst (λ l. Copied (suc n) (large_state l)) (sym one.rest.1)
      (copy_one registers at first r own (Written up at count n) (Left up at count n) (Written up at count (suc n)) (Left up at count (suc n)) pair s t b w loads.got fits
      (copies_beside registers at first (Written up at count n) (Left up at count n) pair s u fits none copies own t loads.by few) loads.held was one.settled (subst (λ i. SetReference b w pair.array i own) index one.set)
      (λ i. written_before up at count n i less) (λ i. left_before up at count n i less))

-- ---- the call

pub all_written : (up : Bool) (at count i : ℕ) → i < count → Written up at count count (at + i)
all_written true at count i less = (omega arith, omega (arith, less))
all_written false at count i less = (omega arith, omega (arith, less))

pub none_else : (up : Bool) (at count i : ℕ) → (i < at) ⊎ (at + count ≤ i) → Left up at count count i
none_else true at count i (inl low) = inl (omega (arith, low))
none_else true at count i (inr high) = inr high
none_else false at count i (inl low) = inl low
none_else false at count i (inr high) = inr high

copied : (x m y : HostHeap) (h j k : List LargeItem) (at first count : ℕ) (pair : Pair) (own : OwnRegisters) (source : Side) → IsHostOf x h → IsPair (registers_in x) pair → own_in x ≡ Some own
    → root_length (large_state h) pair.array ≡ None → IsSource own.second pair (large_state h) source → ((all : ℕ) → root_length (large_state h) pair.other ≡ Some all → first + count ≤ all)
    → at + count ≤ length (unwrap_or (references_in (large_state h) pair.array) []) → first + count ≤ length (unwrap_or (elements_at (large_state h) pair.other) [])
    → Runs x h (copy_checked (record { to = side.Whole pair.array; at = at; from = source; first = first; count = count; element = own.second })) m j code.Done
    → Runs m j (nil_of own.first ∷ nil_of own.second ∷ []) y k code.Done → (l : List LargeItem) × IsHostOf y l × HasCopied (registers_in x) at first count pair (large_state h) (large_state l)
unfolding copies_beside
copied x m y h j k at first count pair own source is fits has none is_source loaded stored taken ran ended =
    let s : LargeState = large_state h in
    let few = few_registers x h is in
    let one = own_first x own has in
    let two = own_second x own has in
    let room = (own_there x own has).1 in
    let beyond : registers_in x ≤ own.second = omega (arith, two) in
    let up = nat_lt first at in
    let written : ℕ → Type 0 = Written up at count count in
    let left : ℕ → Type 0 = Left up at count count in
    let c : Copying = record { to = side.Whole pair.array; at = at; from = source; first = first; count = count; element = own.second } in
    let (m1, l1, checked, rounds) = runs_apart x m h j (checks source first count) (in_turn (copy_steps c) count) ran in
    let host1 = runs_host x m1 h l1 (checks source first count) code.Done is checked in
    let by1 = checks_beside x m1 h l1 own.second pair.other first count source (source_side own.second pair s source is_source) is checked in
    let begun = copies_beside (registers_in x) at first (Written up at count 0) (Left up at count 0) pair s s fits none (none_copied (registers_in x) at first count up pair s) own.second (large_state l1) by1 beyond in
    let copies = copy_rounds (registers_in x) at first count own.second pair source s fits beyond (omega (arith, few, room)) none is_source loaded m1 m l1 j count host1 begun (omega arith) rounds in
    let (p, l, before, last) = runs_apart m y j k (nil_of own.first ∷ []) (nil_of own.second ∷ []) ended in
    let once = nil_last m p j l own.first (runs_host m1 m l1 j (in_turn (copy_steps c) count) code.Done host1 rounds) before in
    let twice = nil_last p y l k own.second once.0 last in
    let w1 : LargeState = large_state l in
    let u : LargeState = large_state k in
    let nils : Copies (registers_in x) at first written left pair s u =
    copies_beside (registers_in x) at first written left pair s w1 fits none
    (copies_beside (registers_in x) at first written left pair s (large_state j) fits none copies own.first w1 (beside_with own.first (large_state j) w1 None once.1) (omega (arith, one))) own.second u (beside_with own.second w1 u None twice.1) beyond in
    let none_now : root_length u pair.array ≡ None = root_by s u pair.array nils.keeps.words ∙ none in
    let stored_many = as_many s pair.array none in (
      k,
      twice.0,
      record {
        renewals = nils.renewals;
        there = omega (arith, stored, stored_many);
        from = taken;
        copied = λ i less. whole_at u pair.array (at + i) none_now ∙ nils.copied i (all_written up at count i less);
        others = λ i out. whole_at u pair.array i none_now ∙ nils.others i (none_else up at count i out) ∙ ap (option_map (as_renamed nils.renewals)) (sym (whole_at s pair.array i none));
        left = nils.keeps.left;
      },
    )

-- a range of a whole array is there, or its code isn't that of success
pub record IsWhole (array end : ℕ) (v : Option (List (Option Name))) (r : Result Side Code) : Type 0 where
  pub same : r ≡ Ok (side.Whole array)
  pub within : end ≤ length (unwrap_or v [])

pub range_cases : (v : Option (List (Option Name))) (root part : Option ℕ) (array end : ℕ) → root ≡ None
    → IsWhole array end v (range_held (option_map length v) root part array end) ⊎ ((e : Code) × (e ≢ code.Done) × (range_held (option_map length v) root part array end ≡ Err e))
range_cases v root part array end none = subst (λ r. IsWhole array end v (range_held (option_map length v) r part array end) ⊎ ((e : Code) × (e ≢ code.Done) × (range_held (option_map length v) r part array end ≡ Err e))) (sym none) (at_references v)
  where
    at_room : (rs : List (Option Name)) (b : Bool) → nat_le end (length rs) ≡ b
        → IsWhole array end (Some rs) (if b then Ok (side.Whole array) else Err code.Index) ⊎ ((e : Code) × (e ≢ code.Done) × ((if b then Ok (side.Whole array) else Err code.Index) ≡ Err e))
    at_room rs true there = inl (record { same = refl; within = leb-true end (length rs) there })
    at_room rs false over = inr (code.Index, (λ same. cc), refl)

    at_references : (w : Option (List (Option Name))) → IsWhole array end w (range_held (option_map length w) None part array end) ⊎ ((e : Code) × (e ≢ code.Done) × (range_held (option_map length w) None part array end ≡ Err e))
    at_references None = inr (code.Nil, (λ same. cc), refl)
    at_references (Some rs) = at_room rs (nat_le end (length rs)) refl

-- a range of a root is there, or its code isn't that of success
pub record IsRooted (array part all end : ℕ) (v : Option (List (Option Name))) (r : Result Side Code) : Type 0 where
  pub parts : List (Option Name)
  pub there : v ≡ Some parts
  pub same : r ≡ Ok (side.Parts array part)
  pub within : end ≤ min all (1023 * length parts)

pub rooted_cases : (v : Option (List (Option Name))) (root : Option ℕ) (all part array end : ℕ) → root ≡ Some all
    → IsRooted array part all end v (range_held (option_map length v) root (Some part) array end) ⊎ ((e : Code) × (e ≢ code.Done) × (range_held (option_map length v) root (Some part) array end ≡ Err e))
rooted_cases v root all part array end is =
    subst (λ r. IsRooted array part all end v (range_held (option_map length v) r (Some part) array end) ⊎ ((e : Code) × (e ≢ code.Done) × (range_held (option_map length v) r (Some part) array end ≡ Err e))) (sym is) (at_references v)
  where
    at_room : (ps : List (Option Name)) (b : Bool) → nat_le end (min all (1023 * length ps)) ≡ b
        → IsRooted array part all end (Some ps) (if b then Ok (side.Parts array part) else Err code.Index) ⊎ ((e : Code) × (e ≢ code.Done) × ((if b then Ok (side.Parts array part) else Err code.Index) ≡ Err e))
    at_room ps true there = inl (record { parts = ps; there = refl; same = refl; within = leb-true end (min all (1023 * length ps)) there })
    at_room ps false over = inr (code.Index, (λ same. cc), refl)

    at_references : (z : Option (List (Option Name))) → IsRooted array part all end z (range_held (option_map length z) (Some all) (Some part) array end) ⊎ ((e : Code) × (e ≢ code.Done) × (range_held (option_map length z) (Some all) (Some part) array end ≡ Err e))
    at_references None = inr (code.Nil, (λ same. cc), refl)
    at_references (Some ps) = at_room ps (nat_le end (min all (1023 * length ps))) refl

pub copies_replace_elements : CopiesReplaceElements
copies_replace_elements x y h at first count pair is fits none apart carried = at_own (own_in x) refl carried
  where
    s : LargeState
    s = large_state h

    Goal : Type 0
    Goal = (l : List LargeItem) × IsHostOf y l × HasCopied (registers_in x) at first count pair s (large_state l)

    to : OwnRegisters → Result Side Code
    to own = range_held (option_map length (references_in s pair.array)) (root_length s pair.array) (Some own.first) pair.array (at + count)

    from : OwnRegisters → Result Side Code
    from own = range_held (option_map length (references_in s pair.other)) (root_length s pair.other) (Some own.second) pair.other (first + count)

    FromCarries : OwnRegisters → Result Side Code → Type 0
    FromCarries own q = Carries x y h (planned (copying own) (copying_by own at first count (Ok (side.Whole pair.array)) q)) code.Done

    failed : (own : OwnRegisters) (e : Code) → e ≢ code.Done → from own ≡ Err e → FromCarries own (from own) → Goal
    failed own e fails same ran = let wrong = subst (FromCarries own) same ran in absurd (fails (sym wrong.0))

    at_source : (own : OwnRegisters) → own_in x ≡ Some own → at + count ≤ length (unwrap_or (references_in s pair.array) []) → FromCarries own (from own) → (root : Option ℕ) → root_length s pair.other ≡ root → Goal
    at_source own has stored ran None plain = elim (range_cases (references_in s pair.other) (root_length s pair.other) (Some own.second) pair.other (first + count) plain) [
      | inl whole ↦
          let (m, j, k, did, ended) = subst (FromCarries own) whole.same ran in
          let many = as_many s pair.other plain in
          let within = whole.within in
          copied x m y h j k at first count pair own (side.Whole pair.other) is fits has none (of_object refl plain) (λ all root. absurd (let wrong : None ≡ Some all = sym plain ∙ root in cc)) stored (omega (arith, many, within)) did ended
      | inr (e, fails, same) ↦ failed own e fails same ran
    ]
    at_source own has stored ran (Some all) root = elim (rooted_cases (references_in s pair.other) (root_length s pair.other) all own.second pair.other (first + count) root) [
      | inl found ↦
          let (m, j, k, did, ended) = subst (FromCarries own) found.same ran in
          let listed = all_listed s pair.other all 0 found.parts root found.there in
          let within = found.within in
          let no_part : IsNoPart s pair.other pair.array = elim apart [
            | inl plain ↦ absurd (let wrong : None ≡ Some all = sym plain ∙ root in cc)
            | inr none_of ↦ none_of
          ] in
          copied x m y h j k at first count pair own (side.Parts pair.other own.second) is fits has none (of_root all refl root no_part)
          (λ others other. let same : all ≡ others = same_Some all others (sym root ∙ other) in omega (arith, same, within)) stored (omega (arith, listed, within)) did ended
      | inr (e, fails, same) ↦ failed own e fails same ran
    ]

    at_to : (own : OwnRegisters) → own_in x ≡ Some own → Carries x y h (planned (copying own) (copying_by own at first count (to own) (from own))) code.Done → Goal
    at_to own has ran = elim (range_cases (references_in s pair.array) (root_length s pair.array) (Some own.first) pair.array (at + count) none) [
      | inl whole ↦ at_source own has whole.within (subst (λ r. Carries x y h (planned (copying own) (copying_by own at first count r (from own))) code.Done) whole.same ran) (root_length s pair.other) refl
      | inr (e, fails, same) ↦
          let wrong = subst (λ r. Carries x y h (planned (copying own) (copying_by own at first count r (from own))) code.Done) same ran in
          absurd (fails (sym wrong.0))
    ]

    at_own : (own : Option OwnRegisters) → own_in x ≡ own → Carries x y h (copy_by own s at first count pair) code.Done → Goal
    at_own None has (told, same) = absurd (cc)
    at_own (Some own) has ran = at_to own has ran

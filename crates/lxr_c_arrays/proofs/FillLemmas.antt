-- A fill of a whole array replaces the elements.
use Rattle.std.proofs.Common.{◌≡◌, ◌≢◌, ℕ, zero, suc, ◌+◌, ◌<◌, ◌≤◌, ◌⊎◌, ◌∙◌, refl, sym, ap, subst, arith, cond, inl, inr, nat_eq, Bool, true, false, Option, Some, None, List, [], ◌∷◌, length, map}
use Rattle.std.specs.Prelude.{nat_le, option_map, slice_get, unwrap_or, if◌then◌else◌, Ok, Err}
use Rattle.std.proofs.lemmas.Bool.{cases_eq, eq-eqb, leb-true, ne_eqb}
use Rattle.std.proofs.lemmas.List.{length-map, map-id}
use Rattle.std.proofs.lemmas.Option.{slice_get-map}
use Rattle.std.proofs.lemmas.Simd.{map-map}
use Rattle.lxr_layout.specs.declared.Name.{Name}
use Rattle.lxr_layout.specs.declared.TheConstants.{REGISTERS}
use Rattle.lxr_graph.specs.State.{register_at}
use Rattle.lxr_graph.specs.Renewing.{renewed_held}
use Rattle.lxr_graph.proofs.RowLemmas.{slice_get-set}
use Rattle.lxr_large_model.specs.History.{LargeItem, large_state}
use Rattle.lxr_large_model.specs.State.{LargeState}
use Rattle.lxr_c_base.specs.Requests.{index_of}
use Rattle.lxr_c_base.specs.declared.codes.Code.TheVariants as code
use Rattle.lxr_c_heap.specs.declared.host.HostHeap.{HostHeap}
use Rattle.lxr_c_heap.specs.Hosting.{IsHostOf, registers_in}
use Rattle.lxr_c_many.specs.Fields.{references_in, words_in}
use Rattle.lxr_c_arrays.specs.declared.registers.Pair.{Pair}
use Rattle.lxr_c_arrays.specs.declared.side.Side.TheVariants as side
use Rattle.lxr_c_arrays.specs.Elements.{FillsReplaceElements, HasFilled, HasLeft, IsNoPart, as_named, as_renamed, element_at, elements_at, elements_of, with_names, with_renewals}
use Rattle.lxr_c_arrays.specs.Operations.{store_of}
use Rattle.lxr_c_arrays.specs.Plans.{IsPair, fill_steps, filling, first_own, planned}
use Rattle.lxr_c_arrays.specs.Running.{Carries, Runs, in_turn}
use Rattle.lxr_c_arrays.specs.Sides.{range_held, root_length, store_steps}
use Rattle.lxr_c_arrays.proofs.ElementLemmas.{few_registers, small_index}
use Rattle.lxr_c_arrays.proofs.LeftLemmas.{element_left, reference_at, same_list, whole_at}
use Rattle.lxr_c_arrays.proofs.ReachLemmas.{apart_named, no_part_named, own_named}
use Rattle.lxr_c_arrays.proofs.RunLemmas.{runs_apart, runs_host}
use Rattle.lxr_c_arrays.proofs.SettleLemmas.{Settled, named_bodies, same_references}
use Rattle.lxr_c_arrays.proofs.StoreLemmas.{SetReference, bodies_now, held_refs, references_beside, references_now, references_were, registers_now, root_by, store_first, words_beside, words_now}

-- ---- renewals one after another

-- one more, where names were renewed
abbrev pub renewals_with : Option (List Name) → List (List Name) → List (List Name)
renewals_with None earlier = earlier
renewals_with (Some ns) earlier = ns ∷ earlier

pub named_with : (names : Option (List Name)) (earlier : List (List Name)) (v : Option Name) → as_named names (as_renamed earlier v) ≡ as_renamed (renewals_with names earlier) v
named_with None earlier v = refl
named_with (Some ns) earlier v = refl

pub named_at : (names : Option (List Name)) (earlier : List (List Name)) (v : Option (Option Name)) → option_map (as_named names) (option_map (as_renamed earlier) v) ≡ option_map (as_renamed (renewals_with names earlier)) v
named_at names earlier None = refl
named_at names earlier (Some v) = ap (λ q. Some q) (named_with names earlier v)

pub named_lists : (names : Option (List Name)) (earlier : List (List Name)) (v : Option (List (Option Name))) → option_map (map (as_named names)) (option_map (map (as_renamed earlier)) v) ≡ option_map (map (as_renamed (renewals_with names earlier))) v
named_lists names earlier None = refl
named_lists None earlier (Some vs) = ap (λ q. Some q) (map-id (map (as_renamed earlier) vs))
named_lists (Some ns) earlier (Some vs) = ap (λ q. Some q) (map-map (renewed_held ns) (as_renamed earlier) vs)

pub renewed_bodies : (names : Option (List Name)) (earlier : List (List Name)) (s u : LargeState) → u.large ≡ (with_renewals earlier s).large → (with_names names u).large ≡ (with_renewals (renewals_with names earlier) s).large
renewed_bodies None earlier s u same = same
renewed_bodies (Some ns) earlier s u same = named_bodies (Some ns) (with_renewals earlier s) u same

-- ---- what is kept

-- what stores to an array keep, with what a next one needs
pub record Keeps (registers array : ℕ) (renewals : List (List Name)) (s u : LargeState) : Type 0 where
  pub left : HasLeft registers array renewals s u
  pub apart : (q r : ℕ) → q < registers → r < registers → register_at u.small 1 q ≡ register_at u.small 1 r → register_at s.small 1 q ≡ register_at s.small 1 r
  pub words : words_in u array ≡ words_in s array
  pub no_part : (r : ℕ) → r < registers → register_at s.small 1 r ≢ register_at s.small 1 array → IsNoPart s r array → IsNoPart u r array

pub same_reference : (v : Option (Option Name)) → v ≡ option_map (as_renamed []) v
same_reference None = refl
same_reference (Some v) = refl

pub keeps_same : (registers array : ℕ) (s : LargeState) → Keeps registers array [] s s
keeps_same registers array s = record {
  left = record {
    held = λ r less. refl;
    references = λ r less other. same_references (references_in s r);
    words = λ r less other. refl;
    elements = λ r i less other none. same_reference (element_at s r i);
    own = λ r less other was. was;
    apart = λ q r less few other differs are. are;
    bodies = refl;
  };
  apart = λ q r less few same. same;
  words = refl;
  no_part = λ r less other none. none;
}

-- after one more store
pub keeps_more : (registers array i source : ℕ) (renewals : List (List Name)) (s u b w : LargeState) → Keeps registers array renewals s u → (settled : Settled u b) → SetReference b w array i source → array < registers
    → Keeps registers array (renewals_with settled.names renewals) s w
keeps_more registers array i source renewals s u b w keeps settled set small =
    let names = settled.names in
    let left = keeps.left in
    let held : (r : ℕ) → register_at w.small 1 r ≡ register_at b.small 1 r = λ r. ap (λ (z : LargeState). register_at z.small 1 r) set.after in
    let beside : (r : ℕ) → r < registers → register_at s.small 1 r ≢ register_at s.small 1 array → register_at b.small 1 r ≢ register_at b.small 1 array =
    λ r less other e. other (keeps.apart r array less small (settled.apart r array e)) in
    let now : (r : ℕ) → register_at w.small 1 r ≡ as_named names (register_at u.small 1 r) = λ r. registers_now u b array i source settled w set r in
    let refs : (r : ℕ) → r < registers → register_at s.small 1 r ≢ register_at s.small 1 array → references_in w r ≡ option_map (map (as_named names)) (references_in u r) =
    λ r less other. references_beside u b array i source settled w set r (beside r less other) in
    record {
      left = record {
        held = λ r less. now r ∙ ap (as_named names) (left.held r less) ∙ named_with names renewals (register_at s.small 1 r);
        references = λ r less other. refs r less other ∙ ap (option_map (map (as_named names))) (left.references r less other) ∙ named_lists names renewals (references_in s r);
        words = λ r less other. words_beside u b array i source settled w set r (beside r less other) ∙ left.words r less other;
        elements = λ r j less other none. element_left u b w array i source settled set r j (beside r less other) (keeps.no_part r less other none)
            ∙ ap (option_map (as_named names)) (left.elements r j less other none) ∙ named_at names renewals (element_at s r j);
        own = λ r less other was. own_named u b w settled r (now r) (refs r less other) (left.own r less other was);
        apart = λ q r less few other differs are. apart_named u b w settled q r (refs q less other) (now r) (refs r few differs) (left.apart q r less few other differs are);
        bodies = bodies_now u b array i source settled w set ∙ renewed_bodies names renewals s u left.bodies;
      };
      apart = λ q r less few same. keeps.apart q r less few (settled.apart q r (sym (held q) ∙ same ∙ held r));
      words = words_now u b array i source settled w set ∙ keeps.words;
      no_part = λ r less other none. no_part_named u b w settled r array (now array) (refs r less other) (keeps.no_part r less other none);
    }

-- ---- references

-- what is no root has as many elements as references
pub as_many : (s : LargeState) (base : ℕ) → root_length s base ≡ None → length (unwrap_or (elements_at s base) []) ≡ length (unwrap_or (references_in s base) [])
as_many s base none =
    ap (λ root. length (unwrap_or (option_map (λ rs. elements_of s.small.graph rs root) (references_in s base)) [])) none ∙ ap (λ vs. length (unwrap_or vs [])) (same_list (references_in s base))

-- after a store
module _ (u b w : LargeState) (array i source : ℕ) (settled : Settled u b) (set : SetReference b w array i source) where
  stored_at : (k : ℕ) → reference_at w array k ≡ cond (nat_eq k i) (Some (as_named settled.names (register_at u.small 1 source))) (option_map (as_named settled.names) (reference_at u array k))
  stored_at k =
      let f = as_named settled.names in
      let refs = set.object.refs in
      let were = references_were u b array i source settled w set in
      ap (λ vs. slice_get (unwrap_or vs []) k) (references_now u b array i source settled w set)
      ∙ slice_get-set refs i (register_at b.small 1 source) k set.within
      ∙ ap (λ v. cond (nat_eq k i) (Some v) (slice_get refs k)) (settled.registers source)
      ∙ ap (λ v. cond (nat_eq k i) (Some (f (register_at u.small 1 source))) v)
      (ap (λ vs. slice_get vs k) (sym were.2) ∙ slice_get-map f were.0 k ∙ ap (λ vs. option_map f (slice_get (unwrap_or vs []) k)) (sym were.1))

  pub stored_there : (k : ℕ) → k ≡ i → reference_at w array k ≡ Some (as_named settled.names (register_at u.small 1 source))
  stored_there k e = stored_at k ∙ ap (λ c. cond c (Some (as_named settled.names (register_at u.small 1 source))) (option_map (as_named settled.names) (reference_at u array k))) (eq-eqb k i e)

  pub stored_beside : (k : ℕ) → k ≢ i → reference_at w array k ≡ option_map (as_named settled.names) (reference_at u array k)
  stored_beside k e = stored_at k ∙ ap (λ c. cond c (Some (as_named settled.names (register_at u.small 1 source))) (option_map (as_named settled.names) (reference_at u array k))) (ne_eqb k i e)

-- ---- rounds

pub whole_steps : (enters : Bool) (array i source : ℕ) → store_steps (side.Whole array) enters i source ≡ store_of array (index_of i) source ∷ []
whole_steps true array i source = refl
whole_steps false array i source = refl

-- an index that was stored to stays what it is
pub stored_index : (x : HostHeap) (h : List LargeItem) (array i source : ℕ) (b w : LargeState) → IsHostOf x h → array < REGISTERS → Settled (large_state h) b → SetReference b w array (index_of i) source → index_of i ≡ i
stored_index x h array i source b w is small settled set =
    let were = references_were (large_state h) b array (index_of i) source settled w set in
    let whose = held_refs (large_state h) (register_at (large_state h).small 1 array) were.0 were.1 in
    let long : length set.object.refs ≡ length were.0 = sym (ap length were.2) ∙ length-map were.0 (as_named settled.names) in
    let as_many = ap length whose.2 in
    let inside = set.within in
    small_index x h array i whose.0 is small whose.1 (omega (arith, as_many, long, inside))

-- rounds of a fill were done
pub record Fills (registers first n : ℕ) (pair : Pair) (s u : LargeState) : Type 0 where
  pub renewals : List (List Name)
  pub keeps : Keeps registers pair.array renewals s u
  pub filled : (i : ℕ) → first ≤ i → i < first + n → reference_at u pair.array i ≡ Some (as_renamed renewals (register_at s.small 1 pair.other))
  pub others : (i : ℕ) → (i < first) ⊎ (first + n ≤ i) → reference_at u pair.array i ≡ option_map (as_renamed renewals) (reference_at s pair.array i)

fill_round : (registers first n : ℕ) (pair : Pair) (s u b w : LargeState) → IsPair registers pair → Fills registers first n pair s u → Settled u b → SetReference b w pair.array (first + n) pair.other → Fills registers first (suc n) pair s w
fill_round registers first n pair s u b w (array, other) fills settled set =
    let renewals = fills.renewals in
    let keeps = fills.keeps in
    let names = settled.names in
    record {
      renewals = renewals_with names renewals;
      keeps = keeps_more registers pair.array (first + n) pair.other renewals s u b w keeps settled set array;
      filled = λ i from less. elim (cases_eq i (first + n)) [
        | inl same ↦ stored_there u b w pair.array (first + n) pair.other settled set i same
            ∙ ap (λ q. Some q) (ap (as_named names) (keeps.left.held pair.other other) ∙ named_with names renewals (register_at s.small 1 pair.other))
        | inr differs ↦ stored_beside u b w pair.array (first + n) pair.other settled set i differs
            ∙ ap (option_map (as_named names)) (fills.filled i from (omega (arith, less, differs)))
            ∙ ap (λ q. Some q) (named_with names renewals (register_at s.small 1 pair.other))
      ];
      others = λ i out.
          let beside : i ≢ first + n = elim out [ inl less ↦ λ e. omega (arith, less, e) | inr over ↦ λ e. omega (arith, over, e) ] in
          let before : (i < first) ⊎ (first + n ≤ i) = elim out [ inl less ↦ inl less | inr over ↦ inr (omega (arith, over)) ] in
          stored_beside u b w pair.array (first + n) pair.other settled set i beside ∙ ap (option_map (as_named names)) (fills.others i before)
          ∙ named_at names renewals (reference_at s pair.array i);
    }

pub fill_rounds : (x y : HostHeap) (h k : List LargeItem) (registers first n : ℕ) (pair : Pair) → IsHostOf x h → IsPair registers pair → registers ≤ REGISTERS
    → Runs x h (in_turn (fill_steps (side.Whole pair.array) first pair.other) n) y k code.Done → Fills registers first n pair (large_state h) (large_state k)
fill_rounds x y h k registers first zero pair is fits few (same, left, done) = subst (λ l. Fills registers first zero pair (large_state h) (large_state l)) (sym left) (record {
  renewals = [];
  keeps = keeps_same registers pair.array (large_state h);
  filled = λ i from less. absurd (omega (arith, from, less));
  others = λ i out. same_reference (reference_at (large_state h) pair.array i);
})
fill_rounds x y h k registers first (suc n) pair is fits few ran =
    let steps = fill_steps (side.Whole pair.array) first pair.other in
    let (m, j, before, last) = runs_apart x y h k (in_turn steps n) (steps n) ran in
    let fills = fill_rounds x m h j registers first n pair is fits few before in
    let host = runs_host x m h j (in_turn steps n) code.Done is before in
    let one = store_first m y j k pair.array (index_of (first + n)) pair.other [] host (subst (λ ops. Runs m j ops y k code.Done) (whole_steps _ pair.array (first + n) pair.other) last) in
    let b = one.before in
    let w : LargeState = large_state one.history in
    let array = fits.0 in
    let index = stored_index m j pair.array (first + n) pair.other b w host (omega (arith, array, few)) one.settled one.set in
    subst (λ l. Fills registers first (suc n) pair (large_state h) (large_state l)) (sym one.rest.1)
    (fill_round registers first n pair (large_state h) (large_state j) b w fits fills one.settled (subst (λ i. SetReference b w pair.array i pair.other) index one.set))

-- ---- the call

filled : (x m y : HostHeap) (h j k : List LargeItem) (first count : ℕ) (pair : Pair) → IsHostOf x h → IsPair (registers_in x) pair → root_length (large_state h) pair.array ≡ None
    → first + count ≤ length (unwrap_or (references_in (large_state h) pair.array) []) → Runs x h (in_turn (fill_steps (side.Whole pair.array) first pair.other) count) m j code.Done
    → (y ≡ m) × (k ≡ j) × (code.Done ≡ code.Done) → (l : List LargeItem) × IsHostOf y l × HasFilled (registers_in x) first count pair (large_state h) (large_state l)
filled x m y h j k first count pair is fits none within ran (ended, behind, done) =
    let s : LargeState = large_state h in
    let u : LargeState = large_state j in
    let few = few_registers x h is in
    let fills = fill_rounds x m h j (registers_in x) first count pair is fits (omega (arith, few)) ran in
    let none_now : root_length u pair.array ≡ None = root_by s u pair.array fills.keeps.words ∙ none in
    let all = as_many s pair.array none in (
      j,
      subst (λ (z : HostHeap). IsHostOf z j) (sym ended) (runs_host x m h j (in_turn (fill_steps (side.Whole pair.array) first pair.other) count) code.Done is ran),
      record {
        renewals = fills.renewals;
        there = omega (arith, all, within);
        filled = λ i from less. whole_at u pair.array i none_now ∙ fills.filled i from less;
        others = λ i out. whole_at u pair.array i none_now ∙ fills.others i out ∙ ap (option_map (as_renamed fills.renewals)) (sym (whole_at s pair.array i none));
        left = fills.keeps.left;
      },
    )

pub fills_replace_elements : FillsReplaceElements
fills_replace_elements x y h first count pair is fits none carried =
    at_references (references_in (large_state h) pair.array) refl (subst (λ root. Carries x y h (planned (filling pair first count) (range_held (option_map length (references_in (large_state h) pair.array)) root (first_own x) pair.array (first + count))) code.Done) none carried)
  where
    Goal : Type 0
    Goal = (l : List LargeItem) × IsHostOf y l × HasFilled (registers_in x) first count pair (large_state h) (large_state l)

    at_room : (rs : List (Option Name)) (c : Bool) → references_in (large_state h) pair.array ≡ Some rs → nat_le (first + count) (length rs) ≡ c
        → Carries x y h (planned (filling pair first count) (if c then Ok (side.Whole pair.array) else Err code.Index)) code.Done → Goal
    at_room rs true there within (m, j, k, ran, ended) =
        let inside = leb-true (first + count) (length rs) within in
        let as_many = ap (λ vs. length (unwrap_or vs [])) there in
        filled x m y h j k first count pair is fits none (omega (arith, inside, as_many)) ran ended
    at_room rs false there over (told, same) = absurd (cc)

    at_references : (v : Option (List (Option Name))) → references_in (large_state h) pair.array ≡ v
        → Carries x y h (planned (filling pair first count) (range_held (option_map length v) None (first_own x) pair.array (first + count))) code.Done → Goal
    at_references None there (told, same) = absurd (cc)
    at_references (Some rs) there ran = at_room rs (nat_le (first + count) (length rs)) there refl ran

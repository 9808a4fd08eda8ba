-- A load of an element gives the element.
use Rattle.std.proofs.Common.{◌≡◌, ◌≢◌, ℕ, ◌+◌, ◌/◌, ◌%◌, ◌<◌, ◌≤◌, ◌∙◌, refl, sym, ap, subst, arith, Bool, true, false, Option, Some, None, List, [], ◌∷◌, length}
use Rattle.std.specs.Prelude.{nat_le, option_map, slice_get, if◌then◌else◌, Ok, Err}
use Rattle.std.proofs.lemmas.Bool.{leb-true}
use Rattle.std.proofs.lemmas.List.{length-set}
use Rattle.std.proofs.lemmas.Option.{slice_get_within}
use Rattle.lxr_graph.specs.State.{object_at, refs_of, register_at, register_index, with_register}
use Rattle.lxr_layout.specs.declared.TheConstants.{REGISTERS}
use Rattle.lxr_large_model.specs.History.{LargeItem, large_state}
use Rattle.lxr_large_model.specs.State.{LargeState}
use Rattle.lxr_c_base.specs.Requests.{index_of}
use Rattle.lxr_c_base.specs.declared.codes.Code.TheVariants as code
use Rattle.lxr_c_heap.specs.declared.host.HostHeap.{HostHeap}
use Rattle.lxr_c_heap.specs.declared.own.OwnRegisters.{OwnRegisters}
use Rattle.lxr_c_heap.specs.Hosting.{IsHostOf, own_in, registers_in, all_registers_in}
use Rattle.lxr_c_many.proofs.MakingLemmas.{all_registers}
use Rattle.lxr_c_arrays.specs.declared.registers.Pair.{Pair}
use Rattle.lxr_c_arrays.specs.Elements.{HasLoaded, LoadsGiveElements, references_of}
use Rattle.lxr_c_arrays.specs.Plans.{IsPair, loading, planned, first_own}
use Rattle.lxr_c_arrays.specs.Running.{Carries, Runs}
use Rattle.lxr_c_arrays.specs.Sides.{parts_side, root_length, side_by}
use Rattle.lxr_c_arrays.specs.declared.side.Side.TheVariants as side
use Rattle.lxr_c_arrays.specs.Operations.{load_of, nil_of}
use Rattle.lxr_c_arrays.proofs.PlanLemmas.{own_first, own_there}
use Rattle.lxr_c_arrays.proofs.ElementLemmas.{changed_register, few_registers, load_first, nil_last, other_register, root_element, small_index, whole_element}

-- a whole array
whole : (x m y : HostHeap) (h j k : List LargeItem) (index : ℕ) (pair : Pair) → IsHostOf x h → IsPair (registers_in x) pair → root_length (large_state h) pair.array ≡ None
    → Runs x h (load_of pair.other pair.array (index_of index) ∷ []) m j code.Done → (y ≡ m) × (k ≡ j) × (code.Done ≡ code.Done)
    → (l : List LargeItem) × IsHostOf y l × HasLoaded (registers_in x) index pair (large_state h) (large_state l)
whole x m y h j k index pair is (array, other) none ran (ended, behind, done) =
    let first = load_first x m h j pair.other pair.array (index_of index) [] is ran in
    let got = first.got in
    let few = few_registers x h is in
    let small : index_of index ≡ index = small_index x h pair.array index got.name is (omega (arith, few, array)) got.held (slice_get_within (refs_of (object_at (large_state h).small.graph got.name)) (index_of index) got.value got.there) in
    let s : LargeState = large_state h in (
      first.history,
      subst (λ (z : HostHeap). IsHostOf z first.history) (sym (ended ∙ first.rest.0)) first.host,
      record {
        element = whole_element s pair.array index got.name got.value none got.held (ap (slice_get (refs_of (object_at s.small.graph got.name))) (sym small) ∙ got.there)
            ∙ ap Some (sym (ap (λ (u : LargeState). register_at u.small 1 pair.other) got.after ∙ changed_register s.small pair.other got.value (all_registers x.heap h is.heap) (omega (arith, few, other))));
        others = λ r less apart. ap (λ (u : LargeState). register_at u.small 1 r) got.after ∙ other_register s.small pair.other r got.value apart;
        objects = ap (λ (u : LargeState). u.small.graph) got.after;
        bodies = ap (λ (u : LargeState). u.large) got.after;
      },
    )

-- a root, with its part in a register of the library's own
rooted : (x m y : HostHeap) (h j k : List LargeItem) (index part elements : ℕ) (pair : Pair) → IsHostOf x h → IsPair (registers_in x) pair → part ≡ registers_in x → part < all_registers_in x
    → root_length (large_state h) pair.array ≡ Some elements → index + 1 ≤ elements
    → Runs x h (load_of part pair.array (index / 1023) ∷ load_of pair.other part (index % 1023) ∷ []) m j code.Done → Runs m j (nil_of part ∷ []) y k code.Done
    → (l : List LargeItem) × IsHostOf y l × HasLoaded (registers_in x) index pair (large_state h) (large_state l)
rooted x m y h j k index part elements pair is (array, other) own room root within ran ended =
    let few = few_registers x h is in
    let first = load_first x m h j part pair.array (index / 1023) (load_of pair.other part (index % 1023) ∷ []) is ran in
    let second = load_first first.heap m first.history j pair.other part (index % 1023) [] first.host first.rest in
    let s : LargeState = large_state h in
    let part_name = first.got.value in
    let v = second.got.value in
    let last = nil_last m y j k part (subst (λ (z : HostHeap). IsHostOf z j) (sym second.rest.0) (subst (IsHostOf second.heap) (sym second.rest.1) second.host)) ended in
    let s1 : LargeState = record s { small = with_register s.small 1 part part_name } in
    let s2 : LargeState = record s1 { small = with_register s1.small 1 pair.other v } in
    let s3 : LargeState = record s2 { small = with_register s2.small 1 part None } in
    let long : length s.small.registers ≡ REGISTERS = all_registers x.heap h is.heap in
    let longer : length s1.small.registers ≡ REGISTERS = length-set s.small.registers (register_index 1 part) part_name ∙ long in
    let is_1 : large_state first.history ≡ s1 = first.got.after in
    let is_2 : large_state j ≡ s2 = ap large_state second.rest.1 ∙ second.got.after ∙ ap (λ (z : LargeState). record z { small = with_register z.small 1 pair.other v }) is_1 in
    let is_3 : large_state k ≡ s3 = last.1 ∙ ap (λ (z : LargeState). record z { small = with_register z.small 1 part None }) is_2 in
    let at_hand : part_name ≡ Some second.got.name =
    sym (changed_register s.small part part_name long (omega (arith, few, room))) ∙ sym (ap (λ (z : LargeState). register_at z.small 1 part) is_1) ∙ second.got.held in
    let there : slice_get (references_of s.small.graph part_name) (index % 1023) ≡ Some v =
    ap (λ p. slice_get (references_of s.small.graph p) (index % 1023)) at_hand
    ∙ sym (ap (λ (z : LargeState). slice_get (refs_of (object_at z.small.graph second.got.name)) (index % 1023)) is_1) ∙ second.got.there in
    let apart : pair.other ≢ part = λ e. omega (arith, e, own, other) in (
      k,
      last.0,
      subst (HasLoaded (registers_in x) index pair s) (sym is_3) (record {
        element = root_element s pair.array index elements first.got.name part_name v root within first.got.held first.got.there there
            ∙ ap Some (sym (other_register s2.small part pair.other None apart ∙ changed_register s1.small pair.other v longer (omega (arith, few, other))));
        others = λ r less differs.
            let own_apart : r ≢ part = λ e. omega (arith, e, own, less) in
            other_register s2.small part r None own_apart ∙ other_register s1.small pair.other r v differs ∙ other_register s.small part r part_name own_apart;
        objects = refl;
        bodies = refl;
      }),
    )

pub loads_give_elements : LoadsGiveElements
loads_give_elements x y h index pair is fits carried = at_root (root_length (large_state h) pair.array) refl carried
  where
    at_root : (root : Option ℕ) → root_length (large_state h) pair.array ≡ root → Carries x y h (planned (loading pair index) (side_by root (first_own x) pair.array index)) code.Done
        → (l : List LargeItem) × IsHostOf y l × HasLoaded (registers_in x) index pair (large_state h) (large_state l)
    at_root None none (m, j, k, ran, ended) = whole x m y h j k index pair is fits none ran ended
    at_root (Some elements) root ran = at_own (own_in x) refl ran
      where
        at_room : (own : OwnRegisters) (b : Bool) → own_in x ≡ Some own → nat_le (index + 1) elements ≡ b
            → Carries x y h (planned (loading pair index) (if b then Ok (side.Parts pair.array own.first) else Err code.Index)) code.Done
            → (l : List LargeItem) × IsHostOf y l × HasLoaded (registers_in x) index pair (large_state h) (large_state l)
        at_room own true there within (m, j, k, ran, ended) =
            rooted x m y h j k index own.first elements pair is fits (own_first x own there) (own_there x own there).0 root (leb-true (index + 1) elements within) ran ended
        at_room own false there over (told, same) = absurd (cc)

        at_own : (own : Option OwnRegisters) → own_in x ≡ own → Carries x y h (planned (loading pair index) (parts_side elements (option_map (λ (o : OwnRegisters). o.first) own) pair.array (index + 1))) code.Done
            → (l : List LargeItem) × IsHostOf y l × HasLoaded (registers_in x) index pair (large_state h) (large_state l)
        at_own None none (told, same) = absurd (cc)
        at_own (Some own) there ran = at_room own (nat_le (index + 1) elements) there refl ran

-- A store to an element of a root reaches its part.
use Rattle.std.proofs.Common.{◌≡◌, ◌≢◌, ℕ, ◌+◌, ◌/◌, ◌%◌, ◌<◌, ◌≤◌, ◌∙◌, refl, sym, ap, subst, arith, Bool, true, false, Option, Some, None, List, [], ◌∷◌, length, map}
use Rattle.std.specs.Prelude.{nat_le, option_map, slice_get, slice_index_or, slice_set, unwrap_or, if◌then◌else◌, Ok, Err}
use Rattle.std.proofs.lemmas.Bool.{leb-true}
use Rattle.std.proofs.lemmas.Option.{get_or_from_slice_get, slice_get-map}
use Rattle.lxr_layout.specs.declared.Name.{Name}
use Rattle.lxr_layout.specs.declared.TheConstants.{REGISTERS}
use Rattle.lxr_graph.specs.State.{object_at, refs_of, register_at, values_of, with_register}
use Rattle.lxr_large_model.specs.History.{LargeItem, large_state}
use Rattle.lxr_large_model.specs.State.{LargeState}
use Rattle.lxr_c_base.specs.declared.codes.Code.TheVariants as code
use Rattle.lxr_c_heap.specs.declared.host.HostHeap.{HostHeap}
use Rattle.lxr_c_heap.specs.declared.own.OwnRegisters.{OwnRegisters}
use Rattle.lxr_c_heap.specs.Hosting.{IsHostOf, all_registers_in, own_in, registers_in}
use Rattle.lxr_c_many.specs.Fields.{references_in, words_in}
use Rattle.lxr_c_many.proofs.MakingLemmas.{all_registers}
use Rattle.lxr_c_arrays.specs.declared.registers.Pair.{Pair}
use Rattle.lxr_c_arrays.specs.declared.side.Side.TheVariants as side
use Rattle.lxr_c_arrays.specs.Elements.{HasStoredInPart, StoresReachParts, as_named, part_at, references_of}
use Rattle.lxr_c_arrays.specs.Operations.{load_of, nil_of, store_of}
use Rattle.lxr_c_arrays.specs.Plans.{IsPair, first_own, planned, storing}
use Rattle.lxr_c_arrays.specs.Running.{Carries, Runs}
use Rattle.lxr_c_arrays.specs.Sides.{parts_side, root_length, side_by}
use Rattle.lxr_c_arrays.proofs.ElementLemmas.{changed_register, few_registers, load_first, nil_last, other_register, root_element}
use Rattle.lxr_c_arrays.proofs.PlanLemmas.{own_first, own_there}
use Rattle.lxr_c_arrays.proofs.ReachLemmas.{apart_named, apart_over, own_named, own_over}
use Rattle.lxr_c_arrays.proofs.SettleLemmas.{named_bodies, named_objects}
use Rattle.lxr_c_arrays.proofs.StoreLemmas.{bodies_now, changed_now, held_refs, others_now, reference_set, references_beside, references_were, registers_now, root_by, store_first, words_beside}

stored : (x m y : HostHeap) (h j k : List LargeItem) (index part elements : ℕ) (pair : Pair) → IsHostOf x h → IsPair (registers_in x) pair → part ≡ registers_in x → part < all_registers_in x
    → root_length (large_state h) pair.array ≡ Some elements → index + 1 ≤ elements → register_at (large_state h).small 1 pair.array ≢ part_at (large_state h) pair.array index
    → Runs x h (load_of part pair.array (index / 1023) ∷ store_of part (index % 1023) pair.other ∷ []) m j code.Done → Runs m j (nil_of part ∷ []) y k code.Done
    → (l : List LargeItem) × IsHostOf y l × HasStoredInPart (registers_in x) index pair (large_state h) (large_state l)
stored x m y h j k index part elements pair is (array, other) own room root within differs ran ended =
    let few = few_registers x h is in
    let first = load_first x m h j part pair.array (index / 1023) (store_of part (index % 1023) pair.other ∷ []) is ran in
    let second = store_first first.heap m first.history j part (index % 1023) pair.other [] first.host first.rest in
    let last = nil_last m y j k part (subst (λ (z : HostHeap). IsHostOf z j) (sym second.rest.0) (subst (IsHostOf second.heap) (sym second.rest.1) second.host)) ended in
    let s : LargeState = large_state h in
    let s1 : LargeState = large_state first.history in
    let b : LargeState = second.before in
    let u1 : LargeState = large_state second.history in
    let u : LargeState = record u1 { small = with_register u1.small 1 part None } in
    let p : Option Name = first.got.value in
    let names = second.settled.names in
    let f = as_named names in
    let is_u : large_state k ≡ u = last.1 ∙ ap (λ l. record (large_state l) { small = with_register (large_state l).small 1 part None }) second.rest.1 in
    let long : length s.small.registers ≡ REGISTERS = all_registers x.heap h is.heap in
    let at_hand : register_at s1.small 1 part ≡ p = ap (λ (z : LargeState). register_at z.small 1 part) first.got.after ∙ changed_register s.small part p long (omega (arith, few, room)) in
    let kept : (r : ℕ) → r < registers_in x → register_at s1.small 1 r ≡ register_at s.small 1 r =
    λ r less. let own_apart : r ≢ part = λ e. omega (arith, e, own, less) in ap (λ (z : LargeState). register_at z.small 1 r) first.got.after ∙ other_register s.small part r p own_apart in
    let same_graph : s1.small.graph ≡ s.small.graph = ap (λ (z : LargeState). z.small.graph) first.got.after in
    let references_same : references_in s1 pair.array ≡ references_in s pair.array =
    ap (option_map (λ n. refs_of (object_at s1.small.graph n))) (kept pair.array array) ∙ ap (λ g. option_map (λ n. refs_of (object_at g n)) (register_at s.small 1 pair.array)) same_graph in
    let words_same : words_in s1 pair.array ≡ words_in s pair.array =
    ap (option_map (λ n. values_of (object_at s1.small.graph n))) (kept pair.array array) ∙ ap (λ g. option_map (λ n. values_of (object_at g n)) (register_at s.small 1 pair.array)) same_graph in
    let parts : List (Option Name) = refs_of (object_at s.small.graph first.got.name) in
    let parts_were : references_in s pair.array ≡ Some parts = ap (option_map (λ n. refs_of (object_at s.small.graph n))) first.got.held in
    let part_is : part_at s pair.array index ≡ p = ap (λ v. slice_index_or (unwrap_or v []) (index / 1023) None) parts_were ∙ get_or_from_slice_get parts (index / 1023) p None first.got.there in
    let apart : register_at b.small 1 pair.array ≢ register_at b.small 1 part =
    λ e. differs (sym (kept pair.array array) ∙ second.settled.apart pair.array part e ∙ at_hand ∙ sym part_is) in
    let array_apart : pair.array ≢ part = λ e. omega (arith, e, own, array) in
    let array_held : register_at u.small 1 pair.array ≡ register_at u1.small 1 pair.array = other_register u1.small part pair.array None array_apart in
    let references_now : references_in u pair.array ≡ Some (map f parts) =
    ap (option_map (λ n. refs_of (object_at u1.small.graph n))) array_held ∙ references_beside s1 b part (index % 1023) pair.other second.settled u1 second.set pair.array apart ∙ ap (option_map (map f)) (references_same ∙ parts_were) in
    let words_now : words_in u pair.array ≡ words_in s pair.array =
    ap (option_map (λ n. values_of (object_at u1.small.graph n))) array_held ∙ words_beside s1 b part (index % 1023) pair.other second.settled u1 second.set pair.array apart ∙ words_same in
    let whose = held_refs u (register_at u.small 1 pair.array) (map f parts) references_now in
    let part_named : f p ≡ Some second.set.name = sym (ap f at_hand) ∙ sym (second.settled.registers part) ∙ second.set.held in
    let part_there : slice_get (refs_of (object_at u.small.graph whose.0)) (index / 1023) ≡ Some (Some second.set.name) =
    ap (λ vs. slice_get vs (index / 1023)) whose.2 ∙ slice_get-map f parts (index / 1023) ∙ ap (option_map f) first.got.there ∙ ap (λ q. Some q) part_named in
    let element_there = reference_set s1 b part (index % 1023) pair.other second.settled u1 second.set ∙ ap (λ v. Some (f v)) (kept pair.other other) in
    let had = references_were s1 b part (index % 1023) pair.other second.settled u1 second.set in
    let of = held_refs s1 (register_at s1.small 1 part) had.0 had.1 in
    let part_had : references_of s.small.graph (part_at s pair.array index) ≡ had.0 =
    ap (references_of s.small.graph) (part_is ∙ sym at_hand ∙ of.1) ∙ ap (λ g. refs_of (object_at g of.0)) (sym same_graph) ∙ of.2 in
    let other_held : register_at b.small 1 pair.other ≡ f (register_at s.small 1 pair.other) = second.settled.registers pair.other ∙ ap f (kept pair.other other) in (
      k,
      last.0,
      subst (HasStoredInPart (registers_in x) index pair s) (sym is_u) (record {
        names = names;
        element = root_element u pair.array index elements whose.0 (Some second.set.name) (f (register_at s.small 1 pair.other)) (root_by s u pair.array words_now ∙ root) within whose.1 part_there element_there;
        part = ap (references_of u.small.graph) (ap f part_is ∙ part_named) ∙ ap refs_of (changed_now s1 b part (index % 1023) pair.other second.settled u1 second.set)
            ∙ ap (λ v. slice_set second.set.object.refs (index % 1023) v) other_held
            ∙ ap (λ vs. slice_set vs (index % 1023) (f (register_at s.small 1 pair.other))) (sym had.2 ∙ ap (map f) (sym part_had));
        held = λ r less.
            let own_apart : r ≢ part = λ e. omega (arith, e, own, less) in
            other_register u1.small part r None own_apart ∙ registers_now s1 b part (index % 1023) pair.other second.settled u1 second.set r ∙ ap f (kept r less);
        objects = λ n not. others_now s1 b part (index % 1023) pair.other second.settled u1 second.set n (λ e. not (ap (λ q. Some q) e ∙ sym part_named ∙ sym (ap f part_is)))
            ∙ ap (λ g. object_at g n) (named_objects names s s1 same_graph);
        own = λ r less beside was.
            let own_apart : r ≢ part = λ e. omega (arith, e, own, less) in
            let no_part : register_at b.small 1 r ≢ register_at b.small 1 part = λ e. beside (sym (kept r less) ∙ second.settled.apart r part e ∙ at_hand ∙ sym part_is) in
            let loaded = own_over s s1 r (kept r less) (ap (option_map (λ n. refs_of (object_at s1.small.graph n))) (kept r less) ∙ ap (λ g. option_map (λ n. refs_of (object_at g n)) (register_at s.small 1 r)) same_graph) was in
            let stored =
            own_named s1 b u1 second.settled r (registers_now s1 b part (index % 1023) pair.other second.settled u1 second.set r) (references_beside s1 b part (index % 1023) pair.other second.settled u1 second.set r no_part) loaded in
            let left : register_at u.small 1 r ≡ register_at u1.small 1 r = other_register u1.small part r None own_apart in
            own_over u1 u r left (ap (option_map (λ n. refs_of (object_at u1.small.graph n))) left) stored;
        apart = λ q r less few beside differs are.
            let over : (o : ℕ) → o < registers_in x → references_in s1 o ≡ references_in s o =
            λ o small. ap (option_map (λ n. refs_of (object_at s1.small.graph n))) (kept o small) ∙ ap (λ g. option_map (λ n. refs_of (object_at g n)) (register_at s.small 1 o)) same_graph in
            let left : (o : ℕ) → o < registers_in x → register_at u.small 1 o ≡ register_at u1.small 1 o = λ o small. other_register u1.small part o None (λ e. omega (arith, e, own, small)) in
            let stored : (o : ℕ) → o < registers_in x → register_at s.small 1 o ≢ part_at s pair.array index → references_in u1 o ≡ option_map (map f) (references_in s1 o) =
            λ o small no_part. references_beside s1 b part (index % 1023) pair.other second.settled u1 second.set o (λ e. no_part (sym (kept o small) ∙ second.settled.apart o part e ∙ at_hand ∙ sym part_is)) in
            apart_over u1 u q r (ap (option_map (λ n. refs_of (object_at u1.small.graph n))) (left q less)) (left r few) (ap (option_map (λ n. refs_of (object_at u1.small.graph n))) (left r few))
            (apart_named s1 b u1 second.settled q r (stored q less beside) (registers_now s1 b part (index % 1023) pair.other second.settled u1 second.set r) (stored r few differs)
            (apart_over s s1 q r (over q less) (kept r few) (over r few) are));
        bodies = bodies_now s1 b part (index % 1023) pair.other second.settled u1 second.set ∙ named_bodies names s s1 (ap (λ (z : LargeState). z.large) first.got.after);
      }),
    )

pub stores_reach_parts : StoresReachParts
stores_reach_parts x y h index elements pair is fits root differs carried =
    at_own (own_in x) refl (subst (λ r. Carries x y h (planned (storing pair index) (side_by r (first_own x) pair.array index)) code.Done) root carried)
  where
    at_room : (own : OwnRegisters) (b : Bool) → own_in x ≡ Some own → nat_le (index + 1) elements ≡ b
        → Carries x y h (planned (storing pair index) (if b then Ok (side.Parts pair.array own.first) else Err code.Index)) code.Done
        → (l : List LargeItem) × IsHostOf y l × HasStoredInPart (registers_in x) index pair (large_state h) (large_state l)
    at_room own true there within (m, j, k, ran, ended) =
        stored x m y h j k index own.first elements pair is fits (own_first x own there) (own_there x own there).0 root (leb-true (index + 1) elements within) differs ran ended
    at_room own false there over (told, same) = absurd (cc)

    at_own : (own : Option OwnRegisters) → own_in x ≡ own → Carries x y h (planned (storing pair index) (parts_side elements (option_map (λ (o : OwnRegisters). o.first) own) pair.array (index + 1))) code.Done
        → (l : List LargeItem) × IsHostOf y l × HasStoredInPart (registers_in x) index pair (large_state h) (large_state l)
    at_own None none (told, same) = absurd (cc)
    at_own (Some own) there ran = at_room own (nat_le (index + 1) elements) there refl ran

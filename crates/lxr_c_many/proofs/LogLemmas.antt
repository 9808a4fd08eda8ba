-- The log before stores: how many of their references have set bits, what settling leaves, and that a pause empties it.
use Rattle.std.proofs.Common.{◌≡◌, ℕ, zero, suc, ◌+◌, ◌-◌, ◌*◌, ◌<◌, ◌≤◌, ◌∙◌, refl, sym, ap, subst, arith, inl, inr, Bool, true, false, Option, Some, None, List, [], ◌∷◌, ◌++◌, length, get_or, map}
use Rattle.std.specs.Prelude.{◌&&◌, IsTrue, not, slice_get}
use Rattle.std.proofs.lemmas.Bool.{and_from, and_left, and_right, cases_Bool, cases_lt}
use Rattle.std.proofs.lemmas.List.{append-nil, length-map}
use Rattle.std.proofs.lemmas.Option.{slice_get-get_or}
use Rattle.lxr_layout.specs.declared.Name.{Name}
use Rattle.lxr_layout.specs.declared.Place.{Place}
use Rattle.lxr_layout.specs.declared.TheConstants.{GRANULES_IN_BLOCK, MOST_BLOCKS, REGISTERS, WORDS_IN_BLOCK}
use Rattle.lxr_layout.specs.Places.{IsPlace, field_word}
use Rattle.lxr_layout.specs.Registers.{nil}
use Rattle.lxr_graph.specs.Names.{AreInOrder, has}
use Rattle.lxr_graph.specs.Renewing.{renewed_held, renewed_name}
use Rattle.lxr_graph.specs.State.{Object, State, object_at, refs_of, register_at, register_index, world_name}
use Rattle.lxr_image.specs.Image.{ArePlacesOf, IsImage, Stands, place_word}
use Rattle.lxr_image.specs.Spaces.{tables_of}
use Rattle.lxr_image.proofs.ImageLemmas.{words_cover, words_even}
use Rattle.lxr_model.specs.Moments.{Moment}
use Rattle.lxr_model_counting.specs.Distinct.{has_field}
use Rattle.lxr_invariant.specs.AbstractState.{members}
use Rattle.lxr_core_invariant.proofs.HeldLemmas.{IsHeld, in_register}
use Rattle.lxr_core_invariant.specs.Imaged.{IsReferenceAt}
use Rattle.lxr_core_inv_heap.proofs.LogsReferenceLemmas.{clear_is_cleared, set_is_uncleared}
use Rattle.lxr_renew.proofs.StateLemmas.{refs_renewed}
use Rattle.lxr_direct.specs.declared.known.HeldObject.{HeldObject}
use Rattle.lxr_direct.specs.Known.{IsKnown}
use Rattle.lxr_direct.specs.Recording.{is_unlogged}
use Rattle.lxr_large_model.specs.History.{LargeItem, Renewed, large_moment, large_state}
use Rattle.lxr_heap.specs.declared.heap.Heap.{Heap}
use Rattle.lxr_heap.specs.Holding.{IsHeapOf, abstract_of}
use Rattle.lxr_blocks.specs.Masks.{one_if}
use Rattle.lxr_heap.proofs.EarlyLemmas.{held_same}
use Rattle.lxr_heap.proofs.HeapLemmas.{one_thread}
use Rattle.lxr_c_heap.specs.declared.host.Ends.{Ends}
use Rattle.lxr_c_heap.specs.declared.host.HostHeap.{HostHeap}
use Rattle.lxr_c_heap.specs.Hosting.{SettlesAt, behind_pause}
use Rattle.lxr_c_many.specs.Recording.{LogIsShort, is_to_record, to_record, unlogged_bits}
use Rattle.lxr_c_many.specs.Steps.{HasReferences, HoldsYoung, MayBeStored}
use Rattle.lxr_c_many.proofs.RecordLemmas.{as_many}

-- ---- bits

at_most_one : (b : Bool) → one_if b ≤ 1
at_most_one true = omega arith
at_most_one false = omega arith

pub bits_few : (bits : ℕ → Bool) (place first count : ℕ) → unlogged_bits bits place first count ≤ count
bits_few bits place first zero = omega arith
bits_few bits place first (suc count) = let rest = bits_few bits place first count in let one = at_most_one (bits (field_word place (first + count))) in omega (arith, rest, one)

-- as many as there are references at most
pub to_record_few : (m : Moment) (held : Option Name) (first count : ℕ) → to_record m held first count ≤ count
to_record_few m held first zero = omega arith
to_record_few m held first (suc count) = let rest = to_record_few m held first count in let one = at_most_one (is_to_record m held (first + count)) in omega (arith, rest, one)

pub bits_more : (bits : ℕ → Bool) (place first i : ℕ) → unlogged_bits bits place first (i + 1) ≡ unlogged_bits bits place first i + one_if (bits (field_word place (first + i)))
bits_more bits place first i = let next : i + 1 ≡ suc i = omega arith in ap (unlogged_bits bits place first) next

-- where each bit is set exactly where the reference has to be recorded, they are as many
bits_as_many : (m : Moment) (v : Option Name) (bits : ℕ → Bool) (place first count : ℕ) → ((i : ℕ) → i < count → bits (field_word place (first + i)) ≡ is_to_record m v (first + i))
    → unlogged_bits bits place first count ≡ to_record m v first count
bits_as_many m v bits place first zero same = refl
bits_as_many m v bits place first (suc count) same =
    let last = ap one_if (same count (omega arith)) in
    let rest = bits_as_many m v bits place first count (λ i few. same i (omega (arith, few))) in
    omega (arith, last, rest)

-- ---- where an object stands

-- what a list of places has at an index is the place of what the other list has there
place_read : (at : Name → ℕ) (places : List Place) (held : List (Option Name)) (i : ℕ) (p : Place) → ArePlacesOf at places held → slice_get places i ≡ Some p → p.0 ≡ place_word at (get_or held i None)
place_read at [] [] i p same there = absurd (cc)
place_read at [] (v ∷ vs) i p same there = absurd (cc)
place_read at (q ∷ qs) [] i p same there = absurd (cc)
place_read at (q ∷ qs) (v ∷ vs) zero p same there = let e : q ≡ p = cc in let head : q.0 ≡ place_word at v = cc in ap (λ z. z.0) (sym e) ∙ head
place_read at (q ∷ qs) (v ∷ vs) (suc i) p same there = place_read at qs vs i p (cc) there

-- an object that stands whole lies in the heap, at a place that there may be
lies_in_heap : (p words refs values granules blocks : ℕ) → 1 ≤ p → 1 + refs + values ≤ words → words ≡ 2 * granules → p - 1 + granules ≤ GRANULES_IN_BLOCK * blocks
    → 2 * (p - 1) + 1 + refs + values ≤ WORDS_IN_BLOCK * blocks
lies_in_heap p words refs values granules blocks some cover even within = omega (arith, some, cover, even, within)

small_place : (p words refs values granules blocks : ℕ) → 1 ≤ p → 1 + refs + values ≤ words → words ≡ 2 * granules → p - 1 + granules ≤ GRANULES_IN_BLOCK * blocks → blocks ≤ MOST_BLOCKS → p ≤ GRANULES_IN_BLOCK * MOST_BLOCKS
small_place p words refs values granules blocks some cover even within few = omega (arith, some, cover, even, within, few)

-- there are 256 registers
pub registers_many : (x : Heap) (h : List LargeItem) → IsHeapOf x h → (base : ℕ) → base < REGISTERS → base < length x.space.registers.items
registers_many x h is base small = let all = is.stands.0.safepoint.holds.as_many.0 in let one = one_thread x h is in omega (arith, all, one, small)

module _ (x : Heap) (h : List LargeItem) (is : IsHeapOf x h) (base most : ℕ) (has_refs : HasReferences (large_state h) base most) (place : Place) (there : slice_get x.space.registers.items base ≡ Some place) where
  abbrev m : Moment
  m = large_moment h

  -- the moment for which the space is at rest: without what is gone
  abbrev left : Moment
  left = (abstract_of x h is.at).moment

  abbrev n : Name
  n = has_refs.name

  image : IsImage (tables_of x.space) x.space.limits.blocks is.at m.state.graph (members left)
  image = is.stands.0.safepoint.holds.image.image

  index : base ≡ register_index 1 base
  index = omega arith

  held : register_at m.state 1 base ≡ Some n
  held = ap (λ (s : State). register_at s 1 base) is.state ∙ has_refs.held

  within : most ≤ length (refs_of (object_at m.state.graph n))
  within = subst (λ (s : State). most ≤ length (refs_of (object_at s.graph n))) (sym is.state) has_refs.within

  stands : place.0 ≡ is.at n
  stands =
      place_read is.at x.space.registers.items m.state.registers (register_index 1 base) place is.stands.0.safepoint.holds.image.registers (subst (λ i. slice_get x.space.registers.items i ≡ Some place) index there)
      ∙ ap (place_word is.at) held

  member : IsTrue (has (members left) n)
  member = subst (IsHeld left) held (in_register left 1 base is.stands.0.safepoint.holds.follows)

  found : (o : Object) × (object_at m.state.graph n ≡ Some o) × Stands (tables_of x.space) x.space.limits.blocks is.at n o
  found = image.stands n member

  many : most ≤ length found.0.refs
  many = subst (λ o. most ≤ length (refs_of o)) found.1 within

  pub stands_at_place : IsPlace place
  stands_at_place = (
    subst (λ z. 1 ≤ z) (sym stands) found.2.placed,
    subst (λ z. z ≤ GRANULES_IN_BLOCK * MOST_BLOCKS) (sym stands)
        (small_place (is.at n) _ (length found.0.refs) (length found.0.values) _ x.space.limits.blocks found.2.placed (words_cover found.0) (words_even found.0) found.2.whole.in_heap is.stands.0.safepoint.holds.space.limits.blocks.1),
  )

  pub lies_inside : field_word place.0 most ≤ WORDS_IN_BLOCK * x.space.limits.blocks
  lies_inside =
      let all = lies_in_heap (is.at n) _ (length found.0.refs) (length found.0.values) _ x.space.limits.blocks found.2.placed (words_cover found.0) (words_even found.0) found.2.whole.in_heap in
      let some = many in
      subst (λ z. field_word z most ≤ WORDS_IN_BLOCK * x.space.limits.blocks) (sym stands) (omega (arith, all, some))

  -- at most 1,023
  pub few_references : most ≤ 1023
  few_references = let few = found.2.whole.shape.0 in let some = many in omega (arith, few, some)

  reference : (i : ℕ) → i < most → IsReferenceAt left is.at place.0 i
  reference i few = record { name = n; object = found.0; member = member; is = found.1; stands = stands; within = let some = many in omega (arith, few, some) }

  -- the unlogged bit of a reference tells whether it has to be recorded
  bit_left : (i : ℕ) → i < most → (tables_of x.space).unlogged (field_word place.0 i) ≡ is_to_record left (register_at m.state 1 base) i
  bit_left i few = elim (cases_Bool ((tables_of x.space).unlogged (field_word place.0 i))) [
    | inl set ↦
        let both = set_is_uncleared (tables_of x.space) x.space.limits.blocks is.at left m.written place.0 i n image is.stands.0.safepoint.holds.bits (reference i few) set member stands in
        set ∙ sym (ap (λ v. is_to_record left v i) held ∙ and_from (has left.unreclaimed n) (not (has_field m.written (n, i))) both.0 (ap not both.1))
    | inr clear ↦ clear ∙ sym (ap (λ v. is_to_record left v i) held ∙ elim (cases_Bool (has left.unreclaimed n)) [
      | inl old ↦ and_right (has left.unreclaimed n) (not (has_field m.written (n, i)))
          (ap not (clear_is_cleared (tables_of x.space) x.space.limits.blocks is.at left m.written place.0 i n image is.stands.0.safepoint.holds.bits (reference i few) clear old stands))
      | inr new ↦ and_left (has left.unreclaimed n) (not (has_field m.written (n, i))) new
    ])
  ]

  -- what a register holds isn't gone, so that is the same by the history
  bit : (i : ℕ) → i < most → (tables_of x.space).unlogged (field_word place.0 i) ≡ is_to_record m (register_at m.state 1 base) i
  bit i few =
      bit_left i few ∙ ap (λ v. is_to_record left v i) held ∙ ap (λ b. b && not (has_field m.written (n, i))) (held_same m x.gone.items is.follows is.gone 1 base n held) ∙ sym (ap (λ v. is_to_record m v i) held)

  pub counted : (first count : ℕ) → first + count ≤ most → unlogged_bits (tables_of x.space).unlogged place.0 first count ≡ to_record m (register_at m.state 1 base) first count
  counted first count few = bits_as_many m (register_at m.state 1 base) (tables_of x.space).unlogged place.0 first count (λ i less. bit (first + i) (omega (arith, few, less)))

-- of an object that was made since the last pause no unlogged bit is set
pub young_clear : (x : Heap) (h : List LargeItem) → IsHeapOf x h → (base refs values : ℕ) → HoldsYoung h base refs values → (object : HeldObject) → IsKnown x.space 1 object → object.register ≡ base → (i : ℕ) → i < refs
    → is_unlogged x.space object.base.place i ≡ false
young_clear x h is base refs values young object known same i few =
    let index : register_index 1 object.register ≡ base = omega (arith, same) in
    let there = subst (λ k. slice_get x.space.registers.items k ≡ Some object.base.place) index known.held in
    let m = large_moment h in
    bit x h is base refs young.references object.base.place there i few
    ∙ ap (λ v. is_to_record m v i) (held x h is base refs young.references object.base.place there)
    ∙ ap (λ b. b && not (has_field m.written (young.references.name, i))) young.young

-- so what a register holds has no more
pub references_few : (x : Heap) (h : List LargeItem) → IsHeapOf x h → (base most : ℕ) → base < REGISTERS → HasReferences (large_state h) base most → most ≤ 1023
references_few x h is base most small has_refs =
    few_references x h is base most has_refs (get_or x.space.registers.items base nil) (slice_get-get_or x.space.registers.items base nil (registers_many x h is base small))

-- ---- settling

renewed_at : (ns : List Name) (vs : List (Option Name)) (i : ℕ) → get_or (map (renewed_held ns) vs) i None ≡ renewed_held ns (get_or vs i None)
renewed_at ns [] i = refl
renewed_at ns (v ∷ vs) zero = refl
renewed_at ns (v ∷ vs) (suc i) = renewed_at ns vs i

-- a renewal leaves what a register holds its references
renewed_references : (x y : Heap) (h : List LargeItem) (ns : List Name) (base most : ℕ) → IsHeapOf x h → IsHeapOf y (Renewed ns ∷ h) → HasReferences (large_state h) base most → HasReferences (large_state (Renewed ns ∷ h)) base most
renewed_references x y h ns base most is after has_refs = record {
  name = renewed_name ns has_refs.name;
  held = renewed_at ns (large_state h).small.registers (register_index 1 base) ∙ ap (renewed_held ns) has_refs.held;
  within =
      let long = ap length (refs_renewed ns order 1 (large_state h).small.graph has_refs.name left) ∙ length-map (refs_of (object_at (large_state h).small.graph has_refs.name)) (renewed_held ns) in
      let all = has_refs.within in
      omega (arith, long, all);
}
  where
    names : (large_moment h).unreclaimed ≡ world_name ∷ ns
    names = after.legal.1.names

    order : AreInOrder (world_name ∷ ns)
    order = subst AreInOrder names is.follows.unreclaimed

    none_made : (large_moment h).made ≡ []
    none_made = (is.collected after.legal.1.fresh).made

    held : register_at (large_moment h).state 1 base ≡ Some has_refs.name
    held = ap (λ (s : State). register_at s 1 base) is.state ∙ has_refs.held

    member : IsTrue (has (members (large_moment h)) has_refs.name)
    member = subst (IsHeld (large_moment h)) held (in_register (large_moment h) 1 base is.follows)

    left : IsTrue (has (world_name ∷ ns) has_refs.name)
    left = subst (λ us. IsTrue (has us has_refs.name)) (ap (λ us. us ++ (large_moment h).made) names ∙ ap (λ made. (world_name ∷ ns) ++ made) none_made ∙ append-nil (world_name ∷ ns)) member

-- and so does settling
pub settled_references : (ends : Ends) (x y : HostHeap) (h k : List LargeItem) (base most : ℕ) → SettlesAt ends x h y k → HasReferences (large_state h) base most → HasReferences (large_state k) base most
settled_references ends x y h k base most (inl (there, m, paused, renewed)) has_refs =
    subst (λ z. HasReferences (large_state z) base most) (sym renewed.history)
    (renewed_references m.heap y.heap (behind_pause m h) renewed.heap.names base most paused.heap.holds renewed.heap.holds has_refs)
settled_references ends x y h k base most (inr (none, left, same)) has_refs = subst (λ z. HasReferences (large_state z) base most) (sym same) has_refs

-- ---- before the stores

-- where the log is short, a pause empties it
pub paused_may : (y : HostHeap) (k : List LargeItem) (base first count : ℕ) → IsHeapOf y.heap (behind_pause y k) → first + count ≤ 1023 → HasReferences (large_state k) base (first + count) → MayBeStored y.heap (behind_pause y k) base first count
paused_may y k base first count is few has_refs = record {
  there = has_refs;
  room = let all = as_many (large_moment (behind_pause y k)) (register_at (large_moment (behind_pause y k)).state 1 base) first count in let most = is.log in omega (arith, few, all, most);
}

-- where it isn't, there is room
pub long_may : (x : Heap) (k : List LargeItem) (base first count : ℕ) → ¬ LogIsShort x k base first count → HasReferences (large_state k) base (first + count) → MayBeStored x k base first count
long_may x k base first count not has_refs = record {
  there = has_refs;
  room = elim (cases_lt x.space.limits.log (length (large_moment k).written + to_record (large_moment k) (register_at (large_moment k).state 1 base) first count)) [ inl short ↦ absurd (not short) | inr fits ↦ fits ];
}

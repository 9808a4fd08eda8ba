-- What a space at rest says of what registers and references hold: places of the heap, at which headers tell names and shapes.
use Rattle.std.proofs.Common.{◌≡◌, ◌≢◌, ℕ, zero, suc, ◌+◌, ◌-◌, ◌*◌, ◌/◌, ◌<◌, ◌≤◌, refl, sym, ap, subst, ◌∙◌, inl, inr, arith, true, false, nat_eq, List, [], ◌∷◌, length, get_or}
use Rattle.std.specs.Prelude.{◌↔◌, Option, Some, None, IsTrue, slice_get}
use Rattle.std.proofs.lemmas.Bool.Decides.{eqb_tells}
use Rattle.lxr_layout.specs.declared.TheConstants.{GRANULES_IN_BLOCK, MOST_BLOCKS, REGISTERS, WORDS_IN_BLOCK}
use Rattle.lxr_layout.specs.declared.Header.{Header}
use Rattle.lxr_layout.specs.declared.Header.TheVariants as header
use Rattle.lxr_layout.specs.declared.Name.{Name}
use Rattle.lxr_layout.specs.declared.Place.{Place}
use Rattle.lxr_layout.specs.declared.Shape.{Shape}
use Rattle.lxr_layout.specs.Objects.{header_of, word_count}
use Rattle.lxr_layout.specs.Places.{IsPlace, first_word, granule_of}
use Rattle.lxr_graph.specs.Names.{has}
use Rattle.lxr_graph.specs.State.{Object, object_at, register_at, register_index, shape_of, world_name}
use Rattle.lxr_image.specs.declared.space.Space.{Space}
use Rattle.lxr_image.specs.Spaces.{IsInUsedBlock, tables_of}
use Rattle.lxr_image.specs.Reads.{slots_of}
use Rattle.lxr_image.specs.Image.{ArePlacesOf, Stands, place_word}
use Rattle.lxr_image.proofs.ImageLemmas.{words_cover, words_even}
use Rattle.lxr_invariant.specs.AbstractState.{AbstractState, members}
use Rattle.lxr_invariant.specs.Quiescent.{IsAtRest}
use Rattle.lxr_core_invariant.proofs.HeldLemmas.{IsHeld, in_register}
use Rattle.lxr_core_invariant.proofs.TellingLemmas.{placed_there, told_there}
use Rattle.lxr_direct.specs.Operating.{IsNilOrMember, IsPlaceOf, LiesInside, MayOperate, StandsAt, Tells, named_shape, shape_found}
use Rattle.lxr_direct.specs.declared.reading.Base.{Base}

-- ---- registers

-- what a list of places has at an index is the place of what the other list has there
place_read : (at : Name → ℕ) (places : List Place) (held : List (Option Name)) (i : ℕ) (p : Place) → ArePlacesOf at places held → slice_get places i ≡ Some p → p.0 ≡ place_word at (get_or held i None)
place_read at [] [] i p same there = absurd (cc)
place_read at [] (v ∷ vs) i p same there = absurd (cc)
place_read at (q ∷ qs) [] i p same there = absurd (cc)
place_read at (q ∷ qs) (v ∷ vs) zero p same there = let e : q ≡ p = cc in let head : q.0 ≡ place_word at v = cc in ap (λ z. z.0) (sym e) ∙ head
place_read at (q ∷ qs) (v ∷ vs) (suc i) p same there = place_read at qs vs i p (cc) there

-- there are 256 registers for each thread
pub many_registers : (s : Space) (g : AbstractState) (t serial : ℕ) → MayOperate s g t serial → REGISTERS * t ≤ length s.registers.items
many_registers s g t serial may =
    let many = may.rests.safepoint.holds.as_many.0 in
    let within = may.thread.1 in
    omega (arith, many, within)

-- a register of the thread is one of the space
pub register_there : (t threads r n : ℕ) → 1 ≤ t → REGISTERS * t ≤ n → r < REGISTERS → register_index t r < n
register_there t threads r n some many small = omega (arith, some, many, small)

-- the place in a register is that of what the model's register holds
pub register_place : (s : Space) (g : AbstractState) (t serial r : ℕ) (p : Place) → MayOperate s g t serial → slice_get s.registers.items (register_index t r) ≡ Some p
    → p.0 ≡ place_word g.at (register_at g.moment.state t r)
register_place s g t serial r p may there = place_read g.at s.registers.items g.moment.state.registers (register_index t r) p may.rests.safepoint.holds.image.registers there

-- nil or a member
pub held_member : (g : AbstractState) (v : Option Name) → IsHeld g.moment v → IsNilOrMember g.moment v
held_member g None h = tt
held_member g (Some n) h = h

pub register_placed : (s : Space) (g : AbstractState) (t serial r : ℕ) (p : Place) → MayOperate s g t serial → slice_get s.registers.items (register_index t r) ≡ Some p
    → IsPlaceOf s g p (register_at g.moment.state t r)
register_placed s g t serial r p may there = record {
  rests = may.rests;
  member = held_member g (register_at g.moment.state t r) (in_register g.moment t r may.rests.safepoint.holds.follows);
  stands = register_place s g t serial r p may there;
}

-- ---- places

-- the object of a member, with what stands at its place
pub record Has (s : Space) (g : AbstractState) (p : Place) (v : Option Name) : Type 0 where
  pub name : Name
  pub object : Object
  pub is : v ≡ Some name
  pub member : IsTrue (has (members g.moment) name)
  pub there : object_at g.moment.state.graph name ≡ Some object
  pub stands : p.0 ≡ g.at name
  pub whole : Stands (tables_of s) s.limits.blocks g.at name object
  pub told : header_of ((tables_of s).heap (first_word p.0)) ≡ header.Object name (shape_of object)

pub has_object : (s : Space) (g : AbstractState) (p : Place) (v : Option Name) → IsPlaceOf s g p v → p.0 ≢ 0 → Has s g p v
has_object s g p None is some = absurd (some is.stands)
has_object s g p (Some n) is some =
    let image = is.rests.safepoint.holds.image.image in
    let a = image.stands n is.member in
    let stands : p.0 ≡ g.at n = is.stands in
    record {
      name = n;
      object = a.0;
      is = refl;
      member = is.member;
      there = a.1;
      stands = stands;
      whole = a.2;
      told = ap (λ z. header_of ((tables_of s).heap (first_word z))) stands ∙ told_there (tables_of s) s.limits.blocks g.at g.moment.state.graph (members g.moment) n a.0 image is.member a.1;
    }

-- no place, no name
pub none_there : (s : Space) (g : AbstractState) (p : Place) (v : Option Name) → IsPlaceOf s g p v → p.0 ≡ 0 → v ≡ None
none_there s g p None is e = refl
none_there s g p (Some n) is e =
    let some = (is.rests.safepoint.holds.image.image.stands n is.member).2.placed in
    let stands : p.0 ≡ g.at n = is.stands in
    absurd (omega (arith, some, stands, e))

-- what stands whole lies in the heap
in_heap : (p words refs values granules blocks : ℕ) → 1 ≤ p → 1 + refs + values ≤ words → words ≡ 2 * granules → p - 1 + granules ≤ GRANULES_IN_BLOCK * blocks
    → 2 * (p - 1) + 1 + refs + values ≤ WORDS_IN_BLOCK * blocks
in_heap p words refs values granules blocks some cover even within = omega (arith, some, cover, even, within)

-- words of an object are words of the heap
pub object_words : (s : Space) (g : AbstractState) (p : Place) (v : Option Name) (h : Has s g p v) → first_word p.0 + 1 + length h.object.refs + length h.object.values ≤ WORDS_IN_BLOCK * s.limits.blocks
object_words s g p v h =
    let o : Object = h.object in
    subst (λ z. first_word z + 1 + length o.refs + length o.values ≤ WORDS_IN_BLOCK * s.limits.blocks) (sym h.stands)
    (in_heap (g.at h.name) _ (length o.refs) (length o.values) _ s.limits.blocks h.whole.placed (words_cover o) (words_even o) h.whole.whole.in_heap)

-- a place is a small one
few_granules : (p granules blocks : ℕ) → 1 ≤ p → p - 1 + granules ≤ GRANULES_IN_BLOCK * blocks → 1 ≤ granules → blocks ≤ MOST_BLOCKS → p ≤ GRANULES_IN_BLOCK * MOST_BLOCKS
few_granules p granules blocks some within has few = omega (arith, some, within, has, few)

some_granules : (words refs values granules : ℕ) → 1 + refs + values ≤ words → words ≡ 2 * granules → 1 ≤ granules
some_granules words refs values granules cover even = omega (arith, cover, even)

pub is_place : (s : Space) (g : AbstractState) (p : Place) (v : Option Name) → IsAtRest s g → Has s g p v → IsPlace p
is_place s g p v rests h =
    let o : Object = h.object in
    let few = few_granules (g.at h.name) _ s.limits.blocks h.whole.placed h.whole.whole.in_heap (some_granules _ (length o.refs) (length o.values) _ (words_cover o) (words_even o)) rests.safepoint.holds.space.limits.blocks.1 in
    (subst (λ z. 1 ≤ z) (sym h.stands) h.whole.placed, subst (λ z. z ≤ GRANULES_IN_BLOCK * MOST_BLOCKS) (sym h.stands) few)

-- ---- what is told

-- an object's header at a place tells what stands there
pub told_stands : (s : Space) (g : AbstractState) (p : Place) (v : Option Name) (n : Name) (shape : Shape) → IsPlaceOf s g p v → p.0 ≢ 0 → header_of ((tables_of s).heap (first_word p.0)) ≡ header.Object n shape
    → StandsAt g p v n shape
told_stands s g p v n shape is some told =
    let h : Has s g p v = has_object s g p v is some in
    let e : header.Object n shape ≡ header.Object h.name (shape_of h.object) = sym told ∙ h.told in
    let name : h.name ≡ n = cc in
    let shaped : shape ≡ shape_of h.object = cc in
    record {
      object = h.object;
      is = h.is ∙ ap Some name;
      member = subst (λ z. IsTrue (has (members g.moment) z)) name h.member;
      there = subst (λ z. object_at g.moment.state.graph z ≡ Some h.object) name h.there;
      stands = h.stands ∙ ap g.at name;
      shaped = shaped;
    }

-- no header at a place tells that its object was moved
pub never_moved : (s : Space) (g : AbstractState) (p q : Place) (v : Option Name) → IsPlaceOf s g p v → p.0 ≢ 0 → header_of ((tables_of s).heap (first_word p.0)) ≡ header.Moved q → ⊥
never_moved s g p q v is some told =
    let h : Has s g p v = has_object s g p v is some in
    let e : header.Moved q ≡ header.Object h.name (shape_of h.object) = sym told ∙ h.told in
    absurd (cc)

-- so nothing is told of one
pub none_moved : (s : Space) (g : AbstractState) (p q : Place) (v : Option Name) → IsPlaceOf s g p v → p.0 ≢ 0 → header_of ((tables_of s).heap (first_word p.0)) ≡ header.Moved q → v ≡ None
none_moved s g p q v is some told = absurd (never_moved s g p q v is some told)

-- ---- blocks that are in use

-- the shape that 0 tells as a header
abbrev bare : Shape
bare = record { refs = 0; values = 0 }

-- how many data words a header tells
abbrev values_of : Header → ℕ
values_of (header.Object n s) = s.values
values_of (header.Moved q) = 0

no_fields : (refs values : ℕ) → 0 ≡ refs → 0 ≡ values → 1 ≤ refs + values → ⊥
no_fields refs values a b some = omega (arith, a, b, some)

-- so a header that tells a field isn't 0
fields_told : (word : ℕ) (n : Name) (shape : Shape) → header_of word ≡ header.Object n shape → 1 ≤ shape.refs + shape.values → word ≢ 0
fields_told word n shape told some none =
    let same : header_of 0 ≡ header.Object n shape = ap header_of (sym none) ∙ told in
    no_fields shape.refs shape.values (ap slots_of same) (ap values_of same) some

-- nor is that of an object that isn't the world: it tells a name
named_told : (s : Space) (g : AbstractState) (p : Place) (v : Option Name) → IsPlaceOf s g p v → Has s g p v → p.0 ≢ 1 → (tables_of s).heap (first_word p.0) ≢ 0
named_told s g p v is h other none =
    let e : header.Object world_name bare ≡ header.Object h.name (shape_of h.object) = ap header_of (sym none) ∙ h.told in
    let name : world_name ≡ h.name = cc in
    other (h.stands ∙ ap g.at (sym name) ∙ is.rests.safepoint.holds.image.world)

-- the words of an object lie in one block
one_block : (granule granules w : ℕ) → granule / GRANULES_IN_BLOCK ≡ (granule + granules - 1) / GRANULES_IN_BLOCK → 2 * granule ≤ w → w < 2 * (granule + granules) → 2 * granule / WORDS_IN_BLOCK ≡ w / WORDS_IN_BLOCK
one_block granule granules w same from below = omega (arith, same, from, below)

-- the block of a header is in use, but perhaps the world's
pub header_used : (s : Space) (g : AbstractState) (p : Place) (v : Option Name) → IsPlaceOf s g p v → p.0 ≢ 0 → p.0 ≢ 1 → IsInUsedBlock s (first_word p.0)
header_used s g p v is some other =
    let h : Has s g p v = has_object s g p v is some in
    let words = object_words s g p v h in
    record {
      other = first_word p.0;
      there = omega (arith, words);
      block = refl;
      some = named_told s g p v is h other;
    }

-- and so is that of a field
fields_used : (s : Space) (g : AbstractState) (p : Place) (v : Option Name) (h : Has s g p v) (shape : Shape) (w : ℕ) → shape_of h.object ≡ shape → first_word p.0 < w → w ≤ first_word p.0 + shape.refs + shape.values → IsInUsedBlock s w
fields_used s g p v h shape w shaped behind within =
    let o : Object = h.object in
    let words = object_words s g p v h in
    let cover = words_cover o in
    let even = words_even o in
    let refs : length o.refs ≡ shape.refs = ap (λ (z : Shape). z.refs) shaped in
    let values : length o.values ≡ shape.values = ap (λ (z : Shape). z.values) shaped in
    let same = subst (λ z. granule_of z / GRANULES_IN_BLOCK ≡ (granule_of z + word_count (shape_of o) / 2 - 1) / GRANULES_IN_BLOCK) (sym h.stands) h.whole.whole.in_block in
    record {
      other = first_word p.0;
      there = omega (arith, words);
      block = one_block (granule_of p.0) (word_count (shape_of o) / 2) w same (omega (arith, behind)) (omega (arith, within, cover, even, refs, values));
      some = fields_told _ h.name shape (h.told ∙ ap (header.Object h.name) shaped) (omega (arith, behind, within));
    }

-- an object lies inside the heap
pub stands_inside : (s : Space) (g : AbstractState) (v : Option Name) (n : Name) (base : Base) → IsPlaceOf s g base.place v → StandsAt g base.place v n base.shape → LiesInside s base
stands_inside s g v n base is at =
    let image = is.rests.safepoint.holds.image.image in
    let some = placed_there (tables_of s) s.limits.blocks g.at g.moment.state.graph (members g.moment) n image at.member in
    let h : Has s g base.place v = has_object s g base.place v is (λ e. some (sym at.stands ∙ e)) in
    let same_n : Some n ≡ Some h.name = sym at.is ∙ h.is in
    let name : h.name ≡ n = cc in
    let same_o : Some h.object ≡ Some at.object = sym h.there ∙ ap (object_at g.moment.state.graph) name ∙ at.there in
    let object : h.object ≡ at.object = cc in
    record {
      place = is_place s g base.place v is.rests h;
      words = subst (λ z. first_word base.place.0 + 1 + z.refs + z.values ≤ WORDS_IN_BLOCK * s.limits.blocks) (ap shape_of object ∙ sym at.shaped) (object_words s g base.place v h);
      used = λ w. fields_used s g base.place v h base.shape w (ap shape_of object ∙ sym at.shaped);
    }

-- what is told of a place is what is held there, with its shape
pub tells_named : (g : AbstractState) (place : Place) (v : Option Name) (found : Option (Name × Shape)) → Tells g place v found → found ≡ named_shape g.moment.state v
tells_named g place v None none = ap (named_shape g.moment.state) (sym none)
tells_named g place v (Some (n, shape)) at = ap (λ (z : Shape). Some (n, z)) (at.shaped ∙ ap shape_found (sym at.there)) ∙ ap (named_shape g.moment.state) (sym at.is)

-- a register is nil exactly where it holds no place
pub nil_place : (s : Space) (g : AbstractState) (p : Place) (v : Option Name) → IsPlaceOf s g p v → (p.0 ≡ 0) ↔ (v ≡ None)
nil_place s g p v is = (none_there s g p v is, λ none. is.stands ∙ ap (place_word g.at) none)

-- so the test says
pub nil_test : (p : ℕ) (v : Option Name) → (p ≡ 0) ↔ (v ≡ None) → IsTrue (nat_eq p 0) ↔ (v ≡ None)
nil_test p v same = elim (eqb_tells p 0) [
  | inl e ↦ (λ t. same.0 e.1, λ none. e.0)
  | inr e ↦ (λ t. let no : false ≡ true = sym e.0 ∙ t in absurd (cc), λ none. absurd (e.1 (same.1 none)))
]

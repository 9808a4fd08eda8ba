-- An object that was looked up stands in the heap, and is still known after what leaves its register and its header.
use Rattle.std.proofs.Common.{◌≡◌, ◌≢◌, ℕ, ◌<◌, sym, ap, subst, ◌∙◌, arith, inl, inr, true, false, [], cond, nat_eq}
use Rattle.std.proofs.lemmas.Bool.{ne_eqb}
use Rattle.std.specs.Prelude.{Some, None, option_map, slice_get, slice_set, unwrap_or, slice_index_or}
use Rattle.lxr_layout.specs.declared.TheConstants.{REGISTERS}
use Rattle.lxr_layout.specs.declared.Place.{Place}
use Rattle.lxr_layout.specs.declared.Header.TheVariants as header
use Rattle.lxr_layout.specs.Objects.{header_of}
use Rattle.lxr_layout.specs.Places.{first_word}
use Rattle.lxr_graph.specs.State.{State, object_at, refs_of, register_at, register_index, shape_of}
use Rattle.lxr_graph.proofs.RowLemmas.{slice_get-there}
use Rattle.lxr_image.specs.declared.space.Space.{Space}
use Rattle.lxr_image.specs.Image.{place_word}
use Rattle.lxr_image.specs.Tables.{Tables, changed}
use Rattle.lxr_image.specs.Spaces.{Turns, tables_of}
use Rattle.lxr_invariant.specs.AbstractState.{AbstractState}
use Rattle.lxr_core_invariant.proofs.ShowingLemmas.{set_elsewhere}
use Rattle.lxr_core_invariant.proofs.TellingLemmas.{placed_there}
use Rattle.lxr_direct.specs.declared.reading.Base.{Base}
use Rattle.lxr_direct.specs.declared.known.HeldObject.{HeldObject}
use Rattle.lxr_direct.specs.Known.{IsKnown, referred}
use Rattle.lxr_direct.specs.Operating.{IsBase, IsPlaceOf, LiesInside, MayOperate, StandsAt, with_places}
use Rattle.lxr_direct.specs.Recording.{Records}
use Rattle.lxr_direct.proofs.HeldLemmas.{has_object, many_registers, register_place, register_placed, register_there, stands_inside, told_stands}

-- ---- what is known

module _ (s : Space) (g : AbstractState) (t serial : ℕ) (may : MayOperate s g t serial) where
  abbrev st : State
  st = g.moment.state

  -- an object that is found by its register is known
  pub found_known : (register : ℕ) (base : Base) → register < REGISTERS → IsBase g t register (Some base) → IsKnown s t (record { register = register; base = base })
  found_known register base small (n, at) =
      let there = slice_get-there s.registers.items (register_index t register) (register_there t t register _ may.thread.0 (many_registers s g t serial may) small) in
      let number : there.0.0 ≡ base.place.0 = register_place s g t serial register there.0 may there.1 ∙ ap (place_word g.at) at.is ∙ sym at.stands in
      let place : there.0 ≡ base.place = λ i. record { 0 = number i } in
      let held : slice_get s.registers.items (register_index t register) ≡ Some base.place = there.1 ∙ ap Some place in
      let placed : IsPlaceOf s g base.place (register_at st t register) = register_placed s g t serial register base.place may held in
      let some = placed_there (tables_of s) s.limits.blocks g.at st.graph _ n may.rests.safepoint.holds.image.image at.member in
      let h = has_object s g base.place (register_at st t register) placed (λ e. some (sym at.stands ∙ e)) in
      let name : h.name ≡ n = (let same : Some n ≡ Some h.name = sym at.is ∙ h.is in cc) in
      let object : h.object ≡ at.object = (let same : Some h.object ≡ Some at.object = sym h.there ∙ ap (object_at st.graph) name ∙ at.there in cc) in
      record {
        register = small;
        held = held;
        some = λ e. some (sym at.stands ∙ e);
        name = h.name;
        header = h.told ∙ ap (header.Object h.name) (ap shape_of object ∙ sym at.shaped);
      }

  module _ (object : HeldObject) (known : IsKnown s t object) where
    abbrev register : ℕ
    register = object.register

    abbrev base : Base
    base = object.base

    placed : IsPlaceOf s g base.place (register_at st t register)
    placed = register_placed s g t serial register base.place may known.held

    -- it stands there
    pub known_stands : StandsAt g base.place (register_at st t register) known.name base.shape
    known_stands = told_stands s g base.place (register_at st t register) known.name base.shape placed known.some known.header

    -- and lies inside the heap
    pub known_inside : LiesInside s base
    known_inside = stands_inside s g (register_at st t register) known.name base placed known_stands

    -- what a reference of it refers to
    pub known_referred : (i : ℕ) → slice_index_or known_stands.object.refs i None ≡ referred st t register i
    known_referred i =
        let at = known_stands in
        sym (ap (λ v. slice_index_or (unwrap_or (option_map (λ n. refs_of (object_at st.graph n)) v) []) i None) at.is ∙ ap (λ f. slice_index_or (refs_of f) i None) at.there)

-- ---- what is still known

-- behind what leaves registers and the header
pub left_known : (s after : Space) (t : ℕ) (object : HeldObject) → after.registers.items ≡ s.registers.items → (tables_of after).heap (first_word object.base.place.0) ≡ (tables_of s).heap (first_word object.base.place.0)
    → IsKnown s t object → IsKnown after t object
left_known s after t object registers header known = record {
  register = known.register;
  held = ap (λ places. slice_get places (register_index t object.register)) registers ∙ known.held;
  some = known.some;
  name = known.name;
  header = ap header_of header ∙ known.header;
}

-- behind a write of another word
pub written_known : (s after : Space) (t w v : ℕ) (object : HeldObject) → first_word object.base.place.0 < w → Turns s after (record (tables_of s) { heap = changed (tables_of s).heap w v }) → IsKnown s t object → IsKnown after t object
written_known s after t w v object behind turns known =
    let first : ℕ = first_word object.base.place.0 in
    let other : nat_eq first w ≡ false = ne_eqb first w (λ e. omega (arith, behind, e)) in
    left_known s after t object (ap (λ (z : Space). z.registers.items) turns.rest)
    (ap (λ (z : Tables). z.heap first) turns.tables ∙ ap (λ b. cond b v ((tables_of s).heap first)) other) known

-- behind an entry of the log
pub recorded_known : (s mid : Space) (t i : ℕ) (object : HeldObject) → Records s mid object.base.place i true → IsKnown s t object → IsKnown mid t object
recorded_known s mid t i object (inl (clear, same)) known = subst (λ (z : Space). IsKnown z t object) (sym same) known
recorded_known s mid t i object (inr is) known =
    left_known s mid t object (ap (λ (z : Space). z.registers.items) is.rest) (ap (λ (z : Tables). z.heap (first_word object.base.place.0)) is.tables) known

-- behind a write of another register
pub placed_known : (s : Space) (t dest : ℕ) (p : Place) (object : HeldObject) → dest ≢ object.register → IsKnown s t object → IsKnown (with_places s (slice_set s.registers.items (register_index t dest) p)) t object
placed_known s t dest p object apart known = record {
  register = known.register;
  held = set_elsewhere s.registers.items (register_index t dest) (register_index t object.register) p (λ e. apart (omega (arith, e))) ∙ known.held;
  some = known.some;
  name = known.name;
  header = known.header;
}

-- A load or a store through a reference comes to three operations by way of a register that is nil before and after.
use Rattle.std.proofs.Common.{◌≡◌, ◌≢◌, ℕ, zero, suc, ◌<◌, refl, sym, ap, subst, ◌∙◌, arith, false, List, [], ◌∷◌, get_or}
use Rattle.std.specs.Prelude.{Option, Some, None, slice_get, slice_set}
use Rattle.lxr_layout.specs.declared.TheConstants.{REGISTERS}
use Rattle.lxr_layout.specs.declared.Header.TheVariants as header
use Rattle.lxr_layout.specs.declared.Name.{Name}
use Rattle.lxr_layout.specs.declared.Place.{Place}
use Rattle.lxr_layout.specs.declared.Shape.{Shape}
use Rattle.lxr_layout.specs.Objects.{header_of}
use Rattle.lxr_layout.specs.Places.{field_word, first_word, place_in}
use Rattle.lxr_layout.specs.Registers.{nil}
use Rattle.lxr_graph.specs.declared.Op.TheVariants as op
use Rattle.lxr_graph.specs.declared.Reply.TheVariants as reply
use Rattle.lxr_graph.specs.State.{object_at, register_index, shape_of}
use Rattle.lxr_image.specs.declared.space.Space.{Space}
use Rattle.lxr_image.specs.Spaces.{Turns, tables_of}
use Rattle.lxr_image.specs.Tables.{changed}
use Rattle.lxr_invariant.specs.AbstractState.{AbstractState}
use Rattle.lxr_core_invariant.proofs.ShowingLemmas.{set_elsewhere, set_here}
use Rattle.lxr_direct.specs.declared.reading.Base.{Base}
use Rattle.lxr_direct.specs.declared.known.HeldObject.{HeldObject}
use Rattle.lxr_direct.specs.Known.{IsKnown}
use Rattle.lxr_direct.specs.Operating.{IsPlaceOf, LiesInside, MayOperate, StandsAt, with_places}
use Rattle.lxr_direct.specs.Recording.{is_unlogged}
use Rattle.lxr_direct.specs.Through.{IsDoneThere, IsStoredThere, LoadsThrough, Refers, StoresThrough}
use Rattle.lxr_direct.proofs.FieldLemmas.{load_done, none_to_record, reference_placed, store_done_clear}
use Rattle.lxr_direct.proofs.HeldLemmas.{Has, has_object, stands_inside}
use Rattle.lxr_direct.proofs.KnownLemmas.{known_stands}
use Rattle.lxr_direct.proofs.NamedLemmas.{name_told, place_tells}
use Rattle.lxr_direct.proofs.RegisterLemmas.{nil_done}

-- ---- lists

-- an item that is set and set back
set_back : {A : Type 0} (xs : List A) (i : ℕ) (x v : A) → slice_get xs i ≡ Some v → slice_set (slice_set xs i x) i v ≡ xs
set_back [] i x v e = absurd (cc)
set_back (z ∷ xs) zero x v e = let same : v ≡ z = cc in ap (λ y. y ∷ xs) same
set_back (z ∷ xs) (suc i) x v e = ap (λ ys. z ∷ ys) (set_back xs i x v e)

-- so with another one set between
set_between : {A : Type 0} (xs : List A) (i j : ℕ) (x y v : A) → j ≢ i → slice_get xs i ≡ Some v → slice_set (slice_set (slice_set xs i x) j y) i v ≡ slice_set xs j y
set_between [] i j x y v other e = absurd (cc)
set_between (z ∷ xs) zero zero x y v other e = absurd (other refl)
set_between (z ∷ xs) zero (suc j) x y v other e = let same : v ≡ z = cc in ap (λ u. u ∷ slice_set xs j y) same
set_between (z ∷ xs) (suc i) zero x y v other e = ap (λ ys. y ∷ ys) (set_back xs i x v e)
set_between (z ∷ xs) (suc i) (suc j) x y v other e = ap (λ ys. z ∷ ys) (set_between xs i j x y v (λ same. other (ap suc same)) e)

-- ---- what a reference refers to

-- where an object stands its header tells its name and its shape
stands_told : (s : Space) (g : AbstractState) (p : Place) (v : Option Name) (n : Name) (shape : Shape) → IsPlaceOf s g p v → p.0 ≢ 0 → StandsAt g p v n shape
    → header_of ((tables_of s).heap (first_word p.0)) ≡ header.Object n shape
stands_told s g p v n shape is some at =
    let h : Has s g p v = has_object s g p v is some in
    let same : Some n ≡ Some h.name = sym at.is ∙ h.is in
    let name : h.name ≡ n = cc in
    let same_o : Some h.object ≡ Some at.object = sym h.there ∙ ap (object_at g.moment.state.graph) name ∙ at.there in
    let object : h.object ≡ at.object = cc in
    h.told ∙ ap (header.Object h.name) (ap shape_of object ∙ sym at.shaped) ∙ ap (λ z. header.Object z shape) name

-- the place in a reference
abbrev pub place_through : Space → HeldObject → ℕ → Place
place_through s object i = place_in ((tables_of s).heap (field_word object.base.place.0 i))

module _ (s : Space) (g : AbstractState) (t serial : ℕ) (may : MayOperate s g t serial) (object : HeldObject) (known : IsKnown s t object) (i : ℕ) (within : i < object.base.shape.refs) where
  -- what it refers to
  abbrev pub value_through : Option Name
  value_through = get_or (known_stands s g t serial may object known).object.refs i None

  pub through_placed : (p : Place) → p ≡ place_through s object i → IsPlaceOf s g p value_through
  through_placed p is =
      subst (λ z. IsPlaceOf s g z value_through) (sym is) (reference_placed s g t serial may object.register object.base known.name (known_stands s g t serial may object known) i within)

  module _ (part : Base) (is : part.place ≡ place_through s object i) (some : part.place.0 ≢ 0) (n : Name) (at : StandsAt g part.place value_through n part.shape) where
    pub through_refers : Refers s object i part
    through_refers = record {
      index = within;
      place = is;
      some = some;
      name = n;
      header = stands_told s g part.place value_through n part.shape (through_placed part.place is) some at;
    }

    pub through_inside : LiesInside s part
    through_inside = stands_inside s g value_through n part (through_placed part.place is) at

-- it has one shape
pub same_shape : (s : Space) (object : HeldObject) (i : ℕ) (one two : Base) → Refers s object i one → Refers s object i two → one.shape ≡ two.shape
same_shape s object i one two a b =
    let place : one.place ≡ two.place = a.place ∙ sym b.place in
    let told : header.Object a.name one.shape ≡ header.Object b.name two.shape = sym a.header ∙ ap (λ (p : Place). header_of ((tables_of s).heap (first_word p.0))) place ∙ b.header in
    cc

-- ---- operations

-- a reference of an object that is known is loaded
load_there : (s : Space) (t dest i : ℕ) (object : HeldObject) → IsKnown s t object → dest < REGISTERS → i < object.base.shape.refs
    → IsDoneThere s (with_places s (slice_set s.registers.items (register_index t dest) (place_through s object i))) t (op.Load dest object.register i) (reply.Loaded (name_told s (place_through s object i)))
load_there s t dest i object known small within g serial may =
    let at = known_stands s g t serial may object known in
    load_done s g t serial may object.register object.base known.name at dest i (name_told s (place_through s object i)) (small, known.register) within
    (place_tells s g (place_through s object i) (get_or at.object.refs i None) (reference_placed s g t serial may object.register object.base known.name at i within))

module _ (s : Space) (t own i : ℕ) (object : HeldObject) (part : Base) (known : IsKnown s t object) (refers : Refers s object i part) (small : own < REGISTERS)
    (free : slice_get s.registers.items (register_index t own) ≡ Some nil) where
  -- a register holds it
  abbrev entered : Space
  entered = with_places s (slice_set s.registers.items (register_index t own) part.place)

  abbrev held_part : HeldObject
  held_part = record { register = own; base = part }

  entered_known : IsKnown entered t held_part
  entered_known = record {
    register = small;
    held = set_here s.registers.items (register_index t own) part.place nil free;
    some = refers.some;
    name = refers.name;
    header = refers.header;
  }

  enters_there : IsDoneThere s entered t (op.Load own object.register i) (reply.Loaded (name_told s (place_through s object i)))
  enters_there =
      subst (λ p. IsDoneThere s (with_places s (slice_set s.registers.items (register_index t own) p)) t (op.Load own object.register i) (reply.Loaded (name_told s (place_through s object i)))) (sym refers.place)
      (load_there s t own i object known small refers.index)

  -- a load through it
  module _ (dest j : ℕ) (fits : dest < REGISTERS) (apart : dest ≢ own) (within : j < part.shape.refs) where
    abbrev found : Place
    found = place_in ((tables_of s).heap (field_word part.place.0 j))

    abbrev loaded : Space
    loaded = with_places entered (slice_set entered.registers.items (register_index t dest) found)

    loads_back : with_places loaded (slice_set loaded.registers.items (register_index t own) nil) ≡ with_places s (slice_set s.registers.items (register_index t dest) found)
    loads_back = ap (with_places s) (set_between s.registers.items (register_index t own) (register_index t dest) part.place found nil (λ e. apart (omega (arith, e))) free)

    pub loads_through : (after : Space) → after ≡ with_places s (slice_set s.registers.items (register_index t dest) found) → LoadsThrough s after t dest object.register i j own
    loads_through after is = record {
      entered = entered;
      loaded = loaded;
      part = name_told s (place_through s object i);
      element = name_told entered (place_through entered held_part j);
      keeps = (refl, refl);
      enters = enters_there;
      loads = load_there entered t dest j held_part entered_known fits within;
      leaves = subst (λ z. IsDoneThere loaded z t (op.Nil own) reply.Cleared) (loads_back ∙ sym is) (λ g serial may. nil_done loaded g t serial own may small);
    }

  -- a store through it
  module _ (source j : ℕ) (v : Place) (fits : source < REGISTERS) (apart : source ≢ own) (within : j < part.shape.refs) (there : slice_get s.registers.items (register_index t source) ≡ Some v)
      (clear : is_unlogged s part.place j ≡ false) (after : Space) (turns : Turns s after (record (tables_of s) { heap = changed (tables_of s).heap (field_word part.place.0 j) v.0 })) where
    abbrev stored : Space
    stored = record entered { words = after.words }

    turns_entered : Turns entered stored (record (tables_of entered) { heap = changed (tables_of entered).heap (field_word part.place.0 j) v.0 })
    turns_entered = record { tables = ap tables_of (sym turns.rest) ∙ turns.tables; rest = refl }

    there_entered : slice_get entered.registers.items (register_index t source) ≡ Some v
    there_entered = set_elsewhere s.registers.items (register_index t own) (register_index t source) part.place (λ e. apart (omega (arith, e))) ∙ there

    stores_there : IsStoredThere entered stored t own j source
    stores_there g serial may =
        let at = known_stands entered g t serial may held_part entered_known in (
          store_done_clear entered g t serial may own part entered_known.name at j source v (small, fits) within there_entered stored clear turns_entered,
          λ no. no,
          λ full. none_to_record entered g t serial may own part entered_known.name at j within clear full.0,
        )

    stores_back : with_places stored (slice_set stored.registers.items (register_index t own) nil) ≡ after
    stores_back = ap (with_places (record s { words = after.words })) (set_back s.registers.items (register_index t own) part.place nil free) ∙ sym turns.rest

    pub stores_through : StoresThrough s after t object.register i j source own
    stores_through = record {
      entered = entered;
      stored = stored;
      part = name_told s (place_through s object i);
      keeps = (refl, refl);
      enters = enters_there;
      stores = stores_there;
      leaves = subst (λ z. IsDoneThere stored z t (op.Nil own) reply.Cleared) stores_back (λ g serial may. nil_done stored g t serial own may small);
    }

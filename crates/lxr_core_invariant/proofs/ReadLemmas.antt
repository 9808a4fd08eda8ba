-- What a mutator reads of the object that its base register holds is what the model's object has there.
use Rattle.std.proofs.Common.{◌≡◌, ℕ, ◌+◌, ◌^◌, ◌%◌, ◌<◌, ap, ◌∙◌, arith, get_or}
use Rattle.std.specs.Prelude.{Option, None}
use Rattle.std.proofs.lemmas.Option.{slice_get-get_or}
use Rattle.lxr_layout.specs.declared.Name.{Name}
use Rattle.lxr_layout.specs.Places.{field_word, first_word, place_in}
use Rattle.lxr_graph.specs.declared.Op.{Op}
use Rattle.lxr_graph.specs.State.{Object}
use Rattle.lxr_image.specs.Tables.{Tables}
use Rattle.lxr_image.specs.Image.{place_word}
use Rattle.lxr_image.proofs.ImageLemmas.{member_stands}
use Rattle.lxr_model.specs.Moments.{Moment}
use Rattle.lxr_invariant.specs.AbstractState.{members}
use Rattle.lxr_core_invariant.specs.ThreadStates.{ThreadState}
use Rattle.lxr_core_invariant.specs.Events.{value_word}
use Rattle.lxr_core_invariant.proofs.HeldLemmas.{reference_held}
use Rattle.lxr_core_invariant.proofs.TellingLemmas.{small_place}
use Rattle.lxr_core_invariant.proofs.ActingLemmas.{Acts, IsReferenceBase, IsValueBase}

-- a small word is its low half
small_remainder : (w p : ℕ) → w ≡ p → p < 2 ^ 32 → w % 2 ^ 32 ≡ p
small_remainder w p e small = omega arith

-- the word of a reference is the place of what the model's object holds there
pub reference_read : (t : Tables) (blocks : ℕ) (at : Name → ℕ) (m : Moment) (v : ThreadState) (o : Op) (place index : ℕ) → Acts t blocks at m v → (base : IsReferenceBase at m v o place index)
    → (place_in (t.heap (field_word place index))).0 ≡ place_word at (get_or base.of.object.refs index None)
reference_read t blocks at m v o place index known base =
    let of = base.of in
    let x : Object = of.object in
    let found : Option Name = get_or x.refs index None in
    let there = slice_get-get_or x.refs index None base.within in
    let st = member_stands t blocks at m.state.graph (members m) of.name x known.image of.member of.is in
    let word : t.heap (field_word place index) ≡ place_word at found = ap (λ z. t.heap (first_word z + 1 + index)) of.stands ∙ st.refs index found there in
    let small = small_place t blocks at m found known.image known.few (reference_held m of.name x index found known.follows of.member of.is there) in
    small_remainder (t.heap (field_word place index)) (place_word at found) word small

-- the word of a data word is the model's
pub value_read : (t : Tables) (blocks : ℕ) (at : Name → ℕ) (m : Moment) (v : ThreadState) (o : Op) (place refs index : ℕ) → Acts t blocks at m v → (base : IsValueBase at m v o place refs index)
    → t.heap (value_word place refs index) ≡ get_or base.of.object.values index 0
value_read t blocks at m v o place refs index known base =
    let of = base.of in
    let x : Object = of.object in
    let st = member_stands t blocks at m.state.graph (members m) of.name x known.image of.member of.is in
    ap (λ z. t.heap (first_word z + 1 + refs + index)) of.stands ∙ ap (λ z. t.heap (first_word (at of.name) + 1 + z + index)) base.refs_are
    ∙ st.values index (get_or x.values index 0) (slice_get-get_or x.values index 0 base.within)

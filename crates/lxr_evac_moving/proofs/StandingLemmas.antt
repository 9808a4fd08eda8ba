-- What is read at a stage: what is held is unreclaimed, a header tells whether an object stands there or stood there, and a reference holds either
-- place.
use Rattle.std.proofs.Common.{◌≡◌, ℕ, ◌+◌, ◌*◌, ◌^◌, ◌<◌, refl, sym, ap, subst, ◌∙◌, inl, inr, arith, length}
use Rattle.std.specs.Prelude.{None, Option, Some, IsTrue, slice_get, slice_index_or}
use Rattle.std.proofs.lemmas.Option.{slice_get-get_or}
use Rattle.lxr_layout.specs.declared.Header.TheVariants.{Moved, Object as AnObject}
use Rattle.lxr_layout.specs.declared.Name.{Name}
use Rattle.lxr_layout.specs.declared.TheConstants.{WORDS_IN_BLOCK}
use Rattle.lxr_layout.specs.Objects.{header_of}
use Rattle.lxr_layout.specs.Places.{first_word}
use Rattle.lxr_graph.specs.Names.{has}
use Rattle.lxr_graph.specs.State.{Object, State, object_at, refs_of, shape_of}
use Rattle.lxr_image.specs.declared.space.Space.{Space}
use Rattle.lxr_image.specs.Spaces.{tables_of}
use Rattle.lxr_image.proofs.ReadLemmas.{header_unpacked}
use Rattle.lxr_model.specs.Moments.{Moment}
use Rattle.lxr_model.specs.Reachable.{Holds}
use Rattle.lxr_model_counting.specs.Following.{IsLive}
use Rattle.lxr_invariant.specs.Standing.{place_of, word_of_field}
use Rattle.lxr_invariant.proofs.NameLemmas.{in_either, live_member, no_member}
use Rattle.lxr_pause_promote.specs.Either.{HoldsEither, IsPlaceOf}
use Rattle.lxr_pause_promote.proofs.EitherLemmas.{moved_unpacked}
use Rattle.lxr_evac_moving.specs.Stages.{EvacuationStage, HasMoved, IsEvacuating}
use Rattle.lxr_evac_moving.proofs.StageLemmas.{place_some, place_within, stands}

module _ (s : Space) (m : Moment) (st : EvacuationStage) (is : IsEvacuating s m st) where
  -- ---- names

  -- nothing was made, so what is live is unreclaimed
  pub live_unreclaimed : (n : Name) → IsLive m n → IsTrue (has m.unreclaimed n)
  live_unreclaimed n live = elim (in_either m.unreclaimed m.made n (live_member m n is.can.holds.follows live)) [
    | inl h ↦ h
    | inr h ↦ no_member n (subst (λ ms. IsTrue (has ms n)) is.can.settled.none_made h)
  ]

  -- what registers hold is unreclaimed
  pub held_unreclaimed : (n : Name) → Holds m.state n → IsTrue (has m.unreclaimed n)
  held_unreclaimed n held = live_unreclaimed n (is.can.holds.follows.held n held)

  -- and what an unreclaimed object refers to
  pub referred_unreclaimed : (u n : Name) (i : ℕ) → IsTrue (has m.unreclaimed u) → slice_get (refs_of (object_at m.state.graph u)) i ≡ Some (Some n) → IsTrue (has m.unreclaimed n)
  referred_unreclaimed u n i member refers =
      is.can.holds.follows.closed u n member (i, subst (λ (z : State). slice_get (refs_of (object_at z.graph u)) i ≡ Some (Some n)) (sym is.can.settled.same) refers)

  -- ---- headers

  -- a place is a number of 32 bits
  pub place_small : (n : Name) (p : ℕ) → IsTrue (has m.unreclaimed n) → IsPlaceOf st.at st.now n p → p < 2 ^ 32
  place_small n p member place = let h = (place_some s m st is n p member place).1 in omega (arith, h)

  -- an object's header tells it where it stands
  pub header_now : (n : Name) (o : Object) → IsTrue (has m.unreclaimed n) → object_at m.state.graph n ≡ Some o → header_of ((tables_of s).heap (first_word (st.now n))) ≡ AnObject n (shape_of o)
  header_now n o member has_o = let x = stands s m st is n o member has_o in ap header_of x.whole.header ∙ header_unpacked n (shape_of o) x.whole.name x.whole.shape

  -- and where it stood, if it has moved, its place
  pub header_left : (n : Name) → HasMoved st n → header_of ((tables_of s).heap (first_word (st.at n))) ≡ Moved (place_of st.now n)
  header_left n moved =
      ap header_of (is.heap.left_behind n moved) ∙ moved_unpacked (st.now n) (place_small n (st.now n) (is.apart.moved n moved).0 (inr refl))

  -- ---- references

  -- a reference holds either place of what it is to hold
  pub field_holds : (n : Name) (i : ℕ) → IsTrue (has m.unreclaimed n) → i < length (refs_of (object_at m.state.graph n))
      → HoldsEither st.at st.now ((tables_of s).heap (word_of_field st.now n i)) (slice_index_or (refs_of (object_at m.state.graph n)) i None)
  field_holds n i member within =
      let x = is.heap.stands n member in
      let r : Option Name = slice_index_or (refs_of (object_at m.state.graph n)) i None in
      let got : slice_get (refs_of (object_at m.state.graph n)) i ≡ Some r = slice_get-get_or (refs_of (object_at m.state.graph n)) i None within in
      x.2.refs i r (ap (λ z. slice_get (refs_of z) i) (sym x.1) ∙ got)

  -- its word lies in the heap
  pub field_within : (n : Name) (i p : ℕ) → IsTrue (has m.unreclaimed n) → i < length (refs_of (object_at m.state.graph n)) → IsPlaceOf st.at st.now n p → first_word p + 1 + i < WORDS_IN_BLOCK * s.limits.blocks
  field_within n i p member within place =
      let x = is.heap.stands n member in
      let h = place_within s m st is n x.0 p member x.1 place in
      let first = h.0 in
      let end = h.1 in
      let size : length (refs_of (object_at m.state.graph n)) ≡ length x.0.refs = ap (λ z. length (refs_of z)) x.1 in
      omega (arith, first, end, size, within)

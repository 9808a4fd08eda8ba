-- A word holds either place of what is held; the header there tells where that stands now.
use Rattle.std.proofs.Common.{◌≡◌, ◌≢◌, ℕ, ◌*◌, ◌^◌, ◌<◌, ◌≤◌, refl, sym, ap, ◌∙◌, inl, inr, ◌⊎◌, arith, length}
use Rattle.std.specs.Prelude.{None, Option, Some, IsTrue, slice_index_or}
use Rattle.std.proofs.lemmas.Option.{slice_get-get_or}
use Rattle.lxr_layout.specs.declared.Header.TheVariants.{Moved, Object as AnObject}
use Rattle.lxr_layout.specs.declared.Name.{Name}
use Rattle.lxr_layout.specs.declared.Place.{Place}
use Rattle.lxr_layout.specs.declared.Shape.{Shape}
use Rattle.lxr_layout.specs.declared.TheConstants.{MOST_GRANULES, WORDS_IN_BLOCK}
use Rattle.lxr_layout.specs.Objects.{header_of}
use Rattle.lxr_layout.specs.Places.{first_word}
use Rattle.lxr_graph.specs.Names.{has}
use Rattle.lxr_graph.specs.State.{object_at, refs_of, shape_of}
use Rattle.lxr_image.specs.declared.space.Space.{Space}
use Rattle.lxr_image.specs.Reads.{slots_of}
use Rattle.lxr_image.specs.Spaces.{tables_of}
use Rattle.lxr_image.specs.Image.{place_word}
use Rattle.lxr_model.specs.Moments.{Moment}
use Rattle.lxr_invariant.specs.Standing.{place_of}
use Rattle.lxr_pause_promote.specs.Either.{HoldsEither, IsPlaceOf}
use Rattle.lxr_evac_moving.specs.Stages.{EvacuationStage, IsEvacuating}
use Rattle.lxr_evac_moving.specs.Steps.{HoldsMember, IsHolder}
use Rattle.lxr_evac_moving.proofs.StageLemmas.{moved_or_still, place_some}
use Rattle.lxr_evac_moving.proofs.StandingLemmas.{header_left, header_now, place_small, referred_unreclaimed}

-- a word that holds either place of an object is one of the two
pub either_of : (at now : Name → ℕ) (w : ℕ) (n : Name) → HoldsEither at now w (Some n) → IsPlaceOf at now n w
either_of at now w n (inl e) = inr e
either_of at now w n (inr e) = inl e

pub either_held : (at now : Name → ℕ) (w : ℕ) (n : Name) → IsPlaceOf at now n w → HoldsEither at now w (Some n)
either_held at now w n (inl e) = inr e
either_held at now w n (inr e) = inl e

-- one that holds either place of nothing is nil
pub either_none : (at now : Name → ℕ) (w : ℕ) → HoldsEither at now w None → w ≡ 0
either_none at now w (inl e) = e
either_none at now w (inr e) = e

module _ (s : Space) (m : Moment) (st : EvacuationStage) (is : IsEvacuating s m st) where
  -- what a word holds that isn't nil
  held_some : (w : ℕ) (held : Option Name) → w ≢ 0 → HoldsMember m st w held → (n : Name) × (held ≡ Some n) × IsTrue (has m.unreclaimed n) × IsPlaceOf st.at st.now n w
  held_some w None some holds = absurd (some (either_none st.at st.now w holds.either))
  held_some w (Some n) some holds = (n, refl, holds.member n refl, either_of st.at st.now w n holds.either)

  -- a word that holds something is a place of the heap
  pub held_place : (w : ℕ) (held : Option Name) → w ≢ 0 → HoldsMember m st w held → (1 ≤ w) × (w ≤ MOST_GRANULES) × (first_word w < WORDS_IN_BLOCK * s.limits.blocks)
  held_place w held some holds = let x = held_some w held some holds in let h = place_some s m st is x.0 w x.2 x.3 in (h.0, h.1, h.3)

  pub held_small : (w : ℕ) (held : Option Name) → HoldsMember m st w held → w < 2 ^ 32
  held_small w None holds = let e = either_none st.at st.now w holds.either in omega (arith, e)
  held_small w (Some n) holds = place_small s m st is n w (holds.member n refl) (either_of st.at st.now w n holds.either)

  -- nil stays nil
  pub nil_followed : (w : ℕ) (held : Option Name) → w ≡ 0 → HoldsMember m st w held → w ≡ place_word st.now held
  nil_followed w None nil holds = nil
  nil_followed w (Some n) nil holds =
      let h = (place_some s m st is n w (holds.member n refl) (either_of st.at st.now w n holds.either)).0 in
      absurd (omega (arith, h, nil))

  -- what the header tells at either place of an object
  header_tells : (n : Name) (w : ℕ) → IsTrue (has m.unreclaimed n) → IsPlaceOf st.at st.now n w
      → ((w ≡ st.now n) × ((shape : Shape) × (header_of ((tables_of s).heap (first_word w)) ≡ AnObject n shape))) ⊎ (header_of ((tables_of s).heap (first_word w)) ≡ Moved (place_of st.now n))
  header_tells n w member place = elim place [
    | inr now ↦ inl (now, here now)
    | inl old ↦ elim (moved_or_still st n) [
      | inl moved ↦ inr (ap (λ z. header_of ((tables_of s).heap (first_word z))) old ∙ header_left s m st is n moved)
      | inr still ↦ let now : w ≡ st.now n = old ∙ sym still in inl (now, here now)
    ]
  ]
    where
      here : w ≡ st.now n → (shape : Shape) × (header_of ((tables_of s).heap (first_word w)) ≡ AnObject n shape)
      here now = let x = is.heap.stands n member in (shape_of x.0, ap (λ z. header_of ((tables_of s).heap (first_word z))) now ∙ header_now s m st is n x.0 member x.1)

  -- where the header tells a place, what is held stands there now
  pub moved_followed : (w : ℕ) (q : Place) (held : Option Name) → w ≢ 0 → header_of ((tables_of s).heap (first_word w)) ≡ Moved q → HoldsMember m st w held → q.0 ≡ place_word st.now held
  moved_followed w q held some told holds =
      let x = held_some w held some holds in
      elim (header_tells x.0 w x.2 x.3) [
        | inl here ↦ absurd (let e : AnObject x.0 here.1.0 ≡ Moved q = sym here.1.1 ∙ told in cc)
        | inr left ↦
            let e : Moved (place_of st.now x.0) ≡ Moved q = sym left ∙ told in
            let same : place_of st.now x.0 ≡ q = cc in
            sym (ap (λ z. z.0) same) ∙ ap (place_word st.now) (sym x.1)
      ]

  -- where it tells an object, that stands here
  pub object_followed : (w : ℕ) (u : Name) (shape : Shape) (held : Option Name) → w ≢ 0 → header_of ((tables_of s).heap (first_word w)) ≡ AnObject u shape → HoldsMember m st w held → w ≡ place_word st.now held
  object_followed w u shape held some told holds =
      let x = held_some w held some holds in
      elim (header_tells x.0 w x.2 x.3) [
        | inl here ↦ here.0 ∙ ap (place_word st.now) (sym x.1)
        | inr left ↦ absurd (let e : Moved (place_of st.now x.0) ≡ AnObject u shape = sym left ∙ told in cc)
      ]

  -- ---- holders

  -- where a holder stands
  pub holder_place : (n : Name) (p : ℕ) → IsHolder m st n p → (1 ≤ p) × (p ≤ MOST_GRANULES) × (first_word p < WORDS_IN_BLOCK * s.limits.blocks)
  holder_place n p holder = let h = place_some s m st is n p holder.member (inr holder.stands) in (h.0, h.1, h.3)

  -- its header tells how many references it has
  pub holder_slots : (n : Name) (p : ℕ) → IsHolder m st n p → slots_of (header_of ((tables_of s).heap (first_word p))) ≡ length (refs_of (object_at m.state.graph n))
  holder_slots n p holder =
      let x = is.heap.stands n holder.member in
      ap slots_of (ap (λ z. header_of ((tables_of s).heap (first_word z))) holder.stands ∙ header_now s m st is n x.0 holder.member x.1) ∙ sym (ap (λ z. length (refs_of z)) x.1)

  -- what a reference of it holds is an unreclaimed object, or nil
  pub field_member : (n : Name) (i w : ℕ) → IsTrue (has m.unreclaimed n) → i < length (refs_of (object_at m.state.graph n))
      → HoldsEither st.at st.now w (slice_index_or (refs_of (object_at m.state.graph n)) i None) → HoldsMember m st w (slice_index_or (refs_of (object_at m.state.graph n)) i None)
  field_member n i w member within holds = record {
    either = holds;
    member = λ v e. referred_unreclaimed s m st is n v i member (slice_get-get_or (refs_of (object_at m.state.graph n)) i None within ∙ ap Some e);
  }

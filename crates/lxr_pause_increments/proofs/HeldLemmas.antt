-- Words and registers that are raised: what they hold, and what is known of it at the next stage.
use Rattle.std.proofs.Common.{◌≡◌, ◌≢◌, ℕ, ◌+◌, ◌*◌, ◌<◌, ◌≤◌, refl, sym, ap, subst, ◌∙◌, inl, inr, arith, true, false, cond, [], ◌∷◌, ◌++◌, length}
use Rattle.std.specs.Prelude.{Option, None, Some, IsTrue, slice_get, slice_index_or}
use Rattle.std.proofs.lemmas.Bool.{or_cases, or_left, or_right}
use Rattle.std.proofs.lemmas.Option.{slice_get-get_or}
use Rattle.lxr_layout.specs.declared.Name.{Name}
use Rattle.lxr_layout.specs.declared.Place.{Place}
use Rattle.lxr_layout.specs.declared.TheConstants.{MOST_GRANULES, WORDS_IN_BLOCK}
use Rattle.lxr_layout.specs.declared.Header.TheVariants.{Object}
use Rattle.lxr_layout.specs.Objects.{header_of}
use Rattle.lxr_layout.specs.Places.{IsPlace, field_word, first_word}
use Rattle.lxr_graph.specs.Names.{has, same_name}
use Rattle.lxr_graph.specs.State as state
use Rattle.lxr_graph.specs.State.{refs_of, shape_of}
use Rattle.lxr_graph.proofs.NameSets.{has-union, not_both, same_names}
use Rattle.lxr_image.specs.declared.space.Space.{Space}
use Rattle.lxr_image.specs.Spaces.{tables_of}
use Rattle.lxr_image.specs.Image.{place_word}
use Rattle.lxr_image.specs.ImageLaws.{placed}
use Rattle.lxr_image.proofs.ReadLemmas.{header_unpacked}
use Rattle.lxr_model.specs.Moments.{Moment}
use Rattle.lxr_model_counting.specs.Following.{FollowsPause}
use Rattle.lxr_model_counting.proofs.DistinctLemmas.{later_has, or_false, tested}
use Rattle.lxr_model_counting.proofs.RaisingLemmas.{growth_made}
use Rattle.lxr_invariant.specs.AbstractState.{members}
use Rattle.lxr_invariant.specs.Raised.{with_promoted}
use Rattle.lxr_invariant.specs.Standing.{word_of_field}
use Rattle.lxr_invariant.proofs.NameLemmas.{has_more, live_member}
use Rattle.lxr_pause_promote.specs.Either.{HoldsEither, IsPlaceOf}
use Rattle.lxr_pause_increments.specs.Accounted.{GoesOn, HeldMayBeRaised, IsHolder, IsKnown, references_at, stage_with_held}
use Rattle.lxr_pause_increments.specs.Increments.{IncrementStage, IsIncrementing, MayBeRaised, is_unpromoted, stage_with}
use Rattle.lxr_pause_increments.specs.Steps.{RaisesHeld}
use Rattle.lxr_pause_increments.proofs.MovingLemmas.{place_some}
use Rattle.lxr_pause_increments.proofs.RememberedLemmas.{stays_both, stays_none}
use Rattle.lxr_pause_increments.proofs.StageLemmas.{known_promoted}

-- ---- objects whose references are raised

pub holder_member : (s : Space) (m : Moment) (at : Name → ℕ) (st : IncrementStage) (u : Name) (p : ℕ) → IsIncrementing s m at st → IsHolder m st u p → IsTrue (has (members m) u)
holder_member s m at st u p incrementing holder = live_member m u incrementing.follows holder.live

-- it is known
pub holder_known : (m : Moment) (st : IncrementStage) (u : Name) (p : ℕ) → IsHolder m st u p → IsTrue (has (with_promoted m st.promoted) u)
holder_known m st u p holder = has-union st.promoted m.unreclaimed u ∙ elim holder.known [
  | inl k ↦ or_right (has st.promoted u) (has m.unreclaimed u) k
  | inr k ↦ or_left (has st.promoted u) (has m.unreclaimed u) k
]

-- a promoted object is one of them
pub promoted_holder : (s : Space) (m : Moment) (at : Name → ℕ) (st : IncrementStage) (u : Name) (p : ℕ) → IsIncrementing s m at st → IsTrue (has st.promoted u) → p ≡ st.now u → IsHolder m st u p
promoted_holder s m at st u p incrementing promoted stands = record {
  live = inr (growth_made m.state m.unreclaimed m.made st.promoted incrementing.growth u promoted);
  known = inr promoted;
  stands = stands;
}

-- ---- an object's words

-- a member's place is one of the heap
pub member_place : (s : Space) (m : Moment) (at : Name → ℕ) (st : IncrementStage) (n : Name) (p : ℕ) → IsIncrementing s m at st → IsTrue (has (members m) n) → IsPlaceOf at st.now n p
    → (1 ≤ p) × (p ≤ MOST_GRANULES) × (2 * p ≤ WORDS_IN_BLOCK * s.limits.blocks)
member_place s m at st n p incrementing member place =
    let h = place_some s st.found m at st.now st.promoted incrementing.moving n p member place in
    let some = h.0 in
    let below = h.1 in
    let blocks = incrementing.space.limits.blocks.1 in
    (some, omega (arith, some, below, blocks), omega (arith, some, below))

pub holder_place : (s : Space) (m : Moment) (at : Name → ℕ) (st : IncrementStage) (u : Name) (p : Place) → IsIncrementing s m at st → IsHolder m st u p.0 → IsPlace p × (first_word p.0 < WORDS_IN_BLOCK * s.limits.blocks)
holder_place s m at st u p incrementing holder =
    let a = member_place s m at st u p.0 incrementing (holder_member s m at st u p.0 incrementing holder) (inr holder.stands) in
    ((a.0, a.1), omega (arith, a.0, a.2))

-- what the header of such an object says
pub holder_header : (s : Space) (m : Moment) (at : Name → ℕ) (st : IncrementStage) (u : Name) (p : Place) → IsIncrementing s m at st → IsHolder m st u p.0
    → (o : state.Object) × (header_of ((tables_of s).heap (first_word p.0)) ≡ Object u (shape_of o)) × (length o.refs ≡ length (references_at m u))
holder_header s m at st u p incrementing holder =
    let a = incrementing.moving.stands u (holder_member s m at st u p.0 incrementing holder) in
    let whole = a.2.whole in (
      a.0,
      ap (λ x. header_of ((tables_of s).heap (first_word x))) holder.stands ∙ ap header_of whole.header ∙ header_unpacked u (shape_of a.0) whole.name whole.shape,
      sym (ap (λ x. length (refs_of x)) a.1),
    )

-- the words of its references lie in the heap
pub field_place : (s : Space) (m : Moment) (at : Name → ℕ) (st : IncrementStage) (u : Name) (p : Place) (i : ℕ) → IsIncrementing s m at st → IsHolder m st u p.0 → i < length (references_at m u)
    → first_word p.0 + 1 + i < WORDS_IN_BLOCK * s.limits.blocks
field_place s m at st u p i incrementing holder within =
    let a = incrementing.moving.stands u (holder_member s m at st u p.0 incrementing holder) in
    let placed = a.2.placed in
    let fits = a.2.whole.in_heap in
    let e = holder.stands in
    let n : length (references_at m u) ≡ length a.0.refs = ap (λ x. length (refs_of x)) a.1 in
    omega (arith, placed, fits, e, n, within)

-- a reference of it holds either place of what it is to hold
pub field_holds : (s : Space) (m : Moment) (at : Name → ℕ) (st : IncrementStage) (u : Name) (i : ℕ) → IsIncrementing s m at st → IsTrue (has (members m) u) → i < length (references_at m u)
    → HoldsEither at st.now ((tables_of s).heap (word_of_field st.now u i)) (slice_index_or (references_at m u) i None)
field_holds s m at st u i incrementing member within =
    let a = incrementing.moving.stands u member in
    let got : slice_get (references_at m u) i ≡ Some (slice_index_or (references_at m u) i None) = slice_get-get_or (references_at m u) i None within in
    a.2.refs i (slice_index_or (references_at m u) i None) (ap (λ x. slice_get (refs_of x) i) (sym a.1) ∙ got)

-- and that may be raised
pub field_is_raised : (s : Space) (m : Moment) (at : Name → ℕ) (st : IncrementStage) (u : Name) (p : Place) (i k w : ℕ) → IsIncrementing s m at st → IsHolder m st u p.0 → i < length (references_at m u)
    → k ≡ field_word p.0 i → w ≡ (tables_of s).heap k → HeldMayBeRaised m at st (slice_index_or (references_at m u) i None) w
field_is_raised s m at st u p i k w incrementing holder within here word =
    let r : Option Name = slice_index_or (references_at m u) i None in
    let got : slice_get (references_at m u) i ≡ Some r = slice_get-get_or (references_at m u) i None within in
    let at_word : w ≡ (tables_of s).heap (word_of_field st.now u i) = word ∙ ap (tables_of s).heap here ∙ ap (λ x. (tables_of s).heap (field_word x i)) holder.stands in
    record {
      word = subst (λ z. HoldsEither at st.now z r) (sym at_word) (field_holds s m at st u i incrementing (holder_member s m at st u p.0 incrementing holder) within);
      member = λ o e. live_member m o incrementing.follows (incrementing.follows.referred u o holder.live (i, got ∙ ap Some e));
      held_up = λ o e. elim holder.known [
        | inl k ↦ inr (inl (u, k, (i, got ∙ ap Some e)))
        | inr k ↦ inr (inr (u, k, (i, got ∙ ap Some e)))
      ];
    }

-- ---- what is held

-- a word that may be raised is small
pub held_small : (s : Space) (m : Moment) (at : Name → ℕ) (st : IncrementStage) (held : Option Name) (w : ℕ) → IsIncrementing s m at st → HeldMayBeRaised m at st held w → w ≤ MOST_GRANULES
held_small s m at st None w incrementing may = elim may.word [ inl e ↦ omega (arith, e) | inr e ↦ omega (arith, e) ]
held_small s m at st (Some o) w incrementing may =
    (member_place s m at st o w incrementing (may.member o refl) (elim may.word as (λ h. IsPlaceOf at st.now o w) [ inl e ↦ inr e | inr e ↦ inl e ])).1

-- so is what raising answers
pub raised_small : (a b : Space) (m : Moment) (at : Name → ℕ) (st : IncrementStage) (held : Option Name) (w v : ℕ) → HeldMayBeRaised m at st held w → RaisesHeld a b m at st held v → v ≤ MOST_GRANULES
raised_small a b m at st None w v may raises = let e = raises.word in omega (arith, e)
raised_small a b m at st (Some o) w v may raises = (member_place b m at (stage_with m st o v) o v raises.incrementing (may.member o refl) (inr raises.word)).1

-- what was fixed stays so where nothing is done, and step after step
pub goes_none : (s : Space) (m : Moment) (st : IncrementStage) → GoesOn s s m st st
goes_none s m st = record { found = refl; fields = λ u i h. h; registers = λ k h. h; remembered = stays_none s m st }

pub goes_both : (a b c : Space) (m : Moment) (st next later : IncrementStage) → GoesOn a b m st next → GoesOn b c m next later → GoesOn a c m st later
goes_both a b c m st next later x y = record {
  found = y.found ∙ x.found;
  fields = λ u i h. y.fields u i (x.fields u i h);
  registers = λ k h. y.registers k (x.registers k h);
  remembered = stays_both a b c m st next later x.remembered y.remembered;
}

-- nil raises nothing
pub held_none : (s : Space) (m : Moment) (at : Name → ℕ) (st : IncrementStage) (held : Option Name) (w : ℕ) → IsIncrementing s m at st → HeldMayBeRaised m at st held w → w ≡ 0 → RaisesHeld s s m at st held 0
held_none s m at st None w incrementing may none = record {
  incrementing = incrementing;
  word = refl;
  known = λ o e. absurd (cc);
  goes_on = goes_none s m st;
  cursor = refl;
}
held_none s m at st (Some o) w incrementing may none =
    let some = (member_place s m at st o w incrementing (may.member o refl) (elim may.word as (λ h. IsPlaceOf at st.now o w) [ inl e ↦ inr e | inr e ↦ inl e ])).0 in
    absurd (omega (arith, some, none))

-- what else is held is raised
pub held_some : (m : Moment) (at : Name → ℕ) (st : IncrementStage) (held : Option Name) (w : ℕ) → HeldMayBeRaised m at st held w → w ≢ 0 → (o : Name) × (held ≡ Some o) × MayBeRaised m at st o w
held_some m at st None w may some = absurd (elim may.word [ inl e ↦ some e | inr e ↦ some e ])
held_some m at st (Some o) w may some = (
  o,
  refl,
  record {
    member = may.member o refl;
    held_up = may.held_up o refl;
    stands = elim may.word as (λ h. IsPlaceOf at st.now o w) [ inl e ↦ inr e | inr e ↦ inl e ];
  },
)

-- ---- the next stage

-- what is promoted stays so
pub still_promoted : (m : Moment) (st : IncrementStage) (held : Option Name) (q : ℕ) (u : Name) → IsTrue (has st.promoted u) → IsTrue (has (stage_with_held m st held q).promoted u)
still_promoted m st None q u h = h
still_promoted m st (Some o) q u h = elim (is_unpromoted m st o) as (λ b. IsTrue (has (cond b (o ∷ st.promoted) st.promoted) u)) [
  | true ↦ later_has o st.promoted u h
  | false ↦ h
]

-- what is known stays so
pub still_known : (m : Moment) (st : IncrementStage) (held : Option Name) (q : ℕ) (u : Name) → IsTrue (has (with_promoted m st.promoted) u) → IsTrue (has (with_promoted m (stage_with_held m st held q).promoted) u)
still_known m st held q u h =
    has-union (stage_with_held m st held q).promoted m.unreclaimed u
    ∙ elim (or_cases (has st.promoted u) (has m.unreclaimed u) (sym (has-union st.promoted m.unreclaimed u) ∙ h)) [
      | inl k ↦ or_left (has (stage_with_held m st held q).promoted u) (has m.unreclaimed u) (still_promoted m st held q u k)
      | inr k ↦ or_right (has (stage_with_held m st held q).promoted u) (has m.unreclaimed u) k
    ]

-- and stands where it stood
pub still_placed : (m : Moment) (st : IncrementStage) (held : Option Name) (q : ℕ) (u : Name) → FollowsPause m → IsTrue (has (with_promoted m st.promoted) u) → (stage_with_held m st held q).now u ≡ st.now u
still_placed m st None q u follows h = refl
still_placed m st (Some o) q u follows h = elim (tested (same_name u o)) [
  | inl k ↦ ap (λ b. cond b (placed st.now o q) st.now u) (known_promoted m st o follows (subst (λ z. IsTrue (has (with_promoted m st.promoted) z)) (same_names u o k) h))
  | inr k ↦ elim (is_unpromoted m st o) as (λ b. cond b (placed st.now o q) st.now u ≡ st.now u) [ true ↦ ap (λ b. cond b q (st.now u)) k | false ↦ refl ]
]

-- the place of what is held is the same where that is known
pub still_held : (m : Moment) (st : IncrementStage) (held : Option Name) (q : ℕ) (other : Option Name) → FollowsPause m → IsKnown m st other → place_word (stage_with_held m st held q).now other ≡ place_word st.now other
still_held m st held q None follows known = refl
still_held m st held q (Some o) follows known = still_placed m st held q o follows (known o refl)

-- what is promoted and out of the worklist then was so
pub was_promoted : (m : Moment) (st : IncrementStage) (held : Option Name) (q : ℕ) (v : Name) → IsTrue (has (stage_with_held m st held q).promoted v) → has (stage_with_held m st held q).work v ≡ false
    → IsTrue (has st.promoted v) × (has st.work v ≡ false)
was_promoted m st None q v = λ h e. (h, e)
was_promoted m st (Some o) q v = elim (is_unpromoted m st o) as (λ b. IsTrue (has (cond b (o ∷ st.promoted) st.promoted) v) → has (cond b (st.work ++ o ∷ []) st.work) v ≡ false → IsTrue (has st.promoted v) × (has st.work v ≡ false)) [
  | true ↦ λ h e.
      let parts = or_false (has st.work v) (same_name v o) (sym (has_more st.work o v) ∙ e) in
      (elim (or_cases (same_name v o) (has st.promoted v) h) [ inl k ↦ not_both (same_name v o) k parts.1 | inr k ↦ k ], parts.0)
  | false ↦ λ h e. (h, e)
]

-- ---- either place, and none written

-- A word or register that told the place where what it held stands now, and that wasn't written, tells that place at the next stage:
-- what was known stands where it stood, and what is new by now stands where it was made.
pub either_fixed : (m : Moment) (at : Name → ℕ) (st : IncrementStage) (held : Option Name) (w v : ℕ) (to : Name → ℕ) → ((o : Name) → has st.promoted o ≡ false → st.now o ≡ at o) → HoldsEither at st.now w held
    → w ≡ place_word to held → (IsKnown m st held → v ≡ place_word to held) → HoldsEither at to v held → v ≡ place_word to held
either_fixed m at st None w v to others before there known after = elim after [ inl e ↦ e | inr e ↦ e ]
either_fixed m at st (Some o) w v to others before there known after = elim (tested (has (with_promoted m st.promoted) o)) [
  | inl k ↦ known (λ n e. let same : o ≡ n = cc in subst (λ z. IsTrue (has (with_promoted m st.promoted) z)) same k)
  | inr k ↦
      let parts = or_false (has st.promoted o) (has m.unreclaimed o) (sym (has-union st.promoted m.unreclaimed o) ∙ k) in
      let still : st.now o ≡ at o = others o parts.0 in
      let made : at o ≡ to o = elim before [ inl e ↦ sym (e ∙ still) ∙ there | inr e ↦ sym e ∙ there ] in
      elim after [ inl e ↦ e | inr e ↦ e ∙ made ]
]

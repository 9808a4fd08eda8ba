-- Where an object stands is found, and its count is raised there: a known object is left as it is, and a new one is taken in before.
use Rattle.std.proofs.Common.{◌≡◌, ℕ, ◌*◌, ◌<◌, ◌≤◌, refl, sym, ap, subst, ◌∙◌, inl, inr, ◌⊎◌, arith, true, false, length}
use Rattle.std.specs.Prelude.{Some, IsTrue}
use Rattle.std.proofs.lemmas.Bool.{or_left}
use Rattle.lxr_layout.specs.declared.Name.{Name}
use Rattle.lxr_layout.specs.declared.Place.{Place}
use Rattle.lxr_layout.specs.declared.Shape.{Shape}
use Rattle.lxr_layout.specs.declared.TheConstants.{GRANULES_IN_BLOCK, WORDS_IN_BLOCK}
use Rattle.lxr_layout.specs.declared.Header.TheVariants.{Moved, Object as AnObject}
use Rattle.lxr_layout.specs.Objects.{header_of}
use Rattle.lxr_layout.specs.Places.{IsPlace, first_word}
use Rattle.lxr_graph.specs.Names.{has, same_name}
use Rattle.lxr_graph.specs.State.{shape_of}
use Rattle.lxr_graph.proofs.NameSets.{same_itself}
use Rattle.lxr_image.specs.declared.space.Space.{Space}
use Rattle.lxr_image.specs.Spaces.{tables_of}
use Rattle.lxr_image.specs.Reads.{granule_of}
use Rattle.lxr_image.proofs.NewLemmas.{placed_here}
use Rattle.lxr_model.specs.Moments.{Moment}
use Rattle.lxr_invariant.specs.Raised.{with_promoted}
use Rattle.lxr_invariant.specs.Standing.{place_of}
use Rattle.lxr_pause_promote.specs.Copying.{StandsAt, StandsKept}
use Rattle.lxr_pause_increments.specs.Accounted.{GoesOn}
use Rattle.lxr_pause_increments.specs.Increments.{IncrementStage, IsIncrementing, MayBeRaised, RaisingLeaves, left, stage_with}
use Rattle.lxr_pause_increments.specs.Promotion.{RaisesAt, TakesIn, fills}
use Rattle.lxr_pause_increments.specs.Steps.{IsTakenIn, KeepsCursor, RaisesHeld, StandsThere}
use Rattle.lxr_pause_increments.proofs.FixedLemmas.{fixed_left, register_left}
use Rattle.lxr_pause_increments.proofs.FrameLemmas.{leaves_both, room_stays}
use Rattle.lxr_pause_increments.proofs.IncrementLemmas.{again_raised, again_stays, raised_leaves, raised_set, raised_still}
use Rattle.lxr_pause_increments.proofs.MovingLemmas.{IsNewAt, begun, place_some, stands_kept, stands_now, unbegun}
use Rattle.lxr_pause_increments.proofs.RoomLemmas.{granules, left_raised, room_for_new, room_for_stuck}
use Rattle.lxr_pause_increments.proofs.StageLemmas.{all_made, first_joined, known_promoted, raised_again, raised_first, stage_again, stage_first, unknown_found}
use Rattle.lxr_pause_increments.proofs.TakenLemmas.{first_cursor, first_goes_on, first_raised, taken_granule, taken_leaves, taken_left, taken_limits, taken_room, taken_stands}

-- ---- where an object stands is found

module _ (a : Space) (m : Moment) (at : Name → ℕ) (st : IncrementStage) (o : Name) (p : Place) (is : IsIncrementing a m at st) (may : MayBeRaised m at st o p.0) where
  -- its place is one of the heap
  pub settled_granule : (1 ≤ p.0) × (granule_of p.0 < granules a)
  settled_granule = place_some a st.found m at st.now st.promoted is.moving o p.0 may.member may.stands

  pub settled_place : IsPlace p × (first_word p.0 < WORDS_IN_BLOCK * a.limits.blocks)
  settled_place =
      let h = settled_granule in
      let some = h.0 in
      let below = h.1 in
      let blocks = is.space.limits.blocks.1 in
      ((some, omega (arith, some, below, blocks)), omega (arith, some, below))

  -- it begins there: it is known, and stands there
  pub begins_there : true ≡ (tables_of a).starts (granule_of p.0) → StandsThere a a m st o p.0
  begins_there start =
      let x = begun a st.found m at st.now st.promoted is.moving (all_made a m at st is) is.bits.starts o p.0 may.member may.stands (sym start) in
      record { same = refl; known = x.0; place = x.1 }

  -- it doesn't, and its header tells where it was copied to
  pub moved_there : (q : Place) → false ≡ (tables_of a).starts (granule_of p.0) → Moved q ≡ header_of ((tables_of a).heap (first_word p.0)) → StandsThere a a m st o q.0
  moved_there q clear header = elim (unbegun a st.found m at st.now st.promoted is.moving (all_made a m at st is) is.space is.bits.starts o p.0 may.member may.stands (sym clear)) [
    | inl x ↦ absurd (let e : Moved q ≡ AnObject o (shape_of x.object) = header ∙ x.header in cc)
    | inr x ↦ let e : Moved q ≡ Moved (place_of st.now o) = header ∙ x.header in let same : q ≡ place_of st.now o = cc in record { same = refl; known = x.known; place = ap (λ z. z.0) same }
  ]

  -- it doesn't, and its header is that of an object: it is new
  pub is_new_there : (n : Name) (shape : Shape) → false ≡ (tables_of a).starts (granule_of p.0) → AnObject n shape ≡ header_of ((tables_of a).heap (first_word p.0))
      → IsNewAt a m at st.now st.promoted o p.0 × (n ≡ o)
  is_new_there n shape clear header = elim (unbegun a st.found m at st.now st.promoted is.moving (all_made a m at st is) is.space is.bits.starts o p.0 may.member may.stands (sym clear)) [
    | inl x ↦ let e : AnObject n shape ≡ AnObject o (shape_of x.object) = header ∙ x.header in (x, (let same : n ≡ o = cc in same))
    | inr x ↦ absurd (let e : AnObject n shape ≡ Moved (place_of st.now o) = header ∙ x.header in cc)
  ]

  -- nothing may be placed on it
  pub new_stands : (x : IsNewAt a m at st.now st.promoted o p.0) → StandsKept a p o (shape_of x.object)
  new_stands x = subst (λ z. StandsKept a z o (shape_of x.object)) (λ i. record { 0 = sym (x.place ∙ sym x.still) i }) (stands_kept a st.found m at st.now st.promoted is.moving is.space o x.object may.member x.is)

  pub new_room : false ≡ (tables_of a).starts (granule_of p.0) → (length a.report.promoted.items < a.report.promoted.room) × (length a.work.items < a.work.room)
  new_room clear = room_for_new a (granule_of p.0) is.room is.lists settled_granule.1 (sym clear)

  -- it is taken in
  pub taken_there : (b : Space) (q : Place) → (x : IsNewAt a m at st.now st.promoted o p.0) → TakesIn a b p q o (shape_of x.object) → IsTakenIn a b m at st o q
  taken_there b q x takes = record { unknown = x.unknown; object = x.object; is = x.is; takes = subst (λ z. TakesIn a b z q o (shape_of x.object)) (λ i. record { 0 = x.place i }) takes }

-- ---- it is raised there

-- with the next stage told by cases
raises_by : (a c : Space) (m : Moment) (at : Name → ℕ) (st : IncrementStage) (o : Name) (q : ℕ) (later : IncrementStage) → stage_with m st o q ≡ later → IsIncrementing c m at later → q ≡ later.now o
    → IsTrue (has (with_promoted m later.promoted) o) → GoesOn a c m st later → KeepsCursor a c → RaisesHeld a c m at st (Some o) q
raises_by a c m at st o q later stage incrementing place known goes_on cursor = record {
  incrementing = subst (IsIncrementing c m at) (sym stage) incrementing;
  word = place ∙ ap (λ (x : IncrementStage). x.now o) (sym stage);
  known = λ n e. let same : o ≡ n = cc in subst (λ z. IsTrue (has (with_promoted m (stage_with m st o q).promoted) z)) same (subst (λ (x : IncrementStage). IsTrue (has (with_promoted m x.promoted) o)) (sym stage) known);
  goes_on = subst (GoesOn a c m st) (sym stage) goes_on;
  cursor = cursor;
}

module _ (a b : Space) (m : Moment) (at : Name → ℕ) (st : IncrementStage) (o : Name) (p : ℕ) (q : Place) (is : IsIncrementing a m at st) (may : MayBeRaised m at st o p) where
  -- an object stands where it was found
  there_stands : StandsThere a b m st o q.0 → (shape : Shape) × StandsAt b q o shape
  there_stands there =
      let x = is.moving.stands o may.member in
      (shape_of x.0, subst (λ z. StandsAt z q o (shape_of x.0)) (sym there.same) (subst (λ z. StandsAt a z o (shape_of x.0)) (λ i. record { 0 = sym there.place i }) (stands_now a st.found m at st.now st.promoted is.moving is.space o x.0 may.member x.1)))

  pub found_stands : StandsThere a b m st o q.0 ⊎ IsTakenIn a b m at st o q → (shape : Shape) × StandsAt b q o shape
  found_stands (inl there) = there_stands there
  found_stands (inr taken) = (shape_of taken.object, taken_stands a b m at st o q is may.member taken)

  there_granule : StandsThere a b m st o q.0 → granule_of q.0 < granules a
  there_granule there = (place_some a st.found m at st.now st.promoted is.moving o q.0 may.member (inr there.place)).1

  -- where its count reaches STUCK there is room for its name
  pub found_room : StandsThere a b m st o q.0 ⊎ IsTakenIn a b m at st o q → IsTrue (fills ((tables_of b).counts (granule_of q.0))) → length b.report.stuck.items < b.report.stuck.room
  found_room (inl there) h =
      subst (λ (z : Space). length z.report.stuck.items < z.report.stuck.room) (sym there.same)
      (room_for_stuck a q.0 is.room is.lists (there_granule there) (subst (λ (z : Space). IsTrue (fills ((tables_of z).counts (granule_of q.0)))) there.same h))
  found_room (inr taken) h =
      room_for_stuck b q.0 (room_stays a b (taken_leaves a b m at st o q is may.member taken) is.room) (taken_room a b m at st o q is may.member taken)
      (subst (λ l. granule_of q.0 < GRANULES_IN_BLOCK * l.blocks) (sym (taken_limits a b m at st o q is may.member taken)) (taken_granule a b m at st o q is may.member taken)) h

  module _ (c : Space) (raised : RaisesAt b c q.0 o) where
    there_raised : StandsThere a b m st o q.0 → RaisesHeld a c m at st (Some o) q.0
    there_raised there =
        let from_a : RaisesAt a c q.0 o = subst (λ z. RaisesAt z c q.0 o) there.same raised in
        let still = raised_still a c q.0 o from_a in
        raises_by a c m at st o q.0 (raised_again st o) (stage_again m st o q.0 (known_promoted m st o is.follows there.known))
        (again_raised a c m at st o is there.known (subst (λ z. RaisesAt a c z o) there.place from_a)) there.place there.known (record {
          found = refl;
          fields = fixed_left a c m st (raised_again st o) (record { promoted = refl; now = refl }) still.heap;
          registers = register_left a c m st (raised_again st o) (record { promoted = refl; now = refl }) still.registers;
          remembered = again_stays a c m st o q.0 from_a;
        }) (raised_set a c q.0 o from_a).cursor

    taken_raised : IsTakenIn a b m at st o q → RaisesHeld a c m at st (Some o) q.0
    taken_raised taken =
        raises_by a c m at st o q.0 (raised_first st o q.0) (stage_first m st o q.0 (unknown_found m st o may.member taken.unknown).test)
        (first_raised a b m at st o q is may.member taken c may.held_up raised) (sym (placed_here st.now o q.0))
        (first_joined m st o o ∙ or_left (same_name o o) (has (with_promoted m st.promoted) o) (same_itself o)) (first_goes_on a b m at st o q is may.member taken c may.held_up raised)
        (first_cursor a b m at st o q is may.member taken c may.held_up raised)

    pub found_raised : StandsThere a b m st o q.0 ⊎ IsTakenIn a b m at st o q → RaisesHeld a c m at st (Some o) q.0
    found_raised (inl there) = there_raised there
    found_raised (inr taken) = taken_raised taken

    pub found_left : StandsThere a b m st o q.0 ⊎ IsTakenIn a b m at st o q → left c ≡ left a
    found_left (inl there) = left_raised b c q.0 o raised ∙ ap left there.same
    found_left (inr taken) = left_raised b c q.0 o raised ∙ taken_left a b m at st o q is may.member taken

    pub found_leaves : StandsThere a b m st o q.0 ⊎ IsTakenIn a b m at st o q → RaisingLeaves a c
    found_leaves (inl there) = subst (λ z. RaisingLeaves z c) there.same (raised_leaves b c q.0 o raised)
    found_leaves (inr taken) = leaves_both a b c (taken_leaves a b m at st o q is may.member taken) (raised_leaves b c q.0 o raised)

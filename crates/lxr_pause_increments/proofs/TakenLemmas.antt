-- A new object is taken in, perhaps copied, and then raised: all that holds at a stage holds at the next one.
use Rattle.std.proofs.Common.{◌≡◌, ◌≢◌, ℕ, ◌+◌, ◌/◌, ◌<◌, refl, sym, ap, subst, ◌∙◌, inl, inr, arith, true, false, List, [], ◌∷◌, ◌++◌, length, length-append}
use Rattle.std.specs.Prelude.{◌||◌, IsTrue, map}
use Rattle.std.proofs.lemmas.Bool.{or_cases, or_left, or_right}
use Rattle.std.proofs.lemmas.List.{map-append, reverse-append}
use Rattle.lxr_layout.specs.declared.Name.{Name}
use Rattle.lxr_layout.specs.declared.Place.{Place}
use Rattle.lxr_layout.specs.declared.Shape.{Shape}
use Rattle.lxr_layout.specs.declared.TheConstants.{REMEMBERED_CURSOR, WORDS_IN_LINE}
use Rattle.lxr_layout.specs.Places.{field_word}
use Rattle.lxr_layout.specs.Spaces.{AreLimits, all_regions, region_begin}
use Rattle.lxr_tables.specs.Counts.{raised_count}
use Rattle.lxr_graph.specs.Names.{has, same_name}
use Rattle.lxr_graph.specs.State.{shape_of}
use Rattle.lxr_graph.proofs.NameSets.{has-union, same_itself, same_names}
use Rattle.lxr_image.specs.declared.space.Space.{Space}
use Rattle.lxr_image.specs.Tables.{Tables}
use Rattle.lxr_image.specs.Spaces.{tables_of}
use Rattle.lxr_image.specs.Image.{granules_of}
use Rattle.lxr_image.specs.ImageLaws.{placed}
use Rattle.lxr_image.specs.Reads.{granule_of}
use Rattle.lxr_image.proofs.NewLemmas.{placed_here}
use Rattle.lxr_blocks.specs.Kept.{KeepsGranules}
use Rattle.lxr_blocks.specs.States.{KeepsState}
use Rattle.lxr_model.specs.Moments.{Moment}
use Rattle.lxr_model_counting.specs.Raising.{IsHeldUp}
use Rattle.lxr_model_counting.proofs.DistinctLemmas.{or_false, tested}
use Rattle.lxr_invariant.specs.AbstractState.{members}
use Rattle.lxr_invariant.specs.Standing.{HasBits, place_of, word_of_field}
use Rattle.lxr_invariant.specs.Counting.{passing}
use Rattle.lxr_invariant.specs.Lines.{HasMarks}
use Rattle.lxr_blocks.specs.Lines.{line_behind, next_line}
use Rattle.lxr_invariant.specs.Raised.{with_promoted}
use Rattle.lxr_invariant.proofs.EntryLemmas.{changed_cases, changed_here, changed_other, passing_few, passing_set}
use Rattle.lxr_invariant.proofs.FrameLemmas.{bits_still, marks_still}
use Rattle.lxr_invariant.proofs.NameLemmas.{distinct_more, has_more}
use Rattle.lxr_invariant.proofs.PlaceLemmas.{BeginsLine, line_mark}
use Rattle.lxr_pause_promote.specs.Copying.{StandsAt, StandsKept}
use Rattle.lxr_pause_promote.specs.Promotion.{Promotes, with_promotion}
use Rattle.lxr_pause_promote.proofs.CopyLemmas.{IsPromoted, is_promoted}
use Rattle.lxr_pause_promote.proofs.TableLemmas.{stands_after}
use Rattle.lxr_pause_increments.specs.Accounted.{GoesOn}
use Rattle.lxr_pause_increments.specs.Increments.{HasRoomToRaise, IncrementStage, IsIncrementing, RaisingLeaves, RaisingLeavesTables, StaysRemembered, count_so_far, left}
use Rattle.lxr_pause_increments.specs.Moving.{IsMoving}
use Rattle.lxr_pause_increments.specs.Promotion.{RaisesAt, stuck_with, with_raised}
use Rattle.lxr_pause_increments.specs.Steps.{IsTakenIn, KeepsCursor}
use Rattle.lxr_pause_increments.proofs.TracedLemmas.{marks_begun}
use Rattle.lxr_pause_increments.proofs.RangeLemmas.{marked_cases}
use Rattle.lxr_pause_increments.proofs.FrameLemmas.{leaves_both, leaves_spread}
use Rattle.lxr_pause_increments.proofs.MarkLemmas.{marks_promoted, marks_raised}
use Rattle.lxr_pause_increments.proofs.BitLemmas.{bits_promoted, bits_raised}
use Rattle.lxr_pause_increments.proofs.RaiseLemmas.{RaisesOnce, counts_then}
use Rattle.lxr_pause_increments.proofs.RoomLemmas.{full_at, granules, promoted_fulls, room_raised}
use Rattle.lxr_pause_increments.proofs.MovingLemmas.{AreMade, differ_now, known_member, mark_apart_now, place_some, stands_kept}
use Rattle.lxr_pause_increments.proofs.FixedLemmas.{LeavesMoving, fixed_left, moving_left}
use Rattle.lxr_pause_increments.proofs.RememberedLemmas.{LeavesSet, stays_by}
use Rattle.lxr_pause_increments.proofs.CopiedLemmas.{IsNextStage, bits_elsewhere, fixed_promoted, line_stays, marks_elsewhere, moving_promoted, placed_known, placed_uncounted, register_promoted}
use Rattle.lxr_pause_increments.proofs.IncrementLemmas.{LeavesBlocks, RaisedOnce, incrementing_with, raised_leaves, raised_still, saturates, unraised_other}
use Rattle.lxr_pause_increments.proofs.StageLemmas.{IsFound, all_made, first_here, first_joined, first_other, made_unwritten, raised_first, stuck_known, unknown_found}

-- the tables with these heaps, lines and blocks
abbrev with_blocks : Tables → Tables → Tables
with_blocks t u = record t { heap = u.heap; outs = u.outs; reuse = u.reuse; states = u.states }

-- ---- promoting

none_kept : (s : Space) → KeepsGranules s (λ k. ⊥)
none_kept s = record { lines = λ k h. absurd h; rest = λ k h. absurd h }

-- it leaves all of a space but its words and the rest of the lines that were placed on last
pub promoted_space : (a b : Space) (p q : Place) (n : Name) (s : Shape) → StandsKept a p n s → Promotes a b p q n s → b ≡ record a { words = b.words; rest_next = b.rest_next; rest_end = b.rest_end }
promoted_space a b p q n s stood promotes = (is_promoted a b (λ k. ⊥) p q n s stood (none_kept a) promotes).space

-- ---- taking in

module _ (a b : Space) (m : Moment) (at : Name → ℕ) (st : IncrementStage) (o : Name) (q : Place) (is : IsIncrementing a m at st) (member : IsTrue (has (members m) o)) (taken : IsTakenIn a b m at st o q) where
  -- where objects stand then, and the names that are known
  abbrev to : Name → ℕ
  to = placed st.now o q.0

  abbrev known : List Name
  known = with_promoted m (o ∷ st.promoted)

  abbrev shape : Shape
  shape = shape_of taken.object

  abbrev middle : Space
  middle = taken.takes.promoted

  pub taken_found : IsFound m st o
  taken_found = unknown_found m st o member taken.unknown

  all_are_made : AreMade m st.promoted
  all_are_made = all_made a m at st is

  all_made_then : AreMade m (o ∷ st.promoted)
  all_made_then n h = elim (or_cases (same_name n o) (has st.promoted n) h) [
    | inl e ↦ ap (has m.made) (same_names n o e) ∙ taken_found.made
    | inr e ↦ all_are_made n e
  ]

  here : to o ≡ q.0
  here = placed_here st.now o q.0

  elsewhere : (n : Name) → IsTrue (has (with_promoted m st.promoted) n) → to n ≡ st.now n
  elsewhere = placed_known m st.now st.promoted o q.0 taken.unknown

  joined : (n : Name) → has known n ≡ (same_name n o || has (with_promoted m st.promoted) n)
  joined = first_joined m st o

  known_o : IsTrue (has known o)
  known_o = joined o ∙ or_left (same_name o o) (has (with_promoted m st.promoted) o) (same_itself o)

  still_known : (n : Name) → IsTrue (has (with_promoted m st.promoted) n) → IsTrue (has known n)
  still_known n h = joined n ∙ or_right (same_name n o) (has (with_promoted m st.promoted) n) h

  others_differ : (n : Name) → IsTrue (has (with_promoted m st.promoted) n) → same_name n o ≡ false
  others_differ n h = elim (tested (same_name n o)) [
    | inl k ↦ absurd (let same : has (with_promoted m st.promoted) n ≡ has (with_promoted m st.promoted) o = ap (has (with_promoted m st.promoted)) (same_names n o k) in let no = taken.unknown in cc)
    | inr k ↦ k
  ]

  -- the object stood where it was made, and nothing could be placed on it
  stood : StandsKept a (place_of at o) o shape
  stood = subst (λ z. StandsKept a (record { 0 = z }) o shape) (is.moving.others o taken_found.unpromoted) (stands_kept a st.found m at st.now st.promoted is.moving is.space o taken.object member taken.is)

  promoted : IsPromoted a middle (λ k. ⊥) (place_of at o) q o shape
  promoted = is_promoted a middle (λ k. ⊥) (place_of at o) q o shape stood (none_kept a) taken.takes.promotes

  moves : IsMoving middle st.found m at to (o ∷ st.promoted)
  moves = moving_promoted a middle st.found m at st.now st.promoted o q taken.object is.moving is.space taken_found.made taken_found.unpromoted taken.is taken.takes.promotes all_are_made

  -- the lists change nothing of places
  listed : LeavesMoving middle b
  listed = record {
    limits = ap (λ s. s.limits) taken.takes.rest;
    heap = ap {A = Space} (λ s. (tables_of s).heap) taken.takes.rest;
    outs = ap {A = Space} (λ s. (tables_of s).outs) taken.takes.rest;
    reuse = ap {A = Space} (λ s. (tables_of s).reuse) taken.takes.rest;
    states = ap {A = Space} (λ s. (tables_of s).states) taken.takes.rest;
    counts = λ k some none. some (sym (ap {A = Space} (λ s. (tables_of s).counts k) taken.takes.rest) ∙ none);
    registers = ap (λ s. s.registers.items) taken.takes.rest;
    deferred = ap (λ s. s.deferred.items) taken.takes.rest;
    rest = (ap (λ s. s.rest_next) taken.takes.rest, ap (λ s. s.rest_end) taken.takes.rest);
  }

  pub taken_moving : IsMoving b st.found m at to (o ∷ st.promoted)
  taken_moving = moving_left middle b st.found m at to (o ∷ st.promoted) listed moves

  pub taken_tables : tables_of b ≡ with_blocks (with_promotion (tables_of a) q.0 shape) (tables_of middle)
  taken_tables = ap {A = Space} tables_of taken.takes.rest ∙ promoted.tables

  taken_rest : b ≡ record a {
    words = middle.words;
    work = record a.work { items = a.work.items ++ q ∷ [] };
    report = record a.report { promoted = record a.report.promoted { items = a.report.promoted.items ++ o ∷ [] } };
    rest_next = middle.rest_next;
    rest_end = middle.rest_end;
  }
  taken_rest = taken.takes.rest ∙ ap {A = Space} (λ s. record s {
    words = middle.words;
    work = record s.work { items = s.work.items ++ q ∷ [] };
    report = record s.report { promoted = record s.report.promoted { items = s.report.promoted.items ++ o ∷ [] } };
    rest_next = middle.rest_next;
    rest_end = middle.rest_end;
  }) promoted.space

  pub taken_limits : b.limits ≡ a.limits
  taken_limits = ap (λ s. s.limits) taken_rest

  pub taken_stands : StandsAt b q o shape
  taken_stands = stands_after middle b q o shape (record {
    limits = subst AreLimits (sym taken_limits) is.space.limits;
    size = ap (λ t. t.size) taken_tables ∙ is.space.size ∙ ap (λ z. region_begin z all_regions) (sym taken_limits);
  }) listed.limits listed.heap promoted.stands

  -- it begins in the heap, where nothing began and no count was
  pub taken_granule : granule_of q.0 < granules a
  taken_granule =
      let a_place = (place_some b st.found m at to (o ∷ st.promoted) taken_moving o (to o) member (inr refl)).1 in
      let e = here in
      let l : granules b ≡ granules a = ap granules taken_rest in
      let k : granule_of (to o) ≡ granule_of q.0 = ap granule_of here in
      omega (arith, a_place, l, k)

  begins_apart : (n : Name) → IsTrue (has (with_promoted m st.promoted) n) → granule_of (st.now n) ≢ granule_of q.0
  begins_apart n h e =
      differ_now b st.found m at to (o ∷ st.promoted) taken_moving n o (known_member m st.promoted all_are_made n h) member (others_differ n h)
      (ap granule_of (elsewhere n h) ∙ e ∙ sym (ap granule_of here))

  pub taken_clear : (tables_of a).starts (granule_of q.0) ≡ false
  taken_clear = elim (tested ((tables_of a).starts (granule_of q.0))) [
    | inl k ↦ let u = is.bits.starts.only (granule_of q.0) k in absurd (begins_apart u.0 u.1 u.2)
    | inr k ↦ k
  ]

  zero : (tables_of a).counts (granule_of q.0) ≡ 0
  zero = placed_uncounted a middle st.found m at st.now st.promoted o q taken.object is.moving is.space taken_found.made taken_found.unpromoted taken.is taken.takes.promotes all_are_made taken.unknown is.marks

  -- no further line of it begins at its own granule, nor where another known object begins
  not_own : (tables_of b).counts (granule_of q.0) ≡ 0
  not_own = ap (λ t. t.counts (granule_of q.0)) taken_tables
      ∙ elim (marked_cases (tables_of a).counts (next_line (granule_of q.0)) (line_behind (granule_of q.0) (granules_of taken.object)) (granule_of q.0)) [
        | inl r ↦ absurd (let h = (line_mark (λ n. q.0) o taken.object (granule_of q.0) r.0).behind in omega (arith, h))
        | inr r ↦ r.1 ∙ zero
      ]

  not_others : (n : Name) → IsTrue (has (with_promoted m st.promoted) n) → (tables_of b).counts (granule_of (st.now n)) ≡ (tables_of a).counts (granule_of (st.now n))
  not_others n h = ap (λ t. t.counts (granule_of (st.now n))) taken_tables
      ∙ elim (marked_cases (tables_of a).counts (next_line (granule_of q.0)) (line_behind (granule_of q.0) (granules_of taken.object)) (granule_of (st.now n))) [
        | inl r ↦ absurd (mark_apart_now b st.found m at to (o ∷ st.promoted) taken_moving o n taken.object (granule_of (st.now n)) member (known_member m st.promoted all_are_made n h) taken.is
            (line_mark to o taken.object (granule_of (st.now n)) (subst (λ z. BeginsLine (next_line (granule_of z)) (line_behind (granule_of z) (granules_of taken.object)) (granule_of (st.now n))) (sym here) r.0))
            (ap granule_of (elsewhere n h)))
        | inr r ↦ r.1
      ]

  -- ---- what taking in leaves

  pub taken_leaves : RaisingLeaves a b
  taken_leaves =
      leaves_spread a b middle.words a.registers.items (a.work.items ++ q ∷ []) (a.report.promoted.items ++ o ∷ []) a.report.stuck.items middle.rest_next middle.rest_end taken_rest
      (subst (RaisingLeavesTables (tables_of a)) (sym taken_tables) unwritten)
    where
      unwritten : RaisingLeavesTables (tables_of a) (with_blocks (with_promotion (tables_of a) q.0 shape) (tables_of middle))
      unwritten = record {
        runs = refl;
        frees = refl;
        cursors = λ k other. refl;
        starts = λ k h. elim (changed_cases (tables_of a).starts (granule_of q.0) true k) [ inl r ↦ r.1 | inr r ↦ r.1 ∙ h ];
        marks = marks_begun (tables_of a) (granule_of q.0) taken_clear;
        grays = refl;
        decs = refl;
      }

  starts_more : passing (tables_of b).starts (granules b) ≡ passing (tables_of a).starts (granules a) + 1
  starts_more =
      (λ i. passing (taken_tables i).starts (granules (taken_rest i)))
      ∙ passing_set (tables_of a).starts (granule_of q.0) (granules a) taken_granule taken_clear

  pub taken_room : HasRoomToRaise b
  taken_room =
      let starts = starts_more in
      let fulls : passing (full_at (tables_of b)) (granules b) ≡ passing (full_at (with_promotion (tables_of a) q.0 shape)) (granules a) = λ i. passing (full_at (taken_tables i)) (granules (taken_rest i)) in
      let more = promoted_fulls (tables_of a) q.0 shape (granules a) in
      let promoted_more = ap (λ s. length s.report.promoted.items) taken_rest ∙ length-append a.report.promoted.items (o ∷ []) in
      let work_more = ap (λ s. length s.work.items) taken_rest ∙ length-append a.work.items (q ∷ []) in
      let stuck = ap (λ s. length s.report.stuck.items) taken_rest in
      let enough_promoted = is.lists.promoted in
      let enough_work = is.lists.work in
      let enough_stuck = is.lists.stuck in
      record { promoted = omega (arith, starts, promoted_more, enough_promoted); work = omega (arith, work_more, promoted_more, enough_work); stuck = omega (arith, stuck, fulls, more, enough_stuck) }

  -- an object less may be promoted, and one more is in the worklist
  pub taken_left : left b ≡ left a
  taken_left =
      let size : granules b ≡ granules a = ap granules taken_rest in
      let starts = starts_more in
      let few = passing_few (tables_of b).starts (granules b) in
      let work_more = ap (λ s. length s.work.items) taken_rest ∙ length-append a.work.items (q ∷ []) in
      omega (arith, size, starts, few, work_more)

  -- ---- the next stage

  module _ (c : Space) (held : IsHeldUp m.state m.unreclaimed st.promoted o) (raised : RaisesAt b c q.0 o) where
    first_tables : tables_of c ≡ with_blocks (with_raised (with_promotion (tables_of a) (to o) shape) (granule_of (to o))) (tables_of middle)
    first_tables = raised.tables ∙ ap (λ t. with_raised t (granule_of q.0)) taken_tables
        ∙ ap (λ z. with_blocks (with_raised (with_promotion (tables_of a) z shape) (granule_of z)) (tables_of middle)) (sym here)

    first_moving : IsMoving c st.found m at to (o ∷ st.promoted)
    first_moving = moving_left b c st.found m at to (o ∷ st.promoted) (raised_still b c q.0 o raised) taken_moving

    first_bits : HasBits (tables_of c) m to known
    first_bits =
        bits_still (with_raised (with_promotion (tables_of a) (to o) shape) (granule_of (to o))) (tables_of c) m to known
        (ap (λ t. t.starts) first_tables) (ap (λ t. t.marks) first_tables) (ap (λ t. t.grays) first_tables) (ap (λ t. t.dones) first_tables) (ap (λ t. t.unlogged) first_tables)
        (bits_raised (with_promotion (tables_of a) (to o) shape) m to known (granule_of (to o))
        (bits_promoted (tables_of a) m to (with_promoted m st.promoted) known o taken.object taken.is (made_unwritten m is.follows o taken_found.made) joined
        (bits_elsewhere (tables_of a) m st.now to (with_promoted m st.promoted) elsewhere is.bits)))

    first_marks : HasMarks (tables_of c) m.state.graph to known
    first_marks =
        marks_still (with_raised (with_promotion (tables_of a) (to o) shape) (granule_of (to o))) (tables_of c) m.state.graph to known (ap (λ t. t.counts) first_tables)
        (marks_raised (with_promotion (tables_of a) (to o) shape) to m.state.graph known o
        (λ n e k in_n has_e mark. mark_apart_now c st.found m at to (o ∷ st.promoted) first_moving n o e k (known_member m (o ∷ st.promoted) all_made_then n in_n) member has_e mark) known_o
        (marks_promoted (tables_of a) to m.state.graph (with_promoted m st.promoted) known o taken.object taken.is joined
        (marks_elsewhere (tables_of a) m st.now to (with_promoted m st.promoted) elsewhere is.marks)))

    first_once : RaisesOnce a c m st (raised_first st o q.0) o ((tables_of b).counts (granule_of q.0))
    first_once = record {
      member = known_o;
      joined = λ n ne. joined n ∙ ap (λ z. z || has (with_promoted m st.promoted) n) ne;
      known = λ k. absurd (let none = not_own in omega (arith, none, k));
      count_was = λ h. absurd (let no = taken.unknown in cc);
      raised = ap (λ z. (tables_of c).counts (granule_of z)) here ∙ ap (λ t. t.counts (granule_of q.0)) raised.tables
          ∙ changed_here (tables_of b).counts (granule_of q.0) (raised_count ((tables_of b).counts (granule_of q.0))) (granule_of q.0) refl;
      others = λ n in_n ne.
          ap (λ z. (tables_of c).counts (granule_of z)) (elsewhere n in_n) ∙ ap (λ t. t.counts (granule_of (st.now n))) raised.tables
          ∙ changed_other (tables_of b).counts (granule_of q.0) (raised_count ((tables_of b).counts (granule_of q.0))) (granule_of (st.now n)) (begins_apart n in_n)
          ∙ not_others n in_n;
      count_here = λ unstuck.
          saturates ((tables_of b).counts (granule_of q.0)) 0 (count_so_far m (raised_first st o q.0) o) not_own (first_here m st o q.0 (is.counts.unraised o taken_found.made taken_found.unpromoted));
      count_elsewhere = first_other m st o q.0;
      unraised = λ n made unpromoted.
          let parts = or_false (same_name n o) (has st.promoted n) unpromoted in
          unraised_other m st o n is.counts.unraised made parts.1 parts.0;
      names = ap (λ s. s.report.stuck.items) raised.rest ∙ ap (λ (s : Space). stuck_with s.report.stuck.items ((tables_of b).counts (granule_of q.0)) o) taken_rest;
    }

    first_work : c.work.items ≡ map (place_of to) (st.work ++ o ∷ [])
    first_work =
        ap (λ s. s.work.items) raised.rest ∙ ap (λ s. s.work.items) taken_rest
        ∙ (λ i. (is.worklist ∙ work_elsewhere st.work is.work_promoted) i ++ record { 0 = sym here i } ∷ [])
        ∙ sym (map-append (place_of to) st.work (o ∷ []))
      where
        -- the places of the worklist are those of known objects
        work_elsewhere : (ns : List Name) → ((n : Name) → IsTrue (has ns n) → IsTrue (has st.promoted n)) → map (place_of st.now) ns ≡ map (place_of to) ns
        work_elsewhere [] all = refl
        work_elsewhere (n ∷ ns) all =
            let at_n : to n ≡ st.now n = elsewhere n (has-union st.promoted m.unreclaimed n ∙ or_left (has st.promoted n) (has m.unreclaimed n) (all n (or_left (same_name n n) (has ns n) (same_itself n)))) in
            let rest = work_elsewhere ns (λ k h. all k (or_right (same_name k n) (has ns k) h)) in
            λ i. record { 0 = sym at_n i } ∷ rest i

    first_is_raised : RaisedOnce c m at (raised_first st o q.0)
    first_is_raised = record {
      moving = first_moving;
      growth = (is.growth, taken_found.made, held);
      once_promoted = (taken_found.unpromoted, is.once_promoted);
      work_promoted = λ n h. elim (or_cases (has st.work n) (same_name n o) (sym (has_more st.work o n) ∙ h)) [
        | inl k ↦ or_right (same_name n o) (has st.promoted n) (is.work_promoted n k)
        | inr k ↦ or_left (same_name n o) (has st.promoted n) k
      ];
      once_work = distinct_more st.work o is.once_work (elim (tested (has st.work o)) [
        | inl k ↦ absurd (let x = is.work_promoted o k in let y = taken_found.unpromoted in cc)
        | inr k ↦ k
      ]);
      bits = first_bits;
      marks = first_marks;
      counts = counts_then a c m st (raised_first st o q.0) o ((tables_of b).counts (granule_of q.0)) is.counts first_once (stuck_known m st.promoted is.follows);
      reported = ap (λ s. s.report.promoted.items) raised.rest ∙ ap (λ s. s.report.promoted.items) taken_rest ∙ ap (λ z. z ++ o ∷ []) is.reported ∙ sym (reverse-append (o ∷ []) st.promoted);
      worklist = first_work;
      lists = room_raised b c q.0 o raised (subst (λ z. granule_of q.0 < z) (sym (ap granules taken_rest)) taken_granule) taken_room;
    }

    -- no reference was remembered, and what was is
    first_set : LeavesSet a c
    first_set = record {
      limits = ap (λ s. s.limits) raised.rest ∙ taken_limits;
      remembered = ap (λ t. t.remembered) first_tables;
      cursor = ap (λ t. t.cursors REMEMBERED_CURSOR) first_tables;
    }

    first_stays : StaysRemembered a c m st (raised_first st o q.0)
    first_stays = stays_by a c m st (raised_first st o q.0) first_set (record {
      states = λ k. subst (λ f. KeepsState (tables_of a) (record (tables_of c) { states = f }) k) (sym (ap (λ t. t.states) first_tables)) (promoted.states k);
      known = λ n h. (still_known n h, elsewhere n h);
      promoted = λ n h. or_right (same_name n o) (has st.promoted n) h;
      lines = λ n i h within.
          ap (λ t. t.reuse (word_of_field to n i / WORDS_IN_LINE)) first_tables
          ∙ ap (λ p. (tables_of middle).reuse (field_word p i / WORDS_IN_LINE)) (elsewhere n h)
          ∙ line_stays a middle st.found m at st.now st.promoted o q taken.object is.moving is.space taken_found.made taken_found.unpromoted taken.is taken.takes.promotes n i (known_member m st.promoted all_are_made n h) within;
    })

    pub first_cursor : KeepsCursor a c
    first_cursor = first_set.cursor

    -- it is raised
    pub first_raised : IsIncrementing c m at (raised_first st o q.0)
    first_raised = incrementing_with a c m at st (raised_first st o q.0) (leaves_both a b c taken_leaves (raised_leaves b c q.0 o raised)) still first_stays refl is first_is_raised
      where
        still : LeavesBlocks a c
        still = record {
          size = ap (λ t. t.size) first_tables;
          dones = ap (λ t. t.dones) first_tables;
          states = λ k. subst (λ f. KeepsState (tables_of a) (record (tables_of c) { states = f }) k) (sym (ap (λ t. t.states) first_tables)) (promoted.states k);
          registers = ap (λ s. length s.registers.items) raised.rest ∙ ap (λ s. length s.registers.items) taken_rest;
        }

    -- and what was fixed stays so
    pub first_goes_on : GoesOn a c m st (raised_first st o q.0)
    first_goes_on = record {
      found = refl;
      fields = λ u i fixed.
          fixed_left middle c m later later (record { promoted = refl; now = refl }) (ap (λ t. t.heap) raised.tables ∙ listed.heap) u i
          (fixed_promoted a middle m at st later o q taken.object is.moving is.space all_are_made taken_found.made taken_found.unpromoted taken.unknown taken.is taken.takes.promotes next u i fixed);
      registers = λ k fixed. register_promoted a c m st later o q.0 taken.unknown next (ap (λ s. s.registers.items) raised.rest ∙ ap (λ s. s.registers.items) taken_rest) k fixed;
      remembered = first_stays;
    }
      where
        later : IncrementStage
        later = raised_first st o q.0

        next : IsNextStage st later o q.0
        next = record { promoted = refl; now = refl }

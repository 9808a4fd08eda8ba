-- Where all that is unmarked is out of the heap, what is left is at a stage of the decrements at which all references of what was swept wait.
use Rattle.std.proofs.Common.{◌≡◌, ℕ, ◌+◌, ◌*◌, ◌≤◌, refl, sym, ap, subst, ◌∙◌, arith, List, [], ◌++◌, IsTrue, length, length-append, ◌/◌}
use Rattle.std.specs.Prelude.{map, reverse}
use Rattle.std.proofs.lemmas.List.{length-map, length-reverse}
use Rattle.lxr_layout.specs.declared.TheConstants.{DECREMENT_COUNT, DECREMENT_CURSOR, GRANULES_IN_BLOCK, TRACING_WORD}
use Rattle.lxr_layout.specs.declared.Name.{Name}
use Rattle.lxr_layout.specs.Places.{first_word}
use Rattle.lxr_graph.specs.Names.{has, without}
use Rattle.lxr_graph.proofs.NameSets.{in_order-without, without_parts}
use Rattle.lxr_image.specs.declared.space.Space.{Space}
use Rattle.lxr_image.specs.Tables.{Tables}
use Rattle.lxr_image.specs.Spaces.{tables_of}
use Rattle.lxr_model.specs.Moments.{Moment}
use Rattle.lxr_model.specs.References.{references, references_from}
use Rattle.lxr_model.proofs.ReachableLemmas.{dead_parts}
use Rattle.lxr_model_counting.specs.Lowering.{IsLowered}
use Rattle.lxr_model_counting.proofs.DistinctLemmas.{in_order_distinct, without_same}
use Rattle.lxr_model_counting.proofs.LoweringLemmas.{without_none}
use Rattle.lxr_invariant.specs.AbstractState.{leaving}
use Rattle.lxr_invariant.specs.Counting.{count_at, entries_between, passing, waiting_at}
use Rattle.lxr_invariant.specs.Lines.{HasMarks}
use Rattle.lxr_invariant.specs.Standing.{HasBits, IsUnwritten, place_of}
use Rattle.lxr_invariant.proofs.EntryLemmas.{passing_few}
use Rattle.lxr_invariant.proofs.FrameLemmas.{none_undone}
use Rattle.lxr_invariant.proofs.NameLemmas.{no_member}
use Rattle.lxr_pause_decrements.specs.Cascade.{Ground, Remains, waits}
use Rattle.lxr_pause_decrements.proofs.CascadeLemmas.{append_nothing, has_reversed, in_heap, refs_reversed}
use Rattle.lxr_pause_decrements.proofs.GrayLemmas.{grays_none}
use Rattle.lxr_pause_decrements.proofs.WipeLemmas.{loses_none}
use Rattle.lxr_sweep_unmarked.specs.Clearing.{IsClearing, clearing}
use Rattle.lxr_base.specs.Roomy.{extended}
use Rattle.lxr_sweep_unmarked.specs.Releasing.{AllAreLeft, ReleaseStage, cascade_of}
use Rattle.lxr_sweep_unmarked.specs.Sweeping.{CanSweep}
use Rattle.lxr_sweep_unmarked.proofs.ClearingLemmas.{clearing_ground, clearing_limits, field_there}
use Rattle.lxr_sweep_unmarked.proofs.FollowLemmas.{SweptAre, left_closed}
use Rattle.lxr_blocks.specs.States.{state_of}
use Rattle.lxr_image.specs.Reads.{granule_of}

-- ---- moments that differ in what is unreclaimed and stuck

unwritten_too : (m : Moment) (at : Name → ℕ) (vs ss us : List Name) (w : ℕ) → IsUnwritten m at us w → IsUnwritten (record m { unreclaimed = vs; stuck = ss }) at us w
unwritten_too m at vs ss us w (n, i, u) = (n, i, record { member = u.member; index = u.index; unwritten = u.unwritten; word = u.word })

too_unwritten : (m : Moment) (at : Name → ℕ) (vs ss us : List Name) (w : ℕ) → IsUnwritten (record m { unreclaimed = vs; stuck = ss }) at us w → IsUnwritten m at us w
too_unwritten m at vs ss us w (n, i, u) = (n, i, record { member = u.member; index = u.index; unwritten = u.unwritten; word = u.word })

pub bits_then : (t : Tables) (m : Moment) (at : Name → ℕ) (vs ss us : List Name) → HasBits t m at us → HasBits t (record m { unreclaimed = vs; stuck = ss }) at us
bits_then t m at vs ss us is = record {
  starts = is.starts;
  marks = is.marks;
  grays = is.grays;
  dones = is.dones;
  unlogged = λ w. (λ h. unwritten_too m at vs ss us w ((is.unlogged w).0 h), λ h. (is.unlogged w).1 (too_unwritten m at vs ss us w h));
}

-- ---- the beginning

-- the first stage of lowering
abbrev pub releasing : Space → Space → Moment → (Name → ℕ) → List Name → ReleaseStage
releasing s b m at swept = record {
  moment = m;
  at = at;
  swept = reverse swept;
  was = tables_of b;
  before = b.report.dead.items;
  gone = [];
  work = [];
  extra = λ o. references_from m.last.graph (reverse swept) o;
}

module _ (s b : Space) (m : Moment) (at : Name → ℕ) (swept : List Name) (is : IsClearing b (clearing s m at swept (GRANULES_IN_BLOCK * s.limits.blocks))) where
  abbrev pub names : List Name
  names = reverse swept

  abbrev pub left_names : List Name
  left_names = without m.unreclaimed names

  abbrev t : Tables
  t = tables_of b

  abbrev granules : ℕ
  granules = GRANULES_IN_BLOCK * s.limits.blocks

  pub can_sweep : CanSweep s m at
  can_sweep = is.can

  limits : b.limits ≡ s.limits
  limits = clearing_limits b (clearing s m at swept granules) is

  whole : Ground t.heap s.limits.blocks m at
  whole = clearing_ground b (clearing s m at swept granules) is

  -- exactly what is unmarked is swept
  pub swept_are : SweptAre s m at names
  swept_are n = (
    λ h. is.unmarked n (sym (has_reversed swept n) ∙ h),
    λ h. has_reversed swept n ∙ is.found n h.0 h.1 (in_heap t.heap s.limits.blocks m at whole n h.0).1,
  )

  pub same_left : without m.unreclaimed swept ≡ left_names
  same_left = without_same m.unreclaimed swept names (λ n. sym (has_reversed swept n))

  in_all : (n : Name) → IsTrue (has left_names n) → IsTrue (has m.unreclaimed n)
  in_all n h = (without_parts m.unreclaimed names n h).0

  count_same : (n : Name) → IsTrue (has left_names n) → count_at t at n ≡ count_at (tables_of s) at n
  count_same n h = is.counts n (ap (λ us. has us n) same_left ∙ h)

  pub none_waits : (p : ℕ) → waiting_at t p ≡ 0
  none_waits p = ap (λ f. entries_between t.decs (f DECREMENT_CURSOR) (f DECREMENT_COUNT) p) is.cursors ∙ ap (λ n. entries_between t.decs ((tables_of s).cursors DECREMENT_CURSOR) n p) is.can.empty

  ground : Ground t.heap b.limits.blocks (leaving m left_names) at
  ground = subst (λ l. Ground t.heap l.blocks (leaving m left_names) at) (sym limits) (record {
    distinct = in_order_distinct left_names (in_order-without m.unreclaimed names is.can.holds.follows.unreclaimed);
    stands = λ n h. whole.stands n (in_all n h);
    fields = λ n i r d e. ap (λ h. h (first_word (at n) + 1 + i)) is.stay.keeps.heap ∙ field_there s m at is.can.holds is.can.settled n i r (in_all n (dead_parts d).member) e;
    apart = λ x y a c in_x in_y. whole.apart x y a c (in_all x in_x) (in_all y in_y);
    closed = left_closed s m at is.can names swept_are;
  })

  lowered : IsLowered m.last left_names m.stuck [] (count_at t at) (waits t (cascade_of (releasing s b m at swept)))
  lowered = record {
    dead = λ o h. no_member o h;
    zero = λ o h. no_member o h;
    exact = λ o in_o loose.
        let c = count_same o in_o in
        let e = is.can.holds.counts.exact o (in_all o in_o) loose in
        let u = ap (λ us. references m.last us o) (none_undone (tables_of s) at m.unreclaimed is.can.undecremented.none_done) in
        let none : waiting_at (tables_of s) (at o) ≡ 0 = ap (λ n. entries_between (tables_of s).decs ((tables_of s).cursors DECREMENT_CURSOR) n (at o)) is.can.empty in
        let still = none_waits (at o) in
        let all = is.references o in
        let same = ap (λ us. references_from m.last.graph us o) same_left in
        let now = ap (λ us. references_from m.last.graph us o) (without_none left_names) in
        let turned = refs_reversed m.last.graph swept o in
        omega (arith, c, e, u, none, still, all, same, now, turned);
  }

  -- the list of the dead has room, and so has the worklist
  dead_room : length b.report.dead.items + passing t.starts (GRANULES_IN_BLOCK * b.limits.blocks) ≤ b.report.dead.room
  dead_room =
      let dead = ap (λ z. z.report.dead) is.rest in
      let fewer = is.fewer in
      let room = is.can.dead_room in
      subst (λ l. length b.report.dead.items + passing t.starts (GRANULES_IN_BLOCK * l.blocks) ≤ b.report.dead.room) (sym limits)
      (subst (λ d. length d.items + passing t.starts granules ≤ d.room) (sym dead) (omega (arith, fewer, room)))

  worked : b.work ≡ extended s.work (map (place_of at) names)
  worked = ap (λ z. z.work) is.rest

  work_room : length b.work.items + passing t.starts (GRANULES_IN_BLOCK * b.limits.blocks) ≤ b.work.room
  work_room =
      let fewer = is.fewer in
      let few = passing_few (tables_of s).starts granules in
      let both = length-append s.work.items (map (place_of at) names) in
      let none : length s.work.items ≡ 0 = ap length is.can.holds.no_work in
      let as_many = length-map names (place_of at) in
      let long = length-reverse swept in
      let room = is.can.holds.room.work in
      subst (λ l. length b.work.items + passing t.starts (GRANULES_IN_BLOCK * l.blocks) ≤ b.work.room) (sym limits)
      (subst (λ w. length w.items + passing t.starts granules ≤ w.room) (sym worked) (omega (arith, fewer, few, both, none, as_many, long, room)))

  remains : Remains b.limits t b.report.dead (cascade_of (releasing s b m at swept))
  remains = record {
    ground = ground;
    stuck = λ n in_n k. count_same n in_n ∙ is.can.holds.counts.stuck n (in_all n in_n) k;
    below = λ n in_n k. let c = count_same n in_n in let small = is.can.holds.counts.below n (in_all n in_n) k in omega (arith, c, small);
    bits = bits_then t m at left_names m.stuck (without left_names []) (subst (HasBits t m at) (same_left ∙ sym (without_none left_names)) is.bits);
    marks = subst (HasMarks t m.state.graph at) (same_left ∙ sym (without_none left_names)) is.marks;
    unused = λ n h free. is.can.holds.unused.objects n (in_all n h) (sym (ap (λ f. state_of (f (granule_of (at n) / GRANULES_IN_BLOCK))) is.stay.states) ∙ free);
    lost_marks = loses_none t.marks at;
    tracing = ap (λ f. f TRACING_WORD) is.cursors ∙ is.can.holds.blocks.tracing;
    decrements =
        let none : t.cursors DECREMENT_COUNT ≡ 0 = ap (λ f. f DECREMENT_COUNT) is.cursors ∙ is.can.empty in
        record { fits = omega (arith, none); places = λ k h. absurd (omega (arith, h, none)) };
    once = tt;
    reported = append_nothing b.report.dead.items;
    fewer = omega arith;
    dead_room = dead_room;
  }

  -- all references of what is swept wait
  pub all_left : AllAreLeft b (releasing s b m at swept)
  all_left = record {
    stage = record {
      stage = record {
        space = is.space;
        cascade = record {
          remains = remains;
          lowered = lowered;
          seen = λ n in_n loose seen none. absurd (is.can.undecremented.positive n (in_all n in_n) (sym (count_same n in_n) ∙ none));
          none_done = λ k. ap (λ f. f k) is.dones ∙ is.can.undecremented.none_done k;
          grays = grays_none m.trace t.grays (leaving m left_names) at;
          work = ap (λ w. w.items) worked ∙ ap (λ xs. xs ++ map (place_of at) names) is.can.holds.no_work ∙ append_nothing (map (place_of at) names);
          work_gone = λ n h. no_member n h;
          work_room = work_room;
        };
      };
      ground = subst (λ l. Ground t.heap l.blocks m at) (sym limits) whole;
      members = λ n h. ((swept_are n).0 h).0;
      fields = λ n i r h e. ap (λ f. f (first_word (at n) + 1 + i)) is.stay.keeps.heap ∙ field_there s m at is.can.holds is.can.settled n i r ((swept_are n).0 h).0 e;
    };
    no_work = refl;
    extra = λ o. refl;
  }

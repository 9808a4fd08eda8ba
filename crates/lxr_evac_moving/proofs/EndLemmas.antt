-- The last stage: all was looked at, all references and registers are fixed, and all old places are cleared. So objects have been evacuated.
use Rattle.std.proofs.Common.{◌≡◌, ℕ, ◌+◌, ◌*◌, ◌/◌, ◌%◌, ◌^◌, ◌<◌, ◌≤◌, refl, sym, ap, subst, ◌∙◌, inl, inr, arith, Bool, true, false, [], length, map, nat_eq, ◌≢◌}
use Rattle.std.specs.Prelude.{◌↔◌, ◌&&◌, nat_lt, not, None, Option, Some, IsTrue, slice_index_or, if◌then◌else◌}
use Rattle.std.specs.List.Sorted.{IsPermutation}
use Rattle.std.proofs.lemmas.Bool.Decides.{eqb_tells, nat_tests}
use Rattle.std.proofs.lemmas.Option.{get_or_from_slice_get, slice_get_within}
use Rattle.lxr_layout.specs.declared.Name.{Name}
use Rattle.lxr_layout.specs.declared.TheConstants.{DECREMENT_COUNT, DECREMENT_CURSOR, GRANULES_IN_BLOCK, GRANULES_IN_LINE, LINES_IN_BLOCK, REGISTERS, STUCK, TRACING_WORD}
use Rattle.lxr_layout.specs.Places.{field_word}
use Rattle.lxr_graph.specs.Names.{IsSetOf, has, same_name}
use Rattle.lxr_graph.specs.State.{Object, object_at, refs_of, world_name}
use Rattle.lxr_graph.proofs.NameSets.{in_order-none, same_itself}
use Rattle.lxr_image.specs.declared.space.Space.{Space}
use Rattle.lxr_image.specs.Tables.{Tables}
use Rattle.lxr_image.specs.Spaces.{tables_of}
use Rattle.lxr_image.specs.Reads.{granule_of}
use Rattle.lxr_image.specs.Image.{ArePlacesOf, IsImage, Stands, place_word}
use Rattle.lxr_image.specs.Opened.{HasRoom}
use Rattle.lxr_blocks.specs.declared.states.BlockState.TheVariants.{Chosen, World, Free}
use Rattle.lxr_blocks.specs.States.{state_in}
use Rattle.lxr_model.specs.Moments.{Moment}
use Rattle.lxr_model.specs.References.{references}
use Rattle.lxr_model_counting.specs.Distinct.{has_field}
use Rattle.lxr_invariant.specs.AbstractState.{members}
use Rattle.lxr_invariant.specs.Counting.{HasCounts, IsUndecremented, count_at, entries_between, listed_at, undone, waiting_at}
use Rattle.lxr_invariant.specs.Lines.{HasBlocks, HasMarks, is_chosen, FreeAreUnused}
use Rattle.lxr_invariant.specs.Quiescent.{HoldsMoment}
use Rattle.lxr_invariant.specs.Standing.{AreLogged, HasBits, entry_of}
use Rattle.lxr_invariant.specs.Tracing.{HasOverflowed}
use Rattle.lxr_invariant.proofs.BlockLemmas.{blocks_kept, still_not}
use Rattle.lxr_invariant.proofs.MemberLemmas.{undone_all}
use Rattle.lxr_invariant.proofs.NameLemmas.{in_either}
use Rattle.lxr_pause_promote.proofs.EitherLemmas.{held_began}
use Rattle.lxr_evac_moving.specs.Evacuation.{CanEvacuate, EvacuatesChosen, IsToMove}
use Rattle.lxr_evac_moving.specs.Stages.{AreFixed, EvacuationStage, HasPlace, IsEvacuating, granules, is_kept, kept_names, moved_names, stood_chosen}
use Rattle.lxr_evac_moving.specs.Steps.{last_stage}
use Rattle.lxr_evac_moving.proofs.FilterLemmas.{filter_in_order, filter_parts, in_filter}
use Rattle.lxr_evac_moving.proofs.LookedLemmas.{all_three}
use Rattle.lxr_evac_moving.proofs.StageLemmas.{moved_in, moved_parts, place_some, same_cursors, same_limits, stands}
use Rattle.lxr_evac_moving.proofs.StepLemmas.{chosen_state}
use Rattle.lxr_invariant.proofs.UnusedLemmas.{out_used}

-- ---- which objects were kept

three_parts : (a b c : Bool) → IsTrue (a && (b && c)) → IsTrue a × IsTrue b × IsTrue c
three_parts true true c is = (refl, refl, is)
three_parts true false c is = absurd (cc)
three_parts false b c is = absurd (cc)

chosen_told : (t : Tables) (b : ℕ) → state_in t b ≡ Chosen → is_chosen (state_in t b) ≡ true
chosen_told t b e = ap is_chosen e

-- where all objects were looked at, those of Chosen blocks that are where they were
pub kept_set : (m : Moment) (st : EvacuationStage) → CanEvacuate st.found m st.at → ((n : Name) → IsTrue (has m.unreclaimed n) → granule_of (st.at n) < st.looked)
    → IsSetOf (kept_names m st) (λ n. IsToMove st.found m st.at n × (st.now n ≡ st.at n))
kept_set m st can looked = record {
  in_order = filter_in_order (is_kept st) m.unreclaimed can.holds.follows.unreclaimed;
  members = λ n. (
    λ h.
        let parts = filter_parts (is_kept st) m.unreclaimed n h in
        let three = three_parts (stood_chosen st n) (nat_lt (granule_of (st.at n)) st.looked) (nat_eq (st.now n) (st.at n)) parts.1 in
        (record { member = parts.0; chosen = chosen_state (state_in (tables_of st.found) (granule_of (st.at n) / GRANULES_IN_BLOCK)) three.0 }, let same = three.2 in grind (arith, nat_tests)),
    λ is.
        let low = looked n is.0.member in
        let same = is.1 in
        in_filter (is_kept st) m.unreclaimed n is.0.member (all_three (stood_chosen st n) (nat_lt (granule_of (st.at n)) st.looked) (nat_eq (st.now n) (st.at n))
        (chosen_told (tables_of st.found) (granule_of (st.at n) / GRANULES_IN_BLOCK) is.0.chosen) (grind (arith, nat_tests)) (grind (arith, nat_tests))),
  );
}

-- ---- where the remembered set has overflowed, nothing is moved

pub overflowed_keeps : (s : Space) (m : Moment) (at : Name → ℕ) → CanEvacuate s m at → HasOverflowed s.limits (tables_of s) → ((n : Name) → IsTrue (has m.unreclaimed n) → granule_of (at n) < granules s)
    → length (kept_names m (last_stage s at at)) ≤ granules s → EvacuatesChosen s s m at at [] (kept_names m (last_stage s at at))
overflowed_keeps s m at can full within few = record {
  holds = can.holds;
  undecremented = can.undecremented;
  moved_are = record { in_order = in_order-none; members = λ n. (λ h. absurd (nobody n h), λ is. absurd (is.1 refl)) };
  kept_are = kept_set m (last_stage s at at) can within;
  few = omega (arith, few);
  others = λ n h. refl;
  away = λ n h. absurd (nobody n h);
  onto = λ n o k h moved covers. absurd (moved refl);
  wanting = λ n o h has_o. inl full;
  all_kept = λ h. refl;
  marks = λ n h. (λ k. k, λ k. k);
  grays = λ n h. (λ k. k, λ k. k);
  left_behind = λ n h. absurd (nobody n h);
  heap = λ w outside unfixed. refl;
  outs = λ line. (λ out. inl out, λ out. elim out [ inl was ↦ was | inr copy ↦ absurd (copy.moved refl) ]);
  counted = λ line copy. absurd (copy.moved refl);
  uncounted = λ line none. refl;
  states = λ b. inl refl;
  tables = refl;
  space = refl;
}
  where
    nobody : (n : Name) → IsTrue (has [] n) → ⊥
    nobody n h = let no : false ≡ true = h in cc

-- ---- a name that is unreclaimed or was made since, where none was

member_parts : (m : Moment) → m.made ≡ [] → (n : Name) → IsTrue (has (members m) n) → IsTrue (has m.unreclaimed n)
member_parts m none n h = elim (in_either m.unreclaimed m.made n h) [ inl k ↦ k | inr k ↦ absurd (let no : false ≡ true = sym (ap (λ ns. has ns n) none) ∙ k in cc) ]

none_made : (m : Moment) → m.made ≡ [] → (n : Name) → IsTrue (has m.made n) → ⊥
none_made m none n h = let no : false ≡ true = sym (ap (λ ns. has ns n) none) ∙ h in cc

-- a line that was handed out since is counted once more
handed_more : (x z : Bool) (r f : ℕ) → IsTrue x → z ≡ false → r ≡ (if x && not z then ((f + 1) % 2 ^ 32) else f) → r ≡ (f + 1) % 2 ^ 32
handed_more true true r f out free e = absurd (cc)
handed_more true false r f out free e = e
handed_more false z r f out free e = absurd (cc)

handed_same : (x z : Bool) (r f : ℕ) → (IsTrue x → z ≡ false → ⊥) → r ≡ (if x && not z then ((f + 1) % 2 ^ 32) else f) → r ≡ f
handed_same true true r f none e = e
handed_same true false r f none e = absurd (none refl refl)
handed_same false z r f none e = e

same_bit : (a b : Bool) → a ≡ b → IsTrue a ↔ IsTrue b
same_bit a b e = (λ h. sym e ∙ h, λ h. e ∙ h)

module _ (s : Space) (m : Moment) (st : EvacuationStage) (is : IsEvacuating s m st) (looked : st.looked ≡ granules s) (cleared : st.cleared ≡ granules s) (fixed : AreFixed (tables_of s) m st)
    (registers : ArePlacesOf st.now s.registers.items m.state.registers) (deferred : ArePlacesOf st.now s.deferred.items m.last.registers) where
  abbrev t : Tables
  t = tables_of s

  abbrev f : Tables
  f = tables_of st.found

  was : HoldsMoment st.found m st.at
  was = is.can.holds

  no_made : m.made ≡ []
  no_made = is.can.settled.none_made

  -- bits stand only where objects stand now
  only_now : (n : Name) (p : ℕ) → IsTrue (has m.unreclaimed n) → HasPlace st n p → p ≡ st.now n
  only_now n p in_n (inl e) = e
  only_now n p in_n (inr (e, left)) =
      let low = (place_some s m st is n (st.at n) in_n (inl refl)).2 in
      absurd (omega (arith, e, left, low, cleared))

  -- ---- tables that are as they were

  same_dones : t.dones ≡ f.dones
  same_dones = ap (λ x. x.dones) is.tables

  none_done : (k : ℕ) → t.dones k ≡ false
  none_done k = ap (λ d. d k) same_dones ∙ is.can.undecremented.none_done k

  -- ---- the image

  stands_then : (n : Name) (o : Object) → IsTrue (has m.unreclaimed n) → object_at m.state.graph n ≡ Some o → Stands t s.limits.blocks st.now n o
  stands_then n o in_n has_o =
      let x = stands s m st is n o in_n has_o in
      record {
        placed = x.placed;
        whole = x.whole;
        refs = λ i r e.
            let refs : refs_of (object_at m.state.graph n) ≡ o.refs = ap (λ z. refs_of z) has_o in
            let within = slice_get_within o.refs i r e in
            let low : i < length (refs_of (object_at m.state.graph n)) = subst (λ xs. i < length xs) (sym refs) within in
            (fixed n i in_n low).holds ∙ ap (λ z. held z) (ap (λ xs. slice_index_or xs i None) refs ∙ get_or_from_slice_get o.refs i r None e);
        values = x.values;
      }
    where
      held : Option Name → ℕ
      held r = place_word st.now r

  image_then : IsImage t s.limits.blocks st.now m.state.graph (members m)
  image_then = record {
    stands = λ n h.
        let in_n = member_parts m no_made n h in
        let x = is.heap.stands n in_n in
        (x.0, x.1, stands_then n x.0 in_n x.1);
    apart = λ n u a b in_n in_u differ has_a has_b. is.apart.apart n u a b (st.now n) (st.now u) (member_parts m no_made n in_n) (member_parts m no_made u in_u) has_a has_b (inr refl) (inr refl) (λ e.
        let same : n ≡ u = is.apart.own n u (st.now n) (member_parts m no_made n in_n) (member_parts m no_made u in_u) (inr refl) (inr e) in
        let told : same_name n u ≡ true = ap (same_name n) (sym same) ∙ same_itself n in
        cc);
  }

  -- the world stays: its block is never Chosen
  world_stays : st.now world_name ≡ 1
  world_stays = elim (eqb_tells (st.now world_name) (st.at world_name)) [
    | inl e ↦ e.1 ∙ was.image.world
    | inr e ↦
        let chosen = (is.apart.moved world_name e.1).1 in
        let first : granule_of (st.at world_name) / GRANULES_IN_BLOCK ≡ 0 = let one = was.image.world in omega (arith, one) in
        absurd (let no : World ≡ Chosen = sym was.blocks.world ∙ ap (state_in f) (sym first) ∙ chosen in cc)
  ]

  -- ---- bits, counts and marks

  bits_then : HasBits t m st.now m.unreclaimed
  bits_then = record {
    starts = record {
      each = λ n in_n. is.bits.starts n (st.now n) in_n (inl refl);
      only = λ k start. let u = is.bits.starts_only k start in (u.0, u.2, ap granule_of (sym (only_now u.0 u.1 u.2 u.3)) ∙ u.4);
    };
    marks = is.bits.marks_only;
    grays = is.bits.grays_only;
    dones = λ k set. absurd (let no = none_done k in cc);
    unlogged = λ w. (
      λ set. let r = (is.bits.unlogged w).0 set in (
        r.name,
        r.index,
        record {
          member = r.member;
          index = r.within;
          unwritten = ap (λ ws. has_field ws (r.name, r.index)) is.can.settled.none_written;
          word = r.word ∙ ap (λ p. field_word p r.index) (only_now r.name r.place r.member r.has_place);
        },
      ),
      λ u. (is.bits.unlogged w).1 (record { name = u.0; index = u.1; place = st.now u.0; member = u.2.member; within = u.2.index; has_place = inl refl; word = u.2.word }),
    );
  }

  count_same : (n : Name) → IsTrue (has m.unreclaimed n) → count_at t st.now n ≡ count_at f st.at n
  count_same n in_n = is.bits.counts n (st.now n) in_n (inl refl)

  none_waits : (u : Tables) (p : ℕ) → u.cursors DECREMENT_COUNT ≡ 0 → waiting_at u p ≡ 0
  none_waits u p none = ap (λ k. entries_between u.decs (u.cursors DECREMENT_CURSOR) k p) none

  empty_then : t.cursors DECREMENT_COUNT ≡ 0
  empty_then = ap (λ c. c DECREMENT_COUNT) (same_cursors s m st is) ∙ is.can.empty

  none_listed : (u : Tables) (p : ℕ) → u.cursors DECREMENT_COUNT ≡ 0 → listed_at u p ≡ 0
  none_listed u p none = ap (λ k. entries_between u.decs 0 k p) none

  undone_same : undone t st.now m.unreclaimed ≡ undone f st.at m.unreclaimed
  undone_same = sym (undone_all t st.at st.now m.unreclaimed none_done) ∙ ap (λ d. undone (record f { dones = d }) st.at m.unreclaimed) same_dones

  counts_then : HasCounts t m st.now
  counts_then = record {
    stuck = λ n in_n stuck. count_same n in_n ∙ was.counts.stuck n in_n stuck;
    below = λ n in_n unstuck. subst (λ c. c < STUCK) (sym (count_same n in_n)) (was.counts.below n in_n unstuck);
    exact = λ n in_n unstuck. count_same n in_n ∙ was.counts.exact n in_n unstuck
        ∙ (λ i. references m.last (sym undone_same i) n + (none_waits f (st.at n) is.can.empty ∙ sym (none_waits t (st.now n) empty_then)) i);
    held = λ n in_n unstuck none. was.counts.held n in_n unstuck
        ((λ i. references m.last m.unreclaimed n + (none_listed f (st.at n) is.can.empty ∙ sym (none_listed t (st.now n) empty_then)) i) ∙ none);
    done = λ n in_n done. absurd (let no = none_done (granule_of (st.now n)) in cc);
    dead = λ n in_n done. absurd (let no = none_done (granule_of (st.now n)) in cc);
  }

  marks_then : HasMarks t m.state.graph st.now m.unreclaimed
  marks_then = record {
    marked = λ n o k in_n has_o mark. is.bits.lines k (record {
      name = n;
      object = o;
      place = st.now n;
      member = in_n;
      is = has_o;
      has_place = inl refl;
      begins = mark.begins;
      behind = mark.behind;
      within = mark.within;
    });
    elsewhere = λ k nobody nothing. is.bits.counts_only k (λ n p in_n place e. nobody n in_n (ap granule_of (sym (only_now n p in_n place)) ∙ e)) (λ mark.
        let place = only_now mark.name mark.place mark.member mark.has_place in
        let behind = mark.behind in
        let within = mark.within in
        nothing mark.name mark.object mark.member mark.is (record { begins = mark.begins; behind = omega (arith, behind, place); within = omega (arith, within, place) }));
  }

  -- ---- lists

  limits_same : s.limits ≡ st.found.limits
  limits_same = same_limits s m st is

  room_then : HasRoom s
  room_then = subst HasRoom (sym is.changes) (record { registers = was.room.registers; deferred = was.room.deferred; logged = was.room.logged; work = was.room.work; report = was.room.report })

  logged_same : s.logged ≡ st.found.logged
  logged_same = ap (λ x. x.logged) is.changes

  logs_then : AreLogged m st.now s.logged.items
  logs_then = subst (λ l. AreLogged m st.now l.items) (sym logged_same)
      (subst (λ es. IsPermutation es st.found.logged.items) (ap (map (entry_of m st.at)) is.can.settled.none_written ∙ sym (ap (map (entry_of m st.now)) is.can.settled.none_written)) was.logs)

  registers_many : length s.registers.items ≡ REGISTERS * s.limits.threads
  registers_many =
      is.registers.as_many ∙ sym (held_began st.at st.found.registers.items m.state.registers was.image.registers).as_many ∙ was.as_many.0 ∙ ap (λ l. REGISTERS * l.threads) (sym limits_same)

  deferred_many : length s.deferred.items ≡ REGISTERS * s.limits.threads
  deferred_many =
      is.deferred.as_many ∙ sym (held_began st.at st.found.deferred.items m.last.registers was.image.deferred).as_many ∙ was.as_many.1 ∙ ap (λ l. REGISTERS * l.threads) (sym limits_same)

  -- ---- the moment

  -- a line that is out then, or an object that stands then, is of no block that is Free
  outs_used : (line : ℕ) → IsTrue (t.outs line) → state_in t (line / LINES_IN_BLOCK) ≢ Free
  outs_used line out free = let was_free = is.lines.free (line / LINES_IN_BLOCK) free in was.unused.outs line (was_free.1 line refl out) was_free.0

  unused_then : FreeAreUnused t st.now m.unreclaimed
  unused_then = record {
    objects = λ n in_n free. elim (eqb_tells (st.now n) (st.at n)) [
      | inl stays ↦ was.unused.objects n in_n (ap (λ p. state_in f (granule_of p / GRANULES_IN_BLOCK)) (sym stays.1) ∙ (is.lines.free (granule_of (st.now n) / GRANULES_IN_BLOCK) free).0)
      | inr moved ↦
          let x = is.heap.stands n in_n in
          out_used t (granule_of (st.now n)) outs_used ((is.lines.outs (granule_of (st.now n) / GRANULES_IN_LINE)).1 (inr (record {
            name = n;
            promoted_is = moved_in m st n in_n moved.1;
            moved = moved.1;
            object = x.0;
            granule = granule_of (st.now n);
            covers = record { object = x.1; first = omega arith; behind = omega arith };
            line_is = refl;
          }))) free
    ];
    outs = outs_used;
  }

  holds_then : HoldsMoment s m st.now
  holds_then = record {
    space = is.space;
    room = room_then;
    as_many = (registers_many, deferred_many);
    follows = was.follows;
    image = record { image = image_then; registers = registers; deferred = deferred; world = world_stays };
    bits = bits_then;
    logs = logs_then;
    few_logs = subst (λ x. length x.logged.items ≤ x.limits.threads * x.limits.log) (sym is.changes) was.few_logs;
    counts = counts_then;
    decrements = record {
      fits = let none = empty_then in omega (arith, none);
      places = λ k low. absurd (let none = empty_then in omega (arith, none, low));
    };
    marks = marks_then;
    lines = λ n o k h. absurd (none_made m no_made n h);
    unchosen = λ n h. absurd (none_made m no_made n h);
    unused = unused_then;
    blocks = subst (λ l. HasBlocks t l m.trace) (sym limits_same) (blocks_kept f t st.found.limits m.trace is.lines.states (ap (λ c. c TRACING_WORD) (same_cursors s m st is)) was.blocks);
    rest = record {
      rest = is.lines.rest;
      apart = λ n o k h covers. is.lines.kept.rest k (record {
        name = n;
        object = o;
        place = st.now n;
        member = member_parts m no_made n h;
        is = covers.object;
        has_place = inl refl;
        among = (covers.first, covers.behind);
      });
    };
    no_work = ap (λ x. x.work.items) is.changes ∙ was.no_work;
  }

  undecremented_then : IsUndecremented t m st.now
  undecremented_then = record {
    none_done = none_done;
    none_drawn = ap (λ c. c DECREMENT_CURSOR) (same_cursors s m st is) ∙ is.can.undecremented.none_drawn;
    positive = λ n in_n none. is.can.undecremented.positive n in_n (sym (count_same n in_n) ∙ none);
  }

  -- ---- all of it

  pub evacuated : length (moved_names m st) + length (kept_names m st) ≤ granules st.found → ¬ HasOverflowed st.found.limits f → EvacuatesChosen st.found s m st.at st.now (moved_names m st) (kept_names m st)
  evacuated few whole = record {
    holds = holds_then;
    undecremented = undecremented_then;
    moved_are = record {
      in_order = filter_in_order (λ n. not (nat_eq (st.now n) (st.at n))) m.unreclaimed was.follows.unreclaimed;
      members = λ n. (
        λ h. let p = moved_parts m st n h in let x = is.apart.moved n p.1 in (record { member = p.0; chosen = x.1 }, p.1),
        λ x. moved_in m st n x.0.member x.1,
      );
    };
    kept_are = kept_set m st is.can (λ n in_n. let low = (place_some s m st is n (st.at n) in_n (inl refl)).2 in omega (arith, low, looked));
    few = few;
    others = λ n h. elim (eqb_tells (st.now n) (st.at n)) [
      | inl e ↦ e.1
      | inr e ↦ absurd (let has_n = moved_in m st n (is.apart.moved n e.1).0 e.1 in cc)
    ];
    away = λ n h. still_not f t (granule_of (st.now n) / GRANULES_IN_BLOCK) Chosen refl (is.lines.states (granule_of (st.now n) / GRANULES_IN_BLOCK)) (is.apart.away n (moved_parts m st n h).1);
    onto = is.apart.onto;
    wanting = λ n o h has_o. inr (is.lines.wanting n o h has_o);
    all_kept = λ full. absurd (whole full);
    marks = λ n in_n. same_bit (t.marks (granule_of (st.now n))) (f.marks (granule_of (st.at n))) (is.bits.marks n (st.now n) in_n (inl refl));
    grays = λ n in_n. same_bit (t.grays (granule_of (st.now n))) (f.grays (granule_of (st.at n))) (is.bits.grays n (st.now n) in_n (inl refl));
    left_behind = λ n h. is.heap.left_behind n (moved_parts m st n h).1;
    heap = is.heap.others;
    outs = is.lines.outs;
    counted = λ line copy free. handed_more (t.outs line) (f.outs line) (t.reuse line) (f.reuse line) ((is.lines.outs line).1 (inr copy)) free (is.lines.reuse line);
    uncounted = λ line none. handed_same (t.outs line) (f.outs line) (t.reuse line) (f.reuse line) (λ out free. elim ((is.lines.outs line).0 out) [
      | inl before ↦ absurd (cc)
      | inr copy ↦ none (copy, free)
    ]) (is.lines.reuse line);
    states = is.lines.states;
    tables = is.tables;
    space = is.changes;
  }

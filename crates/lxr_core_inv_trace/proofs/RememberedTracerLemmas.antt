-- Steps of tracers: one that marks an object is ahead of its first reference, and from each reference it goes on to the next once that one's entry
-- is written, or need not be.
use Rattle.std.proofs.Common.{◌≡◌, ◌≢◌, ℕ, ◌+◌, ◌-◌, ◌*◌, ◌/◌, ◌^◌, ◌<◌, ◌≤◌, refl, sym, ap, subst, ◌∙◌, inl, inr, ◌⊎◌, arith, true, false, cond, List, IsTrue, length}
use Rattle.std.specs.Prelude.{◌&&◌, nat_lt, not, Option, Some, None}
use Rattle.std.proofs.lemmas.Bool.Decides.{eqb_tells}
use Rattle.std.proofs.lemmas.Option.{slice_get_within}
use Rattle.lxr_layout.specs.declared.limits.Limits.{Limits}
use Rattle.lxr_layout.specs.declared.Header.TheVariants as header
use Rattle.lxr_layout.specs.declared.Name.{Name}
use Rattle.lxr_layout.specs.declared.Shape.{Shape}
use Rattle.lxr_layout.specs.declared.TheConstants.{GRANULES_IN_BLOCK, REMEMBERED_CURSOR, WORDS_IN_LINE}
use Rattle.lxr_layout.specs.Objects.{header_of}
use Rattle.lxr_layout.specs.Places.{field_word, first_word}
use Rattle.lxr_layout.specs.Runs.{word_of_entry}
use Rattle.lxr_graph.specs.Names.{IsSetOf, has}
use Rattle.lxr_graph.specs.State.{object_at, refs_of}
use Rattle.lxr_graph.proofs.NameSets.{not_both}
use Rattle.lxr_image.specs.Tables.{Tables}
use Rattle.lxr_image.specs.Reads.{granule_of}
use Rattle.lxr_blocks.specs.declared.states.BlockState.TheVariants.{Chosen}
use Rattle.lxr_blocks.specs.States.{state_of}
use Rattle.lxr_model.specs.Reachable.{Reachable}
use Rattle.lxr_model.specs.Moments.{Moment, Trace}
use Rattle.lxr_invariant.specs.Tracing.{IsInChosen, is_unscanned, unscanned_slots}
use Rattle.lxr_invariant.proofs.EntryLemmas.{changed_cases, changed_here}
use Rattle.lxr_invariant.proofs.ScanLemmas.{fewer_unscanned, one_scanned}
use Rattle.lxr_core_access.specs.declared.Access.TheVariants as access
use Rattle.lxr_core_access.specs.Accesses.{done_to}
use Rattle.lxr_core_access.specs.Tracers.{Attempts, Tracing, TracerGoes, IsTry, begins, goes_on, nothing, pocket, scanned_next, tracer_access, Rests, AsksGray, AsksObject, Marks, ReadsShape, Scans, AsksReferent, GraysReferent, AsksBlock, ReadsReuse, DrawsNumber, Enters, FindsNothing}
use Rattle.lxr_core_access.specs.Tracers as goes
use Rattle.lxr_core_invariant.specs.Counted.{references_at}
use Rattle.lxr_core_invariant.specs.Traced.{IsScannedAt, KnowsObjects}
use Rattle.lxr_core_invariant.specs.Remembered.{HasLoaded, IsSomeEntry, KnowsCounter, KnowsFields, KnowsNumber, StillHolds, entered_by, remembers_from, undrawn_by}
use Rattle.lxr_core_invariant.proofs.ActingLemmas.{same_pair}
use Rattle.lxr_core_inv_counts.proofs.StepLemmas.{after_access}
use Rattle.lxr_core_inv_trace.proofs.RememberedGroundLemmas.{IsGround}
use Rattle.lxr_core_inv_trace.proofs.RememberedTurnLemmas.{GoesAhead, KeepsFields, Moves}

-- ---- small facts

-- the number of the state Chosen
chosen_number : (k : ℕ) → state_of k ≡ Chosen → k ≡ 3
chosen_number k e = grind (arith, e)

-- a place is told by its granule
place_by_granule : (p q : ℕ) → 1 ≤ p → 1 ≤ q → granule_of p ≡ granule_of q → p ≡ q
place_by_granule p q some_p some_q e = omega arith

-- an object of the heap stands at one of its places
place_fits : (place refs blocks : ℕ) → 2 * (place - 1) + 1 + refs ≤ 4096 * blocks → place ≤ GRANULES_IN_BLOCK * blocks
place_fits place refs blocks within = omega arith

-- what a tracer comes to has nothing to enter yet, knows what it knows, and is ahead of no more than so many references
record IsQuiet (l : Limits) (u : Tables) (m : Moment) (at : Name → ℕ) (e : Tracing) (most : ℕ) : Type 0 where
  entered : entered_by e ≡ None
  knows : KnowsFields l u m at e
  undrawn : undrawn_by m at e ≤ most

-- so it is with the next reference, or the end of the unit
next_quiet : (l : Limits) (u : Tables) (m : Moment) (at : Name → ℕ) (place refs index : ℕ) → IsQuiet l u m at (scanned_next place refs index) (refs - index)
next_quiet l u m at place refs index = elim (nat_lt index refs) as (λ c. IsQuiet l u m at (cond c (Scans place refs index) Rests) (refs - index)) [
  | true ↦ record { entered = refl; knows = tt; undrawn = omega arith }
  | false ↦ record { entered = refl; knows = tt; undrawn = omega arith }
]

-- and with what is tried
try_quiet : (l : Limits) (u : Tables) (m : Moment) (at : Name → ℕ) (blocks : ℕ) (e : Tracing) → IsTry blocks e → IsQuiet l u m at e 0
try_quiet l u m at blocks e (pocket place some within) = record { entered = refl; knows = tt; undrawn = omega arith }
try_quiet l u m at blocks e (nothing) = record { entered = refl; knows = tt; undrawn = omega arith }

-- while there are more references, the next one is scanned
next_remembers : (place refs index : ℕ) → index < refs → remembers_from (scanned_next place refs index) ≡ Some (place, index)
next_remembers place refs index less = let c : nat_lt index refs ≡ true = grind (arith, less) in ap (λ b. remembers_from (cond b (Scans place refs index) Rests)) c

-- tables of which nothing but grays and marks that were set has changed
record Looks (t u : Tables) : Type 0 where
  keeps : KeepsFields t u
  marks : (k : ℕ) → IsTrue (u.marks k) → IsTrue (t.marks k)
  stay : (k : ℕ) → IsTrue (t.marks k) → IsTrue (u.marks k)
  remembered : u.remembered ≡ t.remembered
  drawn : u.cursors REMEMBERED_CURSOR ≡ t.cursors REMEMBERED_CURSOR

looks_still : (t : Tables) → Looks t t
looks_still t = record { keeps = record { unlogged = λ w k. k; reuse = refl; states = refl; drawn = omega arith }; marks = λ k h. h; stay = λ k h. h; remembered = refl; drawn = refl }

gray_looks : (t : Tables) (granule : ℕ) → Looks t (done_to t (access.SetGray granule))
gray_looks t granule = record { keeps = record { unlogged = λ w k. k; reuse = refl; states = refl; drawn = omega arith }; marks = λ k h. h; stay = λ k h. h; remembered = refl; drawn = refl }

-- a mark that was set is none that is set
mark_looks : (t : Tables) (granule : ℕ) → t.marks granule ≡ true → Looks t (done_to t (access.SetMark granule))
mark_looks t granule set = record {
  keeps = record { unlogged = λ w k. k; reuse = refl; states = refl; drawn = omega arith };
  marks = λ k h. elim (changed_cases t.marks granule true k) [ inl q ↦ ap t.marks q.0 ∙ set | inr q ↦ sym q.1 ∙ h ];
  stay = λ k h. elim (changed_cases t.marks granule true k) [ inl q ↦ q.1 | inr q ↦ q.1 ∙ h ];
  remembered = refl;
  drawn = refl;
}

module _ (l : Limits) (t : Tables) (m : Moment) (at : Name → ℕ) (ground : IsGround l t m at) (trace : Trace)
    (marking : (snapshot : List Name) → IsSetOf snapshot (Reachable trace.state) → (n : Name) → IsTrue (has m.unreclaimed n) → IsTrue (t.grays (granule_of (at n))) → t.marks (granule_of (at n)) ≡ false
    → IsTrue (has snapshot n) ⊎ (length (refs_of (object_at m.last.graph n)) ≡ 0)) where
  -- ---- where a tracer goes on

  -- an object has as many references as its tracer knows, so that each of them is reached
  next_ahead : (u : Tables) (d : Tracing) (place refs index : ℕ) → refs ≡ length (references_at m at place) → (n v : Name) (i : ℕ) → StillHolds t m at n i v → place ≡ at n → index ≤ i
      → GoesAhead l t u at d (scanned_next place refs index) n i
  next_ahead u d place refs index known n v i holds here low =
      let many = known ∙ ap length (ground.refs place n holds.member here) in
      let within = slice_get_within (refs_of (object_at m.last.graph n)) i (Some v) holds.held in
      inr (inr (index, next_remembers place refs index (omega (arith, many, within, low)) ∙ ap (λ p. Some (p, index)) here, low))

  -- it goes past a reference that is entered, or need not be
  past : (u : Tables) (d : Tracing) (place refs index : ℕ) → refs ≡ length (references_at m at place) → remembers_from d ≡ Some (place, index)
      → ((n v : Name) → place ≡ at n → StillHolds t m at n index v → IsInChosen t at v → GoesAhead l t u at d (scanned_next place refs (index + 1)) n index)
      → (n v : Name) (i first : ℕ) → StillHolds t m at n i v → IsInChosen t at v → remembers_from d ≡ Some (at n, first) → first ≤ i → GoesAhead l t u at d (scanned_next place refs (index + 1)) n i
  past u d place refs index known at_d here n v i first holds chosen from low =
      let same = same_pair place index (at n) first (sym at_d ∙ from) in
      let number = same.1 in
      elim (eqb_tells index i) [
        | inl q ↦ subst (λ j. GoesAhead l t u at d (scanned_next place refs (index + 1)) n j) q.1 (here n v same.0 (subst (λ j. StillHolds t m at n j v) (sym q.1) holds) chosen)
        | inr q ↦ let other = q.1 in next_ahead u d place refs (index + 1) known n v i holds same.0 (omega (arith, low, number, other))
      ]

  -- it stays ahead of the reference that it is at
  stays : (u : Tables) (d e : Tracing) (place index : ℕ) → remembers_from d ≡ Some (place, index) → remembers_from e ≡ Some (place, index)
      → (n v : Name) (i first : ℕ) → StillHolds t m at n i v → IsInChosen t at v → remembers_from d ≡ Some (at n, first) → first ≤ i → GoesAhead l t u at d e n i
  stays u d e place index at_d at_e n v i first holds chosen from low = inr (inr (first, at_e ∙ sym at_d ∙ from, low))

  -- it was ahead of nothing
  idle : (u : Tables) (d e : Tracing) → remembers_from d ≡ None → (n v : Name) (i first : ℕ) → StillHolds t m at n i v → IsInChosen t at v → remembers_from d ≡ Some (at n, first) → first ≤ i → GoesAhead l t u at d e n i
  idle u d e none n v i first holds chosen from low = absurd (let k : ◌≡◌ {A = Option (ℕ × ℕ)} None (Some (at n, first)) = sym none ∙ from in cc)

  -- ---- kinds of steps

  -- it looks, and has nothing to enter before or after
  looks : (u : Tables) (d e : Tracing) (most : ℕ) → Looks t u → entered_by d ≡ None → IsQuiet l u m at e most → most ≤ undrawn_by m at d
      → ((n v : Name) (i first : ℕ) → StillHolds t m at n i v → IsInChosen t at v → remembers_from d ≡ Some (at n, first) → first ≤ i → GoesAhead l t u at d e n i)
      → Moves l t u m at trace d e
  looks u d e most same none quiet less ahead = record {
    keeps = same.keeps;
    draws = inl same.drawn;
    kept = λ k. inr (λ by. (let x : None ≡ Some k = sym none ∙ by in cc), ap (λ f. f k) same.remembered);
    wrote = λ k by. absurd (let x : None ≡ Some k = sym none ∙ by in cc);
    fresh = λ k by. absurd (let x : None ≡ Some k = sym quiet.entered ∙ by in cc);
    scanned = λ n h set. inl (same.marks (granule_of (at n)) set);
    ahead = ahead;
    own = quiet.knows;
    bound = λ snapshot names.
        let fewer = fewer_unscanned t u m at snapshot same.stay in
        let cursor = same.drawn in
        let own = quiet.undrawn in
        omega (arith, fewer, cursor, own, less);
  }

  module _ (place : ℕ) (knows : KnowsObjects l.blocks t m at (Marks place)) (clear : t.marks (granule_of place) ≡ false) where
    abbrev marked : Tables
    marked = done_to t (access.SetMark (granule_of place))

    abbrev name : Name
    name = knows.0.name

    here : granule_of (at name) ≡ granule_of place
    here = ap granule_of (sym knows.0.stands)

    as_many : length (references_at m at place) ≡ length (refs_of (object_at m.last.graph name))
    as_many = ap length (ground.refs place name knows.0.member knows.0.stands)

    stay : (k : ℕ) → IsTrue (t.marks k) → IsTrue (marked.marks k)
    stay k h = elim (changed_cases t.marks (granule_of place) true k) [ inl q ↦ q.1 | inr q ↦ q.1 ∙ h ]

    unscanned : is_unscanned t m at name ≡ true
    unscanned = ap (λ c. c && not (t.marks (granule_of (at name)))) knows.0.member ∙ ap (λ c. not c) (ap t.marks here ∙ clear)

    scanned : is_unscanned marked m at name ≡ false
    scanned = ap (λ c. c && not (marked.marks (granule_of (at name)))) knows.0.member ∙ ap (λ c. not c) (changed_here t.marks (granule_of place) true (granule_of (at name)) here)

    -- its references are no more to be scanned, and it is ahead of them
    marks_bound : (snapshot : List Name) → IsSetOf snapshot (Reachable trace.state)
        → t.cursors REMEMBERED_CURSOR + unscanned_slots marked m at snapshot + length (references_at m at place) ≤ t.cursors REMEMBERED_CURSOR + unscanned_slots t m at snapshot + 0
    marks_bound snapshot names = elim (marking snapshot names name knows.0.member (ap t.grays here ∙ knows.1) (ap t.marks here ∙ clear)) [
      | inl member ↦
          let less = one_scanned t marked m at snapshot name stay member unscanned scanned in
          let many = as_many in
          omega (arith, less, many)
      | inr none ↦
          let fewer = fewer_unscanned t marked m at snapshot stay in
          let many = as_many in
          omega (arith, fewer, many, none)
    ]

    -- it has marked an object that was unmarked, and is ahead of all its references
    marks_moves : Moves l t marked m at trace (Marks place) (ReadsShape place)
    marks_moves = record {
      keeps = record { unlogged = λ w k. k; reuse = refl; states = refl; drawn = omega arith };
      draws = inl refl;
      kept = λ k. inr (λ by. cc, refl);
      wrote = λ k by. absurd (cc);
      fresh = λ k by. absurd (cc);
      scanned = λ n h set. elim (changed_cases t.marks (granule_of place) true (granule_of (at n))) [
        | inl q ↦ inr (ap (λ p. Some (p, 0)) (place_by_granule place (at n) (subst (λ p. 1 ≤ p) (sym knows.0.stands) (ground.placed knows.0.name knows.0.member)) (ground.placed n h) (sym q.0)))
        | inr q ↦ inl (sym q.1 ∙ set)
      ];
      ahead = idle marked (Marks place) (ReadsShape place) refl;
      own = tt;
      bound = marks_bound;
    }

  -- it reads how many references there are
  shape_moves : (place : ℕ) (o : Name) (shape : Shape) → KnowsObjects l.blocks t m at (ReadsShape place) → header_of (t.heap (first_word place)) ≡ header.Object o shape
      → Moves l t t m at trace (ReadsShape place) (scanned_next place shape.refs 0)
  shape_moves place o shape knows told =
      let n : Name = knows.0.name in
      let many : shape.refs ≡ length (references_at m at place) =
      ground.told n o shape knows.0.member (ap (λ p. header_of (t.heap (first_word p))) (sym knows.0.stands) ∙ told) ∙ ap length (sym (ground.refs place n knows.0.member knows.0.stands)) in
      looks t (ReadsShape place) (scanned_next place shape.refs 0) (shape.refs - 0) (looks_still t) refl (next_quiet l t m at place shape.refs 0) (omega (arith, many))
      (λ x v i first holds chosen from low. next_ahead t (ReadsShape place) place shape.refs 0 many x v i holds (same_pair place 0 (at x) first from).0 (omega arith))

  -- a reference that is nil holds nothing
  nil_moves : (place refs index : ℕ) → IsScannedAt t m at place refs index → t.heap (field_word place index) ≡ 0 → Moves l t t m at trace (Scans place refs index) (scanned_next place refs (index + 1))
  nil_moves place refs index knows nil = looks t (Scans place refs index) (scanned_next place refs (index + 1)) (refs - (index + 1)) (looks_still t) refl (next_quiet l t m at place refs (index + 1)) (omega arith)
      (past t (Scans place refs index) place refs index knows.refs_are refl (λ n v here holds chosen.
      let word = ground.word n v index holds in
      let some = ground.placed v (ground.follows.closed n v holds.member (index, holds.held)) in
      let none = ap (λ p. t.heap (field_word p index)) (sym here) ∙ nil in
      absurd (omega (arith, word, some, none))))

  -- what it loads is what the reference holds
  loads_moves : (place refs index : ℕ) → Moves l t t m at trace (Scans place refs index) (AsksReferent place refs index (t.heap (field_word place index)))
  loads_moves place refs index = looks t (Scans place refs index) (AsksReferent place refs index (t.heap (field_word place index))) (refs - index) (looks_still t) refl
      (record { entered = refl; knows = λ n v here holds. ap (λ p. t.heap (field_word p index)) here ∙ ground.word n v index holds; undrawn = omega arith }) (omega arith)
      (stays t (Scans place refs index) (AsksReferent place refs index (t.heap (field_word place index))) place index refl refl)

  -- what it holds is unreclaimed, so that a start bit is set
  young_moves : (place refs index referent : ℕ) → IsScannedAt t m at place refs index → HasLoaded t m at place index referent → t.starts (granule_of referent) ≡ false
      → Moves l t t m at trace (AsksReferent place refs index referent) (scanned_next place refs (index + 1))
  young_moves place refs index referent knows loaded clear = looks t (AsksReferent place refs index referent) (scanned_next place refs (index + 1)) (refs - (index + 1)) (looks_still t) refl
      (next_quiet l t m at place refs (index + 1)) (omega arith)
      (past t (AsksReferent place refs index referent) place refs index knows.refs_are refl (λ n v here holds chosen.
      absurd (not_both (t.starts (granule_of (at v))) (ground.started v (ground.follows.closed n v holds.member (index, holds.held))) (ap (λ p. t.starts (granule_of p)) (sym (loaded n v here holds)) ∙ clear))))

  -- where the block isn't Chosen, the reference need not be remembered
  other_moves : (place refs index referent : ℕ) → IsScannedAt t m at place refs index → HasLoaded t m at place index referent → t.states (granule_of referent / GRANULES_IN_BLOCK) ≢ 3
      → Moves l t t m at trace (AsksBlock place refs index referent) (scanned_next place refs (index + 1))
  other_moves place refs index referent knows loaded other = looks t (AsksBlock place refs index referent) (scanned_next place refs (index + 1)) (refs - (index + 1)) (looks_still t) refl
      (next_quiet l t m at place refs (index + 1)) (omega arith)
      (past t (AsksBlock place refs index referent) place refs index knows.refs_are refl (λ n v here holds chosen.
      absurd (other (ap (λ p. t.states (granule_of p / GRANULES_IN_BLOCK)) (loaded n v here holds) ∙ chosen_number (t.states (granule_of (at v) / GRANULES_IN_BLOCK)) chosen))))

  -- ---- numbers and entries

  -- the set has overflowed
  full_moves : (place refs index counter : ℕ) → IsScannedAt t m at place refs index → l.remember ≤ t.cursors REMEMBERED_CURSOR
      → Moves l t (done_to t (access.Draw REMEMBERED_CURSOR)) m at trace (DrawsNumber place refs index counter) (scanned_next place refs (index + 1))
  full_moves place refs index counter knows full =
      let u : Tables = done_to t (access.Draw REMEMBERED_CURSOR) in
      let drawn : u.cursors REMEMBERED_CURSOR ≡ t.cursors REMEMBERED_CURSOR + 1 = changed_here t.cursors REMEMBERED_CURSOR (t.cursors REMEMBERED_CURSOR + 1) REMEMBERED_CURSOR refl in
      let quiet = next_quiet l u m at place refs (index + 1) in
      record {
        keeps = record { unlogged = λ w k. k; reuse = refl; states = refl; drawn = omega (arith, drawn) };
        draws = inr (drawn, inr full);
        kept = λ k. inr (λ by. cc, refl);
        wrote = λ k by. absurd (cc);
        fresh = λ k by. absurd (let x : None ≡ Some k = sym quiet.entered ∙ by in cc);
        scanned = λ n h set. inl set;
        ahead = λ n v i first holds chosen from low. inr (inl (omega (arith, drawn, full)));
        own = quiet.knows;
        bound = λ snapshot names.
            let fewer = fewer_unscanned t u m at snapshot (λ k h. h) in
            let own = quiet.undrawn in
            let within = knows.within in
            omega (arith, fewer, own, within, drawn);
      }

  -- a number is drawn for the reference
  room_moves : (place refs index counter : ℕ) → IsScannedAt t m at place refs index → KnowsCounter t place index counter → t.cursors REMEMBERED_CURSOR < l.remember
      → Moves l t (done_to t (access.Draw REMEMBERED_CURSOR)) m at trace (DrawsNumber place refs index counter) (Enters place refs index counter (t.cursors REMEMBERED_CURSOR))
  room_moves place refs index counter knows counter_is room =
      let u : Tables = done_to t (access.Draw REMEMBERED_CURSOR) in
      let drawn : u.cursors REMEMBERED_CURSOR ≡ t.cursors REMEMBERED_CURSOR + 1 = changed_here t.cursors REMEMBERED_CURSOR (t.cursors REMEMBERED_CURSOR + 1) REMEMBERED_CURSOR refl in
      record {
        keeps = record { unlogged = λ w k. k; reuse = refl; states = refl; drawn = omega (arith, drawn) };
        draws = inr (drawn, inl refl);
        kept = λ k. inr (λ by. cc, refl);
        wrote = λ k by. absurd (cc);
        fresh = λ k by. let same : t.cursors REMEMBERED_CURSOR ≡ k = cc in sym same;
        scanned = λ n h set. inl set;
        ahead = stays u (DrawsNumber place refs index counter) (Enters place refs index counter (t.cursors REMEMBERED_CURSOR)) place index refl refl;
        own = record { counter_is = counter_is; drawn = omega (arith, drawn); within = room };
        bound = λ snapshot names.
            let fewer = fewer_unscanned t u m at snapshot (λ k h. h) in
            let within = knows.within in
            omega (arith, fewer, within, drawn);
      }

  -- its entry is that of a field of the heap
  entry_there : (place refs index counter : ℕ) → IsScannedAt t m at place refs index → KnowsCounter t place index counter → IsSomeEntry l (word_of_entry l.blocks counter (record { 0 = place }) index)
  entry_there place refs index counter knows counter_is =
      let n : Name = knows.stands.name in
      let here = knows.stands.stands in
      let some = subst (λ p. 1 ≤ p) (sym here) (ground.placed n knows.stands.member) in
      let lies = ground.in_heap n knows.stands.member in
      let many = knows.refs_are ∙ ap length (ground.refs place n knows.stands.member here) in
      let few = ground.few n knows.stands.member in
      let within = knows.within in (
        counter,
        record { 0 = place },
        index,
        record {
          is = refl;
          entry = record {
            heap = ground.limits.blocks.1;
            counter = subst (λ c. c < 2 ^ 32) (sym counter_is) (ground.reuse (field_word place index / WORDS_IN_LINE));
            place = (some, place_fits place (length (refs_of (object_at m.last.graph n))) l.blocks (omega (arith, here, lies)));
            index = omega (arith, many, few, within);
          };
          in_heap = omega (arith, here, lies, many, within);
        },
      )

  -- the entry is written
  entry_moves : (place refs index counter number : ℕ) → IsScannedAt t m at place refs index → KnowsNumber l t place index counter number
      → Moves l t (done_to t (access.PutRemembered number (word_of_entry l.blocks counter (record { 0 = place }) index))) m at trace (Enters place refs index counter number) (scanned_next place refs (index + 1))
  entry_moves place refs index counter number knows known =
      let word : ℕ = word_of_entry l.blocks counter (record { 0 = place }) index in
      let u : Tables = done_to t (access.PutRemembered number word) in
      let quiet = next_quiet l u m at place refs (index + 1) in
      record {
        keeps = record { unlogged = λ w k. k; reuse = refl; states = refl; drawn = omega arith };
        draws = inl refl;
        kept = λ k. elim (changed_cases t.remembered number word k) [
          | inl q ↦ inl (ap Some (sym q.0))
          | inr q ↦ inr (λ by. (let same : number ≡ k = cc in q.0 (sym same)), q.1)
        ];
        wrote = λ k by. let same : number ≡ k = cc in subst (IsSomeEntry l) (sym (changed_here t.remembered number word k (sym same))) (entry_there place refs index counter knows known.counter_is);
        fresh = λ k by. absurd (let x : None ≡ Some k = sym quiet.entered ∙ by in cc);
        scanned = λ n h set. inl set;
        ahead = past u (Enters place refs index counter number) place refs index knows.refs_are refl (λ n v here holds chosen. inl (record {
          number = number;
          enters = refl;
          drawn = known.drawn;
          within = known.within;
          word = changed_here t.remembered number word number refl ∙ ap (λ c. word_of_entry l.blocks c (record { 0 = place }) index) known.counter_is
              ∙ ap (λ p. word_of_entry l.blocks (t.reuse (field_word p index / WORDS_IN_LINE)) (record { 0 = p }) index) here;
        }));
        own = quiet.knows;
        bound = λ snapshot names.
            let fewer = fewer_unscanned t u m at snapshot (λ k h. h) in
            let own = quiet.undrawn in
            omega (arith, fewer, own);
      }

  -- ---- each step

  -- by where it leads
  step_moves : (remember : ℕ) (d e : Tracing) → remember ≡ l.remember → KnowsObjects l.blocks t m at d → KnowsFields l t m at d → TracerGoes l.blocks remember t d e → Moves l t (after_access t (tracer_access l.blocks d)) m at trace d e
  step_moves remember d e room knows fields (goes.asks_gray place) = looks t d e 0 (looks_still t) refl (record { entered = refl; knows = tt; undrawn = omega arith }) (omega arith) (idle t d e refl)
  step_moves remember d e room knows fields (goes.is_white place next try) = looks t d e 0 (looks_still t) refl (try_quiet l t m at l.blocks e try) (omega arith) (idle t d e refl)
  step_moves remember d e room knows fields (goes.is_none place gray next clear try) = looks t d e 0 (looks_still t) refl (try_quiet l t m at l.blocks e try) (omega arith) (idle t d e refl)
  step_moves remember d e room knows fields (goes.is_object place set) = looks t d e 0 (looks_still t) refl (record { entered = refl; knows = tt; undrawn = omega arith }) (omega arith) (idle t d e refl)
  step_moves remember d e room knows fields (goes.marked_before place next set try) =
      let u : Tables = done_to t (access.SetMark (granule_of place)) in
      looks u d e 0 (mark_looks t (granule_of place) set) refl (try_quiet l u m at l.blocks e try) (omega arith) (idle u d e refl)
  step_moves remember d e room knows fields (goes.marks place clear) = marks_moves place knows clear
  step_moves remember d e room knows fields (goes.reads_shape place n shape told) = shape_moves place n shape knows told
  step_moves remember d e room knows fields (goes.scans_nil place refs index nil) = nil_moves place refs index knows nil
  step_moves remember d e room knows fields (goes.scans place refs index some) = loads_moves place refs index
  step_moves remember d e room knows fields (goes.finds_young place refs index referent clear) = young_moves place refs index referent knows.0 fields clear
  step_moves remember d e room knows fields (goes.finds_object place refs index referent set) =
      looks t d e (refs - index) (looks_still t) refl (record { entered = refl; knows = fields; undrawn = omega arith }) (omega arith) (stays t d e place index refl refl)
  step_moves remember d e room knows fields (goes.grays place refs index referent) =
      let u : Tables = done_to t (access.SetGray (granule_of referent)) in
      looks u d e (refs - index) (gray_looks t (granule_of referent)) refl (record { entered = refl; knows = λ n v here holds. fields n v here (record { member = holds.member; held = holds.held; unlogged = holds.unlogged }); undrawn = omega arith }) (omega arith)
      (stays u d e place index refl refl)
  step_moves remember d e room knows fields (goes.is_other place refs index referent other) = other_moves place refs index referent knows.0 fields other
  step_moves remember d e room knows fields (goes.is_chosen place refs index referent chosen) =
      looks t d e (refs - index) (looks_still t) refl (record { entered = refl; knows = tt; undrawn = omega arith }) (omega arith) (stays t d e place index refl refl)
  step_moves remember d e room knows fields (goes.reads_reuse place refs index) =
      looks t d e (refs - index) (looks_still t) refl (record { entered = refl; knows = refl; undrawn = omega arith }) (omega arith) (stays t d e place index refl refl)
  step_moves remember d e room knows fields (goes.is_full place refs index counter full) = full_moves place refs index counter knows (omega (arith, room, full))
  step_moves remember d e room knows fields (goes.has_room place refs index counter some) = room_moves place refs index counter knows fields (omega (arith, room, some))
  step_moves remember d e room knows fields (goes.enters place refs index counter number) = entry_moves place refs index counter number knows fields
  step_moves remember d e room knows fields (goes.finds_nothing) = looks t d e 0 (looks_still t) refl (record { entered = refl; knows = tt; undrawn = omega arith }) (omega arith) (idle t d e refl)

  -- ---- how a unit begins

  -- what is tried first has nothing in hand either
  try_moves : (u : Tables) (blocks : ℕ) (d e : Tracing) → IsTry blocks d → Moves l t u m at trace d e → Moves l t u m at trace Rests e
  try_moves u blocks d e (pocket place some within) moves = record {
    keeps = moves.keeps;
    draws = moves.draws;
    kept = moves.kept;
    wrote = moves.wrote;
    fresh = moves.fresh;
    scanned = moves.scanned;
    ahead = idle u Rests e refl;
    own = moves.own;
    bound = moves.bound;
  }
  try_moves u blocks d e (nothing) moves = record {
    keeps = moves.keeps;
    draws = moves.draws;
    kept = moves.kept;
    wrote = moves.wrote;
    fresh = moves.fresh;
    scanned = moves.scanned;
    ahead = idle u Rests e refl;
    own = moves.own;
    bound = moves.bound;
  }

  pub tracer_moves : (before about e : Tracing) → KnowsObjects l.blocks t m at before → KnowsFields l t m at before → Attempts l.blocks before about → TracerGoes l.blocks l.remember t about e
      → Moves l t (after_access t (tracer_access l.blocks about)) m at trace before e
  tracer_moves before about e knows fields (begins d try) goes =
      try_moves (after_access t (tracer_access l.blocks about)) l.blocks about e try (step_moves l.remember about e refl (tried try) (untold try) goes)
    where
      tried : {d : Tracing} → IsTry l.blocks d → KnowsObjects l.blocks t m at d
      tried (pocket place some within) = (some, within)
      tried (nothing) = tt

      untold : {d : Tracing} → IsTry l.blocks d → KnowsFields l t m at d
      untold (pocket place some within) = tt
      untold (nothing) = tt
  tracer_moves before about e knows fields (goes_on d) goes = step_moves l.remember about e refl knows fields goes

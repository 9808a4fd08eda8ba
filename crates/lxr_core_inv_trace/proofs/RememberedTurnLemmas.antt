-- One tracer makes a step: what has to be shown of its step alone, so that all stays remembered; and tables of which nothing that this reads has
-- changed.
use Rattle.std.proofs.Common.{◌≡◌, ℕ, ◌+◌, ◌/◌, ◌<◌, ◌≤◌, sym, ap, subst, ◌∙◌, inl, inr, ◌⊎◌, arith, List, IsTrue}
use Rattle.std.specs.Prelude.{Some, slice_get, slice_set}
use Rattle.std.proofs.lemmas.Bool.Decides.{eqb_tells}
use Rattle.lxr_layout.specs.declared.limits.Limits.{Limits}
use Rattle.lxr_layout.specs.declared.Name.{Name}
use Rattle.lxr_layout.specs.declared.TheConstants.{GRANULES_IN_BLOCK, REMEMBERED_CURSOR, WORDS_IN_LINE}
use Rattle.lxr_layout.specs.Places.{field_word}
use Rattle.lxr_layout.specs.Runs.{word_of_entry}
use Rattle.lxr_graph.specs.Names.{IsSetOf, has}
use Rattle.lxr_image.specs.Tables.{Tables}
use Rattle.lxr_image.specs.Reads.{granule_of}
use Rattle.lxr_blocks.specs.declared.states.BlockState.TheVariants.{Chosen}
use Rattle.lxr_blocks.specs.States.{state_of}
use Rattle.lxr_model.specs.Reachable.{Reachable}
use Rattle.lxr_model.specs.Moments.{Moment, Trace, rememberable}
use Rattle.lxr_invariant.specs.Standing.{word_of_field}
use Rattle.lxr_invariant.specs.Tracing.{HasOverflowed, IsInChosen, IsScanned, unscanned_slots}
use Rattle.lxr_invariant.proofs.ScanLemmas.{fewer_unscanned}
use Rattle.lxr_core_access.specs.Tracers.{Tracing, Rests, AsksGray, AsksObject, Marks, ReadsShape, Scans, AsksReferent, GraysReferent, AsksBlock, ReadsReuse, DrawsNumber, Enters, FindsNothing}
use Rattle.lxr_core_invariant.specs.Remembered.{AreRemembered, HasEntry, HasLoaded, IsBeingEntered, IsRememberedLater, IsSomeEntry, KnowsFields, StillHolds, entered_by, remembers_from, undrawn, undrawn_by}
use Rattle.lxr_core_invariant.proofs.ShowingLemmas.{own_or_still, set_here, shown_cases}
use Rattle.lxr_core_inv_trace.proofs.RememberedSlotLemmas.{undrawn_set}

-- ---- tables

-- What stays of tables: no unlogged bit is set, reuse counters and states are as they were, and the cursor of remembered entries doesn't fall.
pub record KeepsFields (t u : Tables) : Type 0 where
  pub unlogged : (w : ℕ) → IsTrue (u.unlogged w) → IsTrue (t.unlogged w)
  pub reuse : u.reuse ≡ t.reuse
  pub states : u.states ≡ t.states
  pub drawn : t.cursors REMEMBERED_CURSOR ≤ u.cursors REMEMBERED_CURSOR

module _ (l : Limits) (t u : Tables) (m : Moment) (at : Name → ℕ) (keeps : KeepsFields t u) where
  -- what still holds what it held did so
  pub held_before : (n v : Name) (i : ℕ) → StillHolds u m at n i v → StillHolds t m at n i v
  held_before n v i holds = record { member = holds.member; held = holds.held; unlogged = keeps.unlogged (word_of_field at n i) holds.unlogged }

  pub chosen_before : (v : Name) → IsInChosen u at v → IsInChosen t at v
  chosen_before v chosen = subst (λ (f : ℕ → ℕ). state_of (f (granule_of (at v) / GRANULES_IN_BLOCK)) ≡ Chosen) keeps.states chosen

  pub overflow_stays : HasOverflowed l t → HasOverflowed l u
  overflow_stays over = let more = keeps.drawn in omega (arith, over, more)

  -- so what tracers have learned stays true
  loaded_stays : (place index referent : ℕ) → HasLoaded t m at place index referent → HasLoaded u m at place index referent
  loaded_stays place index referent loaded n v there holds = loaded n v there (held_before n v index holds)

  pub fields_known : (d : Tracing) → KnowsFields l t m at d → KnowsFields l u m at d
  fields_known Rests knows = tt
  fields_known (AsksGray place) knows = tt
  fields_known (AsksObject place gray) knows = tt
  fields_known (Marks place) knows = tt
  fields_known (ReadsShape place) knows = tt
  fields_known (Scans place refs index) knows = tt
  fields_known (AsksReferent place refs index referent) knows = loaded_stays place index referent knows
  fields_known (GraysReferent place refs index referent) knows = loaded_stays place index referent knows
  fields_known (AsksBlock place refs index referent) knows = loaded_stays place index referent knows
  fields_known (ReadsReuse place refs index) knows = tt
  fields_known (DrawsNumber place refs index counter) knows = knows ∙ ap (λ (f : ℕ → ℕ). f (field_word place index / WORDS_IN_LINE)) (sym keeps.reuse)
  fields_known (Enters place refs index counter number) knows =
      let below = knows.drawn in
      let more = keeps.drawn in
      record { counter_is = knows.counter_is ∙ ap (λ (f : ℕ → ℕ). f (field_word place index / WORDS_IN_LINE)) (sym keeps.reuse); drawn = omega (arith, below, more); within = knows.within }
  fields_known FindsNothing knows = tt

-- ---- tables of which nothing that this reads has changed

pub record KeepsRemembered (t u : Tables) : Type 0 where
  pub keeps : KeepsFields t u
  pub marks : u.marks ≡ t.marks
  pub remembered : u.remembered ≡ t.remembered
  pub drawn : u.cursors REMEMBERED_CURSOR ≡ t.cursors REMEMBERED_CURSOR

module _ (l : Limits) (t u : Tables) (ts : List Tracing) (m : Moment) (at : Name → ℕ) (trace : Trace) (same : KeepsRemembered t u) where
  scanned_before : (n : Name) → IsScanned u at trace n → IsScanned t at trace n
  scanned_before n (inl marked) = inl (ap (λ f. f (granule_of (at n))) (sym same.marks) ∙ marked)
  scanned_before n (inr promoted) = inr promoted

  entry_stays : (n : Name) (i : ℕ) → HasEntry l t ts at n i → HasEntry l u ts at n i
  entry_stays n i entry =
      let below = entry.drawn in
      let cursor = same.drawn in
      record {
        number = entry.number;
        drawn = omega (arith, below, cursor);
        within = entry.within;
        written = entry.written;
        word = ap (λ f. f entry.number) same.remembered ∙ entry.word ∙ ap (λ f. word_of_entry l.blocks (f (word_of_field at n i / WORDS_IN_LINE)) (record { 0 = at n }) i) (sym same.keeps.reuse);
      }

  -- all stays remembered
  pub remembered_still : AreRemembered l t ts m at trace → AreRemembered l u ts m at trace
  remembered_still is = record {
    fields = λ n v i scan holds chosen. elim (is.fields n v i (scanned_before n scan) (held_before l t u m at same.keeps n v i holds) (chosen_before l t u m at same.keeps v chosen)) [
      | inl entry ↦ inl (entry_stays n i entry)
      | inr (inl over) ↦ inr (inl (overflow_stays l t u m at same.keeps over))
      | inr (inr later) ↦ inr (inr later)
    ];
    entries = λ k below within free. let cursor = same.drawn in subst (IsSomeEntry l) (ap (λ f. f k) (sym same.remembered)) (is.entries k (omega (arith, below, cursor)) within free);
    knows = λ j d shows. fields_known l t u m at same.keeps d (is.knows j d shows);
    one_number = is.one_number;
    bound = λ snapshot names.
        let cursor = same.drawn in
        let before = is.bound snapshot names in
        let fewer = fewer_unscanned t u m at snapshot (λ k set. ap (λ f. f k) same.marks ∙ set) in
        omega (arith, cursor, before, fewer);
  }

-- ---- a step of a tracer

-- a step draws no number; or it draws one, to write its entry, or past the room of the set
abbrev pub Draws : Limits → Tables → Tables → Tracing → Type 0
Draws l t u e = (u.cursors REMEMBERED_CURSOR ≡ t.cursors REMEMBERED_CURSOR)
    ⊎ ((u.cursors REMEMBERED_CURSOR ≡ t.cursors REMEMBERED_CURSOR + 1) × ((entered_by e ≡ Some (t.cursors REMEMBERED_CURSOR)) ⊎ (l.remember ≤ t.cursors REMEMBERED_CURSOR)))

-- a step has written the entry of a field, by a number that was drawn for it
pub record Writes (l : Limits) (t u : Tables) (at : Name → ℕ) (d : Tracing) (n : Name) (i : ℕ) : Type 0 where
  pub number : ℕ
  pub enters : entered_by d ≡ Some number
  pub drawn : number < t.cursors REMEMBERED_CURSOR
  pub within : number < l.remember
  pub word : u.remembered number ≡ word_of_entry l.blocks (t.reuse (word_of_field at n i / WORDS_IN_LINE)) (record { 0 = at n }) i

-- where a tracer that was ahead of a reference goes: it has written its entry, or the set has overflowed, or it is still ahead of it
abbrev pub GoesAhead : Limits → Tables → Tables → (Name → ℕ) → Tracing → Tracing → Name → ℕ → Type 0
GoesAhead l t u at d e n i = Writes l t u at d n i ⊎ HasOverflowed l u ⊎ ((next : ℕ) × (remembers_from e ≡ Some (at n, next)) × (next ≤ i))

-- The step of a tracer, from d to e, with the tables before and after it.
pub record Moves (l : Limits) (t u : Tables) (m : Moment) (at : Name → ℕ) (trace : Trace) (d e : Tracing) : Type 0 where
  pub keeps : KeepsFields t u
  pub draws : Draws l t u e
  -- it changes no entry but that of its number, which then is one; and what it is about to write to was drawn by this step
  pub kept : (k : ℕ) → (entered_by d ≡ Some k) ⊎ (((entered_by d ≡ Some k) → ⊥) × (u.remembered k ≡ t.remembered k))
  pub wrote : (k : ℕ) → entered_by d ≡ Some k → IsSomeEntry l (u.remembered k)
  pub fresh : (k : ℕ) → entered_by e ≡ Some k → k ≡ t.cursors REMEMBERED_CURSOR
  -- what it marks it remembers from the first reference on, and it goes on at what it scans
  pub scanned : (n : Name) → IsTrue (has m.unreclaimed n) → IsTrue (u.marks (granule_of (at n))) → IsTrue (t.marks (granule_of (at n))) ⊎ (remembers_from e ≡ Some (at n, 0))
  pub ahead : (n v : Name) (i first : ℕ) → StillHolds t m at n i v → IsInChosen t at v → remembers_from d ≡ Some (at n, first) → first ≤ i → GoesAhead l t u at d e n i
  pub own : KnowsFields l u m at e
  pub bound : (snapshot : List Name) → IsSetOf snapshot (Reachable trace.state)
      → u.cursors REMEMBERED_CURSOR + unscanned_slots u m at snapshot + undrawn_by m at e ≤ t.cursors REMEMBERED_CURSOR + unscanned_slots t m at snapshot + undrawn_by m at d

-- who is about to write an entry has drawn its number
entering_drawn : (l : Limits) (t : Tables) (m : Moment) (at : Name → ℕ) (d : Tracing) (k : ℕ) → KnowsFields l t m at d → entered_by d ≡ Some k → k < t.cursors REMEMBERED_CURSOR
entering_drawn l t m at (Enters place refs index counter number) k knows by = let same : number ≡ k = cc in subst (λ z. z < t.cursors REMEMBERED_CURSOR) same knows.drawn
entering_drawn l t m at _ k knows by = absurd (cc)

module _ (l : Limits) (t u : Tables) (ts : List Tracing) (m : Moment) (at : Name → ℕ) (trace : Trace) (i : ℕ) (d e : Tracing) (was : AreRemembered l t ts m at trace) (shows : slice_get ts i ≡ Some d)
    (moves : Moves l t u m at trace d e) where
  abbrev after : List Tracing
  after = slice_set ts i e

  own : slice_get after i ≡ Some e
  own = set_here ts i e d shows

  -- what is being entered now is what was, or was drawn by this step
  entered_now : (k : ℕ) → k < t.cursors REMEMBERED_CURSOR → IsBeingEntered after k → IsBeingEntered ts k
  entered_now k below (j, f, there, by) = elim (shown_cases ts i d e j f shows there) [
    | inl p ↦ let drawn = moves.fresh k (ap entered_by (sym p.1) ∙ by) in absurd (omega (arith, below, drawn))
    | inr p ↦ (j, f, p.1, by)
  ]

  -- an entry stays
  entry_on : (n : Name) (j : ℕ) → HasEntry l t ts at n j → HasEntry l u after at n j
  entry_on n j entry =
      let below = entry.drawn in
      let more = moves.keeps.drawn in
      record {
        number = entry.number;
        drawn = omega (arith, below, more);
        within = entry.within;
        written = λ being. entry.written (entered_now entry.number entry.drawn being);
        word = elim (moves.kept entry.number) [
          | inl enters ↦ absurd (entry.written (i, d, shows, enters))
          | inr q ↦ q.1 ∙ entry.word ∙ ap (λ f. word_of_entry l.blocks (f (word_of_field at n j / WORDS_IN_LINE)) (record { 0 = at n }) j) (sym moves.keeps.reuse)
        ];
      }

  -- what it has written is an entry that nobody is about to write
  entry_written : (n : Name) (j : ℕ) → Writes l t u at d n j → HasEntry l u after at n j
  entry_written n j writes =
      let below = writes.drawn in
      let more = moves.keeps.drawn in
      record {
        number = writes.number;
        drawn = omega (arith, below, more);
        within = writes.within;
        written = λ (k, f, there, by). elim (shown_cases ts i d e k f shows there) [
          | inl p ↦ let drawn = moves.fresh writes.number (ap entered_by (sym p.1) ∙ by) in absurd (omega (arith, below, drawn))
          | inr p ↦ absurd (p.0 (was.one_number k i f d writes.number p.1 shows by writes.enters))
        ];
        word = writes.word ∙ ap (λ f. word_of_entry l.blocks (f (word_of_field at n j / WORDS_IN_LINE)) (record { 0 = at n }) j) (sym moves.keeps.reuse);
      }

  abbrev IsRememberedNow : Name → ℕ → Type 0
  IsRememberedNow n j = HasEntry l u after at n j ⊎ HasOverflowed l u ⊎ IsRememberedLater after (at n) j

  -- where a tracer was ahead of a reference, it still is, or has written its entry, or the set has overflowed
  later_on : (n v : Name) (j : ℕ) → StillHolds t m at n j v → IsInChosen t at v → IsRememberedLater ts (at n) j → IsRememberedNow n j
  later_on n v j holds chosen later = elim (own_or_still ts i d e later.number later.tracer shows later.shows) [
    | inl same ↦ elim (moves.ahead n v j later.first holds chosen (ap remembers_from (sym same) ∙ later.from) later.later) [
      | inl writes ↦ inl (entry_written n j writes)
      | inr (inl over) ↦ inr (inl over)
      | inr (inr (next, from, low)) ↦ inr (inr (record { number = i; tracer = e; first = next; shows = own; from = from; later = low }))
    ]
    | inr there ↦ inr (inr (record { number = later.number; tracer = later.tracer; first = later.first; shows = there; from = later.from; later = later.later }))
  ]

  remembered_on : (n v : Name) (j : ℕ) → IsScanned t at trace n → StillHolds t m at n j v → IsInChosen t at v → IsRememberedNow n j
  remembered_on n v j scan holds chosen = elim (was.fields n v j scan holds chosen) [
    | inl entry ↦ inl (entry_on n j entry)
    | inr (inl over) ↦ inr (inl (overflow_stays l t u m at moves.keeps over))
    | inr (inr later) ↦ later_on n v j holds chosen later
  ]

  fields_on : (n v : Name) (j : ℕ) → IsScanned u at trace n → StillHolds t m at n j v → IsInChosen t at v → IsRememberedNow n j
  fields_on n v j (inl marked) holds chosen = elim (moves.scanned n holds.member marked) [
    | inl before ↦ remembered_on n v j (inl before) holds chosen
    | inr from ↦ inr (inr (record { number = i; tracer = e; first = 0; shows = own; from = from; later = omega arith }))
  ]
  fields_on n v j (inr promoted) holds chosen = remembered_on n v j (inr promoted) holds chosen

  -- what is below the cursor and not about to be written was so
  drawn_before : (k : ℕ) → k < u.cursors REMEMBERED_CURSOR → k < l.remember → ¬ IsBeingEntered after k → k < t.cursors REMEMBERED_CURSOR
  drawn_before k below within free = elim moves.draws [
    | inl same ↦ omega (arith, below, same)
    | inr (more, inr full) ↦ omega (arith, within, full)
    | inr (more, inl enters) ↦ elim (eqb_tells k (t.cursors REMEMBERED_CURSOR)) [
      | inl q ↦ absurd (free (i, e, own, enters ∙ ap Some (sym q.1)))
      | inr q ↦ let other = q.1 in omega (arith, below, more, other)
    ]
  ]

  entries_on : (k : ℕ) → k < u.cursors REMEMBERED_CURSOR → k < l.remember → ¬ IsBeingEntered after k → IsSomeEntry l (u.remembered k)
  entries_on k below within free =
      let before = drawn_before k below within free in
      elim (moves.kept k) [
        | inl enters ↦ moves.wrote k enters
        | inr (other, same) ↦ subst (IsSomeEntry l) (sym same) (was.entries k before within (λ (j, f, there, by). elim (own_or_still ts i d e j f shows there) [
          | inl is ↦ other (ap entered_by (sym is) ∙ by)
          | inr still ↦ free (j, f, still, by)
        ]))
      ]

  knows_on : (j : ℕ) (f : Tracing) → slice_get after j ≡ Some f → KnowsFields l u m at f
  knows_on j f there = elim (shown_cases ts i d e j f shows there) [
    | inl p ↦ subst (KnowsFields l u m at) (sym p.1) moves.own
    | inr p ↦ fields_known l t u m at moves.keeps f (was.knows j f p.1)
  ]

  -- a number that was drawn by this step is nobody else's
  fresh_alone : (j : ℕ) (f : Tracing) (k : ℕ) → slice_get ts j ≡ Some f → entered_by f ≡ Some k → entered_by e ≡ Some k → ⊥
  fresh_alone j f k there by_f by_e =
      let below = entering_drawn l t m at f k (was.knows j f there) by_f in
      let drawn = moves.fresh k by_e in
      omega (arith, below, drawn)

  one_number_on : (j k : ℕ) (f g : Tracing) (number : ℕ) → slice_get after j ≡ Some f → slice_get after k ≡ Some g → entered_by f ≡ Some number → entered_by g ≡ Some number → j ≡ k
  one_number_on j k f g number at_j at_k by_f by_g = elim (shown_cases ts i d e j f shows at_j) [
    | inl p ↦ elim (shown_cases ts i d e k g shows at_k) [
      | inl q ↦ p.0 ∙ sym q.0
      | inr q ↦ absurd (fresh_alone k g number q.1 by_g (ap entered_by (sym p.1) ∙ by_f))
    ]
    | inr p ↦ elim (shown_cases ts i d e k g shows at_k) [
      | inl q ↦ absurd (fresh_alone j f number p.1 by_f (ap entered_by (sym q.1) ∙ by_g))
      | inr q ↦ was.one_number j k f g number p.1 q.1 by_f by_g
    ]
  ]

  bound_on : (snapshot : List Name) → IsSetOf snapshot (Reachable trace.state) → u.cursors REMEMBERED_CURSOR + unscanned_slots u m at snapshot + undrawn m at after ≤ rememberable trace snapshot
  bound_on snapshot names =
      let before = was.bound snapshot names in
      let step = moves.bound snapshot names in
      let all = undrawn_set m at ts i d e shows in
      omega (arith, before, step, all)

  -- what is shown of the step keeps all remembered
  pub moved : AreRemembered l u after m at trace
  moved = record {
    fields = λ n v j scan holds chosen. fields_on n v j scan (held_before l t u m at moves.keeps n v j holds) (chosen_before l t u m at moves.keeps v chosen);
    entries = entries_on;
    knows = knows_on;
    one_number = one_number_on;
    bound = bound_on;
  }

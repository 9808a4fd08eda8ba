-- The worklist is emptied: an object is taken out, and one reference of it after another is found.
use Rattle.std.proofs.Common.{◌≡◌, ◌≢◌, ℕ, ◌+◌, ◌-◌, ◌*◌, ◌<◌, ◌≤◌, refl, sym, ap, subst, ◌∙◌, inl, inr, ◌⊎◌, arith, Bool, true, false, [], ◌∷◌, ◌++◌, IsTrue, length, length-append, ◌/◌}
use Rattle.std.specs.Prelude.{not, ◌&&◌, Some}
use Rattle.std.specs.List.{Contains}
use Rattle.std.proofs.lemmas.Bool.Decides.{eqb_tells, leb_tells}
use Rattle.std.proofs.lemmas.List.Elements.{Contains-append_left, Contains-push, Contains-push_cases}
use Rattle.lxr_layout.specs.declared.TheConstants.{GRANULES_IN_BLOCK, MOST_GRANULES, WORDS_IN_BLOCK}
use Rattle.lxr_layout.specs.declared.Place.{Place}
use Rattle.lxr_layout.specs.Places.{IsPlace, field_word}
use Rattle.lxr_base.specs.Roomy.{Roomy, pushed}
use Rattle.lxr_image.specs.declared.space.Space.{Space}
use Rattle.lxr_image.specs.Spaces.{tables_of}
use Rattle.lxr_image.specs.Reads.{field_at, granule_of}
use Rattle.lxr_image_search.specs.declared.Wanted.TheVariants.{ToScan}
use Rattle.lxr_image_search.specs.Search.{IsNextWanted, NoneWanted, AvoidsFree}
use Rattle.lxr_invariant.proofs.EntryLemmas.{passing_one_more}
use Rattle.lxr_pause_trace.specs.Marking.{Finds, IsDue, IsMarking, IsOver, IsScanning, IsSeen, IsWaiting, MarkingStage, WaitOnce, granules, slots_at, waiting_slots}
use Rattle.lxr_pause_trace.proofs.DrawnLemmas.{drawn_fewer, not_before, once_before}
use Rattle.lxr_pause_trace.proofs.LeftLemmas.{due_start, field_place, field_read, field_within, left_start, started_place}
use Rattle.lxr_pause_trace.proofs.MarkingLemmas.{found_stage, is_found, marks_grow, still_waits}
use Rattle.lxr_pause_trace.proofs.SlotLemmas.{waiting_pushed}
use Rattle.std.proofs.lemmas.Bool.{and_parts}
use Rattle.lxr_blocks.specs.States.{state_of}

-- ---- what may be found

module _ (before s : Space) (end : ℕ) (pending : ℕ → ℕ → Type 0) (ahead : ℕ) (stage : MarkingStage before s end pending ahead) where
  started_now : (k : ℕ) → IsTrue ((tables_of before).starts k) → IsTrue ((tables_of s).starts k)
  started_now k h = ap (λ z. z.starts k) stage.tables ∙ h

  pub slots_were : (p : ℕ) → slots_at (tables_of s) p ≡ slots_at (tables_of before) p
  slots_were p = ap (λ z. slots_at z p) stage.tables

  pub due_place : (q : ℕ) → IsDue (tables_of before) q → (q ≤ granules s) × (q ≤ MOST_GRANULES)
  due_place q due = started_place s q stage.space due.placed (started_now (granule_of q) (due_start (tables_of before) before.limits.blocks stage.traceable q due))

  -- what is gray stands outside blocks that are Free
  pub grays_used : AvoidsFree (tables_of s) ToScan
  grays_used k wanted free =
      let gray = (and_parts ((tables_of s).grays k) (not ((tables_of s).marks k)) wanted).0 in
      let due = stage.so_far.grays_due (k + 1) (omega arith) (ap (tables_of s).grays (next_granule k) ∙ gray) in
      stage.traceable.used k (ap (tables_of before).starts (sym (next_granule k)) ∙ due_start (tables_of before) before.limits.blocks stage.traceable (k + 1) due)
      (sym (ap (λ z. state_of (z.states (k / GRANULES_IN_BLOCK))) stage.tables) ∙ free)
    where
      next_granule : (k : ℕ) → granule_of (k + 1) ≡ k
      next_granule k = omega arith

  -- where an object is unmarked the worklist has room
  pub due_room : (q : ℕ) → IsDue (tables_of before) q → (tables_of s).marks (granule_of q) ≡ false → length s.work.items < s.work.room
  due_room q due unmarked =
      let here = (due_place q due).0 in
      let placed = due.placed in
      let some = passing_one_more (λ k. false) (λ k. not ((tables_of s).marks k)) (granule_of q) (granules s) (λ k h. absurd (cc)) (omega (arith, here, placed)) refl (ap not unmarked) in
      let room = stage.room in
      omega (arith, some, room)

-- ---- one reference

pub scanned_place : (before s : Space) (place : Place) (i : ℕ) → IsScanning before s place.0 i → IsPlace place
scanned_place before s place i is =
    let w = left_start (tables_of before) before.limits.blocks is.stage.traceable place.0 is.waited.left in
    let inside = started_place s place.0 is.stage.space w.0 (ap (λ z. z.starts (granule_of place.0)) is.stage.tables ∙ w.1) in
    (w.0, inside.1)

pub scanned_word : (before s : Space) (place : Place) (i : ℕ) → IsScanning before s place.0 i → i < slots_at (tables_of s) place.0 → field_word place.0 i < WORDS_IN_BLOCK * s.limits.blocks
scanned_word before s place i is within =
    let w = left_start (tables_of before) before.limits.blocks is.stage.traceable place.0 is.waited.left in
    let same = slots_were before s _ _ _ is.stage place.0 in
    subst (λ l. field_word place.0 i < WORDS_IN_BLOCK * l.blocks) (sym (ap (λ z. z.limits) is.stage.rest))
    (field_place (tables_of before) before.limits.blocks place.0 i is.stage.traceable w.0 w.1 (subst (λ n. i < n) same within))

-- what the reference holds
pub scanned_holds : (before s : Space) (place : Place) (i k w : ℕ) → IsScanning before s place.0 i → i < slots_at (tables_of s) place.0 → k ≡ field_word place.0 i → w ≡ (tables_of s).heap k
    → field_at (tables_of before) place.0 i ≡ Some w
scanned_holds before s place i k w is within here word =
    let same = slots_were before s _ _ _ is.stage place.0 in
    field_read (tables_of before) place.0 i (subst (λ n. i < n) same within) ∙ ap Some (sym (word ∙ ap (tables_of s).heap here ∙ ap (λ z. z.heap (field_word place.0 i)) is.stage.tables))

-- it is to be found
pub scanned_due : (before s : Space) (place : Place) (i w : ℕ) → IsScanning before s place.0 i → field_at (tables_of before) place.0 i ≡ Some w → 1 ≤ w → IsDue (tables_of before) w
scanned_due before s place i w is holds placed = record { placed = placed; by = inr (place.0, is.waited.left, (placed, i, holds)) }

-- so a word of it that isn't nil is the place of an object that is to be found
pub word_due : (before s : Space) (place : Place) (i k w : ℕ) → IsScanning before s place.0 i → i < slots_at (tables_of s) place.0 → k ≡ field_word place.0 i → w ≡ (tables_of s).heap k → w ≢ 0
    → IsDue (tables_of before) w
word_due before s place i k w is within here word some = scanned_due before s place i w is (scanned_holds before s place i k w is within here word) (omega (arith, some))

-- each marked object that was left waits in the worklist, or its references are seen, but for those that are pending
abbrev pub SeenBut : Space → Space → (ℕ → ℕ → Type 0) → Type 0
SeenBut before s pending = (p q i : ℕ) → IsWaiting (tables_of before) (tables_of s) p → 1 ≤ q → field_at (tables_of before) p i ≡ Some q
    → Contains s.work.items (record { 0 = p }) ⊎ pending p i ⊎ IsSeen before.limits (tables_of s) p i q

-- the next reference is pending, once this one is seen
pub seen_next : (before s : Space) (place i : ℕ) → SeenBut before s (λ p j. (p ≡ place) × (i ≤ j))
    → ((q : ℕ) → field_at (tables_of before) place i ≡ Some q → 1 ≤ q → IsSeen before.limits (tables_of s) place i q) → SeenBut before s (λ p j. (p ≡ place) × (i + 1 ≤ j))
seen_next before s place i scanned seen p q j w placed e = elim (scanned p q j w placed e) [
  | inl c ↦ inl c
  | inr (inl c) ↦ elim (eqb_tells j i) [
    | inl here ↦
        let held : field_at (tables_of before) place i ≡ Some q = (λ k. field_at (tables_of before) (sym c.0 k) (sym here.1 k)) ∙ e in
        inr (inr (subst (λ x. IsSeen before.limits (tables_of s) x j q) (sym c.0) (subst (λ x. IsSeen before.limits (tables_of s) place x q) (sym here.1) (seen q held placed))))
    | inr other ↦ inr (inl (c.0, let ne = other.1 in let past = c.1 in omega (arith, ne, past)))
  ]
  | inr (inr c) ↦ inr (inr c)
]

-- what is pending then was
pub later_next : (s : Space) (place i p j : ℕ) → Contains s.work.items (record { 0 = p }) ⊎ ((p ≡ place) × (i + 1 ≤ j)) → Contains s.work.items (record { 0 = p }) ⊎ ((p ≡ place) × (i ≤ j))
later_next s place i p j (inl c) = inl c
later_next s place i p j (inr c) = inr (c.0, let past = c.1 in omega (arith, past))

-- a nil reference is passed
pub passed_nil : (before s : Space) (place : Place) (i w : ℕ) → IsScanning before s place.0 i → field_at (tables_of before) place.0 i ≡ Some w → w ≡ 0 → IsScanning before s place.0 (i + 1)
passed_nil before s place i w is holds nil = record {
  stage = record {
    space = is.stage.space;
    traceable = is.stage.traceable;
    far = is.stage.far;
    so_far = is.stage.so_far;
    ended = is.stage.ended;
    waiting = is.stage.waiting;
    scanned = seen_next before s place.0 i is.stage.scanned (λ q e placed. absurd (let same : Some w ≡ Some q = sym holds ∙ e in let k : w ≡ q = cc in omega (arith, k, nil, placed)));
    single = is.stage.single;
    kept = is.stage.kept;
    drawn = drawn_fewer before.limits (tables_of before) (tables_of s) _ is.stage.drawn _ (λ p j marked c. later_next s place.0 i p j c);
    bound = λ places all. let was = is.stage.bound places all in omega (arith, was);
    room = is.stage.room;
    tables = is.stage.tables;
    rest = is.stage.rest;
  };
  waited = is.waited;
  out = is.out;
}

-- what a reference holds is found
pub found_scanning : (before a b : Space) (place : Place) (i w : ℕ) → IsScanning before a place.0 i → field_at (tables_of before) place.0 i ≡ Some w → 1 ≤ w
    → Finds a b (record { 0 = w }) → IsScanning before b place.0 i
found_scanning before a b place i w is holds placed finds =
    let due = scanned_due before a place i w is holds placed in
    let here = (due_place before a _ _ _ is.stage w due).0 in
    let ahead : ℕ = slots_at (tables_of before) place.0 - i in
    let stage = found_stage a b (record { 0 = w }) finds before (granules a) (λ p j. (p ≡ place.0) × (i ≤ j)) ahead is.stage due (omega (arith, here, placed)) in
    let limits : b.limits ≡ a.limits = ap (λ s. s.limits) finds.rest in
    record {
      stage = subst (λ l. MarkingStage before b (GRANULES_IN_BLOCK * l.blocks) (λ p j. (p ≡ place.0) × (i ≤ j)) ahead) (sym limits) stage;
      waited = record { left = is.waited.left; marked = marks_grow a b (record { 0 = w }) finds (granule_of place.0) is.waited.marked };
      out = λ h. is.out (still_waits a b (record { 0 = w }) finds place.0 is.waited.marked h);
    }

-- past the last reference nothing is pending
pub passed_all : (before s : Space) (place i : ℕ) → IsScanning before s place i → slots_at (tables_of s) place ≤ i → IsMarking before s (granules s)
passed_all before s place i is past = record {
  space = is.stage.space;
  traceable = is.stage.traceable;
  far = is.stage.far;
  so_far = is.stage.so_far;
  ended = is.stage.ended;
  waiting = is.stage.waiting;
  scanned = λ p q j w placed e. elim (is.stage.scanned p q j w placed e) [
    | inl c ↦ inl c
    | inr (inl c) ↦ absurd (
        let within = field_within (tables_of before) p j q e in
        let same = slots_were before s _ _ _ is.stage place in
        let here : slots_at (tables_of before) p ≡ slots_at (tables_of before) place = ap (slots_at (tables_of before)) c.0 in
        let from = c.1 in
        omega (arith, within, same, here, from, past)
        )
    | inr (inr c) ↦ inr (inr c)
  ];
  single = is.stage.single;
  kept = is.stage.kept;
  drawn = drawn_fewer before.limits (tables_of before) (tables_of s) _ is.stage.drawn _ (λ p j marked c. still_later p j c);
  bound = λ places all. let was = is.stage.bound places all in omega (arith, was);
  room = is.stage.room;
  tables = is.stage.tables;
  rest = is.stage.rest;
}
  where
    still_later : (p j : ℕ) → Contains s.work.items (record { 0 = p }) ⊎ ⊥ → Contains s.work.items (record { 0 = p }) ⊎ ((p ≡ place) × (i ≤ j))
    still_later p j (inl c) = inl c
    still_later p j (inr c) = absurd c

-- ---- the worklist

module _ (s now : Space) (p : Place) (work : s.work ≡ pushed now.work p) (rest : now ≡ record s { work = now.work }) where
  longer : length s.work.items ≡ length now.work.items + 1
  longer = ap (λ w. length w.items) work ∙ length-append now.work.items (p ∷ [])

  -- the last of the worklist is taken out: its references are pending
  pub popped : (before : Space) → IsMarking before s (granules s) → IsScanning before now p.0 0
  popped before is = record {
    stage = subst (λ z. MarkingStage before z (granules z) (λ q j. (q ≡ p.0) × (0 ≤ j)) (slots_at (tables_of before) p.0 - 0)) (sym rest) taken;
    waited = subst (λ z. IsWaiting (tables_of before) (tables_of z) p.0) (sym rest) (is.waiting p (in_work p (Contains-push now.work.items p)));
    out = not_before now.work.items p (subst (λ w. WaitOnce w.items) work is.single);
  }
    where
      in_work : (q : Place) → Contains (now.work.items ++ p ∷ []) q → Contains s.work.items q
      in_work q h = subst (λ w. Contains w.items q) (sym work) h

      waited_or : (q j : ℕ) → Contains now.work.items (record { 0 = q }) ⊎ ((q ≡ p.0) × (0 ≤ j)) → Contains s.work.items (record { 0 = q }) ⊎ ⊥
      waited_or q j (inl c) = inl (in_work (record { 0 = q }) (Contains-append_left now.work.items (p ∷ []) (record { 0 = q }) c))
      waited_or q j (inr c) = inl (subst (λ z. Contains s.work.items (record { 0 = z })) (sym c.0) (in_work p (Contains-push now.work.items p)))

      taken : MarkingStage before (record s { work = now.work }) (granules s) (λ q j. (q ≡ p.0) × (0 ≤ j)) (slots_at (tables_of before) p.0 - 0)
      taken = record {
        space = record { limits = is.space.limits; size = is.space.size };
        traceable = is.traceable;
        far = is.far;
        so_far = is.so_far;
        ended = is.ended;
        waiting = λ q h. is.waiting q (in_work q (Contains-append_left now.work.items (p ∷ []) q h));
        scanned = λ q r j w placed e. elim (is.scanned q r j w placed e) [
          | inl c ↦ elim (Contains-push_cases now.work.items p (record { 0 = q }) (subst (λ w. Contains w.items (record { 0 = q })) work c)) [
            | inl old ↦ inl old
            | inr here ↦ inr (inl (sym (ap (λ z. z.0) here), omega arith))
          ]
          | inr (inl c) ↦ absurd c
          | inr (inr c) ↦ inr (inr c)
        ];
        single = once_before now.work.items p (subst (λ w. WaitOnce w.items) work is.single);
        kept = is.kept;
        drawn = drawn_fewer before.limits (tables_of before) (tables_of s) _ is.drawn _ (λ q j marked c. waited_or q j c);
        bound = λ places all.
            let was = is.bound places all in
            let out : waiting_slots (tables_of before) s.work.items ≡ waiting_slots (tables_of before) now.work.items + slots_at (tables_of before) p.0 =
            ap (λ w. waiting_slots (tables_of before) w.items) work ∙ waiting_pushed (tables_of before) now.work.items p in
            omega (arith, was, out);
        room = let one = longer in let same : now.work.room ≡ s.work.room = sym (ap (λ w. w.room) work) in let room = is.room in omega (arith, one, same, room);
        tables = is.tables;
        rest = ap {A = Space} (λ z. record z { work = now.work }) is.rest ∙ (λ i. record before { words = s.words; work = kept i });
      }
        where
          kept : now.work ≡ record before.work { items = now.work.items }
          kept = let room : now.work.room ≡ before.work.room = sym (ap (λ w. w.room) work) ∙ ap (λ z. z.work.room) is.rest in λ i. record { items = now.work.items; room = room i }

-- an empty worklist, as `pop` leaves it
pub emptied : (before s : Space) (w : Roomy Place) → s.work.items ≡ [] → w ≡ s.work → IsMarking before s (granules s) → IsOver before (record s { work = w })
emptied before s w empty same is = subst (λ x. IsOver before (record s { work = x })) (sym same) (record { stage = is; no_work = empty })

-- ---- the gray objects

-- the next gray object that is unmarked is to be found
pub next_due : (before s : Space) (from end granule : ℕ) → IsMarking before s from → IsNextWanted (tables_of s) ToScan from end granule → IsDue (tables_of before) (granule + 1)
next_due before s from end granule is next =
    let here : granule_of (granule + 1) ≡ granule = omega arith in
    is.so_far.grays_due (granule + 1) (omega arith) (ap (tables_of s).grays here ∙ first ((tables_of s).grays granule) (not ((tables_of s).marks granule)) next.is)
  where
    first : (x y : Bool) → (x && y) ≡ true → x ≡ true
    first true y h = refl
    first false y h = absurd (cc)

-- a gray object that isn't wanted is marked
unwanted_marked : (gray marked : Bool) → (gray && not marked) ≡ false → gray ≡ true → marked ≡ true
unwanted_marked true true none h = refl
unwanted_marked true false none h = absurd (cc)
unwanted_marked false marked none h = absurd (cc)

-- the grays below a later granule are marked
pub ended_later : (before s : Space) (from to : ℕ) → IsMarking before s from → NoneWanted (tables_of s) ToScan from to → IsMarking before s to
ended_later before s from to is none = record {
  space = is.space;
  traceable = is.traceable;
  far = is.far;
  so_far = is.so_far;
  ended = λ k below h. elim (leb_tells from k) [
    | inl past ↦ unwanted_marked ((tables_of s).grays k) ((tables_of s).marks k) (none k past.1 below) h
    | inr short ↦ is.ended k short.1 h
  ];
  waiting = is.waiting;
  scanned = is.scanned;
  single = is.single;
  kept = is.kept;
  drawn = is.drawn;
  bound = is.bound;
  room = is.room;
  tables = is.tables;
  rest = is.rest;
}

-- so they are behind one that is found
pub ended_behind : (before a b : Space) (from end granule : ℕ) → IsMarking before a from → IsNextWanted (tables_of a) ToScan from end granule → end ≡ granules a → Finds a b (record { 0 = granule + 1 }) → IsMarking before b (granule + 1)
ended_behind before a b from end granule is next inside finds =
    let due = next_due before a from end granule is next in
    let below = next.within in
    let stage = found_stage a b (record { 0 = granule + 1 }) finds before granule (λ p i. ⊥) 0 (ended_later before a from granule is next.passed) due (omega (arith, below, inside)) in
    let here : granule_of (granule + 1) ≡ granule = omega arith in
    record {
      space = stage.space;
      traceable = stage.traceable;
      far = stage.far;
      so_far = stage.so_far;
      ended = λ k under h. elim (eqb_tells k granule) [
        | inl q ↦ ap (tables_of b).marks (q.1 ∙ sym here) ∙ (is_found a b (record { 0 = granule + 1 }) finds).marked
        | inr q ↦ stage.ended k (let ne = q.1 in omega (arith, ne, under)) h
      ];
      waiting = stage.waiting;
      scanned = stage.scanned;
      single = stage.single;
      kept = stage.kept;
      drawn = stage.drawn;
      bound = stage.bound;
      room = stage.room;
      tables = stage.tables;
      rest = stage.rest;
    }

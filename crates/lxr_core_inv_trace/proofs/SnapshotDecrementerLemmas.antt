-- Steps of decrementers: one that claims a dead object is at its first reference, and from each reference it goes on to the next, with what
-- it read in hand until that is gray.
use Rattle.std.proofs.Common.{◌≡◌, ℕ, ◌+◌, ◌<◌, ◌≤◌, refl, sym, ap, subst, ◌∙◌, inl, inr, ◌⊎◌, arith, Bool, true, false, cond, List, IsTrue, length}
use Rattle.std.specs.Prelude.{nat_eq, nat_lt, Option, Some, None, slice_get, slice_set}
use Rattle.std.proofs.lemmas.Bool.Decides.{eqb_tells}
use Rattle.std.proofs.lemmas.Option.{slice_get_within}
use Rattle.lxr_layout.specs.declared.Name.{Name}
use Rattle.lxr_layout.specs.declared.TheConstants.{TRACING_WORD}
use Rattle.lxr_layout.specs.Places.{field_word}
use Rattle.lxr_graph.specs.Names.{has}
use Rattle.lxr_graph.specs.State.{object_at, refs_of}
use Rattle.lxr_image.specs.Tables.{Tables}
use Rattle.lxr_image.specs.Reads.{granule_of}
use Rattle.lxr_model.specs.Moments.{Moment}
use Rattle.lxr_invariant.specs.Counting.{is_done}
use Rattle.lxr_invariant.specs.Tracing.{IsGray}
use Rattle.lxr_invariant.proofs.EntryLemmas.{changed_cases, changed_here, same_number}
use Rattle.lxr_core_access.specs.Decrementers.{Attempts, Decrementing, DecrementerGoes, Handling, IsTry, begins, goes_on, «list», pocket, handled_next, decrementer_access, Entry, References, Rests, AsksCount, AsksStart, Claims, ReadsHeader, AsksTracing, ReadsReference, MakesGray, AsksLowered, Lowers, AsksCursor, AsksNumber, Draws, ReadsEntry}
use Rattle.lxr_core_access.specs.Decrementers as goes
use Rattle.lxr_core_access.specs.Tracers.{Tracing}
use Rattle.lxr_core_invariant.specs.Counted.{KnowsCounts, KnowsHandling, references_at}
use Rattle.lxr_core_invariant.specs.Covered.{HandlesTraced, IsInHand, SeesTrace, handles_from, handling_from, made_gray_by}
use Rattle.lxr_core_invariant.proofs.ActingLemmas.{same_pair}
use Rattle.lxr_core_invariant.proofs.ShowingLemmas.{own_or_still, set_here, shown_cases}
use Rattle.lxr_core_inv_trace.proofs.SnapshotFindLemmas.{HeldThen, HelpersFind, HoldsNow}
use Rattle.lxr_core_inv_trace.proofs.SnapshotCoverLemmas.{IsHandled, IsUnhandled, KeepsCover, after_access, place_by_granule}

-- where a decrementer goes on: it handles the object at a place from a number on, and stays so, or it has what it read in hand
abbrev pub HandlesOn : Decrementing → ℕ → ℕ → ℕ → Type 0
HandlesOn e place i referent = ((next : ℕ) × (handles_from e ≡ Some (place, next)) × (next ≤ i)) ⊎ ((refs : ℕ) × (e ≡ MakesGray place refs i referent))

-- What has to be shown of a decrementer's step, from d to e.
pub record DecrementerKeeps (t u : Tables) (m : Moment) (at : Name → ℕ) (d e : Decrementing) : Type 0 where
  pub grays : (k : ℕ) → IsTrue (t.grays k) → IsTrue (u.grays k)
  pub marks : u.marks ≡ t.marks
  pub unlogged : u.unlogged ≡ t.unlogged
  -- what it has in hand becomes gray; what it claims it handles from the first reference on
  pub hand : (place : ℕ) → made_gray_by d ≡ Some place → IsTrue (u.grays (granule_of place))
  pub claimed : (n : Name) → IsTrue (has m.unreclaimed n) → (is_done u at n ≡ is_done t at n) ⊎ (handles_from e ≡ Some (at n, 0))
  -- it goes on at what it handles
  pub handled : (n v : Name) (first i : ℕ) → IsTrue (has m.unreclaimed n) → HoldsNow m n i v → handles_from d ≡ Some (at n, first) → first ≤ i → HandlesOn e (at n) i (at v)
  -- it has seen, or will see, that a trace runs
  pub sees : SeesTrace e

-- so the snapshot stays covered
module _ (t u : Tables) (m : Moment) (at : Name → ℕ) (ds : List Decrementing) (ts : List Tracing) (number : ℕ) (d e : Decrementing) (shows : slice_get ds number ≡ Some d)
    (dead : (n v : Name) (i : ℕ) → IsTrue (has m.unreclaimed n) → IsTrue (is_done t at n) → HeldThen m n i v → HoldsNow m n i v) (keeps : DecrementerKeeps t u m at d e) where
  abbrev after : List Decrementing
  after = slice_set ds number e

  own : slice_get after number ≡ Some e
  own = set_here ds number e d shows

  hand_on : (n : Name) → IsInHand ds ts (at n) → IsGray u at n ⊎ IsInHand after ts (at n)
  hand_on n (inl (j, x, shown, makes)) = elim (own_or_still ds number d e j x shows shown) [
    | inl same ↦ inl (keeps.hand (at n) (ap made_gray_by (sym same) ∙ makes))
    | inr there ↦ inr (inl (j, x, there, makes))
  ]
  hand_on n (inr by) = inr (inr by)

  unhandled_on : (n v : Name) (i : ℕ) → IsTrue (has m.unreclaimed n) → HoldsNow m n i v → IsUnhandled t at ds n i → IsUnhandled u at after n i ⊎ IsInHand after ts (at v)
  unhandled_on n v i h holds (inl clear) = elim (keeps.claimed n h) [
    | inl still ↦ inl (inl (still ∙ clear))
    | inr from ↦ inl (inr (record { number = number; decrementer = e; first = 0; shows = own; from = from; later = omega arith }))
  ]
  unhandled_on n v i h holds (inr later) = elim (own_or_still ds number d e later.number later.decrementer shows later.shows) [
    | inl same ↦ elim (keeps.handled n v later.first i h holds (ap handles_from (sym same) ∙ later.from) later.later) [
      | inl on ↦ inl (inr (record { number = number; decrementer = e; first = on.0; shows = own; from = on.1; later = on.2 }))
      | inr hand ↦ inr (inl (number, e, own, ap made_gray_by hand.1))
    ]
    | inr there ↦ inl (inr (record { number = later.number; decrementer = later.decrementer; first = later.first; shows = there; from = later.from; later = later.later }))
  ]

  handled_before : (n v : Name) (i : ℕ) → IsTrue (has m.unreclaimed n) → HoldsNow m n i v → IsHandled t at ds n v i → IsHandled u at after n v i
  handled_before n v i h holds (inl gray) = inl (keeps.grays (granule_of (at v)) gray)
  handled_before n v i h holds (inr (inl later)) = elim (own_or_still ds number d e later.number later.decrementer shows later.shows) [
    | inl same ↦ elim (keeps.handled n v later.first i h holds (ap handles_from (sym same) ∙ later.from) later.later) [
      | inl on ↦ inr (inl (record { number = number; decrementer = e; first = on.0; shows = own; from = on.1; later = on.2 }))
      | inr hand ↦ inr (inr (number, hand.0, own ∙ ap Some hand.1))
    ]
    | inr there ↦ inr (inl (record { number = later.number; decrementer = later.decrementer; first = later.first; shows = there; from = later.from; later = later.later }))
  ]
  handled_before n v i h holds (inr (inr (k, refs, shown))) = elim (own_or_still ds number d e k (MakesGray (at n) refs i (at v)) shows shown) [
    | inl same ↦ inl (keeps.hand (at v) (ap made_gray_by (sym same)))
    | inr there ↦ inr (inr (k, refs, there))
  ]

  handled_on : (n v : Name) (i : ℕ) → IsTrue (has m.unreclaimed n) → HeldThen m n i v → (IsTrue (is_done t at n) → IsHandled t at ds n v i) → IsTrue (is_done u at n) → IsHandled u at after n v i
  handled_on n v i h held before done = elim (keeps.claimed n h) [
    | inl still ↦ let was = sym still ∙ done in handled_before n v i h (dead n v i h was held) (before was)
    | inr from ↦ inr (inl (record { number = number; decrementer = e; first = 0; shows = own; from = from; later = omega arith }))
  ]

  seen_on : ((k : ℕ) (x : Decrementing) → slice_get ds k ≡ Some x → SeesTrace x) → (k : ℕ) (x : Decrementing) → slice_get after k ≡ Some x → SeesTrace x
  seen_on seen k x there = elim (shown_cases ds number d e k x shows there) [ inl q ↦ subst SeesTrace (sym q.1) keeps.sees | inr q ↦ seen k x q.1 ]

  pub decrementer_keeps_cover : KeepsCover m at t u ds after ts ts
  decrementer_keeps_cover = record {
    grays = λ n h. keeps.grays (granule_of (at n)) h;
    marks = λ n h. ap (λ f. f (granule_of (at n))) keeps.marks ∙ h;
    unlogged = keeps.unlogged;
    hand = λ n h. hand_on n;
    unscanned = λ n v i h holds unscanned. inl (elim unscanned [ inl clear ↦ inl (ap (λ f. f (granule_of (at n))) keeps.marks ∙ clear) | inr later ↦ inr later ]);
    unhandled = unhandled_on;
    handled = handled_on;
    seen = seen_on;
  }

-- ---- the steps

-- the next reference is handled, where there is one
next_handles : (place refs next i : ℕ) (traced : Bool) → next ≤ i → i < refs → handles_from (handled_next (References place refs next traced)) ≡ Some (place, next)
next_handles place refs next i traced low within =
    let less : next < refs = omega (arith, low, within) in
    let k : nat_lt next refs ≡ true = grind (arith, less) in
    ap (λ b. handles_from (cond b (ReadsReference place refs next traced) Rests)) k

-- a decrementer that knows of the trace goes on so
next_sees : (handling : Handling) → HandlesTraced handling → SeesTrace (handled_next handling)
next_sees Entry sees = tt
next_sees (References place refs next traced) sees = elim (nat_lt next refs) as (λ b. SeesTrace (cond b (ReadsReference place refs next traced) Rests)) [ true ↦ sees | false ↦ tt ]

-- one that tries something has nothing to see yet
try_sees : {blocks : ℕ} {d : Decrementing} → IsTry blocks d → SeesTrace d
try_sees (pocket place some within) = tt
try_sees («list») = tt

module _ (blocks : ℕ) (t : Tables) (was : Moment) (stood : Name → ℕ) (m : Moment) (at : Name → ℕ) (find : HelpersFind t was stood m at) (runs : t.cursors TRACING_WORD ≡ 1) where
  -- a step that changes no more than counts and cursors of the tables
  looks : (counts cursors : ℕ → ℕ) (d e : Decrementing) → made_gray_by d ≡ None
      → ((n v : Name) (first i : ℕ) → IsTrue (has m.unreclaimed n) → HoldsNow m n i v → handles_from d ≡ Some (at n, first) → first ≤ i → HandlesOn e (at n) i (at v))
      → SeesTrace e → DecrementerKeeps t (record t { counts = counts; cursors = cursors }) m at d e
  looks counts cursors d e hand handled sees = record {
    grays = λ k h. h;
    marks = refl;
    unlogged = refl;
    hand = λ place g. absurd (let none : None ≡ Some place = sym hand ∙ g in cc);
    claimed = λ n h. inl refl;
    handled = handled;
    sees = sees;
  }

  -- a decrementer that was at no object's references
  idle : (cursors : ℕ → ℕ) (d e : Decrementing) → handles_from d ≡ None → made_gray_by d ≡ None → SeesTrace e → DecrementerKeeps t (record t { cursors = cursors }) m at d e
  idle cursors d e from hand sees = looks t.counts cursors d e hand (λ n v first i h holds f low. absurd (let none : None ≡ Some (at n, first) = sym from ∙ f in cc)) sees

  -- an object has as many references as its decrementer knows, so that each of them is reached
  next_handled : (place refs next : ℕ) (traced : Bool) → refs ≡ length (references_at was stood place) → (n v : Name) (first i : ℕ) → IsTrue (has m.unreclaimed n) → HoldsNow m n i v
      → ◌≡◌ {A = Option (ℕ × ℕ)} (Some (place, next)) (Some (at n, first)) → first ≤ i → HandlesOn (handled_next (References place refs next traced)) (at n) i (at v)
  next_handled place refs next traced known n v first i h holds from low =
      let same = same_pair place next (at n) first from in
      let here = same.0 in
      let number = same.1 in
      let many = known ∙ ap (λ p. length (references_at was stood p)) here ∙ find.refs n h in
      let within = slice_get_within (refs_of (object_at m.state.graph n)) i (Some v) holds in
      inl (next, next_handles place refs next i traced (omega (arith, number, low)) (omega (arith, many, within)) ∙ ap (λ p. Some (p, next)) here, omega (arith, number, low))

  handling_on : (handling : Handling) → KnowsHandling t was stood handling → (n v : Name) (first i : ℕ) → IsTrue (has m.unreclaimed n) → HoldsNow m n i v
      → handling_from handling ≡ Some (at n, first) → first ≤ i → HandlesOn (handled_next handling) (at n) i (at v)
  handling_on Entry knows n v first i h holds from low = absurd (let none : None ≡ Some (at n, first) = from in cc)
  handling_on (References place refs next traced) knows n v first i h holds from low = next_handled place refs next traced knows.0.refs_are n v first i h holds from low

  -- what it claims it handles from the first reference on
  claims_keep : (place : ℕ) → KnowsCounts blocks t was stood (Claims place) → DecrementerKeeps t (after_access t (decrementer_access (Claims place))) m at (Claims place) (ReadsHeader place)
  claims_keep place knows = record {
    grays = λ k h. h;
    marks = refl;
    unlogged = refl;
    hand = λ p g. absurd (let none : None ≡ Some p = g in cc);
    claimed = λ n h. elim (changed_cases t.dones (granule_of place) true (granule_of (at n))) [
      | inl q ↦ inr (ap (λ p. Some (p, 0)) (place_by_granule place (at n) (find.some place knows.stands) (find.placed n h) (sym q.0)))
      | inr q ↦ inl q.1
    ];
    handled = λ n v first i h holds f low. absurd (let none : None ≡ Some (at n, first) = f in cc);
    sees = tt;
  }

  -- what was claimed before is none that it claims
  claimed_keeps : (place : ℕ) (e : Decrementing) → t.dones (granule_of place) ≡ true → SeesTrace e → DecrementerKeeps t (after_access t (decrementer_access (Claims place))) m at (Claims place) e
  claimed_keeps place e set sees = record {
    grays = λ k h. h;
    marks = refl;
    unlogged = refl;
    hand = λ p g. absurd (let none : None ≡ Some p = g in cc);
    claimed = λ n h. inl (elim (changed_cases t.dones (granule_of place) true (granule_of (at n))) [ inl q ↦ q.1 ∙ sym (ap t.dones q.0 ∙ set) | inr q ↦ q.1 ]);
    handled = λ n v first i h holds f low. absurd (let none : None ≡ Some (at n, first) = f in cc);
    sees = sees;
  }

  -- a reference that is nil holds nothing
  nil_keeps : (place refs index : ℕ) (traced : Bool) → KnowsCounts blocks t was stood (ReadsReference place refs index traced) → SeesTrace (ReadsReference place refs index traced) → t.heap (field_word place index) ≡ 0
      → DecrementerKeeps t t m at (ReadsReference place refs index traced) (handled_next (References place refs (index + 1) traced))
  nil_keeps place refs index traced knows sees nil = looks t.counts t.cursors (ReadsReference place refs index traced) (handled_next (References place refs (index + 1) traced)) refl
      (λ n v first i h holds from low.
      let same = same_pair place index (at n) first from in
      let here = same.0 in
      let number = same.1 in
      elim (eqb_tells index i) [
        | inl q ↦ absurd ((find.word n v i h holds).some (ap (λ p. t.heap (field_word p i)) (sym here) ∙ ap (λ k. t.heap (field_word place k)) (sym q.1) ∙ nil))
        | inr q ↦ let other = q.1 in next_handled place refs (index + 1) traced knows.0.refs_are n v (index + 1) i h holds (ap (λ p. Some (p, index + 1)) here) (omega (arith, low, number, other))
      ])
      (next_sees (References place refs (index + 1) traced) sees)

  -- what a reference holds comes into hand
  reads_keep : (place refs index : ℕ) → DecrementerKeeps t t m at (ReadsReference place refs index true) (MakesGray place refs index (t.heap (field_word place index)))
  reads_keep place refs index = looks t.counts t.cursors (ReadsReference place refs index true) (MakesGray place refs index (t.heap (field_word place index))) refl
      (λ n v first i h holds from low.
      let same = same_pair place index (at n) first from in
      let here = same.0 in
      let number = same.1 in
      elim (eqb_tells index i) [
        | inl q ↦
            let word = ap (λ k. t.heap (field_word place k)) q.1 ∙ ap (λ p. t.heap (field_word p i)) here ∙ (find.word n v i h holds).is in
            inr (refs, ap (λ p. MakesGray p refs index (t.heap (field_word place index))) here ∙ ap (λ k. MakesGray (at n) refs k (t.heap (field_word place index))) q.1 ∙ ap (MakesGray (at n) refs i) word)
        | inr q ↦ let other = q.1 in inl (index + 1, ap (λ p. Some (p, index + 1)) here, omega (arith, low, number, other))
      ])
      tt

  -- what is in hand is made gray
  grays_keep : (place refs index referent : ℕ)
      → DecrementerKeeps t (after_access t (decrementer_access (MakesGray place refs index referent))) m at (MakesGray place refs index referent) (AsksLowered referent (References place refs (index + 1) true))
  grays_keep place refs index referent = record {
    grays = λ k h. elim (changed_cases t.grays (granule_of referent) true k) [ inl q ↦ q.1 | inr q ↦ q.1 ∙ h ];
    marks = refl;
    unlogged = refl;
    hand = λ p g. let same : referent ≡ p = cc in changed_here t.grays (granule_of referent) true (granule_of p) (ap granule_of (sym same));
    claimed = λ n h. inl refl;
    handled = λ n v first i h holds from low. inl (first, from, low);
    sees = refl;
  }

  -- each step, by where it leads
  pub decrementer_step : (d e : Decrementing) → KnowsCounts blocks t was stood d → SeesTrace d → DecrementerGoes blocks t d e → DecrementerKeeps t (after_access t (decrementer_access d)) m at d e
  decrementer_step d e knows sees (goes.asks_count place) = idle t.cursors d e refl refl tt
  decrementer_step d e knows sees (goes.counted place next try) = idle t.cursors d e refl refl (try_sees try)
  decrementer_step d e knows sees (goes.unstarted place uncounted next clear try) = idle t.cursors d e refl refl (try_sees try)
  decrementer_step d e knows sees (goes.started place set) = idle t.cursors d e refl refl tt
  decrementer_step d e knows sees (goes.claimed_before place next set try) = claimed_keeps place e set (try_sees try)
  decrementer_step d e knows sees (goes.claims place clear) = claims_keep place knows
  decrementer_step d e knows sees (goes.reads_header place n shape told) = looks t.counts t.cursors d e refl (λ n v first i h holds from low. inl (first, from, low)) tt
  decrementer_step d e knows sees (goes.asks_tracing place refs) =
      looks t.counts t.cursors d e refl (next_handled place refs 0 (nat_eq (t.cursors TRACING_WORD) 1) knows.refs_are)
      (next_sees (References place refs 0 (nat_eq (t.cursors TRACING_WORD) 1)) (same_number (t.cursors TRACING_WORD) 1 runs))
  decrementer_step d e knows sees (goes.reads_nil place refs index traced nil) = nil_keeps place refs index traced knows sees nil
  decrementer_step d e knows sees (goes.reads_untraced place refs index some) = absurd (let never : false ≡ true = sees in cc)
  decrementer_step d e knows sees (goes.reads_traced place refs index some) = reads_keep place refs index
  decrementer_step d e knows sees (goes.makes_gray place refs index referent) = grays_keep place refs index referent
  decrementer_step d e knows sees (goes.keeps_zero referent handling none) = looks t.counts t.cursors d e refl (handling_on handling knows.1) (next_sees handling sees)
  decrementer_step d e knows sees (goes.keeps_stuck referent handling full) = looks t.counts t.cursors d e refl (handling_on handling knows.1) (next_sees handling sees)
  decrementer_step d e knows sees (goes.asks_lowered referent handling some differs) = looks t.counts t.cursors d e refl (λ n v first i h holds from low. inl (first, from, low)) sees
  decrementer_step d e knows sees (goes.lowers referent handling) = looks _ t.cursors d e refl (handling_on handling knows.1) (next_sees handling sees)
  decrementer_step d e knows sees (goes.asks_cursor) = idle t.cursors d e refl refl tt
  decrementer_step d e knows sees (goes.finds_none cursor past) = idle t.cursors d e refl refl tt
  decrementer_step d e knows sees (goes.finds_some cursor less) = idle t.cursors d e refl refl tt
  decrementer_step d e knows sees (goes.draws_none count past) = idle _ d e refl refl tt
  decrementer_step d e knows sees (goes.draws count less) = idle _ d e refl refl tt
  decrementer_step d e knows sees (goes.reads_entry number) = idle t.cursors d e refl refl tt

-- ---- how a unit begins

-- what is tried first is as good as between two units
begun : (t u : Tables) (m : Moment) (at : Name → ℕ) (d e : Decrementing) → DecrementerKeeps t u m at d e → DecrementerKeeps t u m at Rests e
begun t u m at d e keeps = record {
  grays = keeps.grays;
  marks = keeps.marks;
  unlogged = keeps.unlogged;
  hand = λ p g. absurd (let none : None ≡ Some p = g in cc);
  claimed = keeps.claimed;
  handled = λ n v first i h holds f low. absurd (let none : None ≡ Some (at n, first) = f in cc);
  sees = keeps.sees;
}

pub decrementer_steps : (blocks : ℕ) (t : Tables) (was : Moment) (stood : Name → ℕ) (m : Moment) (at : Name → ℕ) → HelpersFind t was stood m at → t.cursors TRACING_WORD ≡ 1
    → (before about e : Decrementing) → KnowsCounts blocks t was stood before → SeesTrace before → Attempts blocks before about → DecrementerGoes blocks t about e
    → DecrementerKeeps t (after_access t (decrementer_access about)) m at before e
decrementer_steps blocks t was stood m at find runs before about e knows sees (begins d try) goes =
    begun t (after_access t (decrementer_access about)) m at about e (decrementer_step blocks t was stood m at find runs about e (tried try) (try_sees try) goes)
  where
    tried : {d : Decrementing} → IsTry blocks d → KnowsCounts blocks t was stood d
    tried (pocket place some within) = (some, within)
    tried («list») = tt
decrementer_steps blocks t was stood m at find runs before about e knows sees (goes_on d) goes = decrementer_step blocks t was stood m at find runs about e knows sees goes

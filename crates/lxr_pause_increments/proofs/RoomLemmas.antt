-- The lists have room: each promoted object has a start bit of its own, and each name that became stuck a count that is STUCK.
use Rattle.std.proofs.Common.{◌≡◌, ◌≢◌, ℕ, ◌+◌, ◌*◌, ◌/◌, ◌<◌, ◌≤◌, refl, ap, ◌∙◌, inl, inr, arith, Bool, true, false, List, [], ◌∷◌, length, length-append}
use Rattle.std.specs.Prelude.{◌==◌, IsTrue}
use Rattle.lxr_layout.specs.declared.Name.{Name}
use Rattle.lxr_layout.specs.declared.Shape.{Shape}
use Rattle.lxr_layout.specs.declared.TheConstants.{GRANULES_IN_BLOCK, STUCK}
use Rattle.lxr_layout.specs.Objects.{word_count}
use Rattle.lxr_tables.specs.Counts.{raised_count}
use Rattle.lxr_image.specs.declared.space.Space.{Space}
use Rattle.lxr_image.specs.Tables.{Tables}
use Rattle.lxr_image.specs.Spaces.{tables_of}
use Rattle.lxr_image.specs.Opened.{HasRoom}
use Rattle.lxr_image.specs.Reads.{granule_of}
use Rattle.lxr_invariant.specs.Counting.{passing}
use Rattle.lxr_blocks.specs.Lines.{line_behind, next_line}
use Rattle.lxr_invariant.proofs.EntryLemmas.{changed_cases, changed_here, passing_few, passing_more, passing_one_more}
use Rattle.lxr_pause_promote.specs.Promotion.{with_promotion}
use Rattle.lxr_pause_increments.specs.Increments.{HasRoomToRaise, left}
use Rattle.lxr_pause_increments.specs.Promotion.{RaisesAt, fills, stuck_with, with_raised}
use Rattle.lxr_pause_increments.proofs.RangeLemmas.{fill_cases, marked_cases, raised_full}
use Rattle.lxr_pause_increments.proofs.RaiseLemmas.{reported_more, reported_same}

-- how many granules a heap has
abbrev pub granules : Space → ℕ
granules s = GRANULES_IN_BLOCK * s.limits.blocks

-- the test for a count that is STUCK
abbrev pub full_at : Tables → ℕ → Bool
full_at t k = t.counts k == STUCK

full_from : (n : ℕ) → n ≡ STUCK → (n == STUCK) ≡ true
full_from n e = grind arith

full_to : (n : ℕ) → (n == STUCK) ≡ true → n ≡ STUCK
full_to n e = grind arith

not_full : (n : ℕ) → n ≢ STUCK → (n == STUCK) ≡ false
not_full n ne = grind arith

-- below the number of granules are those that don't pass
pub some_clear : (f : ℕ → Bool) (g n : ℕ) → g < n → f g ≡ false → passing f n + 1 ≤ n
some_clear f g n within clear =
    let a = passing_one_more f (λ k. true) g n (λ k h. refl) within clear refl in
    let b = passing_few (λ k. true) n in
    omega (arith, a, b)

-- ---- a count is raised

-- a count that is raised, with what is full before full afterwards, leaves room for the names that are reported
stuck_room : (names : List Name) (t u : Tables) (g size : ℕ) (o : Name) → ((k : ℕ) → t.counts k ≡ STUCK → u.counts k ≡ STUCK) → (STUCK ≤ t.counts g + 1 → u.counts g ≡ STUCK) → g < size
    → length names ≤ passing (full_at t) size → length (stuck_with names (t.counts g) o) ≤ passing (full_at u) size
stuck_room names t u g size o stays fills_it within room =
    let more : (k : ℕ) → full_at t k ≡ true → full_at u k ≡ true = λ k h. full_from (u.counts k) (stays k (full_to (t.counts k) h)) in
    elim (fill_cases (t.counts g)) [
      | inl q ↦
          let e = ap length (reported_more names (t.counts g) o q.0) ∙ length-append names (o ∷ []) in
          let one = passing_one_more (full_at t) (full_at u) g size more within (not_full (t.counts g) q.1) (full_from (u.counts g) (fills_it q.2)) in
          omega (arith, e, one, room)
      | inr q ↦
          let e = ap length (reported_same names (t.counts g) o q.0) in
          let same = passing_more (full_at t) (full_at u) size more in
          omega (arith, e, same, room)
    ]

raised_fulls : (t : Tables) (g k : ℕ) → t.counts k ≡ STUCK → (with_raised t g).counts k ≡ STUCK
raised_fulls t g k e = elim (changed_cases t.counts g (raised_count (t.counts g)) k) [
  | inl q ↦ q.1 ∙ raised_full (t.counts g) (let same : t.counts k ≡ t.counts g = ap t.counts q.0 in omega (arith, same, e))
  | inr q ↦ q.1 ∙ e
]

raised_fills : (t : Tables) (g : ℕ) → STUCK ≤ t.counts g + 1 → (with_raised t g).counts g ≡ STUCK
raised_fills t g h = changed_here t.counts g (raised_count (t.counts g)) g refl ∙ raised_full (t.counts g) h

pub room_raised : (a b : Space) (p : ℕ) (o : Name) → RaisesAt a b p o → granule_of p < granules a → HasRoomToRaise a → HasRoomToRaise b
room_raised a b p o raised within is =
    let starts : passing (tables_of b).starts (granules b) ≡ passing (tables_of a).starts (granules a) = λ i. passing (raised.tables i).starts (granules (raised.rest i)) in
    let fulls : passing (full_at (tables_of b)) (granules b) ≡ passing (full_at (with_raised (tables_of a) (granule_of p))) (granules a) = λ i. passing (full_at (raised.tables i)) (granules (raised.rest i)) in
    let promoted = ap (λ s. length s.report.promoted.items) raised.rest in
    let work = ap (λ s. length s.work.items) raised.rest in
    let stuck = ap (λ s. length s.report.stuck.items) raised.rest in
    let room = stuck_room a.report.stuck.items (tables_of a) (with_raised (tables_of a) (granule_of p)) (granule_of p) (granules a) o (raised_fulls (tables_of a) (granule_of p)) (raised_fills (tables_of a) (granule_of p)) within is.stuck in
    let enough_promoted = is.promoted in
    let enough_work = is.work in
    record { promoted = omega (arith, promoted, starts, enough_promoted); work = omega (arith, work, promoted, enough_work); stuck = omega (arith, stuck, fulls, room) }

pub left_raised : (a b : Space) (p : ℕ) (o : Name) → RaisesAt a b p o → left b ≡ left a
left_raised a b p o raised =
    let size : granules b ≡ granules a = ap granules raised.rest in
    let starts : passing (tables_of b).starts (granules b) ≡ passing (tables_of a).starts (granules a) = λ i. passing (raised.tables i).starts (granules (raised.rest i)) in
    let work = ap (λ s. length s.work.items) raised.rest in
    omega (arith, size, starts, work)

-- a name that becomes stuck can be reported
pub room_for_stuck : (a : Space) (p : ℕ) → HasRoom a → HasRoomToRaise a → granule_of p < granules a → IsTrue (fills ((tables_of a).counts (granule_of p))) → length a.report.stuck.items < a.report.stuck.room
room_for_stuck a p has is within h = elim (fill_cases ((tables_of a).counts (granule_of p))) [
  | inl q ↦
      let clear = some_clear (full_at (tables_of a)) (granule_of p) (granules a) within (not_full ((tables_of a).counts (granule_of p)) q.1) in
      let few = is.stuck in
      let room = has.report.stuck in
      omega (arith, clear, few, room)
  | inr q ↦ absurd (let no = q.0 in cc)
]

-- ---- an object is promoted

-- what is full stays so
pub promoted_fulls : (t : Tables) (p : ℕ) (shape : Shape) (size : ℕ) → passing (full_at t) size ≤ passing (full_at (with_promotion t p shape)) size
promoted_fulls t p shape size = passing_more (full_at t) (full_at (with_promotion t p shape)) size (λ k h. full_from ((with_promotion t p shape).counts k) (full k (full_to (t.counts k) h)))
  where
    full : (k : ℕ) → t.counts k ≡ STUCK → (with_promotion t p shape).counts k ≡ STUCK
    full k e = elim (marked_cases t.counts (next_line (granule_of p)) (line_behind (granule_of p) (word_count shape / 2)) k) [ inl q ↦ q.1 | inr q ↦ q.1 ∙ e ]

-- a new object can be reported and wait
pub room_for_new : (a : Space) (g : ℕ) → HasRoom a → HasRoomToRaise a → g < granules a → (tables_of a).starts g ≡ false → (length a.report.promoted.items < a.report.promoted.room) × (length a.work.items < a.work.room)
room_for_new a g has is within clear =
    let one = some_clear (tables_of a).starts g (granules a) within clear in
    let few = is.promoted in
    let fewer = is.work in
    let promoted_room = has.report.promoted in
    let work_room = has.work in
    (omega (arith, one, few, promoted_room), omega (arith, one, few, fewer, work_room))

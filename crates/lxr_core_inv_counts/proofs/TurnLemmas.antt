-- One decrementer makes a step: what has to be shown of its step alone, so that counts and pending decrements are kept.
use Rattle.std.proofs.Common.{◌≡◌, ℕ, ◌+◌, ◌<◌, ◌≤◌, refl, sym, ap, subst, ◌∙◌, inl, inr, ◌⊎◌, arith, false, List, IsTrue, length, length-set}
use Rattle.std.specs.Prelude.{not, filter, Some, slice_get, slice_set}
use Rattle.lxr_layout.specs.declared.Name.{Name}
use Rattle.lxr_layout.specs.declared.TheConstants.{DECREMENT_COUNT, DECREMENT_CURSOR, STUCK}
use Rattle.lxr_graph.specs.Names.{has}
use Rattle.lxr_image.specs.Tables.{Tables}
use Rattle.lxr_image.specs.Reads.{granule_of}
use Rattle.lxr_model.specs.Dead.{Dead}
use Rattle.lxr_model.specs.Moments.{Moment}
use Rattle.lxr_model.specs.References.{references}
use Rattle.lxr_invariant.specs.Counting.{count_at, entries_between, is_done, undone, waiting_at}
use Rattle.lxr_core_access.specs.Decrementers.{Decrementing, Handling, Entry, References, Rests, AsksCount, AsksStart, Claims, ReadsHeader, AsksTracing, ReadsReference, MakesGray, AsksLowered, Lowers, AsksCursor, AsksNumber, Draws, ReadsEntry}
use Rattle.lxr_core_invariant.specs.Counted.{AreCounted, IsDoneAt, IsHandledAt, KnowsCounts, KnowsHandling, draws_soon, handled_by, in_hand, in_hands, soon_drawn}
use Rattle.lxr_core_invariant.proofs.ShowingLemmas.{shown_cases}
use Rattle.lxr_core_inv_counts.proofs.HandLemmas.{hand_still, hands_set, hands_still, soon_few, soon_set}

-- ---- what decrementers know

-- Counts that are 0 stay so, what is done stays done, and the list keeps its length.
pub record KeepsKnown (t u : Tables) : Type 0 where
  pub zeros : (k : ℕ) → t.counts k ≡ 0 → u.counts k ≡ 0
  pub dones : (k : ℕ) → IsTrue (t.dones k) → IsTrue (u.dones k)
  pub number : u.cursors DECREMENT_COUNT ≡ t.cursors DECREMENT_COUNT

pub done_kept : (t u : Tables) (m : Moment) (at : Name → ℕ) (place : ℕ) → KeepsKnown t u → IsDoneAt t m at place → IsDoneAt u m at place
done_kept t u m at place keeps is = record { name = is.name; member = is.member; stands = is.stands; done = keeps.dones (granule_of (at is.name)) is.done }

pub handled_kept : (t u : Tables) (m : Moment) (at : Name → ℕ) (place refs : ℕ) → KeepsKnown t u → IsHandledAt t m at place refs → IsHandledAt u m at place refs
handled_kept t u m at place refs keeps is = record { done = done_kept t u m at place keeps is.done; refs_are = is.refs_are }

pub handling_kept : (t u : Tables) (m : Moment) (at : Name → ℕ) (handling : Handling) → KeepsKnown t u → KnowsHandling t m at handling → KnowsHandling u m at handling
handling_kept t u m at Entry keeps is = is
handling_kept t u m at (References place refs next traced) keeps is = (handled_kept t u m at place refs keeps is.0, is.1)

-- so what they have learned stays true
known_kept : (blocks : ℕ) (t u : Tables) (m : Moment) (at : Name → ℕ) (d : Decrementing) → KeepsKnown t u → KnowsCounts blocks t m at d → KnowsCounts blocks u m at d
known_kept blocks t u m at Rests keeps is = is
known_kept blocks t u m at (AsksCount place) keeps is = is
known_kept blocks t u m at (AsksStart place uncounted) keeps is = (is.0, λ e. keeps.zeros (granule_of place) (is.1 e))
known_kept blocks t u m at (Claims place) keeps is = record { stands = is.stands; zero = keeps.zeros (granule_of place) is.zero }
known_kept blocks t u m at (ReadsHeader place) keeps is = done_kept t u m at place keeps is
known_kept blocks t u m at (AsksTracing place refs) keeps is = handled_kept t u m at place refs keeps is
known_kept blocks t u m at (ReadsReference place refs index traced) keeps is = (handled_kept t u m at place refs keeps is.0, is.1)
known_kept blocks t u m at (MakesGray place refs index referent) keeps is = (handled_kept t u m at place refs keeps is.0, is.1)
known_kept blocks t u m at (AsksLowered referent handling) keeps is = (is.0, handling_kept t u m at handling keeps is.1)
known_kept blocks t u m at (Lowers referent handling) keeps is = (is.0, handling_kept t u m at handling keeps is.1)
known_kept blocks t u m at AsksCursor keeps is = is
known_kept blocks t u m at (AsksNumber cursor) keeps is = is
known_kept blocks t u m at (Draws count) keeps is = is ∙ sym keeps.number
known_kept blocks t u m at (ReadsEntry number) keeps is = subst (λ n. number < n) (sym keeps.number) is

-- ---- a step

-- what a count is made of, but for what other decrementers have in hand
abbrev pub own_due : Tables → Moment → (Name → ℕ) → Decrementing → Name → ℕ
own_due t m at d n = references m.last (undone t at m.unreclaimed) n + waiting_at t (at n) + in_hand t m at d n

-- an unstuck object's count falls by as much as it is made of less
pub record IsBalanced (t u : Tables) (m : Moment) (at : Name → ℕ) (d e : Decrementing) (n : Name) : Type 0 where
  pub falls : count_at u at n ≤ count_at t at n
  pub balance : count_at u at n + own_due t m at d n ≡ count_at t at n + own_due u m at e n

-- The step of decrementer i, from d to e, with the tables before and after it.
pub record Moves (blocks : ℕ) (t u : Tables) (ds : List Decrementing) (m : Moment) (at : Name → ℕ) (i : ℕ) (d e : Decrementing) : Type 0 where
  pub keeps : KeepsKnown t u
  pub decs : u.decs ≡ t.decs
  pub stuck : (n : Name) → IsTrue (has m.unreclaimed n) → IsTrue (has m.stuck n) → count_at u at n ≡ count_at t at n
  pub balanced : (n : Name) → IsTrue (has m.unreclaimed n) → has m.stuck n ≡ false → IsBalanced t u m at d e n
  pub done : (n : Name) → IsTrue (has m.unreclaimed n) → IsTrue (is_done u at n) → count_at u at n ≡ 0
  pub dead : (n : Name) → IsTrue (has m.unreclaimed n) → IsTrue (is_done u at n) → Dead m.last m.unreclaimed m.stuck n
  pub handler : (j : ℕ) (f : Decrementing) (place : ℕ) → slice_get ds j ≡ Some f → handled_by f ≡ Some place → handled_by e ≡ Some place → j ≡ i
  pub cursor : t.cursors DECREMENT_CURSOR ≤ u.cursors DECREMENT_CURSOR
  pub draws : (number : ℕ) → e ≡ ReadsEntry number → (t.cursors DECREMENT_CURSOR ≤ number) × (number < u.cursors DECREMENT_CURSOR)
  pub drawn : (u.cursors DECREMENT_CURSOR + draws_soon (t.cursors DECREMENT_COUNT) e ≤ t.cursors DECREMENT_CURSOR + draws_soon (t.cursors DECREMENT_COUNT) d)
      ⊎ (u.cursors DECREMENT_CURSOR < t.cursors DECREMENT_COUNT)
  pub own : KnowsCounts blocks u m at e

module _ (blocks : ℕ) (t u : Tables) (ds : List Decrementing) (m : Moment) (at : Name → ℕ) (i : ℕ) (d e : Decrementing) (was : AreCounted blocks t ds m at) (shows : slice_get ds i ≡ Some d)
    (moves : Moves blocks t u ds m at i d e) where
  abbrev after : List Decrementing
  after = slice_set ds i e

  below : (n : Name) → IsTrue (has m.unreclaimed n) → has m.stuck n ≡ false → count_at u at n < STUCK
  below n h loose = let a = was.below n h loose in let b = (moves.balanced n h loose).falls in omega (arith, a, b)

  exact : (n : Name) → IsTrue (has m.unreclaimed n) → has m.stuck n ≡ false
      → count_at u at n ≡ references m.last (undone u at m.unreclaimed) n + waiting_at u (at n) + in_hands u m at after n
  exact n h loose =
      let a = was.exact n h loose in
      let b = (moves.balanced n h loose).balance in
      let c = hands_set u m at ds i d e n shows in
      let q = hands_still t u m at ds n moves.decs in
      let own = hand_still t u m at d n moves.decs in
      omega (arith, a, b, c, q, own)

  one_handler : (j k : ℕ) (f g : Decrementing) (place : ℕ) → slice_get after j ≡ Some f → slice_get after k ≡ Some g → handled_by f ≡ Some place → handled_by g ≡ Some place → j ≡ k
  one_handler j k f g place at_j at_k by_f by_g = elim (shown_cases ds i d e j f shows at_j) [
    | inl p ↦ elim (shown_cases ds i d e k g shows at_k) [
      | inl q ↦ p.0 ∙ sym q.0
      | inr q ↦ absurd (q.0 (moves.handler k g place q.1 by_g (ap handled_by (sym p.1) ∙ by_f)))
    ]
    | inr p ↦ elim (shown_cases ds i d e k g shows at_k) [
      | inl q ↦ absurd (p.0 (moves.handler j f place p.1 by_f (ap handled_by (sym q.1) ∙ by_g)))
      | inr q ↦ was.one_handler j k f g place p.1 q.1 by_f by_g
    ]
  ]

  drew : (j number : ℕ) → slice_get after j ≡ Some (ReadsEntry number) → number < u.cursors DECREMENT_CURSOR
  drew j number there = elim (shown_cases ds i d e j (ReadsEntry number) shows there) [
    | inl p ↦ (moves.draws number (sym p.1)).1
    | inr p ↦ let a = was.drew j number p.1 in let b = moves.cursor in omega (arith, a, b)
  ]

  -- what another one drew is below the cursor, from where this one draws
  drawn_apart : (j number : ℕ) → slice_get ds j ≡ Some (ReadsEntry number) → e ≡ ReadsEntry number → ⊥
  drawn_apart j number there draws = let a = was.drew j number there in let b = (moves.draws number draws).0 in omega (arith, a, b)

  one_drawer : (j k number : ℕ) → slice_get after j ≡ Some (ReadsEntry number) → slice_get after k ≡ Some (ReadsEntry number) → j ≡ k
  one_drawer j k number at_j at_k = elim (shown_cases ds i d e j (ReadsEntry number) shows at_j) [
    | inl p ↦ elim (shown_cases ds i d e k (ReadsEntry number) shows at_k) [
      | inl q ↦ p.0 ∙ sym q.0
      | inr q ↦ absurd (drawn_apart k number q.1 (sym p.1))
    ]
    | inr p ↦ elim (shown_cases ds i d e k (ReadsEntry number) shows at_k) [
      | inl q ↦ absurd (drawn_apart j number p.1 (sym q.1))
      | inr q ↦ was.one_drawer j k number p.1 q.1
    ]
  ]

  knows : (j : ℕ) (f : Decrementing) → slice_get after j ≡ Some f → KnowsCounts blocks u m at f
  knows j f there = elim (shown_cases ds i d e j f shows there) [
    | inl p ↦ subst (KnowsCounts blocks u m at) (sym p.1) moves.own
    | inr p ↦ known_kept blocks t u m at f moves.keeps (was.knows j f p.1)
  ]

  drawn : u.cursors DECREMENT_CURSOR + soon_drawn (u.cursors DECREMENT_COUNT) after ≤ u.cursors DECREMENT_COUNT + length after
  drawn =
      let count = moves.keeps.number in
      let same = ap (λ c. soon_drawn c after) count in
      let a = was.drawn in
      let b = soon_set (t.cursors DECREMENT_COUNT) ds i d e shows in
      let c = length-set ds i e in
      let few = soon_few (t.cursors DECREMENT_COUNT) after in
      elim moves.drawn [ inl p ↦ omega (arith, count, same, a, b, c, p) | inr p ↦ omega (arith, count, same, few, c, p) ]

  -- what is shown of the step keeps counts and pending decrements
  pub moved : AreCounted blocks u after m at
  moved = record {
    stuck = λ n h k. moves.stuck n h k ∙ was.stuck n h k;
    below = below;
    exact = exact;
    done = moves.done;
    dead = moves.dead;
    one_handler = one_handler;
    drew = drew;
    one_drawer = one_drawer;
    knows = knows;
    few = let a = was.few in let b = length-set ds i e in omega (arith, a, b);
    drawn = drawn;
  }

-- ---- steps that change no table

-- What has to be shown of a step that only looks.
pub record Looks (blocks : ℕ) (t : Tables) (m : Moment) (at : Name → ℕ) (d e : Decrementing) : Type 0 where
  pub hand : (n : Name) → IsTrue (has m.unreclaimed n) → has m.stuck n ≡ false → in_hand t m at e n ≡ in_hand t m at d n
  pub handled : (place : ℕ) → handled_by e ≡ Some place → handled_by d ≡ Some place
  pub draws_none : (number : ℕ) → e ≡ ReadsEntry number → ⊥
  pub drawn : (draws_soon (t.cursors DECREMENT_COUNT) e ≤ draws_soon (t.cursors DECREMENT_COUNT) d) ⊎ (t.cursors DECREMENT_CURSOR < t.cursors DECREMENT_COUNT)
  pub own : KnowsCounts blocks t m at e

pub looked : (blocks : ℕ) (t : Tables) (ds : List Decrementing) (m : Moment) (at : Name → ℕ) (i : ℕ) (d e : Decrementing) → AreCounted blocks t ds m at → slice_get ds i ≡ Some d → Looks blocks t m at d e
    → AreCounted blocks t (slice_set ds i e) m at
looked blocks t ds m at i d e was shows looks = moved blocks t t ds m at i d e was shows (record {
  keeps = record { zeros = λ k z. z; dones = λ k z. z; number = refl };
  decs = refl;
  stuck = λ n h k. refl;
  balanced = λ n h k. let same = looks.hand n h k in record { falls = omega arith; balance = omega (arith, same) };
  done = was.done;
  dead = was.dead;
  handler = λ j f place there by_f by_e. was.one_handler j i f d place there shows by_f (looks.handled place by_e);
  cursor = omega arith;
  draws = λ number draws. absurd (looks.draws_none number draws);
  drawn = elim looks.drawn [ inl p ↦ inl (omega (arith, p)) | inr p ↦ inr p ];
  own = looks.own;
})

-- ---- tables that count nothing

-- of tables, this reads counts, dones and the list of decrements alone
pub record AgreesOnCounts (t u : Tables) : Type 0 where
  pub counts : u.counts ≡ t.counts
  pub dones : u.dones ≡ t.dones
  pub decs : u.decs ≡ t.decs
  pub cursor : u.cursors DECREMENT_CURSOR ≡ t.cursors DECREMENT_CURSOR
  pub number : u.cursors DECREMENT_COUNT ≡ t.cursors DECREMENT_COUNT

waiting_still : (t u : Tables) (p : ℕ) → AgreesOnCounts t u → waiting_at u p ≡ waiting_at t p
waiting_still t u p same =
    ap (λ f. entries_between f (u.cursors DECREMENT_CURSOR) (u.cursors DECREMENT_COUNT) p) same.decs ∙ ap (λ n. entries_between t.decs n (u.cursors DECREMENT_COUNT) p) same.cursor
    ∙ ap (λ n. entries_between t.decs (t.cursors DECREMENT_CURSOR) n p) same.number

undone_still : (t u : Tables) (at : Name → ℕ) (us : List Name) → u.dones ≡ t.dones → undone u at us ≡ undone t at us
undone_still t u at us dones = ap (λ f. filter (λ x. not (f (granule_of (at x)))) us) dones

pub counted_still : (blocks : ℕ) (t u : Tables) (ds : List Decrementing) (m : Moment) (at : Name → ℕ) → AgreesOnCounts t u → AreCounted blocks t ds m at → AreCounted blocks u ds m at
counted_still blocks t u ds m at same is = record {
  stuck = λ n h k. ap (λ f. f (granule_of (at n))) same.counts ∙ is.stuck n h k;
  below = λ n h k. subst (λ f. f (granule_of (at n)) < STUCK) (sym same.counts) (is.below n h k);
  exact = λ n h k.
      let a = is.exact n h k in
      let b : count_at u at n ≡ count_at t at n = ap (λ f. f (granule_of (at n))) same.counts in
      let c = ap (λ us. references m.last us n) (undone_still t u at m.unreclaimed same.dones) in
      let d = waiting_still t u (at n) same in
      let e = hands_still t u m at ds n same.decs in
      omega (arith, a, b, c, d, e);
  done = λ n h k. ap (λ f. f (granule_of (at n))) same.counts ∙ is.done n h (sym (ap (λ f. f (granule_of (at n))) same.dones) ∙ k);
  dead = λ n h k. is.dead n h (sym (ap (λ f. f (granule_of (at n))) same.dones) ∙ k);
  one_handler = is.one_handler;
  drew = λ i number there. subst (λ c. number < c) (sym same.cursor) (is.drew i number there);
  one_drawer = is.one_drawer;
  knows = λ i d there. known_kept blocks t u m at d
      (record { zeros = λ k z. ap (λ f. f k) same.counts ∙ z; dones = λ k z. ap (λ f. f k) same.dones ∙ z; number = same.number }) (is.knows i d there);
  few = is.few;
  drawn = let a = is.drawn in let b = ap (λ c. soon_drawn c ds) same.number in let c = same.number in let d = same.cursor in omega (arith, a, b, c, d);
}

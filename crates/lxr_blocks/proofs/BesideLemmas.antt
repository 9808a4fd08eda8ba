-- An object is placed on granules that nothing kept: at the front of lines of which nothing that is kept has any.
use Rattle.std.proofs.Common.{◌≡◌, ◌≢◌, ℕ, ◌+◌, ◌-◌, ◌*◌, ◌/◌, ◌%◌, ◌^◌, ◌<◌, ◌≤◌, refl, sym, ap, subst, ◌∙◌, inl, inr, ◌⊎◌, arith, Bool, cond, true, false, nat_eq}
use Rattle.std.specs.Prelude.{◌↔◌, ◌&&◌, IsTrue, not}
use Rattle.std.proofs.lemmas.Bool.Decides.{leb_tells, nat_tests}
use Rattle.lxr_layout.specs.Places.{place_at}
use Rattle.lxr_layout.specs.declared.TheConstants.{GRANULES_IN_BLOCK, GRANULES_IN_LINE, LINES_IN_BLOCK}
use Rattle.lxr_layout.specs.declared.runs.Run.{Run}
use Rattle.lxr_layout.specs.declared.Name.{Name}
use Rattle.lxr_layout.specs.declared.Place.{Place}
use Rattle.lxr_layout.specs.declared.Shape.{Shape}
use Rattle.lxr_layout.specs.Objects.{FitsShape, header_word, line_count, word_count}
use Rattle.lxr_layout.specs.Places.{first_word}
use Rattle.lxr_image.specs.declared.space.Space.{Space}
use Rattle.lxr_image.specs.Tables.{Tables}
use Rattle.lxr_image.specs.Spaces.{tables_of}
use Rattle.lxr_image.specs.Reads.{granule_of}
use Rattle.lxr_image.specs.ImageLaws.{WritesNew}
use Rattle.lxr_blocks.specs.declared.states.BlockState.TheVariants.{Chosen}
use Rattle.lxr_blocks.specs.Lines.{IsFreeRun, is_free}
use Rattle.lxr_blocks.specs.Listing.{TurnsWithRest}
use Rattle.lxr_blocks.specs.Handing.{first_line, handed_out, is_between}
use Rattle.lxr_blocks.specs.States.{KeepsFree, KeepsState, is_fixed, state_in, state_of}
use Rattle.lxr_blocks.specs.Placing.{HasRest, IsPlaced, IsPlacedInRest, IsPlacedOn, IsRest, first_granule, granule_count, with_object}
use Rattle.lxr_blocks.specs.Kept.{IsAmong, IsKeptGranule, IsOpenGranule, KeepsGranules, IsPlacedBeside, PlacedIsBeside}
use Rattle.lxr_blocks.proofs.HandedLemmas.{between, handing_keeps_free, handing_keeps_states, out_before, outside, run_out, still_out}
use Rattle.lxr_blocks.proofs.KeptLemmas.{free_line_is_told, out_keeps, still_taken}

-- ---- the words of a new object

-- what the heap has then: the header, zeros behind it, and what it had elsewhere
heap_header : (t : Tables) (g : ℕ) (n : Name) (s : Shape) (w : ℕ) → w ≡ 2 * g → (with_object t g n s).heap w ≡ header_word n s
heap_header t g n s w at =
    let e : nat_eq w (2 * g) ≡ true = grind (arith, nat_tests) in
    ap (λ b. cond b (header_word n s) (cond (is_between (2 * g) (2 * g + word_count s) w) 0 (t.heap w))) e

heap_zero : (t : Tables) (g : ℕ) (n : Name) (s : Shape) (w : ℕ) → 2 * g < w → w < 2 * g + word_count s → (with_object t g n s).heap w ≡ 0
heap_zero t g n s w low high =
    let e : nat_eq w (2 * g) ≡ false = grind arith in
    ap (λ b. cond b (header_word n s) (cond (is_between (2 * g) (2 * g + word_count s) w) 0 (t.heap w))) e
    ∙ ap (λ b. cond b 0 (t.heap w)) (between (2 * g) (2 * g + word_count s) w (omega arith) high)

heap_other : (t : Tables) (g : ℕ) (n : Name) (s : Shape) (w : ℕ) → (w < 2 * g) ⊎ (2 * g + word_count s ≤ w) → (with_object t g n s).heap w ≡ t.heap w
heap_other t g n s w out =
    let some : 1 ≤ granule_count s = omega arith in
    let ne : w ≢ 2 * g = λ e. elim out [ inl h ↦ omega (arith, h, e) | inr h ↦ omega (arith, h, e, some) ] in
    let e : nat_eq w (2 * g) ≡ false = grind (arith, ne) in
    ap (λ b. cond b (header_word n s) (cond (is_between (2 * g) (2 * g + word_count s) w) 0 (t.heap w))) e
    ∙ ap (λ b. cond b 0 (t.heap w)) (outside (2 * g) (2 * g + word_count s) w out)

-- the object is written at the place of the granule
pub writes_object : (t u : Tables) (g p : ℕ) (n : Name) (s : Shape) → u.heap ≡ (with_object t g n s).heap → first_word p ≡ 2 * g → WritesNew t u p n s
writes_object t u g p n s heap first =
    let size : 1 + s.refs + s.values ≤ word_count s = omega arith in
    record {
      header = ap (λ f. f (first_word p)) heap ∙ heap_header t g n s (first_word p) first;
      zeros = λ i h. ap (λ f. f (first_word p + 1 + i)) heap ∙ heap_zero t g n s (first_word p + 1 + i) (omega (arith, first)) (omega (arith, first, size, h));
      others = λ k out. ap (λ f. f k) heap ∙ heap_other t g n s k (elim out [ inl h ↦ inl (omega (arith, h, first)) | inr h ↦ inr (omega (arith, h, first)) ]);
    }

-- ---- lines that aren't free

-- a granule whose line isn't free is outside a run of free lines
off_run : (t : Tables) (blocks : ℕ) (r : Run) (k : ℕ) → IsFreeRun t blocks r → is_free t (k / GRANULES_IN_LINE) ≡ false → (k < first_granule r) ⊎ (first_granule r + GRANULES_IN_LINE * r.lines ≤ k)
off_run t blocks r k run taken = elim (leb_tells (first_granule r) k) [
  | inr h ↦ inl h.1
  | inl h ↦ elim (leb_tells (first_granule r + GRANULES_IN_LINE * r.lines) k) [
    | inl m ↦ inr m.1
    | inr m ↦
        let low = h.1 in let high = m.1 in
        let line : k / GRANULES_IN_LINE ≡ LINES_IN_BLOCK * r.block + (k / GRANULES_IN_LINE - LINES_IN_BLOCK * r.block) = omega arith in
        let free = run.free (k / GRANULES_IN_LINE - LINES_IN_BLOCK * r.block) (omega arith) (omega arith) in
        let taken' : is_free t (LINES_IN_BLOCK * r.block + (k / GRANULES_IN_LINE - LINES_IN_BLOCK * r.block)) ≡ false = subst (λ z. is_free t z ≡ false) line taken in
        absurd (let z : true ≡ false = sym free ∙ taken' in cc)
  ]
]

-- a line of a free run is free, and isn't out
run_free : (t : Tables) (blocks : ℕ) (r : Run) (l : ℕ) → IsFreeRun t blocks r → first_line r ≤ l → l < first_line r + r.lines → IsTrue (is_free t l)
run_free t blocks r l run low high =
    let line : LINES_IN_BLOCK * r.block + (l - LINES_IN_BLOCK * r.block) ≡ l = omega arith in
    subst (λ z. IsTrue (is_free t z)) line (run.free (l - LINES_IN_BLOCK * r.block) (omega arith) (omega arith))

run_in_hand : (t : Tables) (blocks : ℕ) (r : Run) (l : ℕ) → IsFreeRun t blocks r → first_line r ≤ l → l < first_line r + r.lines → t.outs l ≡ false
run_in_hand t blocks r l run low high = ((free_line_is_told t l).0 (run_free t blocks r l run low high)).in_hand

-- ---- granules on which an object is placed

-- Granules from one on and below another, of which nothing that is kept has any, with the lines handed out of which they are. The object is at
-- their front, and what it leaves of them is of its last line.
record IsSpot (a : Space) (v : Tables) (from end : ℕ) (s : Shape) : Type 0 where
  fits : from + granule_count s ≤ end
  in_heap : end ≤ GRANULES_IN_BLOCK * a.limits.blocks
  in_block : from / GRANULES_IN_BLOCK ≡ (end - 1) / GRANULES_IN_BLOCK
  in_line : (from + granule_count s - 1) / GRANULES_IN_LINE ≡ (end - 1) / GRANULES_IN_LINE
  unchosen : state_in (tables_of a) (from / GRANULES_IN_BLOCK) ≢ Chosen
  bare : (k : ℕ) → IsKeptGranule a k → (k < from) ⊎ (end ≤ k)
  open_there : (k : ℕ) → from ≤ k → k < end → IsOpenGranule a k
  own : (k : ℕ) → from ≤ k → k < end → IsTrue (v.outs (k / GRANULES_IN_LINE))
  stays : (l : ℕ) → IsTrue ((tables_of a).outs l) → IsTrue (v.outs l)
  outs : (l : ℕ) → IsTrue (v.outs l) → IsTrue ((tables_of a).outs l) ⊎ ((k : ℕ) × IsAmong from (granule_count s) k × (k / GRANULES_IN_LINE ≡ l))
  reuse : (l : ℕ) → v.reuse l ≡ cond (v.outs l && not ((tables_of a).outs l)) (((tables_of a).reuse l + 1) % 2 ^ 32) ((tables_of a).reuse l)
  states : (b : ℕ) → KeepsState (tables_of a) v b
  free : KeepsFree (tables_of a) v
  tables : v ≡ record (tables_of a) { outs = v.outs; reuse = v.reuse; states = v.states }

some_granules : (s : Shape) → 1 ≤ granule_count s
some_granules s = omega arith

-- a block that isn't Chosen is still not
still_unchosen : (t v : Tables) (b : ℕ) → KeepsState t v b → state_in t b ≢ Chosen → state_in v b ≢ Chosen
still_unchosen t v b keeps unchosen chosen = elim keeps [
  | inl same ↦ unchosen (sym (ap state_of same) ∙ chosen)
  | inr free ↦ let no : true ≡ false = ap is_fixed (sym chosen) ∙ free.1 in cc
]

-- ---- the rest

-- numbers between two that have one quotient have it too
within_line : (c b x : ℕ) → c / GRANULES_IN_LINE ≡ b / GRANULES_IN_LINE → c ≤ x → x ≤ b → x / GRANULES_IN_LINE ≡ b / GRANULES_IN_LINE
within_line c b x same low high = omega arith

within_block : (a b x : ℕ) → a / GRANULES_IN_BLOCK ≡ b / GRANULES_IN_BLOCK → a ≤ x → x ≤ b → a / GRANULES_IN_BLOCK ≡ x / GRANULES_IN_BLOCK
within_block a b x same low high = omega arith

spot_rest : (a b : Space) (v : Tables) (from end : ℕ) (n : Name) (s : Shape) → IsSpot a v from end s → TurnsWithRest a b (with_object v from n s) (from + granule_count s) end → IsRest b
spot_rest a b v from end n s spot turns =
    let next : b.rest_next ≡ from + granule_count s = ap (λ x. x.rest_next) turns.rest in
    let last : b.rest_end ≡ end = ap (λ x. x.rest_end) turns.rest in
    let some = some_granules s in
    elim (leb_tells end (from + granule_count s)) [
      | inl h ↦ let past = h.1 in let fits = spot.fits in inl (omega (arith, next, last))
      | inr h ↦
          let left = h.1 in
          let line = within_line (from + granule_count s - 1) (end - 1) (from + granule_count s) spot.in_line (omega arith) (omega arith) in
          let block = within_block from (end - 1) (from + granule_count s) spot.in_block (omega arith) (omega arith) in
          let blocks : b.limits.blocks ≡ a.limits.blocks = ap (λ x. x.limits.blocks) turns.rest in
          let heap = spot.in_heap in
          let outs : (tables_of b).outs ≡ v.outs = ap (λ t. t.outs) turns.tables in
          let states : (tables_of b).states ≡ v.states = ap (λ t. t.states) turns.tables in
          let there : IsTrue (v.outs ((from + granule_count s) / GRANULES_IN_LINE)) = spot.own (from + granule_count s) (omega arith) left in
          let open_block : state_in v ((from + granule_count s) / GRANULES_IN_BLOCK) ≢ Chosen = still_unchosen (tables_of a) v ((from + granule_count s) / GRANULES_IN_BLOCK) (spot.states ((from + granule_count s) / GRANULES_IN_BLOCK)) (subst (λ z. state_in (tables_of a) z ≢ Chosen) block spot.unchosen) in
          inr (record {
            some = omega (arith, next, last);
            in_heap = omega (arith, last, blocks, heap);
            in_line = ap (λ z. z / GRANULES_IN_LINE) next ∙ line ∙ ap (λ z. (z - 1) / GRANULES_IN_LINE) (sym last);
            out = subst (λ z. IsTrue ((tables_of b).outs (z / GRANULES_IN_LINE))) (sym next) (subst (λ f. IsTrue (f ((from + granule_count s) / GRANULES_IN_LINE))) (sym outs) there);
            outside = subst (λ z. state_in (tables_of b) (z / GRANULES_IN_BLOCK) ≢ Chosen) (sym next) (subst (λ f. state_in (record v { states = f }) ((from + granule_count s) / GRANULES_IN_BLOCK) ≢ Chosen) (sym states) open_block);
          })
    ]

-- ---- what is kept

spot_kept : (a b : Space) (v : Tables) (from end : ℕ) (n : Name) (s : Shape) → IsSpot a v from end s → TurnsWithRest a b (with_object v from n s) (from + granule_count s) end
    → KeepsGranules b (λ k. IsKeptGranule a k ⊎ IsAmong from (granule_count s) k)
spot_kept a b v from end n s spot turns =
    let next : b.rest_next ≡ from + granule_count s = ap (λ x. x.rest_next) turns.rest in
    let last : b.rest_end ≡ end = ap (λ x. x.rest_end) turns.rest in
    let outs : (tables_of b).outs ≡ v.outs = ap (λ t. t.outs) turns.tables in
    let counts : (tables_of b).counts ≡ (tables_of a).counts = ap (λ t. t.counts) turns.tables ∙ ap (λ t. t.counts) spot.tables in
    let fits = spot.fits in
    record {
      lines = λ k taken. elim taken [
        | inl kept ↦ still_taken (tables_of a) (tables_of b) (k / GRANULES_IN_LINE) (λ i zero. sym (ap (λ f. f i) counts) ∙ zero) (λ o. subst (λ f. IsTrue (f (k / GRANULES_IN_LINE))) (sym outs) (spot.stays (k / GRANULES_IN_LINE) o)) kept.line
        | inr among ↦ out_keeps (tables_of b) (k / GRANULES_IN_LINE)
            (subst (λ f. IsTrue (f (k / GRANULES_IN_LINE))) (sym outs) (spot.own k among.0 (let below = among.1 in omega arith)))
      ];
      rest = λ k taken. elim taken [
        | inl kept ↦ elim (spot.bare k kept) [ inl q ↦ inl (omega (arith, q, next)) | inr q ↦ inr (omega (arith, q, last)) ]
        | inr among ↦ inl (let below = among.1 in omega (arith, next))
      ];
    }

-- ---- an object on such granules

-- no table but the heap, the out bits, the reuse counters and the states has changed
turned_tables : (a b : Space) (v : Tables) (from end : ℕ) (n : Name) (s : Shape) → IsSpot a v from end s → TurnsWithRest a b (with_object v from n s) (from + granule_count s) end
    → tables_of b ≡ record (tables_of a) { heap = (tables_of b).heap; outs = (tables_of b).outs; reuse = (tables_of b).reuse; states = (tables_of b).states }
turned_tables a b v from end n s spot turns =
    turns.tables
    ∙ ap (λ (x : Tables). record x { heap = (with_object v from n s).heap }) spot.tables
    ∙ ap (λ (x : Tables). record (tables_of a) { heap = x.heap; outs = x.outs; reuse = x.reuse; states = x.states }) (sym turns.tables)

placed_on_spot : (a b : Space) (v : Tables) (from end : ℕ) (n : Name) (s : Shape) (p : Place) → IsSpot a v from end s → p ≡ place_at from
    → TurnsWithRest a b (with_object v from n s) (from + granule_count s) end → IsPlacedBeside a b (IsKeptGranule a) n s p
placed_on_spot a b v from end n s p spot place turns =
    let at : p.0 ≡ from + 1 = ap (λ q. q.0) place in
    let here : from ≡ granule_of p.0 = omega (arith, at) in
    let some = some_granules s in
    let fits = spot.fits in
    let heap = spot.in_heap in
    let outs : (tables_of b).outs ≡ v.outs = ap (λ t. t.outs) turns.tables in
    let reuse : (tables_of b).reuse ≡ v.reuse = ap (λ t. t.reuse) turns.tables in
    let states : (tables_of b).states ≡ v.states = ap (λ t. t.states) turns.tables in
    let written = writes_object v (tables_of b) from p.0 n s (ap (λ t. t.heap) turns.tables) (omega (arith, at)) in
    let same_heap : v.heap ≡ (tables_of a).heap = ap (λ t. t.heap) spot.tables in
    record {
      placed = omega (arith, at);
      in_heap = omega (arith, at, fits, heap);
      in_block = subst (λ g. g / GRANULES_IN_BLOCK ≡ (g + granule_count s - 1) / GRANULES_IN_BLOCK) here (within_block from (end - 1) (from + granule_count s - 1) spot.in_block (omega arith) (omega arith));
      unchosen = subst (λ g. state_in (tables_of a) (g / GRANULES_IN_BLOCK) ≢ Chosen) here spot.unchosen;
      apart = λ k kept among. let low = among.0 in let high = among.1 in elim (spot.bare k kept) [ inl q ↦ omega (arith, q, here) | inr q ↦ omega (arith, q, here, fits) ];
      onto = λ k among. let low = among.0 in let high = among.1 in spot.open_there k (omega (arith, here)) (omega (arith, here, fits));
      written = record { header = written.header; zeros = written.zeros; others = λ k out. written.others k out ∙ ap (λ f. f k) same_heap };
      outs = subst (λ g. (l : ℕ) → IsTrue ((tables_of b).outs l) ↔ (IsTrue ((tables_of a).outs l) ⊎ ((k : ℕ) × IsAmong g (granule_count s) k × (k / GRANULES_IN_LINE ≡ l)))) here (λ l. (
        (λ out. spot.outs l (subst (λ f. IsTrue (f l)) outs out)),
        (λ out. subst (λ f. IsTrue (f l)) (sym outs) (elim out [
          | inl o ↦ spot.stays l o
          | inr k ↦ subst (λ x. IsTrue (v.outs x)) k.2 (spot.own k.0 k.1.0 (let below = k.1.1 in omega arith))
        ])),
      ));
      reuse = λ l. ap (λ f. f l) reuse ∙ spot.reuse l ∙ ap (λ f. cond (f l && not ((tables_of a).outs l)) (((tables_of a).reuse l + 1) % 2 ^ 32) ((tables_of a).reuse l)) (sym outs);
      states = λ x. subst (λ f. KeepsState (tables_of a) (record v { states = f }) x) (sym states) (spot.states x);
      free = λ x is. let was = spot.free x (sym (ap (λ f. state_of (f x)) states) ∙ is) in (was.0, λ l of_x out. was.1 l of_x (sym (ap (λ f. f l) outs) ∙ out));
      tables = turned_tables a b v from end n s spot turns;
      space = turns.rest ∙ ap (λ (x : Space). record a { words = b.words; rest_next = x.rest_next; rest_end = x.rest_end }) (sym turns.rest);
      rest = spot_rest a b v from end n s spot turns;
      kept = subst (λ g. KeepsGranules b (λ k. IsKeptGranule a k ⊎ IsAmong g (granule_count s) k)) here (spot_kept a b v from end n s spot turns);
    }

-- ---- the front of the rest

-- what is out is not counted once more
not_newly : (o : Bool) (x y : ℕ) → x ≡ cond (o && not o) y x
not_newly true x y = refl
not_newly false x y = refl

rest_is_spot : (a : Space) (s : Shape) → HasRest a → a.rest_next + granule_count s ≤ a.rest_end → IsSpot a (tables_of a) a.rest_next a.rest_end s
rest_is_spot a s rest fits =
    let some = some_granules s in
    let line = rest.in_line in
    let left = rest.some in
    record {
      fits = fits;
      in_heap = rest.in_heap;
      in_block = omega arith;
      in_line = within_line a.rest_next (a.rest_end - 1) (a.rest_next + granule_count s - 1) line (omega arith) (omega arith);
      unchosen = rest.outside;
      bare = λ k kept. kept.rest;
      open_there = λ k low high. inr (low, high);
      own = λ k low high. subst (λ x. IsTrue ((tables_of a).outs x)) (line ∙ sym (within_line a.rest_next (a.rest_end - 1) k line low (omega (arith, high)))) rest.out;
      stays = λ l out. out;
      outs = λ l out. inl out;
      reuse = λ l. not_newly ((tables_of a).outs l) ((tables_of a).reuse l) (((tables_of a).reuse l + 1) % 2 ^ 32);
      states = λ b. inl refl;
      free = λ b is. (is, λ l of_b out. out);
      tables = refl;
    }

placed_in_rest : (a b : Space) (n : Name) (s : Shape) (p : Place) → IsRest a → IsPlacedInRest a b n s p → IsPlacedBeside a b (IsKeptGranule a) n s p
placed_in_rest a b n s p (inl none) is = let some = some_granules s in let fits = is.fits in absurd (omega arith)
placed_in_rest a b n s p (inr rest) is = placed_on_spot a b (tables_of a) a.rest_next a.rest_end n s p (rest_is_spot a s rest is.fits) is.place is.changes

-- ---- a run that is handed out for it

-- granules at the front of a run lie in its block, and the run in the heap
run_in_block : (b l n : ℕ) → l + n ≤ LINES_IN_BLOCK → 1 ≤ n → GRANULES_IN_LINE * (LINES_IN_BLOCK * b + l) / GRANULES_IN_BLOCK ≡ (GRANULES_IN_LINE * (LINES_IN_BLOCK * b + l) + GRANULES_IN_LINE * n - 1) / GRANULES_IN_BLOCK
run_in_block b l n within some = omega arith

run_in_heap : (b l n blocks : ℕ) → b < blocks → l + n ≤ LINES_IN_BLOCK → GRANULES_IN_LINE * (LINES_IN_BLOCK * b + l) + GRANULES_IN_LINE * n ≤ GRANULES_IN_BLOCK * blocks
run_in_heap b l n blocks in_heap within = omega arith

-- the block of a run by its first granule
run_of_block : (b l n : ℕ) → l + n ≤ LINES_IN_BLOCK → 1 ≤ n → b ≡ GRANULES_IN_LINE * (LINES_IN_BLOCK * b + l) / GRANULES_IN_BLOCK
run_of_block b l n within some = omega arith

-- a granule of a run is of one of its lines
line_within : (l n k : ℕ) → GRANULES_IN_LINE * l ≤ k → k < GRANULES_IN_LINE * l + GRANULES_IN_LINE * n → (l ≤ k / GRANULES_IN_LINE) × (k / GRANULES_IN_LINE < l + n)
line_within l n k low high = (omega arith, omega arith)

-- an object reaches into each of the lines that it needs, and no further
lines_hold : (s : Shape) → (granule_count s ≤ GRANULES_IN_LINE * line_count s) × (GRANULES_IN_LINE * line_count s < granule_count s + GRANULES_IN_LINE) × (1 ≤ line_count s)
lines_hold s = (omega arith, omega arith, omega arith)

last_line : (l n c : ℕ) → 1 ≤ n → c ≤ GRANULES_IN_LINE * n → GRANULES_IN_LINE * n < c + GRANULES_IN_LINE → (GRANULES_IN_LINE * l + c - 1) / GRANULES_IN_LINE ≡ (GRANULES_IN_LINE * l + GRANULES_IN_LINE * n - 1) / GRANULES_IN_LINE
last_line l n c some fits over = omega arith

-- the first granule of a line of the run is one of the object
front_of : (first n c l : ℕ) → first ≤ l → l < first + n → GRANULES_IN_LINE * n < c + GRANULES_IN_LINE → (GRANULES_IN_LINE * first ≤ GRANULES_IN_LINE * l) × (GRANULES_IN_LINE * l < GRANULES_IN_LINE * first + c)
front_of first n c l low high over = (omega arith, omega arith)

line_back : (l : ℕ) → GRANULES_IN_LINE * l / GRANULES_IN_LINE ≡ l
line_back l = omega arith

-- what is handed out newly is counted once more
newly : (b o : Bool) (x y : ℕ) → (IsTrue b → o ≡ false) → cond b x y ≡ cond (cond b true o && not o) x y
newly true o x y hand = ap (λ c. cond (not c) x y) (sym (hand refl))
newly false true x y hand = refl
newly false false x y hand = refl

between_tells : (a b w : ℕ) → IsTrue (is_between a b w) → (a ≤ w) × (w < b)
between_tells a b w is = elim (leb_tells a w) [
  | inr q ↦ let no = sym (outside a b w (inl q.1)) ∙ is in cc
  | inl q ↦ elim (leb_tells b w) [
    | inl m ↦ let no = sym (outside a b w (inr m.1)) ∙ is in cc
    | inr m ↦ (q.1, m.1)
  ]
]

run_is_spot : (a : Space) (s : Shape) (r : Run) → IsFreeRun (tables_of a) a.limits.blocks r → state_in (tables_of a) r.block ≢ Chosen → r.lines ≡ line_count s
    → IsSpot a (handed_out (tables_of a) r) (first_granule r) (first_granule r + GRANULES_IN_LINE * r.lines) s
run_is_spot a s r run unchosen lines =
    let hold = lines_hold s in
    let some : 1 ≤ r.lines = omega (arith, lines, hold.2) in
    let fits : granule_count s ≤ GRANULES_IN_LINE * r.lines = omega (arith, lines, hold.0) in
    let over : GRANULES_IN_LINE * r.lines < granule_count s + GRANULES_IN_LINE = omega (arith, lines, hold.1) in
    let t : Tables = tables_of a in
    record {
      fits = omega (arith, fits);
      in_heap = run_in_heap r.block r.line r.lines a.limits.blocks run.block run.within;
      in_block = run_in_block r.block r.line r.lines run.within some;
      in_line = last_line (first_line r) r.lines (granule_count s) some fits over;
      unchosen = subst (λ z. state_in t z ≢ Chosen) (run_of_block r.block r.line r.lines run.within some) unchosen;
      bare = λ k kept. off_run t a.limits.blocks r k run kept.line;
      open_there = λ k low high. inl (let in_lines = line_within (first_line r) r.lines k low high in run_free t a.limits.blocks r (k / GRANULES_IN_LINE) run in_lines.0 in_lines.1);
      own = λ k low high. let in_lines = line_within (first_line r) r.lines k low high in run_out t r (k / GRANULES_IN_LINE) in_lines.0 in_lines.1;
      stays = λ l out. still_out t r l out;
      outs = λ l out. elim (out_before t r l out) [
        | inl h ↦ inl h
        | inr h ↦ inr (GRANULES_IN_LINE * l, front_of (first_line r) r.lines (granule_count s) l h.0 h.1 over, line_back l)
      ];
      reuse = λ l. newly (is_between (first_line r) (first_line r + r.lines) l) (t.outs l) ((t.reuse l + 1) % 2 ^ 32) (t.reuse l)
          (λ is. let in_lines = between_tells (first_line r) (first_line r + r.lines) l is in run_in_hand t a.limits.blocks r l run in_lines.0 in_lines.1);
      states = λ b. handing_keeps_states t r b;
      free = handing_keeps_free t r some run.within;
      tables = refl;
    }

placed_on_run : (a b : Space) (n : Name) (s : Shape) (p : Place) (r : Run) → IsPlacedOn r a b n s p → IsPlacedBeside a b (IsKeptGranule a) n s p
placed_on_run a b n s p r is =
    placed_on_spot a b (handed_out (tables_of a) r) (first_granule r) (first_granule r + GRANULES_IN_LINE * r.lines) n s p
    (run_is_spot a s r is.run.run.run is.run.run.outside is.run.lines_are) is.place is.changes

pub placed_is_beside : PlacedIsBeside
placed_is_beside a b n s p rest fits (inl is) = placed_in_rest a b n s p rest is
placed_is_beside a b n s p rest fits (inr is) = placed_on_run a b n s p is.0 is.1

-- so it is beside any granules that are kept
pub placed_beside : (a b : Space) (taken : ℕ → Type 0) (n : Name) (s : Shape) (p : Place) → IsRest a → FitsShape s → KeepsGranules a taken → IsPlaced a b n s p → IsPlacedBeside a b taken n s p
placed_beside a b taken n s p rest fits keeps is =
    let all = placed_is_beside a b n s p rest fits is in
    let kept : (k : ℕ) → taken k → IsKeptGranule a k = λ k has. record { line = keeps.lines k has; rest = keeps.rest k has } in
    record {
      placed = all.placed;
      in_heap = all.in_heap;
      in_block = all.in_block;
      unchosen = all.unchosen;
      apart = λ k has. all.apart k (kept k has);
      onto = all.onto;
      written = all.written;
      outs = all.outs;
      reuse = all.reuse;
      states = all.states;
      free = all.free;
      tables = all.tables;
      space = all.space;
      rest = all.rest;
      kept = record {
        lines = λ k has. all.kept.lines k (elim has [ inl h ↦ inl (kept k h) | inr h ↦ inr h ]);
        rest = λ k has. all.kept.rest k (elim has [ inl h ↦ inl (kept k h) | inr h ↦ inr h ]);
      };
    }

-- what is open then was open, where all that was kept is kept
pub was_open : (a b : Space) → KeepsGranules b (IsKeptGranule a) → (k : ℕ) → IsOpenGranule b k → IsOpenGranule a k
was_open a b keeps k there = elim (is_free (tables_of a) (k / GRANULES_IN_LINE)) as (λ free. is_free (tables_of a) (k / GRANULES_IN_LINE) ≡ free → IsOpenGranule a k) [
  | true ↦ λ e. inl e
  | false ↦ λ e. elim (leb_tells a.rest_next k) [
    | inr low ↦ absurd (unkept (record { line = e; rest = inl low.1 }))
    | inl from ↦ elim (leb_tells a.rest_end k) [
      | inl high ↦ absurd (unkept (record { line = e; rest = inr high.1 }))
      | inr below ↦ inr (from.1, below.1)
    ]
  ]
] refl
  where
    unkept : IsKeptGranule a k → ⊥
    unkept kept = elim there [
      | inl free ↦ let taken = keeps.lines k kept in cc
      | inr left ↦ let from = left.0 in let below = left.1 in elim (keeps.rest k kept) [ inl low ↦ omega (arith, low) | inr high ↦ omega (arith, high) ]
    ]

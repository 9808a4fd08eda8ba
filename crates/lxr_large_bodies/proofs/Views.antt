-- The bodies that entries stand for.
use Rattle.std.proofs.Common.{◌≡◌, ◌≢◌, ℕ, zero, suc, ◌+◌, ◌*◌, ◌^◌, ◌<◌, ◌≤◌, ◌⊎◌, inl, inr, refl, sym, ap, ◌∙◌, arith, Bool, true, false, cond, not, ◌&&◌, replicate, List, [], ◌∷◌, ◌++◌, length, get_or, set, take, drop, map, filter, Option, Some, None, leb, ltb, ◌||◌, subst}
use Rattle.std.specs.Prelude.{IfNone, IfSome, slice_get}
use Rattle.std.specs.Option.{option_map}
use Rattle.std.specs.List.{AllByRecursion, list_any}
use Rattle.std.specs.List.Sorted.{IsPermutation}
use Rattle.std.proofs.lemmas.Bool.{leb-true, or_parts}
use Rattle.std.proofs.lemmas.List.{length-map}
use Rattle.std.proofs.lemmas.List.Folds.{list_any_more}
use Rattle.std.proofs.Math.Seq.{take-append_seam}
use Rattle.lxr_layout.specs.declared.Name.{Name}
use Rattle.lxr_graph.specs.Names.{has, same_name}
use Rattle.lxr_graph.specs.History.{PauseReport}
use Rattle.lxr_graph.proofs.NameLemmas.{same_members}
use Rattle.lxr_large_bodies.specs.declared.entries.Entry.{Entry}
use Rattle.lxr_large_bodies.specs.Blocks.{AreFree, AreTaken, AreWithin, TakesRun, block_count, covers, is_within}
use Rattle.lxr_large_bodies.specs.Bodies.{Body, Held, IsFreeRun, blocks_held, blocks_in, body_of, fresh, left_by, overwritten, range_at, range_in, rank_of, settled, stays, takes, with_placed, with_words, word_at, word_in}
use Rattle.lxr_large_bodies.specs.Entries.{AreSorted, ClearsBlocks, ComesBefore, body_at, entry_of, inserted, is_settled, settled_where, start_in, words_in}
use Rattle.lxr_large_bodies.proofs.Runs.{count_below, none_count, none_taken}
use Rattle.lxr_large_bodies.proofs.Sorted.{IsNewEntry, LieApart, all_filter, all_found, all_get, all_weaken, rank_apart, rank_same, sorted_filter, sorted_where, same_rank}
use Rattle.lxr_large_bodies.proofs.Words.{KeepsOthers, clears_keep, clears_run, get_inside, get_outside, run_kept, set_inside, set_keeps, spliced, spliced_inside, spliced_keeps, take_inside}

-- how many blocks an entry has, where there is one
abbrev pub blocks_of : Option Entry → ℕ
blocks_of None = 0
blocks_of (Some e) = e.blocks

pub body_found : (ws : List ℕ) (es : List Entry) (n : Name) → body_of (map (body_at ws) es) n ≡ option_map (body_at ws) (entry_of es n)
body_found ws [] n = refl
body_found ws (e ∷ es) n = elim (same_name n e.name) as (λ b. cond b (Some (body_at ws e)) (body_of (map (body_at ws) es) n) ≡ option_map (body_at ws) (cond b (Some e) (entry_of es n))) [
  | true ↦ refl
  | false ↦ body_found ws es n
]

-- how many blocks the body of a name has
pub blocks_found : (ws : List ℕ) (es : List Entry) (n : Name) → blocks_in (body_of (map (body_at ws) es) n) ≡ blocks_of (entry_of es n)
blocks_found ws es n = ap blocks_in (body_found ws es n) ∙ go (entry_of es n)
  where
    go : (entry : Option Entry) → blocks_in (option_map (body_at ws) entry) ≡ blocks_of entry
    go None = refl
    go (Some e) = refl

-- and how many all have
pub blocks_all : (ws : List ℕ) (es : List Entry) → blocks_held (map (body_at ws) es) ≡ block_count es
blocks_all ws [] = refl
blocks_all ws (e ∷ es) = ap (λ k. e.blocks + k) (blocks_all ws es)

-- ---- a range of words

-- where the range begins is within the words of all blocks
range_ends : (e : Entry) (i count at words : ℕ) → start_in (Some e) i count ≡ Some at → 4096 * (e.first + e.blocks) ≤ words → at + count ≤ words
range_ends e i count at words found written = elim (leb (i + count) (4096 * e.blocks)) as (λ b. leb (i + count) (4096 * e.blocks) ≡ b → cond b (Some (4096 * e.first + i)) None ≡ Some at → at + count ≤ words) [
  | true ↦ λ fits is. let le = leb-true _ _ fits in let same : 4096 * e.first + i ≡ at = cc in omega (arith, le, same, written)
  | false ↦ λ fits is. cc
] refl found

pub range_within : (es : List Entry) (n : Name) (i count at words : ℕ) → AllByRecursion (λ e. 4096 * (e.first + e.blocks) ≤ words) es → Some at ≡ start_in (entry_of es n) i count → at + count ≤ words
range_within es n i count at words written found = go (entry_of es n) refl (sym found)
  where
    go : (entry : Option Entry) → entry_of es n ≡ entry → start_in entry i count ≡ Some at → at + count ≤ words
    go None is from = cc
    go (Some e) is from = range_ends e i count at words from (all_found (λ e. 4096 * (e.first + e.blocks) ≤ words) es n e written is)

-- the range that was found, as words of all blocks
abbrev pub range_of : List ℕ → ℕ → Option ℕ → Option (List ℕ)
range_of ws count None = None
range_of ws count (Some at) = Some (take count (drop at ws))

range_same : (ws : List ℕ) (e : Entry) (i count : ℕ) → range_in (Some (body_at ws e)) i count ≡ range_of ws count (start_in (Some e) i count)
range_same ws e i count = elim (leb (i + count) (4096 * e.blocks)) as (λ b. leb (i + count) (4096 * e.blocks) ≡ b → cond b (Some (take count (drop i (words_in ws e.first e.blocks)))) None ≡ range_of ws count (cond b (Some (4096 * e.first + i)) None)) [
  | true ↦ λ fits. ap (λ (xs : List ℕ). Some xs) (take_inside ws (4096 * e.first) (4096 * e.blocks) i count (leb-true _ _ fits))
  | false ↦ λ fits. refl
] refl

pub range_found : (ws : List ℕ) (es : List Entry) (n : Name) (i count : ℕ) → range_in (body_of (map (body_at ws) es) n) i count ≡ range_of ws count (start_in (entry_of es n) i count)
range_found ws es n i count = rw (body_found ws es n) (go (entry_of es n))
  where
    go : (entry : Option Entry) → range_in (option_map (body_at ws) entry) i count ≡ range_of ws count (start_in entry i count)
    go None = refl
    go (Some e) = range_same ws e i count

-- ---- one word

abbrev pub word_of : List ℕ → Option ℕ → Option ℕ
word_of ws None = None
word_of ws (Some at) = slice_get ws at

over_one : (i n : ℕ) → leb (i + 1) n ≡ false → n ≤ i
over_one i n more = grind (arith, more)

word_same : (ws : List ℕ) (e : Entry) (i : ℕ) → word_in (Some (body_at ws e)) i ≡ word_of ws (start_in (Some e) i 1)
word_same ws e i = elim (leb (i + 1) (4096 * e.blocks)) as (λ b. leb (i + 1) (4096 * e.blocks) ≡ b → slice_get (words_in ws e.first e.blocks) i ≡ word_of ws (cond b (Some (4096 * e.first + i)) None)) [
  | true ↦ λ fits. let le = leb-true _ _ fits in get_inside ws (4096 * e.first) (4096 * e.blocks) i (omega (arith, le))
  | false ↦ λ fits. get_outside (drop (4096 * e.first) ws) (4096 * e.blocks) i (over_one i (4096 * e.blocks) fits)
] refl

pub word_found : (ws : List ℕ) (es : List Entry) (n : Name) (i : ℕ) → word_in (body_of (map (body_at ws) es) n) i ≡ word_of ws (start_in (entry_of es n) i 1)
word_found ws es n i = rw (body_found ws es n) (go (entry_of es n))
  where
    go : (entry : Option Entry) → word_in (option_map (body_at ws) entry) i ≡ word_of ws (start_in entry i 1)
    go None = refl
    go (Some e) = word_same ws e i

-- ---- words that change

abbrev pub AreWritten : List ℕ → List Entry → Type 0
AreWritten ws es = AllByRecursion (λ e. 4096 * (e.first + e.blocks) ≤ length ws) es

pub body_kept : (old new : List ℕ) (from end : ℕ) (e : Entry) → KeepsOthers old new from end → 4096 * (e.first + e.blocks) ≤ length old → (4096 * (e.first + e.blocks) ≤ from) ⊎ (end ≤ 4096 * e.first) → body_at new e ≡ body_at old e
body_kept old new from end e keeps written apart =
    ap (λ (xs : List ℕ). record { name = e.name; first = e.first; blocks = e.blocks; young = not e.settled; words = xs })
    (run_kept old new from end (4096 * e.first) (4096 * e.blocks) keeps (omega (arith, written)) (side apart))
  where
    side : (4096 * (e.first + e.blocks) ≤ from) ⊎ (end ≤ 4096 * e.first) → (4096 * e.first + 4096 * e.blocks ≤ from) ⊎ (end ≤ 4096 * e.first)
    side (inl before) = inl (omega (arith, before))
    side (inr behind) = inr behind

-- the words from one on and below another lie in the blocks of an entry
pub record LiesIn (f : Entry) (from end : ℕ) : Type 0 where
  pub first : 4096 * f.first ≤ from
  pub last : end ≤ 4096 * (f.first + f.blocks)

apart_from : (e f : Entry) (from end : ℕ) → LiesIn f from end → LieApart e f → (4096 * (e.first + e.blocks) ≤ from) ⊎ (end ≤ 4096 * e.first)
apart_from e f from end lies (inl before) = let first = lies.first in inl (omega (arith, first, before))
apart_from e f from end lies (inr behind) = let last = lies.last in inr (omega (arith, last, behind))

others_kept : (old new : List ℕ) (from end : ℕ) (f : Entry) (n : Name) (change : List ℕ → List ℕ) (es : List Entry) → KeepsOthers old new from end → LiesIn f from end → AreWritten old es
    → AllByRecursion (λ e. LieApart e f × (same_name n e.name ≡ false)) es → map (body_at new) es ≡ with_words (map (body_at old) es) n change
others_kept old new from end f n change [] keeps lies written apart = refl
others_kept old new from end f n change (e ∷ es) keeps lies written apart =
    let head = body_kept old new from end e keeps written.0 (apart_from e f from end lies apart.0.0) in
    rw (head, apart.0.1, others_kept old new from end f n change es keeps lies written.1 apart.1) refl

behind_first : (x : Entry) (n : Name) (es : List Entry) → same_name n x.name ≡ true → AllByRecursion (ComesBefore x) es → AllByRecursion (λ e. LieApart e x × (same_name n e.name ≡ false)) es
behind_first x n [] same all = tt
behind_first x n (e ∷ es) same all =
    let lt = all.0.before in
    let equal = same_rank n x.name same in
    ((turned all.0.apart, rank_apart n e.name (λ hit. absurd (omega (arith, lt, equal, hit)))), behind_first x n es same all.1)
  where
    turned : LieApart x e → LieApart e x
    turned (inl le) = inr le
    turned (inr le) = inl le

pub words_written : (old new : List ℕ) (from end : ℕ) (f : Entry) (n : Name) (change : List ℕ → List ℕ) (es : List Entry) → KeepsOthers old new from end → LiesIn f from end
    → words_in new f.first f.blocks ≡ change (words_in old f.first f.blocks) → AreSorted es → AreWritten old es → entry_of es n ≡ Some f → map (body_at new) es ≡ with_words (map (body_at old) es) n change
words_written old new from end f n change [] keeps lies changes sorted written found = cc
words_written old new from end f n change (e ∷ es) keeps lies changes sorted written found =
    elim (same_name n e.name) as (λ b. same_name n e.name ≡ b → cond b (Some e) (entry_of es n) ≡ Some f → map (body_at new) (e ∷ es) ≡ with_words (map (body_at old) (e ∷ es)) n change) [
      | true ↦ λ same is.
          let equal : f ≡ e = cc in
          let changes_e : words_in new e.first e.blocks ≡ change (words_in old e.first e.blocks) = subst (λ f. words_in new f.first f.blocks ≡ change (words_in old f.first f.blocks)) equal changes in
          let lies_e : LiesIn e from end = subst (λ f. LiesIn f from end) equal lies in
          rw (same, changes_e, others_kept old new from end e n change es keeps lies_e written.1 (behind_first e n es same sorted.1)) refl
      | false ↦ λ other is.
          let before = all_found (ComesBefore e) es n f sorted.1 is in
          rw (other, body_kept old new from end e keeps written.0 (apart_from e f from end lies before.apart), words_written old new from end f n change es keeps lies changes sorted.2 written.1 is) refl
    ] refl found

-- ---- placing

pub all_kept : (old new : List ℕ) (f : Entry) (es : List Entry) → KeepsOthers old new (4096 * f.first) (4096 * (f.first + f.blocks)) → AreWritten old es → AllByRecursion (λ e. LieApart e f) es → map (body_at new) es ≡ map (body_at old) es
all_kept old new f [] keeps written apart = refl
all_kept old new f (e ∷ es) keeps written apart =
    rw (body_kept old new _ _ e keeps written.0 (apart_from e f (4096 * f.first) (4096 * (f.first + f.blocks)) (record { first = omega arith; last = omega arith }) apart.0), all_kept old new f es keeps written.1 apart.1) refl

pub placed_view : (ws : List ℕ) (es : List Entry) (e : Entry) → map (body_at ws) (inserted es e) ≡ with_placed (map (body_at ws) es) (body_at ws e)
placed_view ws [] e = refl
placed_view ws (f ∷ fs) e = elim (ltb (rank_of f.name) (rank_of e.name)) as (λ b. map (body_at ws) (cond b (f ∷ inserted fs e) (e ∷ f ∷ fs)) ≡ cond b (body_at ws f ∷ with_placed (map (body_at ws) fs) (body_at ws e)) (body_at ws e ∷ body_at ws f ∷ map (body_at ws) fs)) [
  | true ↦ ap (λ (bs : List Body). body_at ws f ∷ bs) (placed_view ws fs e)
  | false ↦ refl
]

pub taken_view : (ws : List ℕ) (k : ℕ) (es : List Entry) → list_any (takes k) (map (body_at ws) es) ≡ list_any (covers k) es
taken_view ws k [] = refl
taken_view ws k (e ∷ es) = ap (λ (b : Bool). covers k e || b) (taken_view ws k es)

-- ---- pauses

-- the entries that a pause leaves
abbrev pub entries_left : PauseReport → List Entry → List Entry
entries_left r es = filter is_settled (map (settled_where r.swept false) (map (settled_where r.dead false) (map (settled_where r.promoted true) es)))

stays_where : (swept dead promoted kept : Bool) → cond swept false (cond dead false (cond promoted true kept)) ≡ (not swept && (not dead && (promoted || not (not kept))))
stays_where true dead promoted kept = refl
stays_where false true promoted kept = refl
stays_where false false true kept = refl
stays_where false false false true = refl
stays_where false false false false = refl

-- what a pause leaves of an entry and of those behind it
left_one : (r : PauseReport) (ws : List ℕ) (e : Entry) (es : List Entry) → map (body_at ws) (entries_left r es) ≡ left_by r (map (body_at ws) es) → map (body_at ws) (entries_left r (e ∷ es)) ≡ left_by r (map (body_at ws) (e ∷ es))
left_one r ws e es others = go (cond (has r.swept e.name) false (cond (has r.dead e.name) false (cond (has r.promoted e.name) true e.settled))) refl
  where
    e' : Entry
    e' = settled_where r.swept false (settled_where r.dead false (settled_where r.promoted true e))

    go : (b : Bool) → e'.settled ≡ b → map (body_at ws) (cond e'.settled (e' ∷ entries_left r es) (entries_left r es)) ≡ map settled (cond (stays r (body_at ws e)) (body_at ws e ∷ filter (stays r) (map (body_at ws) es)) (filter (stays r) (map (body_at ws) es)))
    go true is =
        let test : stays r (body_at ws e) ≡ true = sym (stays_where (has r.swept e.name) (has r.dead e.name) (has r.promoted e.name) e.settled) ∙ is in
        rw (test, is) (ap (λ (bs : List Body). settled (body_at ws e) ∷ bs) others)
    go false is =
        let test : stays r (body_at ws e) ≡ false = sym (stays_where (has r.swept e.name) (has r.dead e.name) (has r.promoted e.name) e.settled) ∙ is in
        rw (test, is) others

pub left_view : (r : PauseReport) (ws : List ℕ) (es : List Entry) → map (body_at ws) (entries_left r es) ≡ left_by r (map (body_at ws) es)
left_view r ws [] = refl
left_view r ws (e ∷ es) = left_one r ws e es (left_view r ws es)

-- ---- blocks of all entries

taken_so : (within old : Bool) → cond within true old ≡ (old || within)
taken_so true true = refl
taken_so true false = refl
taken_so false true = refl
taken_so false false = refl

misses : (k : ℕ) (e x : Entry) → e.first ≤ k → k < e.first + e.blocks → LieApart x e → covers k x ≡ false
misses k e x from below (inl before) = grind (arith, from, before)
misses k e x from below (inr behind) = grind (arith, below, behind)

-- the blocks of an entry are none of those before it
pub free_before : (es : List Entry) (i k : ℕ) (e : Entry) → AreSorted es → slice_get es i ≡ Some e → e.first ≤ k → k < e.first + e.blocks → list_any (covers k) (take i es) ≡ false
free_before [] i k e sorted is from below = cc
free_before (x ∷ xs) zero k e sorted is from below = refl
free_before (x ∷ xs) (suc i) k e sorted is from below =
    let apart = (all_get (ComesBefore x) xs i e sorted.1 is).apart in
    rw (misses k e x from below apart) (free_before xs i k e sorted.2 is from below)

pub count_next : (es : List Entry) (i : ℕ) (e : Entry) → slice_get es i ≡ Some e → block_count (take (i + 1) es) ≡ block_count (take i es) + e.blocks
count_next [] i e is = cc
count_next (x ∷ xs) zero e is = let same : x ≡ e = cc in rw same (let none = block_count (take zero xs) in first xs)
  where
    first : (xs : List Entry) → e.blocks + block_count (take 0 xs) ≡ 0 + e.blocks
    first [] = omega arith
    first (y ∷ ys) = omega arith
count_next (x ∷ xs) (suc i) e is =
    let step = count_next xs i e is in
    let more : suc i + 1 ≡ suc (i + 1) = omega arith in
    rw more (omega (arith, step))

pub taken_next : (old new : List Bool) (es : List Entry) (i : ℕ) (e : Entry) → slice_get es i ≡ Some e → i < length es → get_or es i e ≡ e → TakesRun old new e.first e.blocks → AreTaken old (take i es) → AreTaken new (take (i + 1) es)
taken_next old new es i e is within got takes so_far =
    let count = takes.count in
    let before = so_far.count in
    let more = count_next es i e is in
    record {
      each = λ k. takes.each k ∙ taken_so (is_within e.first e.blocks k) (get_or old k false) ∙ ap (λ (b : Bool). b || is_within e.first e.blocks k) (so_far.each k)
          ∙ ap (λ (x : Entry). list_any (covers k) (take i es) || covers k x) (sym got) ∙ sym (list_any_more (covers k) es i e within);
      count = omega (arith, count, before, more);
    }

pub taken_first : (taken : List Bool) (n : ℕ) → taken ≡ replicate n false → AreTaken taken []
taken_first taken n is = rw is (record { each = λ k. none_taken n k; count = none_count n })

-- ---- what calls answer

-- the value of fields
abbrev pub held_by : ℕ → List ℕ → List Entry → Held
held_by blocks ws es = record { blocks = blocks; bodies = map (body_at ws) es }

pub word_is : (h : Held) (blocks : ℕ) (ws : List ℕ) (es : List Entry) (n : Name) (i : ℕ) (at : Option ℕ) → held_by blocks ws es ≡ h → at ≡ start_in (entry_of es n) i 1 → word_at h.bodies n i ≡ word_of ws at
word_is h blocks ws es n i at view found = ap (λ (h : Held). word_at h.bodies n i) (sym view) ∙ word_found ws es n i ∙ ap (word_of ws) (sym found)

pub range_is : (h : Held) (blocks : ℕ) (ws : List ℕ) (es : List Entry) (n : Name) (i count : ℕ) (at : Option ℕ) → held_by blocks ws es ≡ h → at ≡ start_in (entry_of es n) i count → range_at h.bodies n i count ≡ range_of ws count at
range_is h blocks ws es n i count at view found = ap (λ (h : Held). range_at h.bodies n i count) (sym view) ∙ range_found ws es n i count ∙ ap (range_of ws count) (sym found)

-- the entry of a range that was found
pub record Found (es : List Entry) (n : Name) (i count at : ℕ) : Type 0 where
  pub entry : Entry
  pub is : entry_of es n ≡ Some entry
  pub fits : i + count ≤ 4096 * entry.blocks
  pub begins : at ≡ 4096 * entry.first + i

pub found_entry : (es : List Entry) (n : Name) (i count at : ℕ) → Some at ≡ start_in (entry_of es n) i count → Found es n i count at
found_entry es n i count at found = go (entry_of es n) refl found
  where
    in_entry : (e : Entry) → entry_of es n ≡ Some e → (b : Bool) → leb (i + count) (4096 * e.blocks) ≡ b → Some at ≡ cond b (Some (4096 * e.first + i)) None → Found es n i count at
    in_entry e is true fits from = record { entry = e; is = is; fits = leb-true _ _ fits; begins = cc }
    in_entry e is false fits from = cc

    go : (entry : Option Entry) → entry_of es n ≡ entry → Some at ≡ start_in entry i count → Found es n i count at
    go None is from = cc
    go (Some e) is from = in_entry e is (leb (i + count) (4096 * e.blocks)) refl from

found_lies : (es : List Entry) (n : Name) (i count at : ℕ) (f : Found es n i count at) → LiesIn f.entry at (at + count)
found_lies es n i count at f =
    let fits = f.fits in
    let begins = f.begins in
    record { first = omega (arith, begins); last = omega (arith, fits, begins) }

found_written : (ws : List ℕ) (es : List Entry) (n : Name) (i count at : ℕ) (f : Found es n i count at) → AreWritten ws es → 4096 * (f.entry.first + f.entry.blocks) ≤ length ws
found_written ws es n i count at f written = all_found (λ e. 4096 * (e.first + e.blocks) ≤ length ws) es n f.entry written f.is

pub set_view : (h : Held) (blocks : ℕ) (ws : List ℕ) (es : List Entry) (n : Name) (i at v : ℕ) → held_by blocks ws es ≡ h → Some at ≡ start_in (entry_of es n) i 1 → AreSorted es → AreWritten ws es
    → held_by blocks (set ws at v) es ≡ record h { bodies = with_words h.bodies n (λ words. set words i v) }
set_view h blocks ws es n i at v view found sorted written =
    let f = found_entry es n i 1 at found in
    let fits = f.fits in
    let inside : words_in (set ws at v) f.entry.first f.entry.blocks ≡ set (words_in ws f.entry.first f.entry.blocks) i v = ap (λ (k : ℕ). words_in (set ws k v) f.entry.first f.entry.blocks) f.begins ∙ set_inside ws (4096 * f.entry.first) (4096 * f.entry.blocks) i v (omega (arith, fits)) in
    ap (λ (bs : List Body). record { blocks = blocks; bodies = bs }) (words_written ws (set ws at v) at (at + 1) f.entry n (λ words. set words i v) es (set_keeps ws at v) (found_lies es n i 1 at f) inside sorted written f.is)
    ∙ ap (λ (h : Held). record h { bodies = with_words h.bodies n (λ words. set words i v) }) view

pub write_view : (h : Held) (blocks : ℕ) (ws : List ℕ) (es : List Entry) (n : Name) (i at : ℕ) (more : List ℕ) → held_by blocks ws es ≡ h → Some at ≡ start_in (entry_of es n) i (length more) → AreSorted es → AreWritten ws es
    → held_by blocks (spliced ws at more) es ≡ record h { bodies = with_words h.bodies n (overwritten i more) }
write_view h blocks ws es n i at more view found sorted written =
    let f = found_entry es n i (length more) at found in
    let fits = f.fits in
    let begins = f.begins in
    let within = found_written ws es n i (length more) at f written in
    let inside : words_in (spliced ws at more) f.entry.first f.entry.blocks ≡ overwritten i more (words_in ws f.entry.first f.entry.blocks) = ap (λ (k : ℕ). words_in (spliced ws k more) f.entry.first f.entry.blocks) f.begins ∙ spliced_inside ws (4096 * f.entry.first) (4096 * f.entry.blocks) i more fits (omega (arith, within)) in
    ap (λ (bs : List Body). record { blocks = blocks; bodies = bs }) (words_written ws (spliced ws at more) at (at + length more) f.entry n (overwritten i more) es (spliced_keeps ws at more (omega (arith, begins, fits, within))) (found_lies es n i (length more) at f) inside sorted written f.is)
    ∙ ap (λ (h : Held). record h { bodies = with_words h.bodies n (overwritten i more) }) view

-- words that are longer than before are written where they were
pub still_written : (k l : ℕ) (es : List Entry) → k ≤ l → AllByRecursion (λ e. 4096 * (e.first + e.blocks) ≤ k) es → AllByRecursion (λ e. 4096 * (e.first + e.blocks) ≤ l) es
still_written k l es le written = all_weaken (λ e. 4096 * (e.first + e.blocks) ≤ k) (λ e. 4096 * (e.first + e.blocks) ≤ l) (λ e fits. omega (arith, fits, le)) es written

-- ---- what calls leave in a `Vec`

pub written_back : {X : Type 0} (len : ℕ) (new spare : List X) → length new ≡ len → take len (new ++ drop (length new) spare) ≡ new
written_back len new spare same = rw (sym same) (take-append_seam new (drop (length new) spare))

-- names in any order settle the same entries
pub settled_moved : (names said : List Name) (value : Bool) (es : List Entry) → IsPermutation names said → map (settled_where said value) es ≡ map (settled_where names value) es
settled_moved names said value [] moved = refl
settled_moved names said value (e ∷ es) moved =
    (λ i. record e { settled = cond (same_members names said moved e.name i) value e.settled } ∷ map (settled_where said value) es)
    ∙ ap (λ xs. settled_where names value e ∷ xs) (settled_moved names said value es moved)

-- the entries behind one step of a pause
pub record IsSettledBy (names : List Name) (value : Bool) (es next : List Entry) (len : ℕ) : Type 0 where
  pub are : next ≡ map (settled_where names value) es
  pub as_many : length next ≡ len

pub settles : (names said : List Name) (value : Bool) (es given new next spare : List Entry) (len : ℕ) → given ≡ es → length given ≡ len → IsPermutation names said → new ≡ map (settled_where said value) given → next ≡ take len (new ++ drop (length new) spare)
    → IsSettledBy names value es next len
settles names said value es given new next spare len same as_many says settled back =
    let many : length new ≡ len = ap length settled ∙ length-map given (settled_where said value) ∙ as_many in
    let is : next ≡ new = back ∙ written_back len new spare many in
    record {
      are = is ∙ settled ∙ ap (λ (es : List Entry). map (settled_where said value) es) same ∙ settled_moved names said value es says;
      as_many = ap length is ∙ many;
    }

-- ---- a new entry

abbrev pub entry_for : Name → ℕ → ℕ → Entry
entry_for n first blocks = record { name = n; first = first; blocks = blocks; settled = false }

name_unheld : (ws : List ℕ) (es : List Entry) (n : Name) → n.serial < 2 ^ 32 → AreSorted es → body_of (map (body_at ws) es) n ≡ None → AllByRecursion (λ f. rank_of f.name ≢ rank_of n) es
name_unheld ws [] n few sorted none = tt
name_unheld ws (e ∷ es) n few sorted none = elim (same_name n e.name) as (λ b. same_name n e.name ≡ b → cond b (Some (body_at ws e)) (body_of (map (body_at ws) es) n) ≡ None → AllByRecursion (λ f. rank_of f.name ≢ rank_of n) (e ∷ es)) [
  | true ↦ λ same is. cc
  | false ↦ λ other is. ((λ equal. let same = rank_same n e.name few sorted.0.serial (sym equal) in cc), name_unheld ws es n few sorted.2 is)
] refl none

-- a free run is apart from the blocks of each entry
lies_free : (es : List Entry) (first blocks : ℕ) → 1 ≤ blocks → ((k : ℕ) → first ≤ k → k < first + blocks → list_any (covers k) es ≡ false) → AreSorted es → AllByRecursion (λ f. (f.first + f.blocks ≤ first) ⊎ (first + blocks ≤ f.first)) es
lies_free [] first blocks some free sorted = tt
lies_free (e ∷ es) first blocks some free sorted =
    (apart (ordered e first), lies_free es first blocks some (λ k from below. (or_parts (covers k e) (list_any (covers k) es) (free k from below)).1) sorted.2)
  where
    ordered : (e : Entry) (first : ℕ) → (e.first + e.blocks ≤ first) ⊎ ((first + blocks ≤ e.first) ⊎ ((first < e.first + e.blocks) × (e.first < first + blocks)))
    ordered e first = grind arith

    met : (k : ℕ) → e.first ≤ k → k < e.first + e.blocks → covers k e ≡ false → ⊥
    met k from below other = grind (arith, from, below, other)

    both : (e.first ≤ first) ⊎ (first ≤ e.first)
    both = grind arith

    apart : (e.first + e.blocks ≤ first) ⊎ ((first + blocks ≤ e.first) ⊎ ((first < e.first + e.blocks) × (e.first < first + blocks))) → (e.first + e.blocks ≤ first) ⊎ (first + blocks ≤ e.first)
    apart (inl before) = inl before
    apart (inr (inl behind)) = inr behind
    apart (inr (inr crosses)) = absurd (cross both)
      where
        cross : (e.first ≤ first) ⊎ (first ≤ e.first) → ⊥
        cross (inl le) = let lt = crosses.0 in met first le lt (or_parts (covers first e) (list_any (covers first) es) (free first (omega arith) (omega (arith, some)))).0
        cross (inr le) = let lt = crosses.1 in let has_some = sorted.0.some in met e.first (omega arith) (omega (arith, has_some)) (or_parts (covers e.first e) (list_any (covers e.first) es) (free e.first le lt)).0

pub new_entry : (ws : List ℕ) (es : List Entry) (taken : List Bool) (n : Name) (first blocks : ℕ) → n.serial < 2 ^ 32 → 1 ≤ blocks → AreSorted es → AreTaken taken es → AreFree taken first blocks → body_of (map (body_at ws) es) n ≡ None → IsNewEntry es (entry_for n first blocks)
new_entry ws es taken n first blocks few some sorted are free none = record {
  entry = record { serial = few; some = some };
  other = name_unheld ws es n few sorted none;
  apart = lies_free es first blocks some (λ k from below. sym (are.each k) ∙ free k from below) sorted;
}

count_inserted : (es : List Entry) (e : Entry) → block_count (inserted es e) ≡ block_count es + e.blocks
count_inserted [] e = omega arith
count_inserted (f ∷ fs) e = elim (ltb (rank_of f.name) (rank_of e.name)) as (λ b. block_count (cond b (f ∷ inserted fs e) (e ∷ f ∷ fs)) ≡ f.blocks + block_count fs + e.blocks) [
  | true ↦ let more = count_inserted fs e in omega (arith, more)
  | false ↦ omega arith
]

or_swap : (a b c : Bool) → (a || (b || c)) ≡ (b || (a || c))
or_swap true true c = refl
or_swap true false c = refl
or_swap false b c = refl

any_inserted : (k : ℕ) (es : List Entry) (e : Entry) → list_any (covers k) (inserted es e) ≡ (covers k e || list_any (covers k) es)
any_inserted k [] e = refl
any_inserted k (f ∷ fs) e = elim (ltb (rank_of f.name) (rank_of e.name)) as (λ b. list_any (covers k) (cond b (f ∷ inserted fs e) (e ∷ f ∷ fs)) ≡ (covers k e || (covers k f || list_any (covers k) fs))) [
  | true ↦ ap (λ (b : Bool). covers k f || b) (any_inserted k fs e) ∙ or_swap (covers k f) (covers k e) (list_any (covers k) fs)
  | false ↦ refl
]

taken_or : (within old : Bool) → cond within true old ≡ (within || old)
taken_or true old = refl
taken_or false old = refl

pub taken_inserted : (old new : List Bool) (es : List Entry) (e : Entry) → TakesRun old new e.first e.blocks → AreTaken old es → AreTaken new (inserted es e)
taken_inserted old new es e takes are =
    let count = takes.count in
    let before = are.count in
    let more = count_inserted es e in
    record {
      each = λ k. takes.each k ∙ taken_or (covers k e) (get_or old k false) ∙ ap (λ (b : Bool). covers k e || b) (are.each k) ∙ sym (any_inserted k es e);
      count = omega (arith, count, before, more);
    }

-- there are fewer entries than blocks where one is free
few_entries : (es : List Entry) → AreSorted es → length es ≤ block_count es
few_entries [] sorted = omega arith
few_entries (e ∷ es) sorted = let some = sorted.0.some in let few = few_entries es sorted.2 in omega (arith, some, few)

pub room_left : (taken : List Bool) (es : List Entry) (first blocks : ℕ) → 1 ≤ blocks → first + blocks ≤ length taken → AreSorted es → AreTaken taken es → AreFree taken first blocks → length es < length taken
room_left taken es first blocks some within sorted are free =
    let few = few_entries es sorted in
    let count = are.count in
    let below = count_below taken first (omega (arith, some, within)) (free first (omega arith) (omega (arith, some))) in
    omega (arith, few, count, below)

-- a block is taken where a body has it
seen : (ws : List ℕ) (es : List Entry) (taken : List Bool) → AreTaken taken es → (k : ℕ) → get_or taken k false ≡ list_any (takes k) (map (body_at ws) es)
seen ws es taken are k = are.each k ∙ sym (taken_view ws k es)

-- a run that is free among the blocks is free among the bodies, and the other way round
pub run_seen : (h : Held) (ws : List ℕ) (es : List Entry) (taken : List Bool) (first count : ℕ) → held_by (length taken) ws es ≡ h → AreTaken taken es → first + count ≤ length taken → AreFree taken first count → IsFreeRun h first count
run_seen h ws es taken first count view are within free = subst (λ h. IsFreeRun h first count) view (record { within = within; free = λ k from below. sym (seen ws es taken are k) ∙ free k from below })

pub run_told : (h : Held) (ws : List ℕ) (es : List Entry) (taken : List Bool) (first count : ℕ) → held_by (length taken) ws es ≡ h → AreTaken taken es → IsFreeRun h first count → (first + count ≤ length taken) × AreFree taken first count
run_told h ws es taken first count view are run =
    let mine : IsFreeRun (held_by (length taken) ws es) first count = subst (λ h. IsFreeRun h first count) (sym view) run in
    (mine.within, λ k from below. seen ws es taken are k ∙ mine.free k from below)

pub no_run_seen : (h : Held) (ws : List ℕ) (es : List Entry) (taken : List Bool) (found : Option ℕ) (count : ℕ) → held_by (length taken) ws es ≡ h → AreTaken taken es
    → IfNone found ((first : ℕ) → first + count ≤ length taken → AreFree taken first count → ⊥) → IfNone found ((first : ℕ) → IsFreeRun h first count → ⊥)
no_run_seen h ws es taken None count view are none = λ first run. let told = run_told h ws es taken first count view are run in none first told.0 told.1
no_run_seen h ws es taken (Some first) count view are none = none

pub some_run_seen : (h : Held) (ws : List ℕ) (es : List Entry) (taken : List Bool) (found : Option ℕ) (count : ℕ) → held_by (length taken) ws es ≡ h → AreTaken taken es
    → IfSome found (λ first. (first + count ≤ length taken) × AreFree taken first count) → IfSome found (λ first. IsFreeRun h first count)
some_run_seen h ws es taken None count view are run = run
some_run_seen h ws es taken (Some first) count view are run = run_seen h ws es taken first count view are run.0 run.1

pub placed_is : (h : Held) (blocks : ℕ) (old new : List ℕ) (es : List Entry) (n : Name) (first count : ℕ) → held_by blocks old es ≡ h → ClearsBlocks old new first count → AreWritten old es → IsNewEntry es (entry_for n first count)
    → held_by blocks new (inserted es (entry_for n first count)) ≡ record h { bodies = with_placed h.bodies (fresh n first count) }
placed_is h blocks old new es n first count view clears written is_new =
    let e = entry_for n first count in
    let same = all_kept old new e es (clears_keep old new first count clears) written is_new.apart in
    let zeros : body_at new e ≡ fresh n first count = ap (λ (ws : List ℕ). record { name = n; first = first; blocks = count; young = true; words = ws }) (clears_run old new first count clears) in
    ap (λ (bs : List Body). record { blocks = blocks; bodies = bs }) (placed_view new es e ∙ ap (λ (bs : List Body). with_placed bs (body_at new e)) same ∙ ap (λ (b : Body). with_placed (map (body_at old) es) b) zeros)
    ∙ ap (λ (h : Held). record h { bodies = with_placed h.bodies (fresh n first count) }) view

-- the entries behind all steps of a pause are in order, and their blocks and words are where they were
pub record AreLeft (blocks words : ℕ) (es : List Entry) : Type 0 where
  pub sorted : AreSorted es
  pub within : AreWithin blocks es
  pub written : AllByRecursion (λ e. 4096 * (e.first + e.blocks) ≤ words) es

settled_within : (n : ℕ) (ns : List Name) (value : Bool) (es : List Entry) → AreWithin n es → AreWithin n (map (settled_where ns value) es)
settled_within n ns value [] all = tt
settled_within n ns value (e ∷ es) all = (all.0, settled_within n ns value es all.1)

settled_written : (n : ℕ) (ns : List Name) (value : Bool) (es : List Entry) → AllByRecursion (λ e. 4096 * (e.first + e.blocks) ≤ n) es → AllByRecursion (λ e. 4096 * (e.first + e.blocks) ≤ n) (map (settled_where ns value) es)
settled_written n ns value [] all = tt
settled_written n ns value (e ∷ es) all = (all.0, settled_written n ns value es all.1)

left_where : (blocks words : ℕ) (ns : List Name) (value : Bool) (es : List Entry) → AreLeft blocks words es → AreLeft blocks words (map (settled_where ns value) es)
left_where blocks words ns value es are = record {
  sorted = sorted_where ns value es are.sorted;
  within = settled_within blocks ns value es are.within;
  written = settled_written words ns value es are.written;
}

pub left_are : (blocks words : ℕ) (r : PauseReport) (es : List Entry) → AreLeft blocks words es → AreLeft blocks words (entries_left r es)
left_are blocks words r es are =
    let es' = map (settled_where r.swept false) (map (settled_where r.dead false) (map (settled_where r.promoted true) es)) in
    let all = left_where blocks words r.swept false _ (left_where blocks words r.dead false _ (left_where blocks words r.promoted true es are)) in
    record {
      sorted = sorted_filter is_settled es' all.sorted;
      within = all_filter (λ e. e.first + e.blocks ≤ blocks) is_settled es' all.within;
      written = all_filter (λ e. 4096 * (e.first + e.blocks) ≤ words) is_settled es' all.written;
    }

pub fits_on : (old new end all : ℕ) → (new ≤ old) ⊎ (new ≤ end) → old ≤ all → end ≤ all → new ≤ all
fits_on old new end all (inl le) old_fits end_fits = omega (arith, le, old_fits)
fits_on old new end all (inr le) old_fits end_fits = omega (arith, le, end_fits)

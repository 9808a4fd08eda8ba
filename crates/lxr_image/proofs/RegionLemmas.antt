-- Words cut into regions: a word that is written is written in its own region, and every other region is as it was.
use Rattle.std.proofs.Common.{◌≡◌, ℕ, zero, suc, ◌+◌, ◌-◌, ◌*◌, ◌<◌, ◌≤◌, refl, sym, ap, ◌∙◌, inl, inr, arith, List, [], ◌∷◌, length, take, drop, length-drop}
use Rattle.std.specs.Prelude.{◌⊎◌, slice_index, slice_index_or, slice_set, sum}
use Rattle.std.proofs.Math.Seq.{take-set-lt}
use Rattle.std.proofs.lemmas.List.{take-set-le, drop-set-lt, drop-set-add, drop-drop, get_or-drop, get_or-set_same, get_or-take, length-take-le}
use Rattle.std.proofs.lemmas.List.Sums.{sum_by-cons, sum_by_more_le}
use Rattle.lxr_tables.specs.Entries.{OthersStay, table}
use Rattle.lxr_tables.proofs.EntryLemmas.{length-table, table-take}
use Rattle.lxr_image.specs.Tables.{cut}

-- where a region begins
abbrev pub begin_of : List ℕ → ℕ → ℕ
begin_of sizes n = sum (take n sizes)

begin_past : (size : ℕ) (sizes : List ℕ) (n : ℕ) → begin_of (size ∷ sizes) (suc n) ≡ size + begin_of sizes n
begin_past size sizes n = sum_by-cons (λ x. x) size (take n sizes)

pub length-cut : (sizes ws : List ℕ) → length (cut sizes ws) ≡ length sizes
length-cut [] ws = refl
length-cut (size ∷ sizes) ws = ap suc (length-cut sizes (drop size ws))

-- a region by its place among the words
pub cut_at : (sizes ws : List ℕ) (n : ℕ) → n < length sizes → slice_index_or (cut sizes ws) n [] ≡ take (slice_index sizes n) (drop (begin_of sizes n) ws)
cut_at [] ws n h = absurd (omega arith)
cut_at (size ∷ sizes) ws zero h = refl
cut_at (size ∷ sizes) ws (suc n) h =
    cut_at sizes (drop size ws) n (omega arith) ∙ ap (take (slice_index sizes n)) (drop-drop (begin_of sizes n) size ws) ∙ ap (λ k. take (slice_index sizes n) (drop k ws)) (sym (begin_past size sizes n))

-- a region has its words where there are enough
pub length_region : (sizes ws : List ℕ) (n : ℕ) → n < length sizes → sum sizes ≤ length ws → length (slice_index_or (cut sizes ws) n []) ≡ slice_index sizes n
length_region [] ws n h enough = absurd (omega arith)
length_region (size ∷ sizes) ws zero h enough = let whole = sum_by-cons (λ x. x) size sizes in length-take-le size ws (omega arith)
length_region (size ∷ sizes) ws (suc n) h enough =
    let whole = sum_by-cons (λ x. x) size sizes in
    let rest = length-drop size ws in
    length_region sizes (drop size ws) n (omega arith) (omega arith)

pub cut_written : (sizes ws : List ℕ) (n o v : ℕ) → o < slice_index sizes n
    → cut sizes (slice_set ws (begin_of sizes n + o) v) ≡ slice_set (cut sizes ws) n (slice_set (slice_index_or (cut sizes ws) n []) o v)
cut_written [] ws n o v h = refl
cut_written (size ∷ sizes) ws zero o v h =
    let at : 0 + o ≡ o = omega arith in
    ap (λ k. cut (size ∷ sizes) (slice_set ws k v)) at
    ∙ ap (λ x. x ∷ cut sizes (drop size (slice_set ws o v))) (take-set-lt size ws o v h)
    ∙ ap (λ x. slice_set (take size ws) o v ∷ cut sizes x) (drop-set-lt size ws o v h)
cut_written (size ∷ sizes) ws (suc n) o v h =
    let at : begin_of (size ∷ sizes) (suc n) + o ≡ size + (begin_of sizes n + o) = let past = begin_past size sizes n in omega arith in
    ap (λ k. cut (size ∷ sizes) (slice_set ws k v)) at
    ∙ ap (λ x. x ∷ cut sizes (drop size (slice_set ws (size + (begin_of sizes n + o)) v))) (take-set-le size ws (size + (begin_of sizes n + o)) v (omega arith))
    ∙ ap (λ x. take size ws ∷ cut sizes x) (drop-set-add size ws (begin_of sizes n + o) v)
    ∙ ap (λ x. take size ws ∷ x) (cut_written sizes (drop size ws) n o v h)

-- all regions but that of the word are as they were
pub region_written : (sizes ws vs : List ℕ) (n o : ℕ) → n < length sizes → o < slice_index sizes n → OthersStay ws vs (begin_of sizes n + o)
    → cut sizes vs ≡ slice_set (cut sizes ws) n (slice_index_or (cut sizes vs) n [])
region_written sizes ws vs n o h within others =
    let v : ℕ = slice_index vs (begin_of sizes n + o) in
    let all : cut sizes vs ≡ slice_set (cut sizes ws) n (slice_set (slice_index_or (cut sizes ws) n []) o v) = ap (cut sizes) others ∙ cut_written sizes ws n o v within in
    let len = length-cut sizes ws in
    let one : slice_index_or (cut sizes vs) n [] ≡ slice_set (slice_index_or (cut sizes ws) n []) o v =
    ap (λ x. slice_index_or x n []) all ∙ get_or-set_same (cut sizes ws) n (slice_set (slice_index_or (cut sizes ws) n []) o v) [] (omega arith) in
    all ∙ ap (slice_set (cut sizes ws) n) (sym one)

-- the table of a region is the front of the table that begins where the region does
pub region_table : (b k : ℕ) (sizes ws : List ℕ) (n : ℕ) → n < length sizes
    → table b k (slice_index_or (cut sizes ws) n []) ≡ take (k * slice_index sizes n) (table b k (drop (begin_of sizes n) ws))
region_table b k sizes ws n h = ap (table b k) (cut_at sizes ws n h) ∙ table-take b k (slice_index sizes n) (drop (begin_of sizes n) ws)

pub region_read : (b k : ℕ) (sizes ws : List ℕ) (n i : ℕ) → n < length sizes → i < k * slice_index sizes n
    → slice_index (table b k (drop (begin_of sizes n) ws)) i ≡ slice_index (table b k (slice_index_or (cut sizes ws) n [])) i
region_read b k sizes ws n i h within =
    sym (ap (λ x. slice_index x i) (region_table b k sizes ws n h) ∙ get_or-take (k * slice_index sizes n) (table b k (drop (begin_of sizes n) ws)) i 0 within)

pub region_entry_written : (b k : ℕ) (sizes ws vs : List ℕ) (n i e : ℕ) → n < length sizes → i < k * slice_index sizes n
    → table b k (drop (begin_of sizes n) vs) ≡ slice_set (table b k (drop (begin_of sizes n) ws)) i e
    → table b k (slice_index_or (cut sizes vs) n []) ≡ slice_set (table b k (slice_index_or (cut sizes ws) n [])) i e
region_entry_written b k sizes ws vs n i e h within written =
    region_table b k sizes vs n h ∙ ap (take (k * slice_index sizes n)) written
    ∙ take-set-lt (k * slice_index sizes n) (table b k (drop (begin_of sizes n) ws)) i e within
    ∙ ap (λ x. slice_set x i e) (sym (region_table b k sizes ws n h))

pub length_region_table : (b k : ℕ) (sizes ws : List ℕ) (n : ℕ) → n < length sizes → sum sizes ≤ length ws → length (table b k (slice_index_or (cut sizes ws) n [])) ≡ k * slice_index sizes n
length_region_table b k sizes ws n h enough = length-table b k (slice_index_or (cut sizes ws) n []) ∙ ap (λ x. k * x) (length_region sizes ws n h enough)

-- the words of a region
pub region_word : (sizes ws : List ℕ) (n o : ℕ) → n < length sizes → o < slice_index sizes n → slice_index ws (begin_of sizes n + o) ≡ slice_index (slice_index_or (cut sizes ws) n []) o
region_word sizes ws n o h within =
    sym (ap (λ x. slice_index x o) (cut_at sizes ws n h) ∙ get_or-take (slice_index sizes n) (drop (begin_of sizes n) ws) o 0 within ∙ get_or-drop (begin_of sizes n) ws o 0)

-- a word of a region is one of the words
pub region_within : (sizes ws : List ℕ) (n o : ℕ) → n < length sizes → o < slice_index sizes n → sum sizes ≤ length ws → begin_of sizes n + o < length ws
region_within sizes ws n o h within enough = let past = sum_by_more_le (λ x. x) sizes n 0 h in omega arith

-- words in a row of a region are among the words
pub region_room : (sizes ws : List ℕ) (n o : ℕ) → n < length sizes → o ≤ slice_index sizes n → sum sizes ≤ length ws → begin_of sizes n + o ≤ length ws
region_room sizes ws n o h within enough = let past = sum_by_more_le (λ x. x) sizes n 0 h in omega arith

pub region_word_written : (sizes ws : List ℕ) (n o v : ℕ) → n < length sizes → o < slice_index sizes n
    → slice_index_or (cut sizes (slice_set ws (begin_of sizes n + o) v)) n [] ≡ slice_set (slice_index_or (cut sizes ws) n []) o v
region_word_written sizes ws n o v h within =
    let len = length-cut sizes ws in
    ap (λ x. slice_index_or x n []) (cut_written sizes ws n o v within) ∙ get_or-set_same (cut sizes ws) n (slice_set (slice_index_or (cut sizes ws) n []) o v) [] (omega arith)

-- a region is as it was where a word outside it is written
pub region_outside : (sizes ws : List ℕ) (n at v : ℕ) → n < length sizes → (at < begin_of sizes n) ⊎ (begin_of sizes n + slice_index sizes n ≤ at)
    → slice_index_or (cut sizes (slice_set ws at v)) n [] ≡ slice_index_or (cut sizes ws) n []
region_outside sizes ws n at v h outside =
    let size : ℕ = slice_index sizes n in
    let begin : ℕ = begin_of sizes n in
    cut_at sizes (slice_set ws at v) n h
    ∙ elim outside as (λ _. take size (drop begin (slice_set ws at v)) ≡ take size (drop begin ws)) [
      | inl before ↦ ap (take size) (drop-set-lt begin ws at v before)
      | inr past ↦
          let place : at ≡ begin + (at - begin) = omega (arith, past) in
          ap (λ k. take size (drop begin (slice_set ws k v))) place ∙ ap (take size) (drop-set-add begin ws (at - begin) v)
          ∙ take-set-le size (drop begin ws) (at - begin) v (omega (arith, past))
    ]
    ∙ sym (cut_at sizes ws n h)

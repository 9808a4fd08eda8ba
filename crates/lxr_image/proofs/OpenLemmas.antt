-- The tables on the way to an opened space.
use Rattle.std.proofs.Common.{◌≡◌, ℕ, zero, suc, ◌+◌, ◌*◌, ◌/◌, ◌%◌, ◌^◌, refl, sym, ap, subst, ◌∙◌, arith, nat_eq, true, nat_le, nat_lt, List, [], ◌∷◌, ◌++◌, take, drop, replicate}
use Rattle.std.specs.Prelude.{◌&&◌, if◌then◌else◌, slice_index, slice_index_or}
use Rattle.std.specs.List.{flat_map}
use Rattle.std.proofs.lemmas.List.{length-replicate}
use Rattle.std.proofs.lemmas.Nat.{div-mul-add, mod-mul-add, pow_pos}
use Rattle.lxr_layout.specs.declared.TheConstants.{COUNT_BITS}
use Rattle.lxr_tables.specs.declared.counts.TheConstants.{COUNTS_IN_WORD}
use Rattle.lxr_layout.specs.declared.limits.Limits.{Limits}
use Rattle.lxr_layout.specs.Spaces.{region_sizes}
use Rattle.lxr_tables.specs.Entries.{entries, table}
use Rattle.lxr_image.specs.Tables.{Tables, cut, tables_in}
use Rattle.lxr_image.specs.Opened.{cleared_tables}

-- ---- the loops

-- the unlogged bits of the world's first references are set
abbrev pub unlogged_below : ℕ → Tables → Tables
unlogged_below n t = record t { unlogged = λ w. if nat_le 1 w && nat_lt w n then true else t.unlogged w }

-- the free table lists the first blocks behind the world's
abbrev pub frees_below : ℕ → Tables → Tables
frees_below n t = record t { frees = λ i. if nat_lt (i + 1) n then (i + 1) else t.frees i }

-- ---- words that are all 0

abbrev Zeros : List ℕ → Type 0
Zeros [] = Unit {0}
Zeros (x ∷ xs) = (x ≡ 0) × Zeros xs

zeros_made : (n : ℕ) → Zeros (replicate n 0)
zeros_made zero = tt
zeros_made (suc n) = (refl, zeros_made n)

zeros_taken : (n : ℕ) (xs : List ℕ) → Zeros xs → Zeros (take n xs)
zeros_taken zero xs all = tt
zeros_taken (suc n) [] all = tt
zeros_taken (suc n) (x ∷ xs) all = (all.0, zeros_taken n xs all.1)

zeros_dropped : (n : ℕ) (xs : List ℕ) → Zeros xs → Zeros (drop n xs)
zeros_dropped zero xs all = all
zeros_dropped (suc n) [] all = tt
zeros_dropped (suc n) (x ∷ xs) all = zeros_dropped n xs all.1

zeros_joined : (xs ys : List ℕ) → Zeros xs → Zeros ys → Zeros (xs ++ ys)
zeros_joined [] ys all rest = rest
zeros_joined (x ∷ xs) ys all rest = (all.0, zeros_joined xs ys all.1 rest)

zero_at : (xs : List ℕ) (i : ℕ) → Zeros xs → slice_index xs i ≡ 0
zero_at [] i all = refl
zero_at (x ∷ xs) zero all = all.0
zero_at (x ∷ xs) (suc i) all = zero_at xs i all.1

zeros_cut : (sizes xs : List ℕ) (n : ℕ) → Zeros xs → Zeros (slice_index_or (cut sizes xs) n [])
zeros_cut [] xs n all = tt
zeros_cut (size ∷ sizes) xs zero all = zeros_taken size xs all
zeros_cut (size ∷ sizes) xs (suc n) all = zeros_cut sizes (drop size xs) n (zeros_dropped size xs all)

zeros_entries : (b n : ℕ) → Zeros (entries b n 0)
unfolding entries
zeros_entries b zero = tt
zeros_entries b (suc n) =
    let none : 0 * 2 ^ b + 0 ≡ 0 = omega arith in
    let high : 0 / 2 ^ b ≡ 0 = ap (λ x. x / 2 ^ b) (sym none) ∙ div-mul-add 0 (2 ^ b) 0 (pow_pos b) in
    let low : 0 % 2 ^ b ≡ 0 = ap (λ x. x % 2 ^ b) (sym none) ∙ mod-mul-add 0 (2 ^ b) 0 (pow_pos b) in
    (low, subst (λ w. Zeros (entries b n w)) (sym high) (zeros_entries b n))

zeros_table : (b n : ℕ) (xs : List ℕ) → Zeros xs → Zeros (table b n xs)
unfolding table
zeros_table b n [] all = tt
zeros_table b n (x ∷ xs) all = zeros_joined (entries b n x) (flat_map (entries b n) xs) (subst (λ w. Zeros (entries b n w)) (sym all.0) (zeros_entries b n)) (zeros_table b n xs all.1)

-- a region of words that are all 0, and a table of it
blank : (l : Limits) (size n i : ℕ) → slice_index (slice_index_or (cut (region_sizes l) (replicate size 0)) n []) i ≡ 0
blank l size n i = zero_at _ i (zeros_cut (region_sizes l) (replicate size 0) n (zeros_made size))

blank_table : (b k : ℕ) (l : Limits) (size n i : ℕ) → slice_index (table b k (slice_index_or (cut (region_sizes l) (replicate size 0)) n [])) i ≡ 0
blank_table b k l size n i = zero_at _ i (zeros_table b k _ (zeros_cut (region_sizes l) (replicate size 0) n (zeros_made size)))

pub tables_cleared : (l : Limits) (size : ℕ) → tables_in l (replicate size 0) ≡ cleared_tables size
unfolding tables_in
tables_cleared l size = λ j. record {
  size = length-replicate {A = ℕ} size 0 j;
  heap = λ i. blank l size 0 i j;
  counts = λ i. blank_table COUNT_BITS COUNTS_IN_WORD l size 1 i j;
  starts = λ i. nat_eq (blank_table 1 64 l size 2 i j) 1;
  marks = λ i. nat_eq (blank_table 1 64 l size 3 i j) 1;
  grays = λ i. nat_eq (blank_table 1 64 l size 4 i j) 1;
  dones = λ i. nat_eq (blank_table 1 64 l size 5 i j) 1;
  unlogged = λ i. nat_eq (blank_table 1 64 l size 6 i j) 1;
  reuse = λ i. blank_table 32 2 l size 7 i j;
  outs = λ i. nat_eq (blank_table 1 64 l size 8 i j) 1;
  states = λ i. blank l size 9 i j;
  runs = λ i. blank l size 10 i j;
  frees = λ i. blank l size 11 i j;
  decs = λ i. blank l size 12 i j;
  remembered = λ i. blank l size 13 i j;
  cursors = λ i. blank l size 14 i j;
}

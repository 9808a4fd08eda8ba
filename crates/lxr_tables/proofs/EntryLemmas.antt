-- A word from which an entry's old value is taken away and to which its new value is added, both at the entry's
-- bits, is cut into the same entries but for that one. So the table of such words is the old one with one entry set.
use Rattle.std.proofs.Common.{◌≡◌, ℕ, zero, suc, ◌+◌, ◌-◌, ◌*◌, ◌/◌, ◌%◌, ◌^◌, ◌<◌, ◌≤◌, refl, sym, ap, subst, ◌∙◌, arith, List, [], ◌∷◌, ◌++◌, length, take, drop, length-append, length-drop}
use Rattle.std.specs.Prelude.{slice_index, slice_set}
use Rattle.std.specs.List.{flat_map}
use Rattle.std.proofs.lemmas.Nat.{div-mul-add, mod-mul-add, div-add-mod', mod_below, mul-le, pow_pos, shr-shr, pow-add}
use Rattle.std.proofs.lemmas.List.{set-append_left, set-append_right, drop-set-add, get_or_append_left, get_or-append-add, get_or-drop, get_or-set_same}
use Rattle.std.proofs.Math.Seq.{take-append-add, take-nil}
use Rattle.lxr_tables.specs.Entries.{OthersStay, entries, table}

pub length-entries : (b n w : ℕ) → length (entries b n w) ≡ n
unfolding entries
length-entries b zero w = refl
length-entries b (suc n) w = ap suc (length-entries b n (w / 2 ^ b))

pub length-table : (b n : ℕ) (ws : List ℕ) → length (table b n ws) ≡ n * length ws
unfolding table
length-table b n [] = omega arith
length-table b n (w ∷ ws) =
    let here = length-entries b n w in
    let rest = length-table b n ws in
    let whole = length-append (entries b n w) (flat_map (entries b n) ws) in
    omega arith

-- an entry by its bits in the word
pub entry_at : (b n w k : ℕ) → k < n → slice_index (entries b n w) k ≡ w / 2 ^ (b * k) % 2 ^ b
unfolding entries
entry_at b (suc n) w zero h =
    let z : b * 0 ≡ 0 = omega arith in
    let d : w / 1 ≡ w = omega arith in
    sym (ap (λ e. w / 2 ^ e % 2 ^ b) z ∙ ap (λ x. x % 2 ^ b) d)
entry_at b (suc n) w (suc k) h =
    let e : b + b * k ≡ b * suc k = omega arith in
    entry_at b n (w / 2 ^ b) k (omega arith) ∙ ap (λ x. x % 2 ^ b) (shr-shr w b (b * k)) ∙ ap (λ x. w / 2 ^ x % 2 ^ b) e
entry_at b zero w k h = absurd (omega arith)

-- the word v is the word w with entry k written: its old value taken away and e added at its bits
abbrev pub IsWritten : ℕ → ℕ → ℕ → ℕ → ℕ → Type 0
IsWritten b w v k e = v + w / 2 ^ (b * k) % 2 ^ b * 2 ^ (b * k) ≡ w + e * 2 ^ (b * k)

-- the lowest entry of a written word
lowest_written : (m w v e : ℕ) → e < m → v + w % m ≡ w + e → (v % m ≡ e) × (v / m ≡ w / m)
lowest_written m w v e h written =
    let split = div-add-mod' w m in
    let v_is : v ≡ w / m * m + e = omega arith in
    (ap (λ x. x % m) v_is ∙ mod-mul-add (w / m) m e h, ap (λ x. x / m) v_is ∙ div-mul-add (w / m) m e h)

-- the product of a sum that is written
spread : (m p q r v w e f rest : ℕ) → q * m + r ≡ w → rest + f * p ≡ q + e * p → v + f * (m * p) ≡ w + e * (m * p) → v ≡ rest * m + r
spread m p q r v w e f rest split sum written =
    let times : (rest + f * p) * m ≡ (q + e * p) * m = ap (λ x. x * m) sum in
    omega arith

-- an entry above the lowest is written in what stands above the lowest
higher_written : (m p w v e : ℕ) → 0 < m → v + w / m / p % m * (m * p) ≡ w + e * (m * p) → (v % m ≡ w % m) × (v / m + w / m / p % m * p ≡ w / m + e * p)
higher_written m p w v e pos written =
    let f : ℕ = w / m / p % m in
    let q : ℕ = w / m in
    let split = div-add-mod' w m in
    let whole = div-add-mod' (q / p) m in
    let part = div-add-mod' q p in
    let f_le : f ≤ q / p = omega arith in
    let product = mul-le f p (q / p) p f_le (omega arith) in
    let fits : f * p ≤ q = omega arith in
    let rest : ℕ = q + e * p - f * p in
    let sum : rest + f * p ≡ q + e * p = omega arith in
    let v_is : v ≡ rest * m + w % m = spread m p q (w % m) v w e f rest split sum written in
    let below = mod_below w m pos in
    let high : v / m ≡ rest = ap (λ x. x / m) v_is ∙ div-mul-add rest m (w % m) below in
    (ap (λ x. x % m) v_is ∙ mod-mul-add rest m (w % m) below, ap (λ x. x + f * p) high ∙ sum)

lowest_from : (b w v e : ℕ) → IsWritten b w v 0 e → v + w % 2 ^ b ≡ w + e
lowest_from b w v e written =
    let z : b * 0 ≡ 0 = omega arith in
    let one = subst (λ x. v + w / 2 ^ x % 2 ^ b * 2 ^ x ≡ w + e * 2 ^ x) z written in
    let d : w / 1 ≡ w = omega arith in
    let low : v + w / 1 % 2 ^ b * 1 ≡ w + e * 1 = one in
    let plain = subst (λ x. v + x % 2 ^ b * 1 ≡ w + e * 1) d low in
    omega arith

pub entries-written : (b n w v k e : ℕ) → k < n → e < 2 ^ b → IsWritten b w v k e → entries b n v ≡ slice_set (entries b n w) k e
unfolding entries
entries-written b zero w v k e h fits written = absurd (omega arith)
entries-written b (suc n) w v zero e h fits written =
    let low : v + w % 2 ^ b ≡ w + e = lowest_from b w v e written in
    let is = lowest_written (2 ^ b) w v e fits low in
    let high : entries b n (v / 2 ^ b) ≡ entries b n (w / 2 ^ b) = ap (entries b n) is.1 in
    ap (λ x. x ∷ entries b n (v / 2 ^ b)) is.0 ∙ ap (λ x. e ∷ x) high
entries-written b (suc n) w v (suc k) e h fits written =
    let power : 2 ^ (b * suc k) ≡ 2 ^ b * 2 ^ (b * k) = let s : b * suc k ≡ b + b * k = omega arith in ap (λ x. 2 ^ x) s ∙ pow-add 2 b (b * k) in
    let field : w / 2 ^ (b * suc k) ≡ w / 2 ^ b / 2 ^ (b * k) = let s : b + b * k ≡ b * suc k = omega arith in sym (shr-shr w b (b * k) ∙ ap (λ x. w / 2 ^ x) s) in
    let high : v + w / 2 ^ b / 2 ^ (b * k) % 2 ^ b * (2 ^ b * 2 ^ (b * k)) ≡ w + e * (2 ^ b * 2 ^ (b * k)) =
    subst (λ x. v + w / 2 ^ b / 2 ^ (b * k) % 2 ^ b * x ≡ w + e * x) power (subst (λ x. v + x % 2 ^ b * 2 ^ (b * suc k) ≡ w + e * 2 ^ (b * suc k)) field written) in
    let is = higher_written (2 ^ b) (2 ^ (b * k)) w v e (pow_pos b) high in
    ap (λ x. x ∷ entries b n (v / 2 ^ b)) is.0 ∙ ap (λ x. w % 2 ^ b ∷ x) (entries-written b n (w / 2 ^ b) (v / 2 ^ b) k e (omega arith) fits is.1)

pub table-written : (b n : ℕ) (ws : List ℕ) (at v k e : ℕ) → k < n → at < length ws → e < 2 ^ b → IsWritten b (slice_index ws at) v k e → table b n (slice_set ws at v) ≡ slice_set (table b n ws) (n * at + k) e
unfolding table
table-written b n [] at v k e h within fits written = absurd (omega arith)
table-written b n (w ∷ ws) zero v k e h within fits written =
    let at_k : n * 0 + k ≡ k = omega arith in
    let here : entries b n v ≡ slice_set (entries b n w) k e = entries-written b n w v k e h fits written in
    let len = length-entries b n w in
    ap (λ x. x ++ flat_map (entries b n) ws) here ∙ sym (set-append_left (entries b n w) (flat_map (entries b n) ws) k e (omega arith)) ∙ ap (λ i. slice_set (entries b n w ++ flat_map (entries b n) ws) i e) (sym at_k)
table-written b n (w ∷ ws) (suc at) v k e h within fits written =
    let len = length-entries b n w in
    let rest : flat_map (entries b n) (slice_set ws at v) ≡ slice_set (flat_map (entries b n) ws) (n * at + k) e = table-written b n ws at v k e h (omega arith) fits written in
    let past : n * suc at ≡ n + n * at = omega arith in
    let off : n * suc at + k - n ≡ n * at + k = omega arith in
    ap (λ x. entries b n w ++ x) rest ∙ ap (λ i. entries b n w ++ slice_set (flat_map (entries b n) ws) i e) (sym off)
    ∙ sym (set-append_right (entries b n w) (flat_map (entries b n) ws) n (n * suc at + k) e len (omega arith))

pub table_at : (b n : ℕ) (ws : List ℕ) (at k : ℕ) → k < n → at < length ws → slice_index (table b n ws) (n * at + k) ≡ slice_index (entries b n (slice_index ws at)) k
unfolding table
table_at b n [] at k h within = absurd (omega arith)
table_at b n (w ∷ ws) zero k h within =
    let at_k : n * 0 + k ≡ k = omega arith in
    let len = length-entries b n w in
    ap (slice_index (entries b n w ++ flat_map (entries b n) ws)) at_k ∙ get_or_append_left (entries b n w) (flat_map (entries b n) ws) 0 k (omega arith)
table_at b n (w ∷ ws) (suc at) k h within =
    let len = length-entries b n w in
    let past : n * suc at ≡ n + n * at = omega arith in
    let off : n * suc at + k ≡ length (entries b n w) + (n * at + k) = omega arith in
    ap (slice_index (entries b n w ++ flat_map (entries b n) ws)) off ∙ get_or-append-add (entries b n w) (flat_map (entries b n) ws) (n * at + k) 0 ∙ table_at b n ws at k h (omega arith)

-- an entry of the table that begins at a word
pub entry_read : (b n base index : ℕ) (ws : List ℕ) → 0 < n → base + index / n < length ws
    → slice_index (table b n (drop base ws)) index ≡ slice_index ws (base + index / n) / 2 ^ (b * (index % n)) % 2 ^ b
entry_read b n base index ws pos within =
    let split = div-add-mod' index n in
    let parts : n * (index / n) + index % n ≡ index = omega arith in
    let below = mod_below index n pos in
    let len = length-drop base ws in
    sym (ap (slice_index (table b n (drop base ws))) parts) ∙ table_at b n (drop base ws) (index / n) (index % n) below (omega arith)
    ∙ entry_at b n (slice_index (drop base ws) (index / n)) (index % n) below ∙ ap (λ w. w / 2 ^ (b * (index % n)) % 2 ^ b) (get_or-drop base ws (index / n) 0)

-- the table that begins at a word, where a word of it is written
pub entry_written : (b n base index : ℕ) (ws : List ℕ) (v e : ℕ) → 0 < n → base + index / n < length ws → e < 2 ^ b → IsWritten b (slice_index ws (base + index / n)) v (index % n) e
    → table b n (drop base (slice_set ws (base + index / n) v)) ≡ slice_set (table b n (drop base ws)) index e
entry_written b n base index ws v e pos within fits written =
    let split = div-add-mod' index n in
    let parts : n * (index / n) + index % n ≡ index = omega arith in
    let len = length-drop base ws in
    let word : slice_index (drop base ws) (index / n) ≡ slice_index ws (base + index / n) = get_or-drop base ws (index / n) 0 in
    ap (table b n) (drop-set-add base ws (index / n) v)
    ∙ table-written b n (drop base ws) (index / n) v (index % n) e (mod_below index n pos) (omega arith) fits (subst (λ w. IsWritten b w v (index % n) e) (sym word) written)
    ∙ ap (λ i. slice_set (table b n (drop base ws)) i e) parts

-- a word that is written alone leaves the others
pub others_stay : (ws : List ℕ) (at v : ℕ) → at < length ws → OthersStay ws (slice_set ws at v) at
others_stay ws at v h = ap (slice_set ws at) (sym (get_or-set_same ws at v 0 h))

-- an entry of a word that was read
pub read_at : (b n base index : ℕ) (ws : List ℕ) (at w s : ℕ) → 0 < n → base + index / n < length ws → at ≡ base + index / n → w ≡ slice_index ws at → s ≡ b * (index % n)
    → w / 2 ^ s % 2 ^ b ≡ slice_index (table b n (drop base ws)) index
read_at b n base index ws at w s pos within at_is w_is s_is =
    ap (λ x. w / 2 ^ x % 2 ^ b) s_is ∙ ap (λ x. x / 2 ^ (b * (index % n)) % 2 ^ b) (w_is ∙ ap (slice_index ws) at_is) ∙ sym (entry_read b n base index ws pos within)

-- the table that begins at a word, where a word that was read is written back with one entry changed
pub written_at : (b n base index : ℕ) (ws vs : List ℕ) (at w v e : ℕ) → 0 < n → base + index / n < length ws → e < 2 ^ b → at ≡ base + index / n → w ≡ slice_index ws at → vs ≡ slice_set ws at v
    → IsWritten b w v (index % n) e → table b n (drop base vs) ≡ slice_set (table b n (drop base ws)) index e
written_at b n base index ws vs at w v e pos within fits at_is w_is vs_is written =
    let word : w ≡ slice_index ws (base + index / n) = w_is ∙ ap (slice_index ws) at_is in
    ap (λ x. table b n (drop base x)) (vs_is ∙ ap (λ x. slice_set ws x v) at_is)
    ∙ entry_written b n base index ws v e pos within fits (subst (λ x. IsWritten b x v (index % n) e) word written)

-- the table of the first words is the front of the table
pub table-take : (b n m : ℕ) (ws : List ℕ) → table b n (take m ws) ≡ take (n * m) (table b n ws)
unfolding table
table-take b n m [] = ap (flat_map (entries b n)) (take-nil m) ∙ sym (take-nil (n * m))
table-take b n zero (w ∷ ws) = let z : n * 0 ≡ 0 = omega arith in ap (λ k. take k (entries b n w ++ flat_map (entries b n) ws)) (sym z)
table-take b n (suc m) (w ∷ ws) =
    let len = length-entries b n w in
    let past : n * suc m ≡ length (entries b n w) + n * m = omega arith in
    ap (λ x. entries b n w ++ x) (table-take b n m ws) ∙ sym (take-append-add (entries b n w) (flat_map (entries b n) ws) (n * m)) ∙ ap (λ k. take k (entries b n w ++ flat_map (entries b n) ws)) (sym past)

word_below : (b n w k : ℕ) → slice_index (entries b n w) k < 2 ^ b
unfolding entries
word_below b zero w k = pow_pos b
word_below b (suc n) w zero = mod_below w (2 ^ b) (pow_pos b)
word_below b (suc n) w (suc k) = word_below b n (w / 2 ^ b) k

joined_below : (m : ℕ) (xs ys : List ℕ) → ((i : ℕ) → slice_index xs i < m) → ((i : ℕ) → slice_index ys i < m) → (k : ℕ) → slice_index (xs ++ ys) k < m
joined_below m [] ys left right k = right k
joined_below m (x ∷ xs) ys left right zero = left zero
joined_below m (x ∷ xs) ys left right (suc k) = joined_below m xs ys (λ i. left (suc i)) right k

-- an entry has its bits and no more
pub entry_below : (b n k : ℕ) (ws : List ℕ) → slice_index (table b n ws) k < 2 ^ b
unfolding table
entry_below b n k [] = pow_pos b
entry_below b n k (w ∷ ws) = joined_below (2 ^ b) (entries b n w) (flat_map (entries b n) ws) (word_below b n w) (λ i. entry_below b n i ws) k
